-- Rounding to a zloty.
use Rattle.std.proofs.Common.{◌≡◌, zero, suc, ◌≤◌, ℤ, pos, negsuc, ◌+ℤ◌, ◌*ℤ◌, neg_ℤ, ◌≤ℤ◌, ◌<ℤ◌, refl, arith}
use Rattle.std.proofs.lemmas.Int.{ints}
use Rattle.ledger.specs.Sums.{floor_of, ceiling_of, above_zero, below_zero}

pub floor_low : (z : ℤ) → (floor_of z 5000000 *ℤ pos 5000000) ≤ℤ z
floor_low (pos a) = omega (arith, ints)
floor_low (negsuc a) = omega (arith, ints)

pub floor_high : (z : ℤ) → z <ℤ (floor_of z 5000000 *ℤ pos 5000000 +ℤ pos 5000000)
floor_high (pos a) = omega (arith, ints)
floor_high (negsuc a) = omega (arith, ints)

floor_mono : (a b : ℤ) → a ≤ℤ b → floor_of a 5000000 ≤ℤ floor_of b 5000000
floor_mono a b h = omega (arith, ints, floor_low a, floor_high b)

below_mono : (a b : ℤ) → a ≤ℤ b → below_zero b ≤ below_zero a
below_mono (pos a) (pos b) h = omega arith
below_mono (pos a) (negsuc b) h = omega (arith, ints)
below_mono (negsuc a) (pos b) h = omega arith
below_mono (negsuc a) (negsuc b) h = omega (arith, ints)

below_is : (z : ℤ) → below_zero z ≡ above_zero (neg_ℤ z)
below_is (pos zero) = refl
below_is (pos (suc a)) = refl
below_is (negsuc a) = refl

-- what is short of zero, rounded down, is what is owed, rounded up; and it grows with what is owed
pub short_grows : (u y : ℤ) → neg_ℤ y ≤ℤ u → below_zero (floor_of u 5000000) ≤ above_zero (ceiling_of y 5000000)
short_grows u y h = omega (arith, below_is (floor_of (neg_ℤ y) 5000000), below_mono (floor_of (neg_ℤ y) 5000000) (floor_of u 5000000) (floor_mono (neg_ℤ y) u h))
