-- Sums of whole numbers that may be below zero, and quotients rounded down and up.
use Rattle.std.specs.Prelude.{ℕ, suc, ◌/◌, List, [], ◌∷◌, ℤ, pos, negsuc, ◌+ℤ◌, neg_ℤ}

abbrev pub total_ℤ : List ℤ → ℤ
total_ℤ [] = pos 0
total_ℤ (x ∷ xs) = x +ℤ total_ℤ xs

-- the quotient rounded down, towards minus infinity
abbrev pub floor_of : ℤ → ℕ → ℤ
floor_of (pos a) d = pos (a / d)
floor_of (negsuc a) d = negsuc (a / d)

-- the quotient rounded up
abbrev pub ceiling_of : ℤ → ℕ → ℤ
ceiling_of z d = neg_ℤ (floor_of (neg_ℤ z) d)

-- how far a number is above zero, and how far below
abbrev pub above_zero : ℤ → ℕ
above_zero (pos a) = a
above_zero (negsuc a) = 0

abbrev pub below_zero : ℤ → ℕ
below_zero (pos a) = 0
below_zero (negsuc a) = suc a
