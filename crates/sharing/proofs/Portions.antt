-- A portion is c × amount / w; it does not fall as c grows, and stays within the amount.
use Rattle.std.proofs.Common.{◌≡◌, ℕ, ◌+◌, ◌-◌, ◌*◌, ◌/◌, ◌%◌, ◌<◌, ◌≤◌, cond, eqb, sym, refl, ap, ◌∙◌, ⊎_elim, mul-le-mul_right, mul_assoc, mul_comm, add-mul, mul-le-mul_left, mul-zero, div-add-mod', zero-mul, mul-add, div-mul-le_self, arith}
use native.Mathlib.Nat.{div-zero, zero-div, mul-add-div_right, add-mul-div_right, mul-div_right}
use Rattle.std.proofs.lemmas.Nat.{le-div}
use Rattle.std.proofs.lemmas.Bool.{cases_lt, cond_both, eqb-true}
use Rattle.sharing.specs.Sharing.{portion}

pub portion_is : (a w c : ℕ) → 0 < w → portion a w c ≡ c * a / w
portion_is a w c some =
    let e : c * a ≡ c * (a / w) * w + c * (a % w)
    = ap (λ n. c * n) (sym (div-add-mod' a w)) ∙ mul-add c (a / w * w) (a % w) ∙ ap (λ n. n + c * (a % w)) (sym (mul_assoc c (a / w) w)) in
    sym (ap (λ n. n / w) e ∙ mul-add-div_right some (c * (a / w)) (c * (a % w)))

pub portion_none : (a c : ℕ) → portion a 0 c ≡ 0
portion_none a c = let p = ap (λ n. c * n) (div-zero a) ∙ mul-zero c in let q = div-zero (c * (a % 0)) in omega arith

-- what weighs nothing has nothing
pub portion_zero : (a w : ℕ) → portion a w 0 ≡ 0
portion_zero a w = let p = zero-mul (a / w) in let q = ap (λ n. n / w) (zero-mul (a % w)) ∙ zero-div w in omega arith

-- the portion of the first claims, plainly nothing where they weigh nothing
abbrev pub so_far : ℕ → ℕ → ℕ → ℕ
so_far a w c = cond (eqb c 0) 0 (portion a w c)

pub so_far_is : (a w c : ℕ) → so_far a w c ≡ portion a w c
so_far_is a w c = cond_both (eqb c 0) 0 (portion a w c) (λ n. n ≡ portion a w c) (λ e. sym (ap (portion a w) (eqb-true c 0 e) ∙ portion_zero a w)) (λ e. refl)

div_mono : (k x y : ℕ) → 0 < k → x ≤ y → x / k ≤ y / k
div_mono k x y some le = le-div (x / k) y k some (omega (arith, div-mul-le_self x k))

-- where there is no weight, every portion is 0
no_weight : (a w c : ℕ) → w ≤ 0 → portion a w c ≡ 0
no_weight a w c low = let z : w ≡ 0 = omega arith in ap (λ n. portion a n c) z ∙ portion_none a c

pub portion_mono : (a w c d : ℕ) → c ≤ d → portion a w c ≤ portion a w d
portion_mono a w c d le = ⊎_elim
    (λ (some : 0 < w).
    let p = portion_is a w c some in let q = portion_is a w d some in
    let m = div_mono w (c * a) (d * a) some (mul-le-mul_right a le) in omega arith)
    (λ (low : w ≤ 0). let p = no_weight a w c low in let q = no_weight a w d low in omega arith)
    (cases_lt 0 w)

-- one more claim has at most k for each unit of its weight, if the whole has
pub portion_capped : (a w k c d : ℕ) → a ≤ k * w → portion a w (c + d) - portion a w c ≤ k * d
portion_capped a w k c d h = ⊎_elim
    (λ (some : 0 < w).
    let p = portion_is a w c some in let q = portion_is a w (c + d) some in
    let s = add-mul c d a in
    let da : d * a ≤ k * d * w = let m = mul-le-mul_left d h in let r = mul_assoc d k w in let t = ap (λ n. n * w) (mul_comm d k) in omega arith in
    let e = div_mono w ((c + d) * a) (c * a + k * d * w) some (omega arith) in
    let f = add-mul-div_right (c * a) (k * d) some in
    omega arith)
    (λ (low : w ≤ 0). let q = no_weight a w (c + d) low in omega arith)
    (cases_lt 0 w)

pub portion_whole : (a w : ℕ) → 0 < w → portion a w w ≡ a
portion_whole a w some = portion_is a w w some ∙ mul-div_right a some

-- what is multiplied and added on the way fits: the product with the quotient, and the portion, are within the amount
pub quotient_fits : (a w c : ℕ) → c ≤ w → c * (a / w) ≤ a
quotient_fits a w c le = let p = mul-le-mul_right (a / w) le in let q = div-mul-le_self a w in omega (arith, mul_comm (a / w) w)

pub portion_fits : (a w c : ℕ) → 0 < w → c ≤ w → portion a w c ≤ a
portion_fits a w c some le = let p = portion_whole a w some in let m = portion_mono a w c w le in omega arith
