-- The laws of the shares.
use Rattle.std.proofs.Common.{◌≡◌, ℕ, zero, suc, ◌+◌, ◌*◌, ◌<◌, ◌≤◌, true, false, List, [], ◌∷◌, length, get_or, take, Ok, sym, ap, ◌∙◌, subst, ⊎_elim, add-zero, add_assoc, mul-zero, zero-add, arith}
use Rattle.std.proofs.lemmas.List.{take_all}
use Rattle.std.proofs.lemmas.Bool.{cases_lt, cases_Bool, cond-true, cond-false}
use Rattle.std.proofs.lemmas.Bool.Decides.{nat_tests}
use Rattle.sharing.specs.Lists.{total}
use Rattle.sharing.specs.Sharing.{portion, shares, unshareable, weighed, shared}
use Rattle.sharing.specs.Theorems.{NothingLost, NoneBelowZero, Capped, FairShares}
use Rattle.sharing.proofs.Made.{total_more}
use Rattle.sharing.proofs.Portions.{portion_none, portion_zero, portion_mono, portion_whole, portion_capped}
use Rattle.sharing.proofs.Shares.{shares_after, shares_are}

-- the shares after weight c are what the portion grows by
telescopes : (a w c : ℕ) (xs : List ℕ) → total (shares_after a w c xs) + portion a w c ≡ portion a w (c + total xs)
telescopes a w c [] = let e = ap (portion a w) (add-zero c) in omega arith
telescopes a w c (x ∷ xs) =
    let ih = telescopes a w (c + x) xs in
    let e = ap (portion a w) (add_assoc c x (total xs)) in
    let m = portion_mono a w c (c + x) (omega arith) in
    omega arith

pub nothing_lost : NothingLost
nothing_lost ws a h =
    let w = total ws in
    let t = telescopes a w 0 ws in
    let s = ap total (shares_are ws a) in
    let z = portion_zero a w in
    let e = ap (portion a w) (zero-add w) in
    ⊎_elim
    (λ (some : 0 < w). let p = portion_whole a w some in omega arith)
    (λ (low : w ≤ 0).
    let none : a ≡ 0 = ⊎_elim (λ (much : 0 < a). absurd (let b = h much in omega arith)) (λ (l : a ≤ 0). omega arith) (cases_lt 0 a) in
    let wz : w ≡ 0 = omega arith in
    let p = ap (λ n. portion a n w) wz ∙ portion_none a w in
    omega arith)
    (cases_lt 0 w)

grows : (xs : List ℕ) (i : ℕ) → total (take i xs) ≤ total (take (i + 1) xs)
grows xs i = ⊎_elim
    (λ (h : i < length xs). let e = total_more xs i h in omega arith)
    (λ (h : length xs ≤ i). let p = ap total (take_all i xs h) in let q = ap total (take_all (i + 1) xs (omega arith)) in omega arith)
    (cases_lt i (length xs))

pub none_below_zero : NoneBelowZero
none_below_zero ws a i = portion_mono a (total ws) (total (take i ws)) (total (take (i + 1) ws)) (grows ws i)

each_capped : (a w k c : ℕ) → a ≤ k * w → (xs : List ℕ) (i : ℕ) → get_or (shares_after a w c xs) i 0 ≤ k * get_or xs i 0
each_capped a w k c h [] i = omega (arith, mul-zero k)
each_capped a w k c h (x ∷ xs) zero = portion_capped a w k c x h
each_capped a w k c h (x ∷ xs) (suc i) = each_capped a w k (c + x) h xs i

pub capped : Capped
capped ws a k h i = subst (λ ss. get_or ss i 0 ≤ k * get_or ws i 0) (sym (shares_are ws a)) (each_capped a (total ws) k 0 h ws i)

pub fair_shares : (ws : List ℕ) (a : ℕ) (parts : List ℕ) → (0 < a → 0 < total ws) → parts ≡ shares ws a → FairShares ws a parts
fair_shares ws a parts h e = record {
  are = e;
  sum = ap total e ∙ nothing_lost ws a h;
  capped = λ k le i. subst (λ ss. get_or ss i 0 ≤ k * get_or ws i 0) (sym e) (capped ws a k le i);
}

-- weights that an amount can be shared by
pub weighed_ok : (owners ws : List ℕ) (a w : ℕ) → Ok w ≡ weighed owners ws a → (Ok tt ≡ shared owners ws a) × (0 < a → 0 < total ws)
weighed_ok owners ws a w said = ⊎_elim
    (λ (e : unshareable owners ws a ≡ true). absurd (let b = said ∙ cond-true (unshareable owners ws a) _ _ e in let z : ◌≡◌ {A = ℕ} 0 1 = cc in omega arith))
    (λ (e : unshareable owners ws a ≡ false). (sym (cond-false (unshareable owners ws a) _ _ e), λ some. grind (arith, nat_tests)))
    (cases_Bool (unshareable owners ws a))
