-- The shares one after another, as a loop over the claims comes to them.
use Rattle.std.proofs.Common.{◌≡◌, ℕ, zero, suc, ◌+◌, ◌-◌, ◌≤◌, List, [], ◌∷◌, ◌++◌, map, length, get_or, take, drop, sym, refl, ap, ◌∙◌, arith}
use Rattle.std.specs.List.{range_with_len}
use Rattle.std.proofs.lemmas.List.{drop_more, drop_all, at_drop_all, take_all, append-nil}
use Rattle.sharing.specs.Lists.{total, made}
use Rattle.sharing.specs.Sharing.{portion, share, shares, each_given}
use Rattle.sharing.proofs.Made.{total_more}

-- the shares of the claims that come after claims of weight c, of a whole w
abbrev pub shares_after : ℕ → ℕ → ℕ → List ℕ → List ℕ
shares_after a w c [] = []
shares_after a w c (x ∷ xs) = (portion a w (c + x) - portion a w c) ∷ shares_after a w (c + x) xs

shares_from : (ws : List ℕ) (a i n : ℕ) → i + n ≡ length ws
    → map (share ws a) (range_with_len i n) ≡ shares_after a (total ws) (total (take i ws)) (drop i ws)
shares_from ws a i zero e = sym (ap (shares_after a (total ws) (total (take i ws))) (drop_all i ws (omega arith)))
shares_from ws a i (suc n) e =
    let w = total ws in let c = total (take i ws) in let x = get_or ws i 0 in
    let t = total_more ws i (omega arith) in
    ap (λ ys. share ws a i ∷ ys) (shares_from ws a (i + 1) n (omega arith))
    ∙ ap (λ d. (portion a w d - portion a w c) ∷ shares_after a w d (drop (i + 1) ws)) t
    ∙ sym (ap (shares_after a w c) (drop_more ws i 0 (omega arith)))

pub shares_are : (ws : List ℕ) (a : ℕ) → shares ws a ≡ shares_after a (total ws) 0 ws
unfolding made
shares_are ws a = shares_from ws a 0 (length ws) (omega arith)

pub length_shares_after : (a w c : ℕ) (xs : List ℕ) → length (shares_after a w c xs) ≡ length xs
length_shares_after a w c [] = refl
length_shares_after a w c (x ∷ xs) = let ih = length_shares_after a w (c + x) xs in omega arith

pub length_shares : (ws : List ℕ) (a : ℕ) → length (shares ws a) ≡ length ws
length_shares ws a = ap length (shares_are ws a) ∙ length_shares_after a (total ws) 0 ws

-- what the claims tell after each was given its share
module _ {C : Type 0} (give : C → ℕ → C) (tell : C → ℕ) where
  told_same : ((c : C) (n : ℕ) → tell (give c n) ≡ tell c) → (cs : List C) (ss : List ℕ) → map tell (each_given give cs ss) ≡ map tell cs
  told_same keeps [] ss = refl
  told_same keeps (c ∷ cs) [] = refl
  told_same keeps (c ∷ cs) (s ∷ ss) = let h = keeps c s in let t = told_same keeps cs ss in cc

  told_shares : ((c : C) (n : ℕ) → tell (give c n) ≡ n) → (cs : List C) (ss : List ℕ) → length cs ≡ length ss → map tell (each_given give cs ss) ≡ ss
  told_shares sets [] [] n = refl
  told_shares sets [] (s ∷ ss) n = absurd (omega arith)
  told_shares sets (c ∷ cs) [] n = absurd (omega arith)
  told_shares sets (c ∷ cs) (s ∷ ss) n = let h = sets c s in let t = told_shares sets cs ss (omega arith) in cc

  pub same_told : ((c : C) (n : ℕ) → tell (give c n) ≡ tell c) → (cs : List C) (ss : List ℕ) (ds : List C) → ds ≡ each_given give cs ss → map tell ds ≡ map tell cs
  same_told keeps cs ss ds e = ap (map tell) e ∙ told_same keeps cs ss

  pub shares_told : ((c : C) (n : ℕ) → tell (give c n) ≡ n) → (cs : List C) (ws : List ℕ) (a : ℕ) (ds : List C) → length cs ≡ length ws → ds ≡ each_given give cs (shares ws a) → map tell ds ≡ shares ws a
  shares_told sets cs ws a ds n e = ap (map tell) e ∙ told_shares sets cs (shares ws a) (n ∙ sym (length_shares ws a))

-- a loop over the claims that has come to their end: each has its share
pub all_given : {C : Type 0} (give : C → ℕ → C) (f : C → ℕ) (a w sum i : ℕ) (xs ys : List C) → w ≡ total (map f xs) → length ys ≤ i
    → take i ys ++ each_given give (drop i ys) (shares_after a w sum (map f (drop i ys))) ≡ each_given give xs (shares_after a w 0 (map f xs))
    → ys ≡ each_given give xs (shares (map f xs) a)
all_given give f a w sum i xs ys whole past done =
    let front = take_all i ys past in
    let rest = at_drop_all (λ zs. each_given give zs (shares_after a w sum (map f zs))) ys i past in
    let nil = append-nil ys in
    let are = ap (λ v. shares_after a v 0 (map f xs)) whole ∙ sym (shares_are (map f xs) a) in
    cc
