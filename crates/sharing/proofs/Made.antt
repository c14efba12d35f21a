-- Lists given place by place, and their sums.
use Rattle.std.proofs.Common.{◌≡◌, ℕ, zero, suc, ◌+◌, ◌-◌, ◌<◌, ◌≤◌, List, [], ◌∷◌, ◌++◌, map, length, get_or, take, sym, refl, ap, subst, ⊎_elim, ◌∙◌, add-one, arith}
use Rattle.std.proofs.lemmas.List.FromFn.{length-map-range_with_len, get_or-map-range_with_len, map-range_with_len_more, fill_by_all}
use Rattle.std.proofs.lemmas.List.{take_more}
use Rattle.std.specs.Array.{IsFromFnResult, IsFromFnResultFrom}
use Rattle.std.specs.Fn.{Called}
use Rattle.std.specs.List.{sum, sum_by}
use Rattle.std.proofs.lemmas.List.Recursion.{is_sum_by}
use Rattle.std.proofs.lemmas.Bool.{cases_lt}
use denote.Param.Members.{Mut}
use Rattle.sharing.specs.Lists.{total, made}

pub total_append : (xs ys : List ℕ) → total (xs ++ ys) ≡ total xs + total ys
total_append [] ys = omega arith
total_append (x ∷ xs) ys = let ih = total_append xs ys in omega arith

pub total_more : (xs : List ℕ) (i : ℕ) → i < length xs → total (take (i + 1) xs) ≡ total (take i xs) + get_or xs i 0
total_more xs i h = let e = ap total (take_more xs i 0 h) ∙ total_append (take i xs) (get_or xs i 0 ∷ []) in omega arith

-- a sum over a list, as the library has it
pub total_by : {X : Type 0} (f : X → ℕ) (xs : List X) → sum_by f xs ≡ total (map f xs)
total_by f xs = sym (is_sum_by (λ ys. total (map f ys)) f refl (λ y ys. refl) xs)

pub total_is : (xs : List ℕ) → sum xs ≡ total xs
total_is xs = sym (is_sum_by total (λ x. x) refl (λ _ _. refl) xs)

module _ {X : Type 0} (f : ℕ → X) where
  pub length_made : (n : ℕ) → length (made n f) ≡ n
  unfolding made
  length_made n = length-map-range_with_len f 0 n

  pub get_or-made : (n i : ℕ) (d : X) → i < n → get_or (made n f) i d ≡ f i
  unfolding made
  get_or-made n i d h = get_or-map-range_with_len f 0 n i i d h (omega arith)

  pub made_from : (xs : List X) (n : ℕ) (d : X) → length xs ≡ n → ((k : ℕ) → k < n → get_or xs k d ≡ f k) → xs ≡ made n f
  unfolding made
  made_from xs n d e at = fill_by_all f xs n d e at

-- calls of a closure at the places below m gave f of the place each, and kept what they capture: the array is made place by place
module _ {C X : Type 0} (f : ℕ → X) (calls : Mut C (ℕ × Unit {0}) X) (c : C) (m : ℕ) (gives : (i : ℕ) (y : X) (d : C) → i < m → Called calls c (i, tt) y d → (d ≡ c) × (y ≡ f i)) where
  each_called : (ys : List X) (i n k : ℕ) (e : X) → i + n ≡ m → IsFromFnResultFrom calls c ys i n → i ≤ k → k < m → get_or ys k e ≡ f k
  each_called ys i zero k e all run low high = absurd (omega arith)
  each_called ys i (suc n) k e all run low high =
      let g = gives i run.1 run.0 (omega arith) run.3 in
      ⊎_elim
      (λ (here : k < i + 1). let same : k ≡ i = omega arith in ap (λ j. get_or ys j e) same ∙ run.2.1 e ∙ g.1 ∙ ap f (sym same))
      (λ (later : i + 1 ≤ k). each_called ys (i + 1) n k e (omega arith) (subst (λ d. IsFromFnResultFrom calls d ys (i + 1) n) g.0 run.4) later high)
      (cases_lt k (i + 1))

pub array_made : {C X : Type 0} {calls : Mut C (ℕ × Unit {0}) X} {c : C} (f : ℕ → X) (m : ℕ) (ys : List X) → X → IsFromFnResult calls c ys m
    → ((i : ℕ) (y : X) (d : C) → i < m → Called calls c (i, tt) y d → (d ≡ c) × (y ≡ f i)) → ys ≡ made m f
array_made {calls = calls} {c = c} f m ys e run gives =
    made_from f ys m e run.long (λ k h. each_called f calls c m gives ys 0 m k e (omega arith) run.each (omega arith) h)

-- a list that f makes of another, place by place
pub each_mapped : {X Y : Type 0} (f : X → Y) (xs : List X) (ys : List Y) → length ys ≡ length xs → ((k : ℕ) (x : X) (y : Y) → k < length xs → get_or ys k y ≡ f (get_or xs k x)) → ys ≡ map f xs
each_mapped f [] [] long told = refl
each_mapped f [] (y ∷ ys) long told = absurd (omega arith)
each_mapped f (x ∷ xs) [] long told = absurd (omega arith)
each_mapped f (x ∷ xs) (y ∷ ys) long told =
    let here = told 0 x y (omega arith) in
    let rest = each_mapped f xs ys (omega arith) (λ k z w h. told (suc k) z w (omega arith)) in cc

pub total_made_more : (f : ℕ → ℕ) (n : ℕ) → total (made (n + 1) f) ≡ total (made n f) + f n
unfolding made
total_made_more f n = let e = ap total (map-range_with_len_more f 0 n n (omega arith)) ∙ total_append (made n f) (f n ∷ []) in omega arith

-- the sum of what is left at each place, where b is taken from a
pub total_left : (a b : ℕ → ℕ) → ((k : ℕ) → b k ≤ a k) → (n : ℕ) → total (made n (λ k. a k - b k)) + total (made n b) ≡ total (made n a)
unfolding made
total_left a b within zero = refl
total_left a b within (suc n) =
    let ih = total_left a b within n in
    let p = rw add-one at (total_made_more (λ k. a k - b k) n) in
    let q = rw add-one at (total_made_more b n) in
    let r = rw add-one at (total_made_more a n) in
    let w = within n in
    omega arith
