-- Lists given place by place.
use Rattle.std.proofs.Common.{◌≡◌, ℕ, ◌+◌, ◌-◌, ◌<◌, ◌≤◌, List, [], ◌∷◌, ◌++◌, length, get_or, take, drop, set, sym, refl, ap, ◌∙◌, append_assoc, ⊎_elim, arith}
use Rattle.std.proofs.lemmas.List.FromFn.{take-map-range_with_len, map-range_with_len_more}
use Rattle.std.proofs.lemmas.List.{drop_more, set_at, length-append, length-drop, get_or_append_left, get_or-append_right, get_or-drop}
use Rattle.std.proofs.lemmas.Bool.{cases_lt}
use Rattle.sharing.specs.Lists.{made}
use Rattle.sharing.proofs.Made.{length_made, get_or-made, made_from}
use Rattle.ledger.specs.Margins.{over_lines}

-- the first ones of those made
pub take_made : {X : Type 0} (f : ℕ → X) (n k : ℕ) → k ≤ n → take k (made n f) ≡ made k f
unfolding made
take_made f n k h = take-map-range_with_len f 0 n k h

-- what is made by the same rule at each place is the same
pub made_same : {X : Type 0} (n : ℕ) (f g : ℕ → X) → X → ((k : ℕ) → k < n → f k ≡ g k) → made n f ≡ made n g
made_same n f g d e = made_from g (made n f) n d (length_made f n) (λ k h. get_or-made f n k d h ∙ e k h)

-- the first ones written over, the others as they were
module _ {X : Type 0} (f : ℕ → X) where
  made_more : (n : ℕ) → made (n + 1) f ≡ made n f ++ f n ∷ []
  unfolding made
  made_more n = map-range_with_len_more f 0 n n (omega arith)

  pub over_none : (old : List X) → old ≡ over_lines 0 f old
  unfolding made
  over_none old = refl

  pub over_more : (old cur : List X) (i : ℕ) (y : X) → i < length old → cur ≡ over_lines i f old → y ≡ f i → set cur i y ≡ over_lines (i + 1) f old
  over_more old cur i y l done same =
      ap (λ xs. set xs i y) (done ∙ ap (λ xs. made i f ++ xs) (drop_more old i y l))
      ∙ set_at (made i f) (get_or old i y) (drop (i + 1) old) y i (length_made f i)
      ∙ ap (λ z. made i f ++ z ∷ drop (i + 1) old) same
      ∙ sym (append_assoc (made i f) (f i ∷ []) (drop (i + 1) old))
      ∙ ap (λ xs. xs ++ drop (i + 1) old) (sym (made_more i))

  pub over_next : (old cur : List X) (i : ℕ) (d : X) → cur ≡ over_lines i f old → get_or cur i d ≡ get_or old i d
  over_next old cur i d done =
      let back : i + (i - i) ≡ i = omega arith in
      ap (λ xs. get_or xs i d) done ∙ get_or-append_right (made i f) (drop i old) i i d (length_made f i) (omega arith) ∙ get_or-drop i old (i - i) d ∙ ap (λ j. get_or old j d) back

  -- written over a list whose other places have what f has there
  pub over_rest : (n m : ℕ) (old : List X) (d : X) → n ≤ m → length old ≡ m → ((k : ℕ) → n ≤ k → k < m → get_or old k d ≡ f k) → over_lines n f old ≡ made m f
  over_rest n m old d h long rest =
      made_from f (over_lines n f old) m d
      (omega (arith, length-append (made n f) (drop n old), length_made f n, length-drop n old))
      (λ k l. ⊎_elim
      (λ (low : k < n). get_or_append_left (made n f) (drop n old) d k (omega (arith, length_made f n)) ∙ get_or-made f n k d low)
      (λ (high : n ≤ k).
      let back : n + (k - n) ≡ k = omega arith in
      get_or-append_right (made n f) (drop n old) n k d (length_made f n) high ∙ get_or-drop n old (k - n) d ∙ ap (λ i. get_or old i d) back ∙ rest k high l)
      (cases_lt k n))
