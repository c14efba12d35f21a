-- The series of a ledger by their codes, as bookings change them.
use Rattle.std.proofs.Common.{◌≡◌, ℕ, zero, suc, Bool, true, false, cond, ◌||◌, eqb, List, [], ◌∷◌, ◌++◌, map, get_or, set, is_some, Some, None, Option, sym, refl, ap, ◌∙◌, arith}
use Rattle.std.proofs.lemmas.Bool.{eqb-true}
use Rattle.std.proofs.lemmas.Bool.Decides.{nat_tests}
use Rattle.sharing.specs.Lists.{among, repeated}
use Rattle.ledger.specs.Checks.{or_else}
use Rattle.ledger.specs.Ledger.{Row, row_at, at_code}

pub row_at_push : (ss : List Row) (x : Row) (c : ℕ) → row_at (ss ++ (x ∷ [])) c ≡ or_else (row_at ss c) (cond (eqb x.code c) (Some x) None)
row_at_push [] x c = refl
row_at_push (s ∷ ss) x c = by (eqb s.code c) (row_at_push ss x c)
  where
    by : (q : Bool) → row_at (ss ++ (x ∷ [])) c ≡ or_else (row_at ss c) (cond (eqb x.code c) (Some x) None)
        → cond q (Some s) (row_at (ss ++ (x ∷ [])) c) ≡ or_else (cond q (Some s) (row_at ss c)) (cond (eqb x.code c) (Some x) None)
    by true e = refl
    by false e = e

abbrev pub mapped : (Row → Row) → Option Row → Option Row
mapped f None = None
mapped f (Some s) = Some (f s)

-- a change that keeps the code
module _ (f : Row → Row) (keeps : (s : Row) → (f s).code ≡ s.code) (k : ℕ) where
  -- is seen at that code
  pub at_same : (ss : List Row) → row_at (at_code k f ss) k ≡ mapped f (row_at ss k)
  at_same [] = refl
  at_same (s ∷ ss) = by (eqb s.code k) refl (at_same ss)
    where
      by : (q : Bool) → eqb s.code k ≡ q → row_at (at_code k f ss) k ≡ mapped f (row_at ss k)
          → row_at (cond q (f s ∷ ss) (s ∷ at_code k f ss)) k ≡ mapped f (cond q (Some s) (row_at ss k))
      by true e g = ap (λ (q : Bool). cond q (Some (f s)) (row_at ss k)) (ap (λ (n : ℕ). eqb n k) (keeps s) ∙ e)
      by false e g = ap (λ (q : Bool). cond q (Some s) (row_at (at_code k f ss) k)) e ∙ g

  -- and nowhere else,
  pub at_other : (c : ℕ) (ss : List Row) → eqb k c ≡ false → row_at (at_code k f ss) c ≡ row_at ss c
  at_other c [] ne = refl
  at_other c (s ∷ ss) ne = by (eqb s.code k) refl (at_other c ss ne)
    where
      by : (q : Bool) → eqb s.code k ≡ q → row_at (at_code k f ss) c ≡ row_at ss c
          → row_at (cond q (f s ∷ ss) (s ∷ at_code k f ss)) c ≡ cond (eqb s.code c) (Some s) (row_at ss c)
      by true e g =
          let same : eqb s.code c ≡ false = ap (λ (n : ℕ). eqb n c) (eqb-true s.code k e) ∙ ne in
          let other : eqb (f s).code c ≡ false = ap (λ (n : ℕ). eqb n c) (keeps s) ∙ same in
          ap (λ (q : Bool). cond q (Some (f s)) (row_at ss c)) other ∙ sym (ap (λ (q : Bool). cond q (Some s) (row_at ss c)) same)
      by false e g = ap (λ (o : Option Row). cond (eqb s.code c) (Some s) o) g

  -- and leaves the codes in their order
  pub codes_kept : (ss : List Row) → map (λ s. s.code) (at_code k f ss) ≡ map (λ s. s.code) ss
  codes_kept [] = refl
  codes_kept (s ∷ ss) = by (eqb s.code k) (codes_kept ss)
    where
      by : (q : Bool) → map (λ s. s.code) (at_code k f ss) ≡ map (λ s. s.code) ss
          → map (λ s. s.code) (cond q (f s ∷ ss) (s ∷ at_code k f ss)) ≡ s.code ∷ map (λ s. s.code) ss
      by true g = ap (λ (n : ℕ). n ∷ map (λ s. s.code) ss) (keeps s)
      by false g = ap (λ ns. s.code ∷ ns) g

-- a code is among those of the series just where it is listed
pub among_codes : (ss : List Row) (c : ℕ) → among c (map (λ s. s.code) ss) ≡ is_some (row_at ss c)
among_codes [] c = refl
among_codes (s ∷ ss) c = by (eqb s.code c) (among_codes ss c)
  where
    by : (q : Bool) → among c (map (λ s. s.code) ss) ≡ is_some (row_at ss c) → (q || among c (map (λ s. s.code) ss)) ≡ is_some (cond q (Some s) (row_at ss c))
    by true g = refl
    by false g = g

among_push : (xs : List ℕ) (x c : ℕ) → among x xs ≡ false → eqb c x ≡ false → among x (xs ++ (c ∷ [])) ≡ false
among_push [] x c h e = grind (arith, nat_tests)
among_push (y ∷ xs) x c h e = let ih : among x xs ≡ false → among x (xs ++ (c ∷ [])) ≡ false = λ g. among_push xs x c g e in grind (arith, nat_tests)

pub apart_push : (xs : List ℕ) (c : ℕ) → repeated xs ≡ false → among c xs ≡ false → repeated (xs ++ (c ∷ [])) ≡ false
apart_push [] c h e = refl
apart_push (x ∷ xs) c h e =
    let ih : repeated xs ≡ false → among c xs ≡ false → repeated (xs ++ (c ∷ [])) ≡ false = apart_push xs c in
    let one : among x xs ≡ false → eqb c x ≡ false → among x (xs ++ (c ∷ [])) ≡ false = among_push xs x c in
    grind (arith, nat_tests)

-- what stands at a place after a write is what was written, or what stood there
pub set_either : {X : Type 0} (P : X → Type 0) (xs : List X) (i k : ℕ) (a d : X) → P a → P (get_or xs k d) → P (get_or (set xs i a) k d)
set_either P [] i k a d new old = old
set_either P (x ∷ xs) zero zero a d new old = new
set_either P (x ∷ xs) zero (suc k) a d new old = old
set_either P (x ∷ xs) (suc i) zero a d new old = old
set_either P (x ∷ xs) (suc i) (suc k) a d new old = set_either P xs i k a d new old
