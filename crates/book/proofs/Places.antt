-- The series of a code, by its place.
use Rattle.std.proofs.Common.{◌≡◌, ℕ, zero, suc, ◌+◌, ◌<◌, ◌≤◌, Bool, true, false, cond, eqb, List, [], ◌∷◌, ◌++◌, map, length, get_or, take, set, is_some, Some, None, Ok, Err, Option, Result, sym, refl, ap, ◌∙◌, subst, arith}
use Rattle.std.proofs.lemmas.List.{get_or-take, get_or-map, length-take-le, length-map, map-set, take-map, take_more_set}
use Rattle.std.specs.List.{position_from, position}
use Rattle.std.proofs.lemmas.Iterator.Adapters.{position_from-zero}
use Rattle.sharing.specs.declared.refusal.Refusal.{Refusal}
use Rattle.ledger.specs.declared.deal.Deal.{Deal}
use Rattle.ledger.specs.Ledger.{Row, Ledger, row_at, at_code}
use Rattle.ledger.specs.Bookings.{deals, dealt_row}
use Rattle.book.specs.declared.state.Series.{Series}
use Rattle.book.specs.declared.state.Book.{Book}
use Rattle.book.specs.Views.{row_from, rows_of, ledger_of}
use Rattle.book.specs.Found.{Stands, Found}
use Rattle.book.specs.Booked.{deal_left, booking_left}

-- where the row of a code stands
abbrev pub has_code : ℕ → Row → Bool
has_code code r = eqb r.code code

position_map : {X Y : Type 0} (p : Y → Bool) (f : X → Y) (n : ℕ) (xs : List X) → position_from p n (map f xs) ≡ position_from (λ x. p (f x)) n xs
position_map p f n [] = refl
position_map p f n (x ∷ xs) = ap (λ (o : Option ℕ). cond (p (f x)) (Some n) o) (position_map p f (n + 1) xs)

no_series : Row
no_series = record { code = 0; market = 0; size = 0; price = 0; risk = 0; nets = [] }

same_rows : (code : ℕ) (rs : List Row) → at_code code (λ (r : Row). r) rs ≡ rs
same_rows code [] = refl
same_rows code (r ∷ rs) = by (same_rows code rs) (eqb r.code code)
  where
    by : at_code code (λ (r : Row). r) rs ≡ rs → (q : Bool) → cond q (r ∷ rs) (r ∷ at_code code (λ (r : Row). r) rs) ≡ r ∷ rs
    by more true = refl
    by more false = ap (λ (z : List Row). r ∷ z) more

no_row : (n : ℕ) (rs : List Row) (code : ℕ) → position_from (has_code code) n rs ≡ None → row_at rs code ≡ None
no_row n [] code e = refl
no_row n (r ∷ rs) code e = by (no_row (n + 1) rs code) (eqb r.code code) e
  where
    by : (position_from (has_code code) (n + 1) rs ≡ None → row_at rs code ≡ None) → (q : Bool) → cond q (Some n) (position_from (has_code code) (n + 1) rs) ≡ None → cond q (Some r) (row_at rs code) ≡ None
    by more true g = let z : ◌≡◌ {A = ℕ} 0 1 = cc in absurd (omega arith)
    by more false g = more g

-- a place is that of the code's row
record Placed (rs : List Row) (code i : ℕ) : Type 0 where
  pub inside : i < length rs
  pub row : (d : Row) → row_at rs code ≡ Some (get_or rs i d)
  pub changes : (f : Row → Row) (d : Row) → at_code code f rs ≡ set rs i (f (get_or rs i d))

placed : (n : ℕ) (rs : List Row) (code k : ℕ) → position_from (has_code code) n rs ≡ Some k → (i : ℕ) × (k ≡ n + i) × Placed rs code i
placed n [] code k e = let z : ◌≡◌ {A = ℕ} 0 1 = cc in absurd (omega arith)
placed n (r ∷ rs) code k e = by (placed (n + 1) rs code k) (eqb r.code code) refl e
  where
    by : (position_from (has_code code) (n + 1) rs ≡ Some k → (i : ℕ) × (k ≡ n + 1 + i) × Placed rs code i)
        → (q : Bool) → eqb r.code code ≡ q → cond q (Some n) (position_from (has_code code) (n + 1) rs) ≡ Some k → (i : ℕ) × (k ≡ n + i) × Placed (r ∷ rs) code i
    by more true t g =
        let m : k ≡ n = cc in (
          0,
          omega arith,
          record {
            inside = omega arith;
            row = λ d. ap (λ (q : Bool). cond q (Some r) (row_at rs code)) t;
            changes = λ f d. ap (λ (q : Bool). cond q (f r ∷ rs) (r ∷ at_code code f rs)) t;
          },
        )
    by more false t g =
        let p = more g in
        let w = p.2 in (
          suc p.0,
          omega (arith, p.1),
          record {
            inside = omega (arith, w.inside);
            row = λ d. ap (λ (q : Bool). cond q (Some r) (row_at rs code)) t ∙ w.row d;
            changes = λ f d. ap (λ (q : Bool). cond q (f r ∷ rs) (r ∷ at_code code f rs)) t ∙ ap (λ (z : List Row). r ∷ z) (w.changes f d);
          },
        )

take_set : {X : Type 0} (n i : ℕ) (xs : List X) (y : X) → take n (set xs i y) ≡ set (take n xs) i y
take_set zero i xs y = refl
take_set (suc n) i [] y = refl
take_set (suc n) zero (x ∷ xs) y = refl
take_set (suc n) (suc i) (x ∷ xs) y = ap (λ z. x ∷ z) (take_set n i xs y)

module _ (b : Book) where
  covers : b.count ≤ length b.series
  covers = omega (arith, b.few, b.room)

  pub rows_counted : length (rows_of b) ≡ b.count
  rows_counted = length-take-le b.count (map row_from b.series) (simp length-map covers)

  -- the place of the code's row is that of its series
  module _ (code i : ℕ) (e : position_from (has_code code) 0 (rows_of b) ≡ Some i) where
    here : Placed (rows_of b) code i
    here =
        let p = placed 0 (rows_of b) code i e in
        let k : i ≡ p.0 = omega (arith, p.1) in
        subst (λ j. Placed (rows_of b) code j) (sym k) p.2

    within : i < b.count
    within = omega (arith, here.inside, rows_counted)

    read : (s : Series) → get_or (rows_of b) i (row_from s) ≡ row_from (get_or b.series i s)
    read s = get_or-take b.count (map row_from b.series) i (row_from s) within ∙ get_or-map row_from b.series i s (row_from s) (omega (arith, within, covers))

    pub stands : Stands b code i
    stands = record {
      inside = within;
      row = λ s. here.row (row_from s) ∙ ap Some (read s);
      changes = λ f s t g.
          ap (take b.count) (map-set row_from b.series i t)
          ∙ take_set b.count i (map row_from b.series) (row_from t)
          ∙ ap (set (rows_of b) i) (g ∙ ap f (sym (read s)))
          ∙ sym (here.changes f (row_from s));
    }

  -- what the search of the listed series finds
  pub found_place : (code : ℕ) (o : Option ℕ) → o ≡ position (λ (s : Series). eqb s.code code) (take b.count b.series)
      → (is_some o ≡ is_some (row_at (rows_of b) code)) × Found b code o
  found_place code o e =
      by o (
      e
      ∙ position_from-zero (λ (s : Series). eqb s.code code) (take b.count b.series)
      ∙ sym (position_map (has_code code) row_from 0 (take b.count b.series))
      ∙ ap (position_from (has_code code) 0) (sym (take-map row_from b.count b.series))
      )
    where
      by : (o : Option ℕ) → o ≡ position_from (has_code code) 0 (rows_of b) → (is_some o ≡ is_some (row_at (rows_of b) code)) × Found b code o
      by None e = let none = no_row 0 (rows_of b) code (sym e) in (sym (ap (λ (o : Option Row). is_some o) none), none)
      by (Some i) e = (sym (ap (λ (o : Option Row). is_some o) ((here code i (sym e)).row no_series)), stands code i (sym e))

  -- a series put after the last
  pub rows_push : (t : Series) → b.count < length b.series → take (b.count + 1) (map row_from (set b.series b.count t)) ≡ rows_of b ++ (row_from t ∷ [])
  rows_push t l =
      let k : b.count < length (map row_from b.series) = simp length-map l in
      ap (take (b.count + 1)) (map-set row_from b.series b.count t) ∙ take_more_set (map row_from b.series) b.count (row_from t) k

  -- a deal that a series took or refused, put on the seat that it names
  pub deal_entered : (d : Deal) (seat i : ℕ) (s t : Series) (r : Result (Unit {0}) Refusal) → seat ≡ d.seat → Stands b d.code i
      → row_from t ≡ deal_left seat d r (row_from (get_or b.series i s))
      → ◌≡◌ {A = Ledger} (record { stage = b.stage; members = b.members; rows = take b.count (map row_from (set b.series i t)) }) (booking_left (deals d) r (ledger_of b))
  deal_entered d seat i s t (Ok u) e w g =
      ap (λ (rs : List Row). record { stage = b.stage; members = b.members; rows = rs }) (
      w.changes (dealt_row d) s t (subst (λ (k : ℕ). row_from t ≡ deal_left k d (Ok u) (row_from (get_or b.series i s))) e g)
      )
  deal_entered d seat i s t (Err x) e w g =
      ap (λ (rs : List Row). record { stage = b.stage; members = b.members; rows = rs }) (
      w.changes (λ (r : Row). r) s t g ∙ same_rows d.code (rows_of b)
      )
