-- The history law, one accepted booking and then one call at a time.
use Rattle.std.proofs.Common.{◌≡◌, ℕ, ◌-◌, ◌≤◌, Bool, true, false, cond, not, ◌&&◌, ◌||◌, eqb, List, [], ◌∷◌, ◌++◌, map, length, ℤ, pos, ◌+ℤ◌, is_some, Some, None, Option, sym, refl, ap, ◌∙◌, subst, arith, length-set}
use Rattle.std.proofs.lemmas.List.{get_or-set_same, get_or-set_other, append-nil, map_push}
use Rattle.std.proofs.lemmas.Bool.{eqb-true, eqb-false, eq-eqb}
use Rattle.std.proofs.lemmas.Bool.Decides.{nat_tests}
use Rattle.std.proofs.lemmas.Int.{ints}
use Rattle.sharing.specs.declared.refusal.Refusal.{Refusal}
use Rattle.sharing.specs.Lists.{among, repeated}
use Rattle.ledger.specs.declared.listing.Listing.{Listing}
use Rattle.ledger.specs.declared.deal.Deal.{Deal}
use Rattle.ledger.specs.declared.repricing.Repricing.{Repricing}
use Rattle.ledger.specs.Limits.{outside}
use Rattle.ledger.specs.Checks.{first_found, or_else}
use Rattle.ledger.specs.Sums.{total_ℤ}
use Rattle.ledger.specs.Ledger.{Net, Row, Ledger, flat, net_of, row_at, at_code}
use Rattle.ledger.specs.Bookings.{Booking, lists, deals, reprices, listed_row, volume_dealt, cost_dealt, dealt_net, dealt_row, repriced_row, booking_checks, booked, booked_all}
use Rattle.ledger.specs.Files.{Placed, refusal_at, refused_record}
use Rattle.ledger.specs.History.{latest, listing_of, repriced_to, volume_moved, cost_moved, code_booked, codes_listed, noted, Accounted, Unheard, Told, Within, AsBooked}
use Rattle.ledger.proofs.Checks.{Clear, is_clear}
use Rattle.ledger.proofs.Rows.{row_at_push, mapped, at_same, at_other, codes_kept, among_codes, apart_push}
use Rattle.ledger.proofs.Keeping.{flat_at, booked_within}

-- a booking under another code says nothing of this one
module _ (c : ℕ) where
  not_listing : (b : Booking) → eqb (code_booked b) c ≡ false → listing_of c b ≡ None
  not_listing (lists s) h = ap (λ (q : Bool). cond q (Some s) None) h
  not_listing (deals d) h = refl
  not_listing (reprices r) h = refl

  not_repricing : (b : Booking) → eqb (code_booked b) c ≡ false → repriced_to c b ≡ None
  not_repricing (lists s) h = refl
  not_repricing (deals d) h = refl
  not_repricing (reprices r) h = ap (λ (q : Bool). cond q (Some (r.price, r.risk)) None) h

  not_moving : (size seat : ℕ) (b : Booking) → eqb (code_booked b) c ≡ false → volume_moved size seat c b ≡ pos 0
  not_moving size seat (lists s) h = refl
  not_moving size seat (deals d) h = ap (λ (q : Bool). cond (q && eqb d.seat seat) (volume_dealt size d) (pos 0)) h
  not_moving size seat (reprices r) h = refl

  not_paying : (size seat : ℕ) (b : Booking) → eqb (code_booked b) c ≡ false → cost_moved size seat c b ≡ pos 0
  not_paying size seat (lists s) h = refl
  not_paying size seat (deals d) h = ap (λ (q : Bool). cond (q && eqb d.seat seat) (cost_dealt size d) (pos 0)) h
  not_paying size seat (reprices r) h = refl

none_plus : (x y : ℤ) → x ≡ pos 0 → x +ℤ y ≡ y
none_plus x y h = omega (arith, ints)

neither : (a b : Bool) → (a || b) ≡ false → (a ≡ false) × (b ≡ false)
neither true b h = let z : ◌≡◌ {A = ℕ} 0 1 = cc in absurd (omega arith)
neither false b h = (refl, h)

-- a code under which nothing was booked has no repricing, and nobody moved in it
module _ (c : ℕ) where
  unpriced : (bs : List Booking) → Unheard bs c → latest (repriced_to c) bs ≡ None
  unpriced [] h = refl
  unpriced (b ∷ bs) h =
      let n = neither (eqb (code_booked b) c) (among c (map code_booked bs)) h in
      ap (λ (o : Option (ℕ × ℕ)). or_else o (latest (repriced_to c) bs)) (not_repricing c b n.0) ∙ unpriced bs n.1

  unmoved : (size seat : ℕ) (bs : List Booking) → Unheard bs c → total_ℤ (map (volume_moved size seat c) bs) ≡ pos 0
  unmoved size seat [] h = refl
  unmoved size seat (b ∷ bs) h =
      let n = neither (eqb (code_booked b) c) (among c (map code_booked bs)) h in
      none_plus _ _ (not_moving c size seat b n.0) ∙ unmoved size seat bs n.1

  unpaid : (size seat : ℕ) (bs : List Booking) → Unheard bs c → total_ℤ (map (cost_moved size seat c) bs) ≡ pos 0
  unpaid size seat [] h = refl
  unpaid size seat (b ∷ bs) h =
      let n = neither (eqb (code_booked b) c) (among c (map code_booked bs)) h in
      none_plus _ _ (not_paying c size seat b n.0) ∙ unpaid size seat bs n.1

-- a booking under another code leaves what was told of this one
skipped : (bs : List Booking) (b : Booking) (c : ℕ) (o : Option Row) → eqb (code_booked b) c ≡ false → Told bs c o → Told (b ∷ bs) c o
skipped bs b c None other t = ap (λ (q : Bool). q || among c (map code_booked bs)) other ∙ t
skipped bs b c (Some r) other t = record {
  origin = t.origin;
  listed_so = ap (λ (o : Option Listing). or_else o (latest (listing_of c) bs)) (not_listing c b other) ∙ t.listed_so;
  market = t.market;
  size = t.size;
  in_force = t.in_force ∙ sym (ap (λ (o : Option (ℕ × ℕ)). or_else (or_else o (latest (repriced_to c) bs)) (Some (t.origin.price, t.origin.risk))) (not_repricing c b other));
  seats = t.seats;
  volumes = λ seat h k. t.volumes seat h k ∙ sym (none_plus _ _ (not_moving c r.size seat b other));
  costs = λ seat h k. t.costs seat h k ∙ sym (none_plus _ _ (not_paying c r.size seat b other));
}

or_none : {X : Type 0} (o : Option X) → or_else o None ≡ o
or_none None = refl
or_none (Some x) = refl

none_of : (o : Option Row) → false ≡ is_some o → o ≡ None
none_of None h = refl
none_of (Some r) h = let z : ◌≡◌ {A = ℕ} 0 1 = cc in absurd (omega arith)

-- a code that is listed now
fresh_told : (bs : List Booking) (s : Listing) (c : ℕ) → eqb s.code c ≡ true → Unheard bs c → Accounted (lists s ∷ bs) c (listed_row s)
fresh_told bs s c e u = record {
  origin = s;
  listed_so = ap (λ (q : Bool). or_else (cond q (Some s) None) (latest (listing_of c) bs)) e;
  market = refl;
  size = refl;
  in_force = sym (ap (λ (o : Option (ℕ × ℕ)). or_else o (Some (s.price, s.risk))) (unpriced c bs u));
  seats = refl;
  volumes = λ seat h k. ap (λ (p : Net). p.volume) (flat_at (seat - 1)) ∙ sym (none_plus _ _ refl ∙ unmoved c s.size seat bs u);
  costs = λ seat h k. ap (λ (p : Net). p.cost) (flat_at (seat - 1)) ∙ sym (none_plus _ _ refl ∙ unpaid c s.size seat bs u);
}

-- what a deal leaves of a series
module _ (d : Deal) (lo : 1 ≤ d.seat) (hi : d.seat ≤ 8) (bs : List Booking) where
  net_dealt : (s : Row) → length s.nets ≡ 8 → net_of (dealt_row d s) d.seat ≡ dealt_net s.size d (net_of s d.seat)
  net_dealt s n = get_or-set_same s.nets (d.seat - 1) (dealt_net s.size d (net_of s d.seat)) flat (omega arith)

  net_other : (s : Row) (seat : ℕ) → 1 ≤ seat → eqb d.seat seat ≡ false → net_of (dealt_row d s) seat ≡ net_of s seat
  net_other s seat h ne = get_or-set_other s.nets (d.seat - 1) (seat - 1) (dealt_net s.size d (net_of s d.seat)) flat (λ e. eqb-false d.seat seat ne (omega arith))

  -- a part of the position, volume or cost, and what a deal adds to it
  module _ (part : Net → ℤ) (adds : ℕ → ℤ) (part_dealt : (size : ℕ) (p : Net) → part (dealt_net size d p) ≡ part p +ℤ adds size) where
    part_told : (s : Row) (seat : ℕ) (old : ℤ) → 1 ≤ seat → length s.nets ≡ 8 → part (net_of s seat) ≡ old
        → (q : Bool) → eqb d.seat seat ≡ q → part (net_of (dealt_row d s) seat) ≡ cond q (adds s.size) (pos 0) +ℤ old
    part_told s seat old h n is true e =
        let same : d.seat ≡ seat = eqb-true d.seat seat e in
        let here : part (net_of (dealt_row d s) d.seat) ≡ part (net_of s d.seat) +ℤ adds s.size = ap part (net_dealt s n) ∙ part_dealt s.size (net_of s d.seat) in
        let there : part (net_of (dealt_row d s) seat) ≡ part (net_of s seat) +ℤ adds s.size = subst (λ k. part (net_of (dealt_row d s) k) ≡ part (net_of s k) +ℤ adds s.size) same here in
        omega (arith, ints)
    part_told s seat old h n is false e = ap part (net_other s seat h e) ∙ is ∙ sym (none_plus _ _ refl)

  self : eqb d.code d.code ≡ true
  self = eq-eqb d.code d.code refl

  deal_told : (o : Option Row) → false ≡ not (is_some o) → Told bs d.code o → Told (deals d ∷ bs) d.code (mapped (dealt_row d) o)
  deal_told None h t = let z : ◌≡◌ {A = ℕ} 0 1 = cc in absurd (omega arith)
  deal_told (Some s) h t = record {
    origin = t.origin;
    listed_so = t.listed_so;
    market = t.market;
    size = t.size;
    in_force = t.in_force;
    seats = length-set s.nets (d.seat - 1) (dealt_net s.size d (net_of s d.seat)) ∙ t.seats;
    volumes = λ seat a b.
        part_told (λ p. p.volume) (λ size. volume_dealt size d) (λ size p. refl) s seat (total_ℤ (map (volume_moved s.size seat d.code) bs)) a t.seats (t.volumes seat a b) (eqb d.seat seat) refl
        ∙ sym (ap (λ (q : Bool). cond (q && eqb d.seat seat) (volume_dealt s.size d) (pos 0) +ℤ total_ℤ (map (volume_moved s.size seat d.code) bs)) self);
    costs = λ seat a b.
        part_told (λ p. p.cost) (λ size. cost_dealt size d) (λ size p. refl) s seat (total_ℤ (map (cost_moved s.size seat d.code) bs)) a t.seats (t.costs seat a b) (eqb d.seat seat) refl
        ∙ sym (ap (λ (q : Bool). cond (q && eqb d.seat seat) (cost_dealt s.size d) (pos 0) +ℤ total_ℤ (map (cost_moved s.size seat d.code) bs)) self);
  }

repricing_told : (r : Repricing) (bs : List Booking) (o : Option Row) → false ≡ not (is_some o) → Told bs r.code o → Told (reprices r ∷ bs) r.code (mapped (repriced_row r) o)
repricing_told r bs None h t = let z : ◌≡◌ {A = ℕ} 0 1 = cc in absurd (omega arith)
repricing_told r bs (Some s) h t = record {
  origin = t.origin;
  listed_so = t.listed_so;
  market = t.market;
  size = t.size;
  in_force = sym (ap (λ (q : Bool). or_else (or_else (cond q (Some (r.price, r.risk)) None) (latest (repriced_to r.code) bs)) (Some (t.origin.price, t.origin.risk))) (eq-eqb r.code r.code refl));
  seats = t.seats;
  volumes = λ seat a b. t.volumes seat a b ∙ sym (none_plus _ _ refl);
  costs = λ seat a b. t.costs seat a b ∙ sym (none_plus _ _ refl);
}

-- a change at one code
changed_told : (b : Booking) (f : Row → Row) → ((s : Row) → (f s).code ≡ s.code) → (k : ℕ) (ss : List Row) (bs : List Booking)
    → code_booked b ≡ k → Told (b ∷ bs) k (mapped f (row_at ss k)) → ((c : ℕ) → Told bs c (row_at ss c)) → (c : ℕ) → Told (b ∷ bs) c (row_at (at_code k f ss) c)
changed_told b f keeps k ss bs under here told c = by (eqb k c) refl
  where
    by : (q : Bool) → eqb k c ≡ q → Told (b ∷ bs) c (row_at (at_code k f ss) c)
    by true g = subst (λ n. Told (b ∷ bs) n (row_at (at_code k f ss) n)) (eqb-true k c g) (subst (λ o. Told (b ∷ bs) k o) (sym (at_same f keeps k ss)) here)
    by false g = subst (λ o. Told (b ∷ bs) c o) (sym (at_other f keeps k c ss g)) (skipped bs b c (row_at ss c) (ap (λ (n : ℕ). eqb n c) under ∙ g) (told c))

listed_told : (s : Listing) (ss : List Row) (bs : List Booking) → row_at ss s.code ≡ None → ((c : ℕ) → Told bs c (row_at ss c)) → (c : ℕ) → Told (lists s ∷ bs) c (row_at (ss ++ (listed_row s ∷ [])) c)
listed_told s ss bs none told c = subst (λ o. Told (lists s ∷ bs) c o) (sym (row_at_push ss (listed_row s) c)) (by (eqb s.code c) refl)
  where
    by : (q : Bool) → eqb s.code c ≡ q → Told (lists s ∷ bs) c (or_else (row_at ss c) (cond q (Some (listed_row s)) None))
    by true g =
        let here : row_at ss c ≡ None = ap (row_at ss) (sym (eqb-true s.code c g)) ∙ none in
        subst (λ o. Told (lists s ∷ bs) c (or_else o (Some (listed_row s)))) (sym here) (fresh_told bs s c g (subst (λ o. Told bs c o) here (told c)))
    by false g = subst (λ o. Told (lists s ∷ bs) c o) (sym (or_none (row_at ss c))) (skipped bs (lists s) c (row_at ss c) g (told c))

unlisted_code : (ss : List Row) (c : ℕ) → false ≡ is_some (row_at ss c) → repeated (map (λ s. s.code) ss) ≡ false → repeated (map (λ s. s.code) ss ++ (c ∷ [])) ≡ false
unlisted_code ss c h apart = apart_push (map (λ s. s.code) ss) c apart (among_codes ss c ∙ sym h)

-- one accepted booking
pub booking_kept : (l : Ledger) (bs : List Booking) (b : Booking) → Clear (booking_checks l b) → AsBooked bs l → AsBooked (b ∷ bs) (booked l b)
booking_kept l bs (lists s) ok h =
    let pushed = map_push (λ (t : Row). t.code) l.rows (listed_row s) in
    record {
      order = pushed ∙ ap (λ ns. ns ++ (s.code ∷ [])) h.order;
      apart = ap repeated pushed ∙ unlisted_code l.rows s.code ok.1.0 h.apart;
      series = listed_told s l.rows bs (none_of _ ok.1.0) h.series;
      within = booked_within l (lists s) ok h.within;
    }
booking_kept l bs (deals d) ok h =
    let seat : false ≡ outside 1 l.members d.seat = ok.1.0 in
    let few : l.members ≤ 8 = h.within.members.1 in
    let lo : 1 ≤ d.seat = grind (arith, nat_tests) in
    let hi : d.seat ≤ l.members = grind (arith, nat_tests) in
    let same = codes_kept (dealt_row d) (λ s. refl) d.code l.rows in
    record {
      order = same ∙ h.order ∙ sym (append-nil (codes_listed bs));
      apart = ap repeated same ∙ h.apart;
      series = changed_told (deals d) (dealt_row d) (λ s. refl) d.code l.rows bs refl
          (deal_told d lo (omega arith) bs (row_at l.rows d.code) ok.1.1.0 (h.series d.code)) h.series;
      within = booked_within l (deals d) ok h.within;
    }
booking_kept l bs (reprices r) ok h =
    let same = codes_kept (repriced_row r) (λ s. refl) r.code l.rows in
    record {
      order = same ∙ h.order ∙ sym (append-nil (codes_listed bs));
      apart = ap repeated same ∙ h.apart;
      series = changed_told (reprices r) (repriced_row r) (λ s. refl) r.code l.rows bs refl
          (repricing_told r bs (row_at l.rows r.code) ok.1.0 (h.series r.code)) h.series;
      within = booked_within l (reprices r) ok h.within;
    }

-- the records of a file, none of which is refused in its turn
pub records_kept : (rs : List Placed) (l : Ledger) (bs : List Booking) → refused_record l rs ≡ None → AsBooked bs l → AsBooked (noted (map (λ r. r.booking) rs) bs) (booked_all l (map (λ r. r.booking) rs))
records_kept [] l bs ok h = h
records_kept (r ∷ rs) l bs ok h =
    let none = both (first_found (booking_checks l r.booking)) (refused_record (booked l r.booking) rs) ok in
    records_kept rs (booked l r.booking) (r.booking ∷ bs) none.1 (booking_kept l bs r.booking (is_clear (booking_checks l r.booking) none.0) h)
  where
    both : (o : Option Refusal) (p : _) → or_else (refusal_at r o) p ≡ None → (o ≡ None) × (p ≡ None)
    both None p h = (refl, h)
    both (Some e) p h = let z : ◌≡◌ {A = ℕ} 0 1 = cc in absurd (omega arith)

-- a book that was just opened
pub opened_kept : (l : Ledger) → l.rows ≡ [] → Within l → AsBooked [] l
opened_kept l none within = record {
  order = ap (map (λ s. s.code)) none;
  apart = ap (λ ss. repeated (map (λ s. s.code) ss)) none;
  series = λ k. subst (λ ss. Told [] k (row_at ss k)) (sym none) refl;
  within = within;
}
