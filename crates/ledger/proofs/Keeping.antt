-- Accepted bookings keep a ledger within all limits.
use Rattle.std.proofs.Common.{◌≡◌, ℕ, zero, suc, ◌-◌, ◌≤◌, Bool, true, false, cond, not, eqb, leb, List, [], ◌∷◌, ◌++◌, length, get_or, nat_abs, Some, Option, sym, refl, ap, ◌∙◌, subst, arith}
use Rattle.std.proofs.lemmas.List.{length_push}
use Rattle.std.proofs.lemmas.Bool.Decides.{nat_tests}
use Rattle.ledger.specs.declared.listing.Listing.{Listing}
use Rattle.ledger.specs.declared.deal.Deal.{Deal}
use Rattle.ledger.specs.declared.repricing.Repricing.{Repricing}
use Rattle.ledger.specs.Limits.{field_outside}
use Rattle.ledger.specs.Ledger.{Net, Row, Ledger, flat, eight_flat, net_of, in_limits, row_at, at_code}
use Rattle.ledger.specs.Bookings.{Booking, lists, deals, reprices, wrong_listing, wrong_repricing, listed_row, dealt_net, dealt_row, repriced_row, past_limits, booking_checks, booked}
use Rattle.ledger.specs.History.{RowWithin, RowsWithin, Within}
use Rattle.ledger.proofs.Checks.{Clear}
use Rattle.ledger.proofs.Rows.{set_either}

pub flat_at : (k : ℕ) → get_or eight_flat k flat ≡ flat
flat_at zero = refl
flat_at (suc zero) = refl
flat_at (suc (suc zero)) = refl
flat_at (suc (suc (suc zero))) = refl
flat_at (suc (suc (suc (suc zero)))) = refl
flat_at (suc (suc (suc (suc (suc zero))))) = refl
flat_at (suc (suc (suc (suc (suc (suc zero)))))) = refl
flat_at (suc (suc (suc (suc (suc (suc (suc zero))))))) = refl
flat_at (suc (suc (suc (suc (suc (suc (suc (suc k)))))))) = refl

listed_within : (s : Listing) → false ≡ wrong_listing s → RowWithin (listed_row s)
unfolding field_outside
listed_within s ok = record {
  code = grind (arith, nat_tests);
  market = grind (arith, nat_tests);
  size = grind (arith, nat_tests);
  price = grind (arith, nat_tests);
  risk = grind (arith, nat_tests);
  volume = λ k. subst (λ (p : Net). nat_abs p.volume ≤ 2000000) (sym (flat_at k)) (omega arith);
  cost = λ k. subst (λ (p : Net). nat_abs p.cost ≤ 800000000000) (sym (flat_at k)) (omega arith);
}

within_volume : (p : Net) → false ≡ not (in_limits p) → nat_abs p.volume ≤ 2000000
within_volume p ok = grind (arith, nat_tests)

within_cost : (p : Net) → false ≡ not (in_limits p) → nat_abs p.cost ≤ 800000000000
within_cost p ok = grind (arith, nat_tests)

dealt_within : (d : Deal) (s : Row) → false ≡ past_limits (Some s) d → RowWithin s → RowWithin (dealt_row d s)
dealt_within d s ok w =
    let new = dealt_net s.size d (net_of s d.seat) in
    record {
      code = w.code;
      market = w.market;
      size = w.size;
      price = w.price;
      risk = w.risk;
      volume = λ k. set_either (λ (p : Net). nat_abs p.volume ≤ 2000000) s.nets (d.seat - 1) k new flat (within_volume new ok) (w.volume k);
      cost = λ k. set_either (λ (p : Net). nat_abs p.cost ≤ 800000000000) s.nets (d.seat - 1) k new flat (within_cost new ok) (w.cost k);
    }

repriced_within : (r : Repricing) (s : Row) → false ≡ wrong_repricing r → RowWithin s → RowWithin (repriced_row r s)
unfolding field_outside
repriced_within r s ok w = record {
  code = w.code;
  market = w.market;
  size = w.size;
  price = grind (arith, nat_tests);
  risk = grind (arith, nat_tests);
  volume = w.volume;
  cost = w.cost;
}

rows_push : (ss : List Row) (x : Row) → RowsWithin ss → RowWithin x → RowsWithin (ss ++ (x ∷ []))
rows_push [] x ws w = (w, tt)
rows_push (s ∷ ss) x ws w = (ws.0, rows_push ss x ws.1 w)

rows_at : (k : ℕ) (f : Row → Row) (ss : List Row) → ((s : Row) → row_at ss k ≡ Some s → RowWithin s → RowWithin (f s)) → RowsWithin ss → RowsWithin (at_code k f ss)
rows_at k f [] h ws = tt
rows_at k f (s ∷ ss) h ws = by (eqb s.code k) refl (rows_at k f ss)
  where
    by : (q : Bool) → eqb s.code k ≡ q → (((t : Row) → row_at ss k ≡ Some t → RowWithin t → RowWithin (f t)) → RowsWithin ss → RowsWithin (at_code k f ss))
        → RowsWithin (cond q (f s ∷ ss) (s ∷ at_code k f ss))
    by true e more = (h s (ap (λ (q : Bool). cond q (Some s) (row_at ss k)) e) ws.0, ws.1)
    by false e more = (ws.0, more (λ t g w. h t (ap (λ (q : Bool). cond q (Some s) (row_at ss k)) e ∙ g) w) ws.1)

length_at : (k : ℕ) (f : Row → Row) (ss : List Row) → length (at_code k f ss) ≡ length ss
length_at k f [] = refl
length_at k f (s ∷ ss) = by (eqb s.code k) (length_at k f ss)
  where
    by : (q : Bool) → length (at_code k f ss) ≡ length ss → length (cond q (f s ∷ ss) (s ∷ at_code k f ss)) ≡ suc (length ss)
    by true g = refl
    by false g = ap suc g

-- one accepted booking
pub booked_within : (l : Ledger) (b : Booking) → Clear (booking_checks l b) → Within l → Within (booked l b)
booked_within l (lists s) ok w =
    let room : false ≡ leb 48 (length l.rows) = ok.1.1.0 in
    record {
      members = w.members;
      few = let n = length_push l.rows (listed_row s) in grind (arith, nat_tests);
      each = rows_push l.rows (listed_row s) w.each (listed_within s ok.0);
    }
booked_within l (deals d) ok w = record {
  members = w.members;
  few = omega (arith, length_at d.code (dealt_row d) l.rows, w.few);
  each = rows_at d.code (dealt_row d) l.rows (λ s e v. dealt_within d s (ok.1.1.1.0 ∙ ap (λ (o : Option Row). past_limits o d) e) v) w.each;
}
booked_within l (reprices r) ok w = record {
  members = w.members;
  few = omega (arith, length_at r.code (repriced_row r) l.rows, w.few);
  each = rows_at r.code (repriced_row r) l.rows (λ s e v. repriced_within r s ok.0 v) w.each;
}
