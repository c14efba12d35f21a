-- What is booked, by a call or by a record of a day file: when it is refused, and what it changes.
use Rattle.std.specs.Prelude.{ℕ, ◌-◌, ◌*◌, Bool, false, cond, not, ◌||◌, List, [], ◌∷◌, ◌++◌, length, ℤ, pos, ◌+ℤ◌, neg_ℤ, Some, None, Option, ◌==◌, nat_le, slice_set}
use Rattle.sharing.specs.declared.refusal.Refusal.{Refusal}
use Rattle.sharing.specs.declared.refusal.Refusal.TheVariants.{NoSuchSeat, NotListed, ListedAlready, FieldOutsideLimits, BookFull, PositionLimits}
use Rattle.ledger.specs.declared.listing.Listing.{Listing}
use Rattle.ledger.specs.declared.deal.Deal.{Deal}
use Rattle.ledger.specs.declared.repricing.Repricing.{Repricing}
use Rattle.ledger.specs.Limits.{outside, field_outside, most_series, most_code, most_market, most_size, most_price, most_risk, most_side, most_lots}
use Rattle.ledger.specs.Ledger.{Net, Row, Ledger, eight_flat, net_of, in_limits, row_at, is_listed, at_code}

pub data Booking : Type 0 where
  lists : Listing → Booking
  deals : Deal → Booking
  reprices : Repricing → Booking

-- a field outside its limits; a deal's seat is looked at by itself
abbrev pub wrong_listing : Listing → Bool
wrong_listing s =
    field_outside most_code s.code
    || (field_outside most_market s.market
    || (field_outside most_size s.size || (field_outside most_price s.price || field_outside most_risk s.risk)))

abbrev pub wrong_deal : Deal → Bool
wrong_deal d =
    field_outside most_code d.code
    || (field_outside most_side d.side || (field_outside most_lots d.lots || field_outside most_price d.price))

abbrev pub wrong_repricing : Repricing → Bool
wrong_repricing r = field_outside most_code r.code || (field_outside most_price r.price || field_outside most_risk r.risk)

-- a series as it is listed: nobody holds anything in it
abbrev pub listed_row : Listing → Row
listed_row s = record { code = s.code; market = s.market; size = s.size; price = s.price; risk = s.risk; nets = eight_flat }

-- a purchase, side 1, adds; a sale, side 2, subtracts
abbrev pub directed : ℕ → ℕ → ℤ
directed side n = cond (side == 1) (pos n) (neg_ℤ (pos n))

-- a deal's volume is lots × size; its cost is volume × price
abbrev pub volume_dealt : ℕ → Deal → ℤ
volume_dealt size d = directed d.side (d.lots * size)

abbrev pub cost_dealt : ℕ → Deal → ℤ
cost_dealt size d = directed d.side (d.lots * size * d.price)

-- a position after a deal in a series of that size
abbrev pub dealt_net : ℕ → Deal → Net → Net
dealt_net size d p = record { volume = p.volume +ℤ volume_dealt size d; cost = p.cost +ℤ cost_dealt size d }

-- a series after a deal
abbrev pub dealt_row : Deal → Row → Row
dealt_row d s = record {
  code = s.code;
  market = s.market;
  size = s.size;
  price = s.price;
  risk = s.risk;
  nets = slice_set s.nets (d.seat - 1) (dealt_net s.size d (net_of s d.seat));
}

-- a series after a repricing
abbrev pub repriced_row : Repricing → Row → Row
repriced_row r s = record { code = s.code; market = s.market; size = s.size; price = r.price; risk = r.risk; nets = s.nets }

-- a deal that would take the member's position out of its limits
abbrev pub past_limits : Option Row → Deal → Bool
past_limits None d = false
past_limits (Some s) d = not (in_limits (dealt_net s.size d (net_of s d.seat)))

-- the checks of a booking, in their order
abbrev pub booking_checks : Ledger → Booking → List (Bool × Refusal)
booking_checks l (lists s) =
    (wrong_listing s, FieldOutsideLimits) ∷ (is_listed l s.code, ListedAlready) ∷ (nat_le most_series (length l.rows), BookFull) ∷ []
booking_checks l (deals d) =
    (wrong_deal d, FieldOutsideLimits)
    ∷ (outside 1 l.members d.seat, NoSuchSeat)
    ∷ (not (is_listed l d.code), NotListed)
    ∷ (past_limits (row_at l.rows d.code) d, PositionLimits)
    ∷ []
booking_checks l (reprices r) = (wrong_repricing r, FieldOutsideLimits) ∷ (not (is_listed l r.code), NotListed) ∷ []

-- the series after an accepted booking
abbrev pub booked_rows : List Row → Booking → List Row
booked_rows ss (lists s) = ss ++ (listed_row s ∷ [])
booked_rows ss (deals d) = at_code d.code (dealt_row d) ss
booked_rows ss (reprices r) = at_code r.code (repriced_row r) ss

abbrev pub booked : Ledger → Booking → Ledger
booked l b = record { stage = l.stage; members = l.members; rows = booked_rows l.rows b }

abbrev pub booked_all : Ledger → List Booking → Ledger
booked_all l [] = l
booked_all l (b ∷ bs) = booked_all (booked l b) bs
