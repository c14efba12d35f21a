-- What the steps of a booking answer and leave, on the way to the definitions of the calls.
use Rattle.std.specs.Prelude.{ℕ, ◌-◌, Bool, cond, not, List, [], ◌∷◌, ◌++◌, length, drop, ◌+ℤ◌, Some, None, Ok, Err, Option, Result, nat_le, slice_set}
use Rattle.sharing.specs.declared.refusal.Refusal.{Refusal}
use Rattle.sharing.specs.declared.refusal.Refusal.TheVariants.{BookFull, PositionLimits}
use Rattle.ledger.specs.declared.deal.Deal.{Deal}
use Rattle.ledger.specs.Limits.{most_series}
use Rattle.ledger.specs.Ledger.{Net, Row, Ledger, net_of, in_limits}
use Rattle.ledger.specs.Bookings.{Booking, booking_checks, dealt_net, booked}
use Rattle.book.specs.declared.trade.Trade.{Trade}
use Rattle.book.specs.declared.state.Position.{Position}
use Rattle.book.specs.Views.{net_from}

-- a position, unless it is outside its limits
abbrev pub kept_in : Net → Option Net
kept_in p = cond (in_limits p) (Some p) None

abbrev pub seen : Option Position → Option Net
seen None = None
seen (Some p) = Some (net_from p)

-- a position with a trade added
abbrev pub traded : Trade → Net → Net
traded t p = record { volume = p.volume +ℤ t.volume; cost = p.cost +ℤ t.cost }

-- a series with another position in a seat
abbrev pub with_net : ℕ → Net → Row → Row
with_net seat p s = record { code = s.code; market = s.market; size = s.size; price = s.price; risk = s.risk; nets = slice_set s.nets (seat - 1) p }

-- what an accepted step leaves; a refused one changes nothing
abbrev pub done_if : {X E : Type 0} → Result (Unit {0}) E → X → X → X
done_if (Ok _) new old = new
done_if (Err _) new old = old

-- a deal put on a seat of a series: when it is refused, and what it leaves
abbrev pub deal_checks : ℕ → Deal → Row → List (Bool × Refusal)
deal_checks seat d s = (not (in_limits (dealt_net s.size d (net_of s seat))), PositionLimits) ∷ []

abbrev pub deal_left : ℕ → Deal → Result (Unit {0}) Refusal → Row → Row
deal_left seat d r s = done_if r (with_net seat (dealt_net s.size d (net_of s seat)) s) s

-- one more series put into a ledger
abbrev pub push_checks : Ledger → List (Bool × Refusal)
push_checks l = (nat_le most_series (length l.rows), BookFull) ∷ []

abbrev pub push_left : Row → Result (Unit {0}) Refusal → Ledger → Ledger
push_left s r l = done_if r (record { stage = l.stage; members = l.members; rows = l.rows ++ (s ∷ []) }) l

-- the checks of a booking after that of its fields
abbrev pub further_checks : Ledger → Booking → List (Bool × Refusal)
further_checks l b = drop 1 (booking_checks l b)

-- a booking, by what was answered
abbrev pub booking_left : Booking → Result (Unit {0}) Refusal → Ledger → Ledger
booking_left b r l = done_if r (booked l b) l
