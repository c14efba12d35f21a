-- The calls that book.
use Rattle.std.specs.Prelude.{◌≡◌}
use Rattle.ledger.specs.Ledger.{Ledger}
use Rattle.ledger.specs.Bookings.{Booking, booked}
use Rattle.ledger.specs.Calls.{Call, accepted, open_checks, found, refusals, changed, figures}
use Rattle.ledger.specs.Runs.{LawfulIn}

-- the call books this in stage open, and does nothing else
pub record Books (call : Call) (booking : Booking) : Type 0 where
  pub refused_by : (l : Ledger) → refusals l call ≡ found (open_checks l booking)
  pub changes : (l : Ledger) → changed l call ≡ booked l booking
  pub answers : (l : Ledger) → figures l call ≡ accepted
  pub lawful : LawfulIn call
