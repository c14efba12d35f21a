-- The ten calls: when each is refused, what it answers, and what it changes.
use Rattle.std.specs.Prelude.{◌≡◌, ℕ, Bool, false, not, ◌⊎◌, List, [], ◌∷◌, map, length, ℤ, Some, None, Ok, Err, Option, Result, nat_lt}
use Rattle.sharing.specs.declared.refusal.Refusal.{Refusal}
use Rattle.sharing.specs.declared.refusal.Refusal.TheVariants.{MemberCount, NoSuchSeat, NotListed, WrongStage, TooLittleRoom, TotalsTooLarge, NoVolume}
use Rattle.rules.specs.Division.{Meaning}
use Rattle.ledger.specs.declared.listing.Listing.{Listing}
use Rattle.ledger.specs.declared.deal.Deal.{Deal}
use Rattle.ledger.specs.declared.repricing.Repricing.{Repricing}
use Rattle.ledger.specs.declared.stage.Event.{Event}
use Rattle.ledger.specs.declared.stage.Event.TheVariants.{Strike, Reopening}
use Rattle.ledger.specs.declared.stage.Stage.{Stage}
use Rattle.ledger.specs.declared.stage.Stage.TheVariants.{Open, Struck}
use Rattle.ledger.specs.declared.fault.LoadFault.{LoadFault}
use Rattle.ledger.specs.declared.fault.RefusalNumbers.{RefusalNumbers}
use Rattle.ledger.specs.declared.lines.SetOffLine.{SetOffLine}
use Rattle.ledger.specs.declared.lines.ReportLine.{ReportLine}
use Rattle.ledger.specs.Limits.{outside, most_members}
use Rattle.ledger.specs.Numbers.{plain_numbers, fault_numbers}
use Rattle.ledger.specs.Checks.{first_found}
use Rattle.ledger.specs.Ledger.{Net, Row, Ledger, opened, struck, flat, net_of, row_at, is_listed}
use Rattle.ledger.specs.Bookings.{Booking, lists, deals, reprices, booking_checks, booked, booked_all}
use Rattle.ledger.specs.Margins.{set_off_line, over_lines, no_volume_of, any_no_volume, too_large, report_line, called}
use Rattle.ledger.specs.Files.{records_of, load_faults}

-- a call with its arguments: lines as they are handed in, a division rule by its meaning
pub data Call : Type 0 where
  opening : ℕ → Call
  listing : Listing → Call
  dealing : Deal → Call
  repricing : Repricing → Call
  loading : List ℕ → Call
  strike : Call
  reopening : Call
  position : ℕ → ℕ → Call
  set_off : ℕ → List SetOffLine → Call
  margin_call : Meaning → List ReportLine → Call

-- strike and reopening are the two events of a stage
abbrev pub event_call : Event → Call
event_call Strike = strike
event_call Reopening = reopening

-- what a call answers: the four numbers of a refusal; or that it is done; or its figures, of lines all that are then held
pub data Answer : Type 0 where
  refused : RefusalNumbers → Answer
  accepted : Answer
  net_position : ℤ → ℤ → Answer
  set_off_lines : List SetOffLine → Answer
  margin_lines : List ReportLine → ℕ → Answer

-- Checks, in their order. An opening is allowed in both stages, a booking in stage open;
abbrev pub opening_checks : ℕ → List (Bool × Refusal)
opening_checks n = (outside 1 most_members n, MemberCount) ∷ []

abbrev pub open_checks : Ledger → Booking → List (Bool × Refusal)
open_checks l b = (struck l, WrongStage) ∷ booking_checks l b

-- so is a strike, and a reopening in stage struck;
abbrev pub strike_checks : Ledger → List (Bool × Refusal)
strike_checks l = (struck l, WrongStage) ∷ []

abbrev pub reopening_checks : Ledger → List (Bool × Refusal)
reopening_checks l = (not (struck l), WrongStage) ∷ []

-- both by the event;
abbrev pub event_checks : Ledger → Event → List (Bool × Refusal)
event_checks l Strike = strike_checks l
event_checks l Reopening = reopening_checks l

-- the questions in both,
abbrev pub position_checks : Ledger → ℕ → ℕ → List (Bool × Refusal)
position_checks l seat code = (outside 1 l.members seat, NoSuchSeat) ∷ (not (is_listed l code), NotListed) ∷ []

-- a surplus to share and no volume on the major side, in the series of a code
abbrev pub without_volume : ℕ → Option Row → Bool
without_volume n None = false
without_volume n (Some s) = no_volume_of n s

abbrev pub set_off_checks : Ledger → ℕ → List SetOffLine → List (Bool × Refusal)
set_off_checks l code lines =
    (not (is_listed l code), NotListed)
    ∷ (nat_lt (length lines) l.members, TooLittleRoom)
    ∷ (without_volume l.members (row_at l.rows code), NoVolume)
    ∷ []

-- and the margin call in stage struck
abbrev pub margin_checks : Ledger → List ReportLine → List (Bool × Refusal)
margin_checks l lines =
    (not (struck l), WrongStage)
    ∷ (nat_lt (length lines) l.members, TooLittleRoom)
    ∷ (any_no_volume l.members l.rows, NoVolume)
    ∷ (too_large l, TotalsTooLarge)
    ∷ []

-- the cause that is found, by its four numbers
abbrev pub refusal_for : Option Refusal → List RefusalNumbers
refusal_for None = []
refusal_for (Some c) = plain_numbers c ∷ []

abbrev pub found : List (Bool × Refusal) → List RefusalNumbers
found checks = refusal_for (first_found checks)

-- the refusals that a call deserves: none where it is accepted, else one, and of a load one for each record with a field
-- outside its limits
abbrev pub refusals : Ledger → Call → List RefusalNumbers
refusals l (opening n) = found (opening_checks n)
refusals l (listing s) = found (open_checks l (lists s))
refusals l (dealing d) = found (open_checks l (deals d))
refusals l (repricing r) = found (open_checks l (reprices r))
refusals l (loading file) = map fault_numbers (load_faults l file)
refusals l strike = found (strike_checks l)
refusals l reopening = found (reopening_checks l)
refusals l (position seat code) = found (position_checks l seat code)
refusals l (set_off code lines) = found (set_off_checks l code lines)
refusals l (margin_call m lines) = found (margin_checks l lines)

-- the ledger in another stage, with all positions kept
abbrev pub in_stage : Stage → Ledger → Ledger
in_stage stage l = record { stage = stage; members = l.members; rows = l.rows }

-- what an accepted call changes; questions and margin calls change nothing, and a load counts as its records in file order
abbrev pub changed : Ledger → Call → Ledger
changed l (opening n) = opened n
changed l (listing s) = booked l (lists s)
changed l (dealing d) = booked l (deals d)
changed l (repricing r) = booked l (reprices r)
changed l (loading file) = booked_all l (map (λ r. r.booking) (records_of file))
changed l strike = in_stage Struck l
changed l reopening = in_stage Open l
changed l (position seat code) = l
changed l (set_off code lines) = l
changed l (margin_call m lines) = l

-- the position of a seat in a series
abbrev pub held_in : Option Row → ℕ → Net
held_in None seat = flat
held_in (Some s) seat = net_of s seat

abbrev pub position_figures : Ledger → ℕ → ℕ → ℤ × ℤ
position_figures l seat code = let p = held_in (row_at l.rows code) seat in (p.volume, p.cost)

-- the lines after a set-off question
abbrev pub set_off_written : ℕ → Option Row → List SetOffLine → List SetOffLine
set_off_written n None lines = lines
set_off_written n (Some s) lines = over_lines n (set_off_line n s) lines

-- the lines after a margin call
abbrev pub report_written : Meaning → Ledger → List ReportLine → List ReportLine
report_written m l lines = over_lines l.members (report_line m l) lines

-- what an accepted call answers
abbrev pub figures : Ledger → Call → Answer
figures l (opening n) = accepted
figures l (listing s) = accepted
figures l (dealing d) = accepted
figures l (repricing r) = accepted
figures l (loading file) = accepted
figures l strike = accepted
figures l reopening = accepted
figures l (position seat code) = let p = held_in (row_at l.rows code) seat in net_position p.volume p.cost
figures l (set_off code lines) = set_off_lines (set_off_written l.members (row_at l.rows code) lines)
figures l (margin_call m lines) = margin_lines (report_written m l lines) (called m l)

-- The results of the code as answers. A call that is done, a load, the position question; and the calls that write lines,
-- with the lines that are held then.
abbrev pub plain_answer : Result (Unit {0}) Refusal → Answer
plain_answer (Ok _) = accepted
plain_answer (Err r) = refused (plain_numbers r)

abbrev pub load_answer : Result (Unit {0}) LoadFault → Answer
load_answer (Ok _) = accepted
load_answer (Err f) = refused (fault_numbers f)

abbrev pub position_answer : Result (ℤ × ℤ) Refusal → Answer
position_answer (Ok p) = net_position p.0 p.1
position_answer (Err r) = refused (plain_numbers r)

abbrev pub set_off_answer : Result (Unit {0}) Refusal → List SetOffLine → Answer
set_off_answer (Ok _) lines = set_off_lines lines
set_off_answer (Err r) lines = refused (plain_numbers r)

abbrev pub margin_answer : Result ℕ Refusal → List ReportLine → Answer
margin_answer (Ok total) lines = margin_lines lines total
margin_answer (Err r) lines = refused (plain_numbers r)

-- A refused call changes nothing: neither the ledger,
abbrev pub kept_if : {X : Type 0} → List RefusalNumbers → X → X → X
kept_if [] new old = new
kept_if (r ∷ rs) new old = old

abbrev pub ledger_after : Ledger → Call → Ledger
ledger_after l c = kept_if (refusals l c) (changed l c) l

-- nor the lines that were handed in
abbrev pub set_off_held : Ledger → ℕ → List SetOffLine → List SetOffLine
set_off_held l code lines = kept_if (refusals l (set_off code lines)) (set_off_written l.members (row_at l.rows code) lines) lines

abbrev pub report_held : Meaning → Ledger → List ReportLine → List ReportLine
report_held m l lines = kept_if (refusals l (margin_call m lines)) (report_written m l lines) lines

-- a refusal by one of these
abbrev pub RefusedBy : RefusalNumbers → List RefusalNumbers → Answer → Type 0
RefusedBy r [] a = a ≡ refused r
RefusedBy r (s ∷ ss) a = (a ≡ refused r) ⊎ RefusedBy s ss a

-- an answer is right if it is what the ledger gives: its figures where no cause is found, else a refusal that is deserved
abbrev pub Given : List RefusalNumbers → Answer → Answer → Type 0
Given [] figures a = a ≡ figures
Given (r ∷ rs) figures a = RefusedBy r rs a

abbrev pub Right : Ledger → Call → Answer → Type 0
Right l c a = Given (refusals l c) (figures l c) a
