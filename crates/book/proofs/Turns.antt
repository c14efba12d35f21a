-- What each call owes beside its narrow clauses: any run goes on with it.
use Rattle.std.proofs.Common.{◌≡◌, ℕ, Bool, false, cond, List, [], ◌∷◌, Some, None, Ok, Option, Result, sym, refl, ap, ◌∙◌, subst, arith}
use Rattle.sharing.specs.declared.refusal.Refusal.{Refusal}
use Rattle.sharing.specs.declared.refusal.Refusal.TheVariants.{WrongStage}
use Rattle.ledger.specs.declared.fault.RefusalNumbers.{RefusalNumbers}
use Rattle.ledger.specs.declared.lines.SetOffLine.{SetOffLine}
use Rattle.ledger.specs.Checks.{first_found, unless, decided}
use Rattle.ledger.specs.Ledger.{Ledger, struck, row_at}
use Rattle.ledger.specs.Bookings.{Booking, booking_checks}
use Rattle.ledger.specs.Calls.{Call, set_off, accepted, set_off_lines, open_checks, set_off_checks, found, refusal_for, refusals, changed, figures, set_off_written, plain_answer, set_off_answer, kept_if, set_off_held, Given}
use Rattle.ledger.specs.Runs.{LawfulIn, Turned}
use Rattle.ledger.proofs.Runs.{goes_on}
use Rattle.book.specs.Booked.{done_if}

-- a call that is done or refused, by its checks
module _ (l : Ledger) (c : Call) (lawful : LawfulIn c) (ps : List (Bool × Refusal)) (checked : refusals l c ≡ found ps) where
  pub done_turned : figures l c ≡ accepted → (r : Result (Unit {0}) Refusal) → r ≡ decided ps tt
      → (l' : Ledger) → l' ≡ done_if r (changed l c) l → Turned l c (plain_answer r) l'
  done_turned shown r e l' after =
      goes_on l c (plain_answer r) l' lawful
      (subst (λ rs. Given rs (figures l c) (plain_answer r)) (sym checked) (right (first_found ps) e))
      (after ∙ kept (first_found ps) e ∙ sym (ap (λ rs. kept_if rs (changed l c) l) checked))
    where
      right : (o : Option Refusal) → r ≡ unless o tt → Given (refusal_for o) (figures l c) (plain_answer r)
      right None e = ap plain_answer e ∙ sym shown
      right (Some x) e = ap plain_answer e

      kept : (o : Option Refusal) → r ≡ unless o tt → done_if r (changed l c) l ≡ kept_if (refusal_for o) (changed l c) l
      kept None e = ap (λ (x : Result (Unit {0}) Refusal). done_if x (changed l c) l) e
      kept (Some x) e = ap (λ (y : Result (Unit {0}) Refusal). done_if y (changed l c) l) e

-- a booking in stage open
pub booking_decided : (l : Ledger) (b : Booking) (r : Result (Unit {0}) Refusal) → false ≡ struck l → r ≡ decided (booking_checks l b) tt → r ≡ decided (open_checks l b) tt
booking_decided l b r here e = e ∙ ap (λ (q : Bool). unless (cond q (Some WrongStage) (first_found (booking_checks l b))) tt) here

-- the set-off question, by its answer and the lines that it leaves
pub set_off_turned : (l : Ledger) (code : ℕ) (lines held : List SetOffLine) (r : Result (Unit {0}) Refusal) → r ≡ decided (set_off_checks l code lines) tt
    → held ≡ set_off_held l code lines → Turned l (set_off code lines) (set_off_answer r held) l
set_off_turned l code lines held r e f =
    goes_on l (set_off code lines) (set_off_answer r held) l tt (right (first_found (set_off_checks l code lines)) e f) (same (refusals l (set_off code lines)))
  where
    written : List SetOffLine
    written = set_off_written l.members (row_at l.rows code) lines

    right : (o : Option Refusal) → r ≡ unless o tt → held ≡ kept_if (refusal_for o) written lines → Given (refusal_for o) (set_off_lines written) (set_off_answer r held)
    right None e f = ap (λ (x : Result (Unit {0}) Refusal). set_off_answer x held) e ∙ ap set_off_lines f
    right (Some x) e f = ap (λ (y : Result (Unit {0}) Refusal). set_off_answer y held) e

    same : (rs : List RefusalNumbers) → l ≡ kept_if rs l l
    same [] = refl
    same (n ∷ ns) = refl

-- what an accepted call leaves
pub kept_new : {X : Type 0} (ps : List (Bool × Refusal)) (new old : X) → ◌≡◌ {A = Result (Unit {0}) Refusal} (Ok tt) (decided ps tt) → new ≡ kept_if (found ps) new old
kept_new ps new old e = by (first_found ps) e
  where
    by : (o : Option Refusal) → ◌≡◌ {A = Result (Unit {0}) Refusal} (Ok tt) (unless o tt) → new ≡ kept_if (refusal_for o) new old
    by None e = refl
    by (Some x) e = let z : ◌≡◌ {A = ℕ} 0 1 = cc in absurd (omega arith)
