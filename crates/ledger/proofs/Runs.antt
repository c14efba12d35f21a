-- The law over runs: a right call goes on with any run.
use Rattle.std.proofs.Common.{◌≡◌, ℕ, ◌≤◌, Bool, true, false, cond, List, [], ◌∷◌, map, take, drop, Some, sym, refl, ap, ◌∙◌, subst, ⊎_elim, arith}
use Rattle.std.proofs.lemmas.List.{take_at}
use Rattle.std.proofs.lemmas.Bool.Decides.{nat_tests}
use Rattle.sharing.specs.Lists.{made}
use Rattle.sharing.proofs.Made.{length_made}
use Rattle.rules.specs.Division.{Meaning, Lawful}
use Rattle.ledger.specs.declared.fault.RefusalNumbers.{RefusalNumbers}
use Rattle.ledger.specs.declared.fault.LoadFault.TheVariants.{WrongStage}
use Rattle.ledger.specs.declared.stage.Stage.{Stage}
use Rattle.ledger.specs.declared.stage.Stage.TheVariants.{Open, Struck}
use Rattle.ledger.specs.declared.lines.ReportLine.{ReportLine}
use Rattle.ledger.specs.Limits.{outside}
use Rattle.ledger.specs.Checks.{or_else, first_found}
use Rattle.ledger.specs.Ledger.{Ledger, opened, unopened, struck}
use Rattle.ledger.specs.Bookings.{Booking, lists, deals, reprices, booked, booked_all}
use Rattle.ledger.specs.Margins.{report_line, needed, too_large, called}
use Rattle.ledger.specs.Files.{records_of, wrong_records, refused_record, contents_checks}
use Rattle.ledger.specs.Calls.{Call, opening, listing, dealing, repricing, loading, strike, reopening, position, set_off, margin_call, Answer, opening_checks, open_checks, margin_checks, refusals, changed, figures, report_written, in_stage, kept_if, ledger_after, RefusedBy, Given, Right}
use Rattle.ledger.specs.Obeys.{Obeys, Obeyed}
use Rattle.ledger.specs.History.{latest, stage_set, members_set, bookings, Within, AsBooked, History}
use Rattle.ledger.specs.Runs.{Turn, ledger, taken, accepted_calls, LawfulIn, Ran}
use Rattle.ledger.specs.Theorems.{RunsObey, RunsTell, Begins, GoesOn}
use Rattle.ledger.proofs.Checks.{Clear, found_clear, none_refused}
use Rattle.ledger.proofs.Calls.{obeys}
use Rattle.ledger.proofs.Histories.{booking_kept, records_kept, opened_kept}

-- an answer that is deserved by refusals is one
refused_not_taken : (r : RefusalNumbers) (rs : List RefusalNumbers) (a : Answer) → RefusedBy r rs a → taken a ≡ false
refused_not_taken r [] a e = ap taken e
refused_not_taken r (s ∷ ss) a h = ⊎_elim (λ e. ap taken e) (λ more. refused_not_taken s ss a more) h

refused_obeyed : (l : Ledger) (r : RefusalNumbers) (rs : List RefusalNumbers) (a : Answer) → RefusedBy r rs a → Obeyed l a
refused_obeyed l r [] a e = subst (λ x. Obeyed l x) (sym e) tt
refused_obeyed l r (s ∷ ss) a h = ⊎_elim (λ e. subst (λ x. Obeyed l x) (sym e) tt) (λ more. refused_obeyed l s ss a more) h

taken_figures : (l : Ledger) (c : Call) → taken (figures l c) ≡ true
taken_figures l (opening n) = refl
taken_figures l (listing s) = refl
taken_figures l (dealing d) = refl
taken_figures l (repricing r) = refl
taken_figures l (loading file) = refl
taken_figures l strike = refl
taken_figures l reopening = refl
taken_figures l (position seat code) = refl
taken_figures l (set_off code lines) = refl
taken_figures l (margin_call m lines) = refl

-- the same series in another stage
restaged : (bs : List Booking) (l : Ledger) (stage : Stage) → AsBooked bs l → AsBooked bs (in_stage stage l)
restaged bs l stage h = record {
  order = h.order;
  apart = h.apart;
  series = h.series;
  within = record { members = h.within.members; few = h.within.few; each = h.within.each };
}

fresh : (n : ℕ) → Clear (opening_checks n) → Within (opened n)
fresh n ok =
    let w : false ≡ outside 1 8 n = ok.0 in
    record { members = (grind (arith, nat_tests), grind (arith, nat_tests)); few = omega arith; each = tt }

all_members : (l : Ledger) (bs : List Booking) → (booked_all l bs).members ≡ l.members
all_members l [] = refl
all_members l (b ∷ bs) = all_members (booked l b) bs

all_stage : (l : Ledger) (bs : List Booking) → (booked_all l bs).stage ≡ l.stage
all_stage l [] = refl
all_stage l (b ∷ bs) = all_stage (booked l b) bs

-- one accepted call
module _ (cs : List Call) (l : Ledger) (h : History cs l) where
  stage_told : (c : Call) → Some (changed l c).stage ≡ or_else (latest stage_set (c ∷ cs)) (Some Open)
  stage_told (opening n) = refl
  stage_told (listing s) = h.stage
  stage_told (dealing d) = h.stage
  stage_told (repricing r) = h.stage
  stage_told (loading file) = ap Some (all_stage l (map (λ r. r.booking) (records_of file))) ∙ h.stage
  stage_told strike = refl
  stage_told reopening = refl
  stage_told (position seat code) = h.stage
  stage_told (set_off code lines) = h.stage
  stage_told (margin_call m lines) = h.stage

  members_told : (c : Call) → Some (changed l c).members ≡ or_else (latest members_set (c ∷ cs)) (Some 1)
  members_told (opening n) = refl
  members_told (listing s) = h.members
  members_told (dealing d) = h.members
  members_told (repricing r) = h.members
  members_told (loading file) = ap Some (all_members l (map (λ r. r.booking) (records_of file))) ∙ h.members
  members_told strike = h.members
  members_told reopening = h.members
  members_told (position seat code) = h.members
  members_told (set_off code lines) = h.members
  members_told (margin_call m lines) = h.members

  booked_told : (c : Call) → refusals l c ≡ [] → AsBooked (bookings (c ∷ cs)) (changed l c)
  booked_told (opening n) ok = opened_kept (opened n) refl (fresh n (found_clear (opening_checks n) ok))
  booked_told (listing s) ok = booking_kept l (bookings cs) (lists s) (found_clear (open_checks l (lists s)) ok).1 h.booked
  booked_told (dealing d) ok = booking_kept l (bookings cs) (deals d) (found_clear (open_checks l (deals d)) ok).1 h.booked
  booked_told (repricing r) ok = booking_kept l (bookings cs) (reprices r) (found_clear (open_checks l (reprices r)) ok).1 h.booked
  booked_told (loading file) ok =
      records_kept (records_of file) l (bookings cs)
      (none_refused (first_found ((struck l, WrongStage) ∷ contents_checks file)) (wrong_records (records_of file)) (refused_record l (records_of file)) ok)
      h.booked
  booked_told strike ok = restaged (bookings cs) l Struck h.booked
  booked_told reopening ok = restaged (bookings cs) l Open h.booked
  booked_told (position seat code) ok = h.booked
  booked_told (set_off code lines) ok = h.booked
  booked_told (margin_call m lines) ok = h.booked

-- one call, accepted or refused
history_more : (run : List Turn) (l : Ledger) (c : Call) (a : Answer) → Right l c a → History (accepted_calls run) l
    → History (accepted_calls (record { call = c; answered = a } ∷ run)) (ledger_after l c)
history_more run l c a right h = by (refusals l c) refl right
  where
    by : (rs : List RefusalNumbers) → refusals l c ≡ rs → Given rs (figures l c) a
        → History (cond (taken a) (c ∷ accepted_calls run) (accepted_calls run)) (kept_if rs (changed l c) l)
    by [] none e =
        let cs = accepted_calls run in
        subst (λ (q : Bool). History (cond q (c ∷ cs) cs) (changed l c)) (sym (ap taken e ∙ taken_figures l c))
        (record { stage = stage_told cs l h c; members = members_told cs l h c; booked = booked_told cs l h c none })
    by (r ∷ rs) some e =
        let cs = accepted_calls run in
        subst (λ (q : Bool). History (cond q (c ∷ cs) cs) l) (sym (refused_not_taken r rs a e)) h

unopened_told : History [] unopened
unopened_told = record {
  stage = refl;
  members = refl;
  booked = opened_kept unopened refl (record { members = (omega arith, omega arith); few = omega arith; each = tt });
}

pub runs_tell : RunsTell
runs_tell [] right = unopened_told
runs_tell (t ∷ run) right = history_more run (ledger run) t.call t.answered right.0 (runs_tell run right.1)

-- the figures of a margin call that is not refused
call_obeys : (m : Meaning) (lines : List ReportLine) (l : Ledger) → Lawful m → refusals l (margin_call m lines) ≡ [] → Within l → Obeyed l (figures l (margin_call m lines))
call_obeys m lines l lawful ok w =
    let clear = found_clear (margin_checks l lines) ok in
    let large : false ≡ too_large l = clear.1.1.1.0 in
    let fits : needed l ≤ 3000000000 = grind (arith, nat_tests) in
    let front : take l.members (report_written m l lines) ≡ made l.members (report_line m l)
    = take_at (made l.members (report_line m l)) (drop l.members lines) l.members (length_made (report_line m l) l.members) in
    subst (λ xs. Obeys l xs (called m l)) (sym front) (obeys l m lawful w.members.0 w.members.1 fits)

figures_obeyed : (l : Ledger) (c : Call) → LawfulIn c → refusals l c ≡ [] → Within l → Obeyed l (figures l c)
figures_obeyed l (opening n) lawful ok w = tt
figures_obeyed l (listing s) lawful ok w = tt
figures_obeyed l (dealing d) lawful ok w = tt
figures_obeyed l (repricing r) lawful ok w = tt
figures_obeyed l (loading file) lawful ok w = tt
figures_obeyed l strike lawful ok w = tt
figures_obeyed l reopening lawful ok w = tt
figures_obeyed l (position seat code) lawful ok w = tt
figures_obeyed l (set_off code lines) lawful ok w = tt
figures_obeyed l (margin_call m lines) lawful ok w = call_obeys m lines l lawful ok w

obeyed : (l : Ledger) (c : Call) (a : Answer) → LawfulIn c → Right l c a → Within l → Obeyed l a
obeyed l c a lawful right w = by (refusals l c) refl right
  where
    by : (rs : List RefusalNumbers) → refusals l c ≡ rs → Given rs (figures l c) a → Obeyed l a
    by [] none e = subst (λ x. Obeyed l x) (sym e) (figures_obeyed l c lawful none w)
    by (r ∷ rs) some e = refused_obeyed l r rs a e

pub runs_obey : RunsObey
runs_obey [] lawful right = tt
runs_obey (t ∷ run) lawful right =
    (obeyed (ledger run) t.call t.answered lawful.0 right.0 (runs_tell run right.1).booked.within, runs_obey run lawful.1 right.1)

pub begins : Begins
begins = record { stands = refl; right = tt; obeyed = tt; history = unopened_told }

run_more : (run : List Turn) (l : Ledger) (c : Call) (a : Answer) → LawfulIn c → Right l c a → Ran run l → Ran (record { call = c; answered = a } ∷ run) (ledger_after l c)
run_more run l c a lawful right ran = record {
  stands = ap (λ k. ledger_after k c) ran.stands;
  right = (subst (λ k. Right k c a) ran.stands right, ran.right);
  obeyed = (subst (λ k. Obeyed k a) ran.stands (obeyed l c a lawful right ran.history.booked.within), ran.obeyed);
  history = history_more run l c a right ran.history;
}

pub goes_on : GoesOn
goes_on l c a l' lawful right after = record {
  answers = right;
  turns = after;
  runs = λ run ran. subst (λ k. Ran (record { call = c; answered = a } ∷ run) k) (sym after) (run_more run l c a lawful right ran);
}
