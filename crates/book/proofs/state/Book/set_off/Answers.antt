use Rattle.std.proofs.Common.{◌≡◌, Ok, Result, ◌∙◌, rules}
use Rattle.sharing.specs.declared.refusal.Refusal.{Refusal}
use Rattle.ledger.specs.Checks.{decided}
use Rattle.ledger.specs.Ledger.{row_at}
use Rattle.ledger.specs.Calls.{set_off_checks, set_off_written, set_off_held}
use Rattle.book.specs.Views.{ledger_of}
use Rattle.book.proofs.Lines.{lines_found}
use Rattle.book.proofs.Turns.{kept_new, set_off_turned}
use Rattle.book.proofs.state.Book.set_off.Goals as goal

pub returns-in_err-margins : goal.returns-in_err-margins
returns-in_err-margins c =
    let l = ledger_of c.args.self.now in let code = c.args.code in let old = c.args.lines.now in
    let row = c.in-Some.ensures.found.row c.index-self-place.result in
    let e : c.from_residual.result ≡ decided (set_off_checks l code old) tt = search rules in
    let f : old ≡ set_off_held l code old = search rules in
    record { answers = e; writes = f; turned = set_off_turned l code old old c.from_residual.result e f }

pub returns : goal.returns
returns c =
    let l = ledger_of c.args.self.now in let code = c.args.code in let old = c.args.lines.now in
    let row = c.in-Some.ensures.found.row c.index-self-place.result in
    let e : ◌≡◌ {A = Result (Unit {0}) Refusal} (Ok tt) (decided (set_off_checks l code old) tt) = search rules in
    let wrote = lines_found l.members c.args.self.now.peopled.1 _ c.in_ok-margins.margins (row_at l.rows code) old
    c.write_members.new.lines c.in_ok-margins.ensures row c.write_members.ensures in
    let f = wrote ∙ kept_new (set_off_checks l code old) (set_off_written l.members (row_at l.rows code) old) old e in
    record { answers = e; writes = f; turned = set_off_turned l code old c.write_members.new.lines (Ok tt) e f }
