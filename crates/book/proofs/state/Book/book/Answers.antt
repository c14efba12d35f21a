use Rattle.std.proofs.Common.{sym, ap, ◌∙◌, rules}
use Rattle.ledger.specs.Ledger.{Ledger}
use Rattle.ledger.specs.Calls.{open_checks}
use Rattle.book.specs.Views.{ledger_of}
use Rattle.book.specs.Booked.{done_if}
use Rattle.book.proofs.Turns.{booking_decided, done_turned}
use Rattle.book.proofs.state.Book.book.Goals as goal

pub returns-clause-turned : goal.returns-clause-turned
returns-clause-turned g c =
    let l = ledger_of c.args.self.now in
    let x = c.args.entry.now in
    let b = g.E.Entry.booking x in
    let law = g.met.E.Entry.called x in
    let e = booking_decided l b c.enter.result (search rules) c.enter.ensures.answers in
    done_turned l (g.E.Entry.call x) law.lawful (open_checks l b) (law.refused_by l) (law.answers l) c.enter.result e _
    (c.enter.ensures.books ∙ ap (λ (n : Ledger). done_if c.enter.result n l) (sym (law.changes l)))
