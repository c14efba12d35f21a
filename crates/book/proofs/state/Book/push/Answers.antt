use Rattle.std.proofs.Common.{◌<◌, List, ap, arith}
use Rattle.std.proofs.lemmas.Bool.Decides.{nat_tests}
use Rattle.ledger.specs.Ledger.{Row}
use Rattle.book.proofs.Places.{rows_push}
use Rattle.book.proofs.state.Book.push.Goals as goal

pub returns-clause-pushes : goal.returns-clause-pushes
returns-clause-pushes c =
    let b = c.args.self.now in
    let room : b.count < 48 = grind (arith, nat_tests) in
    ap (λ (rs : List Row). record { stage = b.stage; members = b.members; rows = rs }) (rows_push b c.args.series (omega (arith, b.room)))
