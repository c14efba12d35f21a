use Rattle.ledger.proofs.Numbered.{kinds_numbered}
use Rattle.ledger.proofs.theorems.kinds_stand.Goals as goal

pub returns : goal.returns
returns c = kinds_numbered
