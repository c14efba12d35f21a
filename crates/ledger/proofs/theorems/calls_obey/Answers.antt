use Rattle.ledger.proofs.Calls.{calls_obey}
use Rattle.ledger.proofs.theorems.calls_obey.Goals as goal

pub returns : goal.returns
returns c = calls_obey
