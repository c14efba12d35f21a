use Rattle.ledger.proofs.SetOffs.{set_off_law}
use Rattle.ledger.proofs.theorems.set_off_stands.Goals as goal

pub returns : goal.returns
returns c = set_off_law
