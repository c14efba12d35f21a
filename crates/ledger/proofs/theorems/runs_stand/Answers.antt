use Rattle.ledger.proofs.Runs.{runs_obey, runs_tell, begins, goes_on}
use Rattle.ledger.proofs.theorems.runs_stand.Goals as goal

pub returns : goal.returns
returns c = record { obey = runs_obey; tell = runs_tell; begins = begins; goes_on = goes_on }
