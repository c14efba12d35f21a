use Rattle.ledger.proofs.Fits.{ledgers_fit, deals_fit, shares_fit}
use Rattle.ledger.proofs.theorems.figures_fit.Goals as goal

pub returns : goal.returns
returns c = record { ledgers = ledgers_fit; deals = deals_fit; shares = shares_fit }
