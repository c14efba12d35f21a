use Rattle.ledger.proofs.SetOffs.{majors_cover, always_volume}
use Rattle.ledger.proofs.theorems.majors_cover.Goals as goal

pub returns : goal.returns
returns c = record { volume = majors_cover; always = always_volume }
