use Rattle.sharing.proofs.Laws.{nothing_lost, none_below_zero, capped}
use Rattle.sharing.proofs.theorems.sharing_stands.Goals as goal

pub returns : goal.returns
returns c = record { lost = nothing_lost; below = none_below_zero; capped = capped }
