use Rattle.std.proofs.Common.{◌≡◌, map, length}
use Rattle.sharing.specs.Lists.{repeated}
use Rattle.sharing.proofs.sharing.owner_repeated.Given as goal

abbrev pub invariant-loop-claim : goal.invariant-loop-claim
invariant-loop-claim g l = let h = g.T.Owned.holder in repeated (map h l.rest) ≡ repeated (map h l.claims)

abbrev pub decreases-loop-claim : goal.decreases-loop-claim
decreases-loop-claim g l = length l.rest
