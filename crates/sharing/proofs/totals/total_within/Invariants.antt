use Rattle.std.proofs.Common.{◌≡◌, ◌+◌, ◌≤◌, map, drop}
use Rattle.sharing.specs.Lists.{total}
use Rattle.sharing.proofs.totals.total_within.Given as goal

abbrev pub invariant-loop-item : goal.invariant-loop-item
invariant-loop-item g l = let f = g.T.Weighed.weighs in (l.sum ≤ 3000000000) × (l.sum + total (map f (drop l.item-index l.items)) ≡ total (map f l.items))
