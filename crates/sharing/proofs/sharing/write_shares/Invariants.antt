use Rattle.std.proofs.Common.{◌≡◌, ◌+◌, ◌++◌, map, take, drop}
use Rattle.sharing.specs.Lists.{total}
use Rattle.sharing.specs.Sharing.{each_given}
use Rattle.sharing.proofs.Portions.{so_far}
use Rattle.sharing.proofs.Shares.{shares_after}
use Rattle.sharing.proofs.sharing.write_shares.Given as goal

-- the weights before i are summed, their running share is known, and the claims before i have their shares
abbrev pub invariant-loop-claim : goal.invariant-loop-claim
invariant-loop-claim g l =
    let f = g.T.Weighed.weighs in let give = g.T.WeighedClaim.given in
    (l.sum + total (map f (drop l.claim-index l.claims)) ≡ l.sharing.whole)
    × (l.running ≡ so_far l.sharing.amount l.sharing.whole l.sum)
    × (take l.claim-index l.claims ++ each_given give (drop l.claim-index l.claims) (shares_after l.sharing.amount l.sharing.whole l.sum (map f (drop l.claim-index l.claims)))
    ≡ each_given give l.initial.claims (shares_after l.sharing.amount l.sharing.whole 0 (map f l.initial.claims)))
