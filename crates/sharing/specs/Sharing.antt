-- How an amount is shared among claims by their weights, and when it is refused.
use Rattle.std.specs.Prelude.{ℕ, ◌+◌, ◌-◌, ◌*◌, ◌/◌, ◌%◌, Bool, cond, ◌&&◌, ◌||◌, List, [], ◌∷◌, length, take, Some, None, Ok, Err, Option, Result, ◌==◌, nat_lt}
use Rattle.sharing.specs.declared.refusal.Refusal.{Refusal}
use Rattle.sharing.specs.declared.refusal.Refusal.TheVariants.{CannotShare}
use Rattle.sharing.specs.Lists.{total, repeated, made}

-- the limits: the largest amount, and the largest sum of weights
abbrev pub most_amount : ℕ
most_amount = 100000000000000000

abbrev pub most_weight : ℕ
most_weight = 3000000000

-- what claims that weigh c of the whole w have of the amount: with q and m, the quotient and the remainder of the
-- amount by w, it is c × q and the whole part of c × m / w (a quotient by 0 is 0, so where there is no weight it is 0)
abbrev pub portion : ℕ → ℕ → ℕ → ℕ
portion amount w c = c * (amount / w) + c * (amount % w) / w

-- the running share: what the first i claims have together
abbrev pub running : List ℕ → ℕ → ℕ → ℕ
running weights amount i = portion amount (total weights) (total (take i weights))

-- a claim's share: its running share less the one before it
abbrev pub share : List ℕ → ℕ → ℕ → ℕ
share weights amount i = running weights amount (i + 1) - running weights amount i

abbrev pub shares : List ℕ → ℕ → List ℕ
shares weights amount = made (length weights) (share weights amount)

-- an amount cannot be shared if it or the sum of the weights is above its limit, if there is something to share and no
-- weight, or if two claims belong to one owner
abbrev pub unshareable : List ℕ → List ℕ → ℕ → Bool
unshareable owners weights amount =
    nat_lt most_amount amount || (nat_lt most_weight (total weights) || ((nat_lt 0 amount && total weights == 0) || repeated owners))

-- the answer
abbrev pub shared : List ℕ → List ℕ → ℕ → Result (Unit {0}) Refusal
shared owners weights amount = cond (unshareable owners weights amount) (Err CannotShare) (Ok tt)

-- each claim with the share at its place written into it
abbrev pub each_given : {C : Type 0} → (C → ℕ → C) → List C → List ℕ → List C
each_given give [] ss = []
each_given give (c ∷ cs) [] = c ∷ cs
each_given give (c ∷ cs) (s ∷ ss) = give c s ∷ each_given give cs ss

-- the claims after the answer: with their shares, or as they were
abbrev pub settled : {C : Type 0} → Result (Unit {0}) Refusal → (C → ℕ → C) → List C → List ℕ → List C
settled (Ok _) give claims ss = each_given give claims ss
settled (Err _) give claims ss = claims

-- On the way to the answer: a sum, unless it is above the limit on weights,
abbrev pub limited : ℕ → Option ℕ
limited n = cond (nat_lt most_weight n) None (Some n)

-- and the sum of the weights, where the amount can be shared by them
abbrev pub weighed : List ℕ → List ℕ → ℕ → Result ℕ Refusal
weighed owners weights amount = cond (unshareable owners weights amount) (Err CannotShare) (Ok (total weights))
