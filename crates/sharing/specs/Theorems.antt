-- What the shares keep to, for every list of weights and every amount.
use Rattle.std.specs.Prelude.{◌≡◌, ℕ, ◌+◌, ◌*◌, ◌<◌, ◌≤◌, List, Ok, Err, Result, slice_index}
use Rattle.sharing.specs.declared.refusal.Refusal.{Refusal}
use Rattle.sharing.specs.Lists.{total}
use Rattle.sharing.specs.Sharing.{running, shares}

-- the shares sum to the amount, if there is weight wherever there is something to share
abbrev pub NothingLost : Type 0
NothingLost = (weights : List ℕ) (amount : ℕ) → (0 < amount → 0 < total weights) → total (shares weights amount) ≡ amount

-- no share is below zero: no running share is below the one before it
abbrev pub NoneBelowZero : Type 0
NoneBelowZero = (weights : List ℕ) (amount i : ℕ) → running weights amount i ≤ running weights amount (i + 1)

-- where the amount is at most c for each unit of weight, so is each share
abbrev pub Capped : Type 0
Capped = (weights : List ℕ) (amount c : ℕ) → amount ≤ c * total weights → (i : ℕ) → slice_index (shares weights amount) i ≤ c * slice_index weights i

-- what an accepted sharing leaves: shares by these weights that sum to the amount, each within every cap
pub record FairShares (weights : List ℕ) (amount : ℕ) (parts : List ℕ) : Type 0 where
  pub are : parts ≡ shares weights amount
  pub sum : total parts ≡ amount
  pub capped : (c : ℕ) → amount ≤ c * total weights → (i : ℕ) → slice_index parts i ≤ c * slice_index weights i

abbrev pub SharedFairly : Result (Unit {0}) Refusal → List ℕ → ℕ → List ℕ → Type 0
SharedFairly (Ok _) weights amount parts = FairShares weights amount parts
SharedFairly (Err _) weights amount parts = Unit {0}
