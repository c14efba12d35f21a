-- What a division rule means, what it owes, and when it refuses. Needs and shares are listed by seat.
use Rattle.std.specs.Prelude.{◌≡◌, ℕ, ◌≤◌, Bool, cond, ◌||◌, List, length, Ok, Err, Result, nat_lt, slice_index}
use Rattle.sharing.specs.declared.refusal.Refusal.{Refusal}
use Rattle.sharing.specs.declared.refusal.Refusal.TheVariants.{CannotShare}
use Rattle.sharing.specs.Lists.{total}

-- of a rule as it is set: from the needs and the amount to the shares
abbrev pub Meaning : Type 0
Meaning = List ℕ → ℕ → List ℕ

-- the largest total of the needs, in zloty
abbrev pub most_needs : ℕ
most_needs = 3000000000

-- eight shares, each at most its need, that sum to the amount
pub record Fair (needs : List ℕ) (amount : ℕ) (parts : List ℕ) : Type 0 where
  pub seats : length parts ≡ 8
  pub within : (k : ℕ) → slice_index parts k ≤ slice_index needs k
  pub sum : total parts ≡ amount

-- a meaning is lawful if it is fair wherever a rule does not refuse
abbrev pub Lawful : Meaning → Type 0
Lawful meaning = (needs : List ℕ) (amount : ℕ) → length needs ≡ 8 → total needs ≤ most_needs → amount ≤ total needs → Fair needs amount (meaning needs amount)

-- a rule refuses if the needs total more than the limit, or the amount exceeds their total
abbrev pub undividable : List ℕ → ℕ → Bool
undividable needs amount = nat_lt most_needs (total needs) || nat_lt (total needs) amount

-- the answer
abbrev pub divided : Meaning → List ℕ → ℕ → Result (List ℕ) Refusal
divided meaning needs amount = cond (undividable needs amount) (Err CannotShare) (Ok (meaning needs amount))
