-- One surplus divided by a rule, and by two rules. Needs, shares and calls are listed by seat, in zloty.
use Rattle.std.specs.Prelude.{◌≡◌, ℕ, ◌+◌, ◌-◌, cond, List, Ok, Err, Result, slice_index}
use Rattle.sharing.specs.declared.refusal.Refusal.{Refusal}
use Rattle.sharing.specs.declared.refusal.Refusal.TheVariants.{CannotShare}
use Rattle.sharing.specs.Lists.{total, made}
use Rattle.rules.specs.Division.{Meaning, undividable}
use Rattle.checklist.specs.declared.division.Division.{Division}
use Rattle.checklist.specs.declared.division.Part.{Part}

-- a call is a need less its share
abbrev pub calls : List ℕ → List ℕ → List ℕ
calls needs parts = made 8 (λ k. slice_index needs k - slice_index parts k)

-- by seat: a need, its share and its call
abbrev pub parts_of : List ℕ → List ℕ → List Part
parts_of needs shares = made 8 (λ k. record { need = slice_index needs k; share = slice_index shares k; call = slice_index needs k - slice_index shares k })

-- the shares and calls of a rule, and their sums
abbrev pub division_of : List ℕ → List ℕ → Division
division_of needs shares = record { parts = parts_of needs shares; needed = total needs; shared = total shares; called = total (calls needs shares) }

abbrev pub outcome : Meaning → List ℕ → ℕ → Result Division Refusal
outcome meaning needs amount = cond (undividable needs amount) (Err CannotShare) (Ok (division_of needs (meaning needs amount)))

-- by one rule and by another
abbrev pub both : Meaning → Meaning → List ℕ → ℕ → Result (Division × Division) Refusal
both first second needs amount =
    cond (undividable needs amount) (Err CannotShare) (Ok (division_of needs (first needs amount), division_of needs (second needs amount)))

-- the shares sum to the amount, and the calls to what the needs exceed it by
abbrev pub AddsUp : List ℕ → ℕ → Result Division Refusal → Type 0
AddsUp needs amount (Ok d) = (d.shared ≡ amount) × (d.called + amount ≡ total needs)
AddsUp needs amount (Err e) = Unit {0}

-- no total differs
abbrev pub SameTotals : Result (Division × Division) Refusal → Type 0
SameTotals (Ok d) = (d.0.needed ≡ d.1.needed) × (d.0.shared ≡ d.1.shared) × (d.0.called ≡ d.1.called)
SameTotals (Err e) = Unit {0}
