-- Checks that find nothing.
use Rattle.std.proofs.Common.{◌≡◌, ℕ, Bool, true, false, cond, List, [], ◌∷◌, map, Some, None, Option, refl, arith}
use Rattle.sharing.specs.declared.refusal.Refusal.{Refusal}
use Rattle.ledger.specs.declared.fault.LoadFault.{LoadFault}
use Rattle.ledger.specs.Numbers.{fault_numbers}
use Rattle.ledger.specs.Checks.{first_found}
use Rattle.ledger.specs.Files.{faults_by}
use Rattle.ledger.specs.Calls.{refusal_for, found}

-- every test fails
abbrev pub Clear : {C : Type 0} → List (Bool × C) → Type 0
Clear [] = Unit {0}
Clear (p ∷ ps) = (false ≡ p.0) × Clear ps

pub is_clear : {C : Type 0} (ps : List (Bool × C)) → first_found ps ≡ None → Clear ps
is_clear [] h = tt
is_clear (p ∷ ps) h = by p.0 p.1 (is_clear ps) h
  where
    by : (a : Bool) (x : _) → (first_found ps ≡ None → Clear ps) → cond a (Some x) (first_found ps) ≡ None → (false ≡ a) × Clear ps
    by true x more g = let z : ◌≡◌ {A = ℕ} 0 1 = cc in absurd (omega arith)
    by false x more g = (refl, more g)

pub none_found : (o : Option Refusal) → refusal_for o ≡ [] → o ≡ None
none_found None h = refl
none_found (Some c) h = let z : ◌≡◌ {A = ℕ} 0 1 = cc in absurd (omega arith)

pub found_clear : (ps : List (Bool × Refusal)) → found ps ≡ [] → Clear ps
found_clear ps h = is_clear ps (none_found (first_found ps) h)

none_mapped : {X Y : Type 0} (f : X → Y) (xs : List X) → map f xs ≡ [] → xs ≡ []
none_mapped f [] h = refl
none_mapped f (x ∷ xs) h = let z : ◌≡◌ {A = ℕ} 0 1 = cc in absurd (omega arith)

no_fault : (o : Option LoadFault) (wrong : List LoadFault) (p : Option LoadFault) → faults_by o wrong p ≡ [] → p ≡ None
no_fault (Some f) wrong p h = let z : ◌≡◌ {A = ℕ} 0 1 = cc in absurd (omega arith)
no_fault None (f ∷ fs) p h = let z : ◌≡◌ {A = ℕ} 0 1 = cc in absurd (omega arith)
no_fault None [] (Some f) h = let z : ◌≡◌ {A = ℕ} 0 1 = cc in absurd (omega arith)
no_fault None [] None h = refl

-- a load that deserves no refusal: the book refuses none of its records
pub none_refused : (o : Option LoadFault) (wrong : List LoadFault) (p : Option LoadFault) → map fault_numbers (faults_by o wrong p) ≡ [] → p ≡ None
none_refused o wrong p h = no_fault o wrong p (none_mapped fault_numbers (faults_by o wrong p) h)
