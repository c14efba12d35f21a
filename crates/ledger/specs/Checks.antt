-- Checks in order: each is a test with what it finds, and the first that finds something decides.
use Rattle.std.specs.Prelude.{Bool, cond, List, [], ◌∷◌, Some, None, Ok, Err, Option, Result}

abbrev pub first_found : {C : Type 0} → List (Bool × C) → Option C
first_found [] = None
first_found (p ∷ ps) = cond p.0 (Some p.1) (first_found ps)

-- the result of a call that answers x unless its checks find a cause
abbrev pub unless : {C X : Type 0} → Option C → X → Result X C
unless None x = Ok x
unless (Some c) x = Err c

abbrev pub decided : {C X : Type 0} → List (Bool × C) → X → Result X C
decided checks x = unless (first_found checks) x

-- the first of two that is there
abbrev pub or_else : {X : Type 0} → Option X → Option X → Option X
or_else None o = o
or_else (Some x) o = Some x
