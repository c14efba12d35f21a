-- How a failed check is told.
use Rattle.std.specs.Prelude.{ℕ, List, ◌++◌, Some, None, Option, codes, decimal}
use Rattle.sharing.specs.Refusals.{number_of}
use Rattle.checklist.specs.declared.failure.Failure.{Failure}
use Rattle.checklist.specs.declared.failure.Failure.TheVariants.{Refused, TotalMoved, Output}

-- a refusal by its number; a failure of printing as it says
abbrev pub failure_text : Failure → Option (List ℕ)
failure_text (Refused r) = Some (codes "the module refused with " ++ decimal (number_of r))
failure_text TotalMoved = Some (codes "changing the rule moved a total")
failure_text (Output e) = None
