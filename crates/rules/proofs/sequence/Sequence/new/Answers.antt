use Rattle.std.proofs.Common.{refl}
use Rattle.rules.specs.Sequences.{full_order}
use Rattle.rules.proofs.sequence.Sequence.new.Goals as goal

pub invariant_of-result : goal.invariant_of-result
unfolding full_order
invariant_of-result c = record { full = refl }
