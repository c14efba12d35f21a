use Rattle.std.proofs.Common.{◌+◌}
use Rattle.rules.specs.Sequences.{in_turn}
use Rattle.rules.specs.Turns.{Served}
use Rattle.rules.proofs.sequence.Sequence.serve.Given as goal

abbrev pub invariant-loop-seat : goal.invariant-loop-seat
invariant-loop-seat l = Served l.self.seats l.needs (λ k. in_turn l.self.seats l.needs l.amount (k + 1)) l.seat-index l.left l.shares
