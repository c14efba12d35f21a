use Rattle.rules.specs.Turns.{served_more, served_all}
use Rattle.rules.proofs.sequence.Sequence.serve.Goals as goal

pub loop-seat-preserved : goal.loop-seat-preserved
loop-seat-preserved c =
    let s = c.args.self.now in
    rw c.from-place.ensures
    (served_more s.seats c.args.needs.now c.loop-seat.shares _ c.loop-seat.seat-index c.loop-seat.left c.min-share.result
    s.full c.loop-seat-test.true (rw c.from-place.ensures at c.min-share.ensures) c.loop-seat.invariant)

pub returns : goal.returns
returns c =
    let s = c.args.self.now in
    served_all s.seats c.args.needs.now c.loop-seat.shares _ c.loop-seat.seat-index c.loop-seat.left s.full c.loop-seat-test.false c.loop-seat.invariant
