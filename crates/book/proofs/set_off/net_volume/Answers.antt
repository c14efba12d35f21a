use Rattle.std.proofs.Common.{ap, arith}
use Rattle.std.proofs.lemmas.Int.{ints}
use Rattle.book.proofs.Held.{held_more}
use Rattle.book.proofs.set_off.net_volume.Goals as goal

pub loop-position-preserved : goal.loop-position-preserved
loop-position-preserved c =
    let p = c.position-item.result in
    let read = ap (λ q. q.volume) c.position-item.is in
    let more = held_more c.args.held.now c.loop-position.position-index p (omega arith) in
    let small = p.within.0 in
    (omega (arith, ints), omega (arith, ints))
