use Rattle.std.proofs.Common.{take, arith}
use Rattle.book.specs.SettingOff.{line_of}
use Rattle.book.proofs.Filled.{over_none, over_more}
use Rattle.book.proofs.state.Book.write_members.Goals as goal

pub loop-place-init : goal.loop-place-init
loop-place-init c = over_none (line_of c.args.margins.now) (take c.count-count.result c.args.lines.now)

pub loop-place-preserved : goal.loop-place-preserved
loop-place-preserved c =
    over_more (line_of c.args.margins.now) (take c.count-count.result c.args.lines.now) c.loop-place.line-items c.loop-place.place c.line.result (omega arith) c.loop-place.invariant cc
