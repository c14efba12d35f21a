use Rattle.std.proofs.Common.{arith}
use Rattle.book.proofs.Held.{volumes_are}
use Rattle.book.proofs.state.Series.set_off.Goals as goal

pub returns : goal.returns
returns c = let e = volumes_are c.args.members c.args.self.now (omega (arith, c.count.ensures.value, c.count.ensures.bound)) in cc
