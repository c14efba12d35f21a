use Rattle.std.proofs.Common.{ap, arith}
use Rattle.book.proofs.Holdings.{accepted, refused}
use Rattle.book.proofs.set_off.SetOff.shared_holdings.Goals as goal

pub returns-in-Ok : goal.returns-in-Ok
returns-in-Ok c =
    let s = c.args.self.now in
    accepted s c.self.inside.held.now (ap (λ t. t.volumes) c.self.view_is) (omega (arith, ap (λ t. t.rate) c.self.view_is, c.self.invariant.0)) c.self.invariant.1
    c.write_holdings.new.holdings c.write_holdings.ensures c.surplus.result c.surplus.ensures c.share_out.new.claims c.in-Ok.ensures.answers c.in-Ok.ensures.fair.are

pub returns-in-Err : goal.returns-in-Err
returns-in-Err c =
    let s = c.args.self.now in
    refused s c.self.inside.held.now (ap (λ t. t.volumes) c.self.view_is) (omega (arith, ap (λ t. t.rate) c.self.view_is, c.self.invariant.0)) c.self.invariant.1
    c.write_holdings.new.holdings c.write_holdings.ensures c.surplus.result c.surplus.ensures c.in-Err.field-0 c.in-Err.ensures.answers
