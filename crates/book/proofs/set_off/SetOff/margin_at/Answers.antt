use Rattle.std.proofs.Common.{ap}
use Rattle.book.proofs.Held.{volume_found}
use Rattle.book.proofs.Holdings.{covered, margin_made}
use Rattle.book.proofs.set_off.SetOff.margin_at.Goals as goal

pub margin_with-requires : goal.margin_with-requires
margin_with-requires c =
    let s = c.args.self.now in
    let read = volume_found c.self.inside.held.now s.volumes (ap (λ t. t.volumes) c.self.view_is) c.args.place c.in-Some.position.now c.in-Some.ensures.lookup.3.0 (c.in-Some.ensures.lookup.3.1 _) in
    covered s c.args.place read.0 c.args.holdings.now _ c.requires c.in-Some.position.now.volume read.1

pub returns-in-Some : goal.returns-in-Some
returns-in-Some c =
    let s = c.args.self.now in
    let read = volume_found c.self.inside.held.now s.volumes (ap (λ t. t.volumes) c.self.view_is) c.args.place c.in-Some.position.now c.in-Some.ensures.lookup.3.0 (c.in-Some.ensures.lookup.3.1 _) in
    margin_made s c.args.place read.0 c.args.holdings.now _ c.requires c.in-Some.position.now.volume read.1
    c.margin_with.result c.margin_with.ensures
