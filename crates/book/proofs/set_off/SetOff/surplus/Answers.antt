use Rattle.std.proofs.Common.{ap, ◌∙◌, rules, tests}
use Rattle.std.proofs.lemmas.Iterator.{YieldsList-from_map, YieldsList-from_slice}
use Rattle.std.proofs.lemmas.Iterator.Consumers.{sum_by_from_yields_List, YieldsList-at}
use Rattle.ledger.specs.Sums.{total_ℤ}
use Rattle.ledger.specs.SetOff.{minor_surplus}
use Rattle.book.proofs.Held.{total_held}
use Rattle.book.proofs.set_off.SetOff.surplus.Goals as goal

pub returns : goal.returns
returns c =
    let s = c.args.self.now in let ps = c.self.inside.held.now in
    let f = minor_surplus s.rate (total_ℤ s.volumes) in
    sum_by_from_yields_List (λ p. f p.volume) ps c.map.result c.sum.result c.sum.ensures.ran
    (YieldsList-from_map _ (λ p. f p.volume) (YieldsList-at c.map.ensures.source (YieldsList-from_slice ps cc)) c.map.ensures.closure (λ x r q k. search (rules, tests)))
    ∙ total_held ps s.volumes (ap (λ t. t.volumes) c.self.view_is) f
