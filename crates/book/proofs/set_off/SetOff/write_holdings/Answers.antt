use Rattle.std.proofs.Common.{◌≡◌, length, ap, ◌∙◌, arith, rules, tests}
use Rattle.sharing.specs.Lists.{made}
use Rattle.sharing.proofs.Made.{array_made}
use Rattle.ledger.specs.Margins.{over_lines}
use Rattle.book.specs.SettingOff.{holding_of}
use Rattle.book.proofs.Filled.{over_none}
use Rattle.book.proofs.Held.{as_many, volume_found}
use Rattle.book.proofs.Holdings.{no_holding, weighed_more, all_weighed}
use Rattle.book.proofs.set_off.SetOff.write_holdings.Goals as goal

pub loop-place-init : goal.loop-place-init
loop-place-init c =
    array_made no_holding 8 c.from_fn.result (no_holding 0) c.from_fn.ensures.items (λ i y d h k. search (rules, tests)) ∙ over_none (holding_of c.args.self.now) (made 8 no_holding)

pub loop-place-preserved : goal.loop-place-preserved
loop-place-preserved c =
    let s = c.args.self.now in let p = c.position-item.result in let k = c.loop-place.place in
    let read = volume_found c.self.inside.held.now s.volumes (ap (λ t. t.volumes) c.self.view_is) k p c.loop-place-test.true c.position-item.is in
    weighed_more s c.loop-place.holdings record { seat = 0; weight = 0; share = 0; unit = record {} } k p.volume c.major_volume_of.result
    (omega (arith, c.loop-place-test.true, c.self.invariant.1)) c.loop-place.invariant read.1 c.major_volume_of.ensures

pub returns : goal.returns
returns c =
    let s = c.args.self.now in
    let long = as_many c.self.inside.held.now s.volumes (ap (λ t. t.volumes) c.self.view_is) in
    let end : c.loop-place.place ≡ length s.volumes = omega (arith, long, c.loop-place-test.false, c.loop-place.auto.place-end) in
    c.loop-place.invariant ∙ ap (λ n. over_lines n (holding_of s) (made 8 no_holding)) end ∙ all_weighed s (omega (arith, long, c.self.invariant.1))
