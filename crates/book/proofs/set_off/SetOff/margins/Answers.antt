use Rattle.std.proofs.Common.{◌≡◌, Ok, Err, sym, ap, ◌∙◌, rules, tests}
use Rattle.std.proofs.lemmas.Bool.{cond-false}
use Rattle.sharing.specs.declared.refusal.Refusal.TheVariants.{NoVolume}
use Rattle.ledger.specs.SetOff.{no_volume}
use Rattle.book.specs.SettingOff.{seat_margin, no_margin, margins_in}
use Rattle.sharing.proofs.Made.{array_made}
use Rattle.book.proofs.set_off.SetOff.margins.Goals as goal

pub returns : goal.returns
returns c =
    let s = c.args.self.now in
    let are : c.from_fn.result ≡ margins_in s = array_made (seat_margin s) 8 c.from_fn.result no_margin c.from_fn.ensures.items (λ i y d h k. search (rules, tests)) in
    let shared = c.in_ok-holdings.ensures in
    ap Ok are ∙ sym (cond-false (no_volume s.rate s.volumes) (Err NoVolume) (Ok (margins_in s)) shared.0)
