use Rattle.std.proofs.Common.{◌≡◌}
use Rattle.sharing.specs.Lists.{made}
use Rattle.ledger.specs.Margins.{over_lines}
use Rattle.book.specs.SettingOff.{holding_of}
use Rattle.book.proofs.Holdings.{no_holding}
use Rattle.book.proofs.set_off.SetOff.write_holdings.Given as goal

abbrev pub invariant-loop-place : goal.invariant-loop-place
invariant-loop-place l = l.holdings ≡ over_lines l.place (holding_of l.self) (made 8 no_holding)
