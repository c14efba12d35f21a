use Rattle.std.proofs.Common.{◌≡◌, ◌*◌, ◌≤◌, take, nat_abs}
use Rattle.ledger.specs.Sums.{total_ℤ}
use Rattle.book.specs.SettingOff.{volumes_held}
use Rattle.book.proofs.set_off.net_volume.Given as goal

abbrev pub invariant-loop-position : goal.invariant-loop-position
invariant-loop-position l =
    (l.net ≡ total_ℤ (volumes_held (take l.position-index l.held))) × (nat_abs l.net ≤ 2000000 * l.position-index)
