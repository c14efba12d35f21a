use Rattle.std.proofs.Common.{◌≡◌}
use Rattle.ledger.specs.Margins.{over_lines}
use Rattle.book.specs.SettingOff.{line_of}
use Rattle.book.proofs.state.Book.write_members.Given as goal

abbrev pub invariant-loop-place : goal.invariant-loop-place
invariant-loop-place l = l.line-items ≡ over_lines l.place (line_of l.margins) l.initial.line-items
