-- What an answered margin call keeps to, by the ledger that it was made on. Nothing is rounded again here.
use Rattle.std.specs.Prelude.{◌≡◌, ℕ, ◌+◌, ◌*◌, ◌<◌, ◌≤◌, List, map, length, take, ℤ, pos, ◌+ℤ◌, ◌-ℤ◌, ◌*ℤ◌, neg_ℤ, ◌≤ℤ◌, ◌<ℤ◌, slice_index}
use Rattle.std.specs.Int.{int_max}
use Rattle.sharing.specs.Lists.{total, made}
use Rattle.ledger.specs.declared.lines.ReportLine.{ReportLine}
use Rattle.ledger.specs.Limits.{units_a_grosz, units_a_zloty}
use Rattle.ledger.specs.Sums.{total_ℤ}
use Rattle.ledger.specs.Ledger.{Row, Ledger}
use Rattle.ledger.specs.SetOff.{gross_margin, net_margin}
use Rattle.ledger.specs.Margins.{rate_of, volumes, before_of, after_of, worth_of, balance, alone, calls_of}
use Rattle.ledger.specs.Calls.{Answer, refused, accepted, net_position, set_off_lines, margin_lines}

-- the gross and the net margin of a series with n members
abbrev pub gross_of : ℕ → Row → ℕ
gross_of n s = gross_margin (rate_of s) (volumes n s)

abbrev pub net_margin_of : ℕ → Row → ℕ
net_margin_of n s = net_margin (rate_of s) (volumes n s)

-- In a series the margins after set-off sum to one fifth of the gross and four fifths of the net margin, and each member
-- keeps at least a fifth of his margin and at most all of it.
pub record SeriesObeys (n : ℕ) (s : Row) : Type 0 where
  pub sum : 5 * total (made n (after_of n s)) ≡ gross_of n s + 4 * net_margin_of n s
  pub least : (k : ℕ) → k < n → before_of s k ≤ 5 * after_of n s k
  pub most : (k : ℕ) → k < n → after_of n s k ≤ before_of s k

-- what the group owes, in units: the margins after set-off over all series and members, less all additional margins
unfoldable pub owed : Ledger → ℤ
owed l =
    pos (total (map (λ s. total (made l.members (after_of l.members s))) l.rows))
    -ℤ total_ℤ (map (λ s. total_ℤ (made l.members (worth_of s))) l.rows) *ℤ pos units_a_grosz

-- The answered lines and the answered total:
pub record Obeys (l : Ledger) (lines : List ReportLine) (answered : ℕ) : Type 0 where
  -- every series keeps to its law;
  pub series : (s : Row) → SeriesObeys l.members s
  -- there is a line a member, and the total is the sum of their calls;
  pub seats : length lines ≡ l.members
  pub summed : answered ≡ calls_of lines
  -- the lines' margins after set-off sum to a fifth of the gross and four fifths of the net margins of all series, and less
  -- the lines' additional margins they are what the group owes;
  pub fifths : 5 * total (map (λ x. x.after) lines) ≡ total (map (λ s. gross_of l.members s + 4 * net_margin_of l.members s) l.rows)
  pub owing : owed l ≡ pos (total (map (λ x. x.after) lines)) -ℤ total_ℤ (map (λ x. x.additional) lines) *ℤ pos units_a_grosz
  -- no call exceeds what the member would owe alone;
  pub capped : (k : ℕ) → k < l.members → slice_index (map (λ x. x.call) lines) k ≤ alone l k
  -- the total is what the members' balances lack together, or nothing;
  pub lacking : pos answered ≡ int_max (pos 0) (neg_ℤ (total_ℤ (made l.members (balance l))))
  -- in units, the total is at least what the group owes, and exceeds it, or zero, by under a zloty a member
  pub enough : owed l ≤ℤ pos (units_a_zloty * answered)
  pub close : pos (units_a_zloty * answered) <ℤ (int_max (owed l) (pos 0) +ℤ pos (units_a_zloty * l.members))

-- of every answer: only a margin call answers report lines
abbrev pub Obeyed : Ledger → Answer → Type 0
Obeyed l (refused r) = Unit {0}
Obeyed l accepted = Unit {0}
Obeyed l (net_position volume cost) = Unit {0}
Obeyed l (set_off_lines lines) = Unit {0}
Obeyed l (margin_lines lines answered) = Obeys l (take l.members lines) answered
