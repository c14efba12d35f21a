-- The figures of a ledger: k is the place of a member, seat k + 1, and m the meaning of a division rule.
use Rattle.std.specs.Prelude.{ℕ, ◌+◌, ◌-◌, ◌*◌, min, Bool, false, cond, ◌||◌, List, [], ◌∷◌, ◌++◌, map, drop, ℤ, pos, ◌-ℤ◌, ◌*ℤ◌, nat_lt, slice_index}
use Rattle.sharing.specs.Lists.{total, made}
use Rattle.rules.specs.Division.{Meaning}
use Rattle.ledger.specs.declared.lines.SetOffLine.{SetOffLine}
use Rattle.ledger.specs.declared.lines.ReportLine.{ReportLine}
use Rattle.ledger.specs.Limits.{most_members, most_total, units_a_grosz, units_a_zloty}
use Rattle.ledger.specs.Sums.{total_ℤ, floor_of, ceiling_of, above_zero, below_zero}
use Rattle.ledger.specs.Ledger.{Row, Ledger, net_at}
use Rattle.ledger.specs.SetOff.{margin_before, margin_after, no_volume}

-- One series with n members: its rate, their volumes, and their margins.
abbrev pub rate_of : Row → ℕ
rate_of s = s.price * s.risk

abbrev pub volumes : ℕ → Row → List ℤ
volumes n s = made n (λ k. (net_at s k).volume)

abbrev pub before_of : Row → ℕ → ℕ
before_of s k = margin_before (rate_of s) (net_at s k).volume

abbrev pub after_of : ℕ → Row → ℕ → ℕ
after_of n s k = margin_after (rate_of s) (volumes n s) k

abbrev pub no_volume_of : ℕ → Row → Bool
no_volume_of n s = no_volume (rate_of s) (volumes n s)

-- the lines of the set-off question
abbrev pub set_off_line : ℕ → Row → ℕ → SetOffLine
set_off_line n s k = record { seat = k + 1; before = before_of s k; after = after_of n s k }

-- the first n lines written, the others as they were
abbrev pub over_lines : {X : Type 0} → ℕ → (ℕ → X) → List X → List X
over_lines n f old = made n f ++ drop n old

-- One member, over all series: margins before and after in units, additional margin in grosze.
unfoldable pub befores : Ledger → ℕ → ℕ
befores l k = total (map (λ s. before_of s k) l.rows)

unfoldable pub afters : Ledger → ℕ → ℕ
afters l k = total (map (λ s. after_of l.members s k) l.rows)

-- what a position is worth at the clearing price, less what it cost
abbrev pub worth_of : Row → ℕ → ℤ
worth_of s k = (net_at s k).volume *ℤ pos s.price -ℤ (net_at s k).cost

unfoldable pub additional : Ledger → ℕ → ℤ
additional l k = total_ℤ (map (λ s. worth_of s k) l.rows)

-- the balance in units, and in zloty, rounded down
abbrev pub units : Ledger → ℕ → ℤ
units l k = additional l k *ℤ pos units_a_grosz -ℤ pos (afters l k)

unfoldable pub balance : Ledger → ℕ → ℤ
balance l k = floor_of (units l k) units_a_zloty

-- what he would owe alone: his margins before, less his additional margin, rounded up to a zloty, or nothing
abbrev pub alone : Ledger → ℕ → ℕ
alone l k = above_zero (ceiling_of (pos (befores l k) -ℤ additional l k *ℤ pos units_a_grosz) units_a_zloty)

-- a negative balance is a need, a positive one a surplus; seats above n need nothing
abbrev pub need : Ledger → ℕ → ℕ
need l k = cond (nat_lt k l.members) (below_zero (balance l k)) 0

abbrev pub surplus : Ledger → ℕ → ℕ
surplus l k = above_zero (balance l k)

-- The group: needs by seat, their total, the total surplus, and the amount to divide.
abbrev pub needs : Ledger → List ℕ
needs l = made most_members (need l)

unfoldable pub needed : Ledger → ℕ
needed l = total (needs l)

unfoldable pub spare : Ledger → ℕ
spare l = total (made l.members (surplus l))

abbrev pub amount : Ledger → ℕ
amount l = min (spare l) (needed l)

-- the rule divides the amount, and a member's call is his need less his share
abbrev pub share : Meaning → Ledger → ℕ → ℕ
share m l k = slice_index (m (needs l) (amount l)) k

abbrev pub call : Meaning → Ledger → ℕ → ℕ
call m l k = need l k - share m l k

-- the report line of a member who gets this share
abbrev pub line_with : Ledger → ℕ → ℕ → ReportLine
line_with l k part = record {
  seat = k + 1;
  before = befores l k;
  after = afters l k;
  additional = additional l k;
  balance = balance l k;
  share = part;
  call = need l k - part;
}

abbrev pub report_line : Meaning → Ledger → ℕ → ReportLine
report_line m l k = line_with l k (share m l k)

-- the sum of the calls of some lines
abbrev pub calls_of : List ReportLine → ℕ
calls_of lines = total (map (λ x. x.call) lines)

-- the margin call answers the sum of the calls
unfoldable pub called : Meaning → Ledger → ℕ
called m l = calls_of (made l.members (report_line m l))

-- What a margin call checks besides the stage and the lines: in no series a surplus without volume to take it,
abbrev pub any_no_volume : ℕ → List Row → Bool
any_no_volume n [] = false
any_no_volume n (s ∷ ss) = no_volume_of n s || any_no_volume n ss

-- and totals within their limit
abbrev pub too_large : Ledger → Bool
too_large l = nat_lt most_total (needed l) || nat_lt most_total (spare l)
