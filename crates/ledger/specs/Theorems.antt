-- The laws, each for every case of its definitions.
use Rattle.std.specs.Prelude.{◌≡◌, ℕ, ◌+◌, ◌*◌, ◌<◌, ◌≤◌, false, not, List, [], ◌∷◌, map, ℤ, pos, ◌*ℤ◌, is_some, Some, slice_index_or, unsigned_abs}
use Rattle.sharing.specs.Lists.{total, made}
use Rattle.sharing.specs.Sharing.{most_weight}
use Rattle.rules.specs.Division.{Meaning, Lawful}
use Rattle.ledger.specs.declared.deal.Deal.{Deal}
use Rattle.ledger.specs.declared.market.Market.{Market}
use Rattle.ledger.specs.Numbers.{market_number, market_numbered, side_numbered}
use Rattle.ledger.specs.Limits.{field_outside, most_market, most_side, most_members, most_total, most_size, most_volume, most_cost, units_a_grosz}
use Rattle.ledger.specs.Sums.{total_ℤ}
use Rattle.ledger.specs.Ledger.{Net, Row, Ledger, unopened}
use Rattle.ledger.specs.Bookings.{wrong_deal, dealt_net}
use Rattle.ledger.specs.SetOff.{margin_before, minor_volume, major_volume, spared, weights, margin_after, margins_after, gross_margin, net_margin, no_volume}
use Rattle.ledger.specs.Margins.{rate_of, volumes, before_of, after_of, worth_of, befores, afters, additional, units, balance, need, needed, spare, report_line, called}
use Rattle.ledger.specs.Calls.{Call, Answer, ledger_after, Right}
use Rattle.ledger.specs.Obeys.{Obeys}
use Rattle.ledger.specs.History.{Within, History}
use Rattle.ledger.specs.Runs.{Turn, ledger, AllRight, AllObeyed, AllLawful, LawfulIn, accepted_calls, Ran, Turned}

-- A number within its limits is that of one market, and of one side.
pub record KindsNumbered : Type 0 where
  pub market : (m : Market) → market_numbered (market_number m) ≡ Some m
  pub markets : (n : ℕ) → is_some (market_numbered n) ≡ not (field_outside most_market n)
  pub side : (n : ℕ) → is_some (side_numbered n) ≡ not (field_outside most_side n)

-- The majors' volume is at least the minors', for every list of volumes,
abbrev pub MajorsCover : Type 0
MajorsCover = (vs : List ℤ) → total (map (minor_volume (total_ℤ vs)) vs) ≤ total (map (major_volume (total_ℤ vs)) vs)

-- so that a surplus always has volume to take it.
abbrev pub AlwaysVolume : Type 0
AlwaysVolume = (r : ℕ) (vs : List ℤ) → no_volume r vs ≡ false

-- In a series of any rate and any volumes, the margins after set-off sum to one fifth of the gross and four fifths of the
-- net margin, and each member keeps at least a fifth of his margin and at most all of it.
pub record SetOffHolds (r : ℕ) (vs : List ℤ) : Type 0 where
  pub sum : 5 * total (margins_after r vs) ≡ gross_margin r vs + 4 * net_margin r vs
  pub least : (k : ℕ) → margin_before r (slice_index_or vs k (pos 0)) ≤ 5 * margin_after r vs k
  pub most : (k : ℕ) → margin_after r vs k ≤ margin_before r (slice_index_or vs k (pos 0))

abbrev pub SetOffLaw : Type 0
SetOffLaw = (r : ℕ) (vs : List ℤ) → SetOffHolds r vs

-- A margin call by a lawful rule keeps to the laws, on every ledger of one to eight members whose needs are not too large.
abbrev pub CallsObey : Type 0
CallsObey =
    (m : Meaning) (l : Ledger) → Lawful m → 1 ≤ l.members → l.members ≤ most_members → needed l ≤ most_total
    → Obeys l (made l.members (report_line m l)) (called m l)

-- Of every run whose answers are right, each margin call with its own lawful rule, every answered margin call keeps to the
-- laws, and the ledger is what the accepted calls tell.
abbrev pub RunsObey : Type 0
RunsObey = (run : List Turn) → AllLawful run → AllRight run → AllObeyed run

abbrev pub RunsTell : Type 0
RunsTell = (run : List Turn) → AllRight run → History (accepted_calls run) (ledger run)

-- A book that was never opened has gone through the empty run; and a call that answers and changes as the definitions say owes
-- no more: any run that the book has gone through goes on with it.
abbrev pub Begins : Type 0
Begins = Ran [] unopened

abbrev pub GoesOn : Type 0
GoesOn = (l : Ledger) (c : Call) (a : Answer) (l' : Ledger) → LawfulIn c → Right l c a → l' ≡ ledger_after l c → Turned l c a l'

-- Within the limits the figures fit 64 bits, signed ones with their sign: what is below 2 ^ 63 does.
-- The figures of a series,
pub record RowFits (n : ℕ) (s : Row) : Type 0 where
  pub rate : rate_of s ≤ 2000000000
  pub before : (k : ℕ) → before_of s k ≤ 20000000000000000
  pub after : (k : ℕ) → after_of n s k ≤ 20000000000000000
  pub worth : (k : ℕ) → unsigned_abs (worth_of s k) ≤ 1600000000000
  pub net_volume : unsigned_abs (total_ℤ (volumes n s)) ≤ 16000000
  -- no sharing in a set-off is above the limits on amount and weights
  pub shared_out : spared (rate_of s) (volumes n s) ≤ 64000000000000000
  pub weight : total (weights (volumes n s)) ≤ 16000000

abbrev pub RowsFit : ℕ → List Row → Type 0
RowsFit n [] = Unit {0}
RowsFit n (s ∷ ss) = RowFits n s × RowsFit n ss

-- and of a margin call
pub record FiguresFit (l : Ledger) : Type 0 where
  pub rows : RowsFit l.members l.rows
  pub margins_before : (k : ℕ) → befores l k ≤ 960000000000000000
  pub margins_after : (k : ℕ) → afters l k ≤ 960000000000000000
  pub additional_margin : (k : ℕ) → unsigned_abs (additional l k) ≤ 76800000000000
  pub in_units : (k : ℕ) → unsigned_abs (additional l k *ℤ pos units_a_grosz) ≤ 3840000000000000000
  pub balance_units : (k : ℕ) → unsigned_abs (units l k) ≤ 4800000000000000000
  pub balance_zloty : (k : ℕ) → unsigned_abs (balance l k) ≤ 960000000000
  pub each_need : (k : ℕ) → need l k ≤ 960000000000
  pub total_needs : needed l ≤ 7680000000000
  pub total_surplus : spare l ≤ 7680000000000

abbrev pub LedgersFit : Type 0
LedgersFit = (l : Ledger) → Within l → FiguresFit l

-- the volume and the cost of a deal whose fields are within their limits, and a position after it, before that is checked
pub record DealFits (size : ℕ) (d : Deal) : Type 0 where
  pub volume : d.lots * size ≤ 17568000000
  pub cost : d.lots * size * d.price ≤ 7027200000000000
  pub new_volume : (p : Net) → unsigned_abs p.volume ≤ most_volume → unsigned_abs (dealt_net size d p).volume ≤ 17570000000
  pub new_cost : (p : Net) → unsigned_abs p.cost ≤ most_cost → unsigned_abs (dealt_net size d p).cost ≤ 7028000000000000

abbrev pub DealsFit : Type 0
DealsFit = (size : ℕ) (d : Deal) → size ≤ most_size → wrong_deal d ≡ false → DealFits size d

-- in a sharing, the product of a sum of weights and a remainder
abbrev pub SharesFit : Type 0
SharesFit = (c m w : ℕ) → c ≤ w → m < w → w ≤ most_weight → c * m < 9000000000000000000
