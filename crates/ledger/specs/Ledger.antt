-- The ledger: what a book holds, as plain lists and whole numbers.
use Rattle.std.specs.Prelude.{ℕ, ◌-◌, Bool, true, false, cond, ◌&&◌, List, [], ◌∷◌, ℤ, pos, is_some, Some, None, Option, ◌==◌, nat_le, slice_index_or, unsigned_abs}
use Rattle.ledger.specs.declared.stage.Stage.{Stage}
use Rattle.ledger.specs.declared.stage.Stage.TheVariants.{Open, Struck}
use Rattle.ledger.specs.Limits.{most_volume, most_cost}

-- a member's position in a series: net volume in MWh and net cost in grosze
pub record Net : Type 0 where
  pub volume : ℤ
  pub cost : ℤ

-- a series, with the position of each of the eight seats
pub record Row : Type 0 where
  pub code : ℕ
  pub market : ℕ
  pub size : ℕ
  pub price : ℕ
  pub risk : ℕ
  pub nets : List Net

-- the stage, the number of members, and the series in listing order
pub record Ledger : Type 0 where
  pub stage : Stage
  pub members : ℕ
  pub rows : List Row

-- an opening makes any book empty, in stage open, with n members
abbrev pub opened : ℕ → Ledger
opened n = record { stage = Open; members = n; rows = [] }

-- a book that was never opened counts as just opened with one member
abbrev pub unopened : Ledger
unopened = opened 1

abbrev pub is_struck : Stage → Bool
is_struck Open = false
is_struck Struck = true

abbrev pub struck : Ledger → Bool
struck l = is_struck l.stage

abbrev pub flat : Net
flat = record { volume = pos 0; cost = pos 0 }

abbrev pub eight_flat : List Net
eight_flat = flat ∷ flat ∷ flat ∷ flat ∷ flat ∷ flat ∷ flat ∷ flat ∷ []

-- the position at place k, which is that of seat k + 1
abbrev pub net_at : Row → ℕ → Net
net_at s k = slice_index_or s.nets k flat

-- the position of a seat, counted from 1
abbrev pub net_of : Row → ℕ → Net
net_of s seat = net_at s (seat - 1)

-- a position within its limits
abbrev pub in_limits : Net → Bool
in_limits p = nat_le (unsigned_abs p.volume) most_volume && nat_le (unsigned_abs p.cost) most_cost

-- the series of a code, if it is listed
abbrev pub row_at : List Row → ℕ → Option Row
row_at [] code = None
row_at (s ∷ ss) code = cond (s.code == code) (Some s) (row_at ss code)

abbrev pub is_listed : Ledger → ℕ → Bool
is_listed l code = is_some (row_at l.rows code)

-- the series of a code changed, the others as they are
abbrev pub at_code : ℕ → (Row → Row) → List Row → List Row
at_code code f [] = []
at_code code f (s ∷ ss) = cond (s.code == code) (f s ∷ ss) (s ∷ at_code code f ss)
