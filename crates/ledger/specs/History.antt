-- What a ledger is, told by the calls that were accepted: newest first.
use Rattle.std.specs.Prelude.{◌≡◌, ℕ, ◌≤◌, false, cond, ◌&&◌, List, [], ◌∷◌, ◌++◌, map, length, ℤ, pos, Some, None, Option, ◌==◌, unsigned_abs}
use Rattle.sharing.specs.Lists.{among, repeated}
use Rattle.ledger.specs.declared.listing.Listing.{Listing}
use Rattle.ledger.specs.declared.stage.Stage.{Stage}
use Rattle.ledger.specs.declared.stage.Stage.TheVariants.{Open, Struck}
use Rattle.ledger.specs.Limits.{most_members, most_series, most_code, most_market, most_size, most_price, most_risk, most_volume, most_cost}
use Rattle.ledger.specs.Checks.{or_else}
use Rattle.ledger.specs.Sums.{total_ℤ}
use Rattle.ledger.specs.Ledger.{Row, Ledger, net_at, net_of, row_at}
use Rattle.ledger.specs.Bookings.{Booking, lists, deals, reprices, volume_dealt, cost_dealt}
use Rattle.ledger.specs.Files.{records_of}
use Rattle.ledger.specs.Calls.{Call, opening, listing, dealing, repricing, loading, strike, reopening, position, set_off, margin_call}

-- the value given by the newest that gives one
abbrev pub latest : {A X : Type 0} → (A → Option X) → List A → Option X
latest f [] = None
latest f (x ∷ xs) = or_else (f x) (latest f xs)

-- the calls that set the number of members, and those that set the stage
abbrev pub members_set : Call → Option ℕ
members_set (opening n) = Some n
members_set (listing s) = None
members_set (dealing d) = None
members_set (repricing r) = None
members_set (loading file) = None
members_set strike = None
members_set reopening = None
members_set (position seat code) = None
members_set (set_off code lines) = None
members_set (margin_call m lines) = None

abbrev pub stage_set : Call → Option Stage
stage_set (opening n) = Some Open
stage_set (listing s) = None
stage_set (dealing d) = None
stage_set (repricing r) = None
stage_set (loading file) = None
stage_set strike = Some Struck
stage_set reopening = Some Open
stage_set (position seat code) = None
stage_set (set_off code lines) = None
stage_set (margin_call m lines) = None

-- each booking put on top of those before it
abbrev pub noted : List Booking → List Booking → List Booking
noted [] bs = bs
noted (b ∷ more) bs = noted more (b ∷ bs)

-- the bookings since the latest opening, newest first; a load counts as its records, in file order
abbrev pub bookings_by : Call → List Booking → List Booking
bookings_by (opening n) bs = []
bookings_by (listing s) bs = lists s ∷ bs
bookings_by (dealing d) bs = deals d ∷ bs
bookings_by (repricing r) bs = reprices r ∷ bs
bookings_by (loading file) bs = noted (map (λ r. r.booking) (records_of file)) bs
bookings_by strike bs = bs
bookings_by reopening bs = bs
bookings_by (position seat code) bs = bs
bookings_by (set_off code lines) bs = bs
bookings_by (margin_call m lines) bs = bs

abbrev pub bookings : List Call → List Booking
bookings [] = []
bookings (c ∷ cs) = bookings_by c (bookings cs)

-- the codes that were listed, in listing order
abbrev pub code_listed : Booking → List ℕ
code_listed (lists s) = s.code ∷ []
code_listed (deals d) = []
code_listed (reprices r) = []

abbrev pub codes_listed : List Booking → List ℕ
codes_listed [] = []
codes_listed (b ∷ bs) = codes_listed bs ++ code_listed b

-- what a booking says of a code: its listing; a new price and risk parameter
abbrev pub listing_of : ℕ → Booking → Option Listing
listing_of code (lists s) = cond (s.code == code) (Some s) None
listing_of code (deals d) = None
listing_of code (reprices r) = None

abbrev pub repriced_to : ℕ → Booking → Option (ℕ × ℕ)
repriced_to code (lists s) = None
repriced_to code (deals d) = None
repriced_to code (reprices r) = cond (r.code == code) (Some (r.price, r.risk)) None

-- what a booking adds to the position of a seat in the series of a code, whose lots are of that size: a purchase adds its
-- volume and its cost, a sale subtracts both
abbrev pub volume_moved : ℕ → ℕ → ℕ → Booking → ℤ
volume_moved size seat code (lists s) = pos 0
volume_moved size seat code (deals d) = cond (d.code == code && d.seat == seat) (volume_dealt size d) (pos 0)
volume_moved size seat code (reprices r) = pos 0

abbrev pub cost_moved : ℕ → ℕ → ℕ → Booking → ℤ
cost_moved size seat code (lists s) = pos 0
cost_moved size seat code (deals d) = cond (d.code == code && d.seat == seat) (cost_dealt size d) (pos 0)
cost_moved size seat code (reprices r) = pos 0

-- A listed series, by what was booked since the opening: market and size are those of its listing, price and risk those
-- of the latest repricing or else of the listing, and positions are the sums of what the deals added.
pub record Accounted (bs : List Booking) (code : ℕ) (s : Row) : Type 0 where
  pub origin : Listing
  pub listed_so : latest (listing_of code) bs ≡ Some origin
  pub market : s.market ≡ origin.market
  pub size : s.size ≡ origin.size
  pub in_force : Some (s.price, s.risk) ≡ or_else (latest (repriced_to code) bs) (Some (origin.price, origin.risk))
  pub seats : length s.nets ≡ 8
  pub volumes : (seat : ℕ) → 1 ≤ seat → seat ≤ 8 → (net_of s seat).volume ≡ total_ℤ (map (volume_moved s.size seat code) bs)
  pub costs : (seat : ℕ) → 1 ≤ seat → seat ≤ 8 → (net_of s seat).cost ≡ total_ℤ (map (cost_moved s.size seat code) bs)

-- a code that is not listed: nothing was booked under it since the opening
abbrev pub code_booked : Booking → ℕ
code_booked (lists s) = s.code
code_booked (deals d) = d.code
code_booked (reprices r) = r.code

abbrev pub Unheard : List Booking → ℕ → Type 0
Unheard bs code = among code (map code_booked bs) ≡ false

abbrev pub Told : List Booking → ℕ → Option Row → Type 0
Told bs code None = Unheard bs code
Told bs code (Some s) = Accounted bs code s

-- A ledger within all limits.
abbrev pub Between : ℕ → ℕ → ℕ → Type 0
Between low high n = (low ≤ n) × (n ≤ high)

pub record RowWithin (s : Row) : Type 0 where
  pub code : Between 1 most_code s.code
  pub market : Between 1 most_market s.market
  pub size : Between 1 most_size s.size
  pub price : Between 1 most_price s.price
  pub risk : Between 1 most_risk s.risk
  pub volume : (k : ℕ) → unsigned_abs (net_at s k).volume ≤ most_volume
  pub cost : (k : ℕ) → unsigned_abs (net_at s k).cost ≤ most_cost

abbrev pub RowsWithin : List Row → Type 0
RowsWithin [] = Unit {0}
RowsWithin (s ∷ ss) = RowWithin s × RowsWithin ss

pub record Within (l : Ledger) : Type 0 where
  pub members : Between 1 most_members l.members
  pub few : length l.rows ≤ most_series
  pub each : RowsWithin l.rows

-- A ledger by the bookings since its opening: the series are those listed, in listing order, no code twice; each is as its
-- bookings tell, and under a code that is not listed nothing was booked; all limits are kept.
pub record AsBooked (bs : List Booking) (l : Ledger) : Type 0 where
  pub order : map (λ s. s.code) l.rows ≡ codes_listed bs
  pub apart : repeated (map (λ s. s.code) l.rows) ≡ false
  pub series : (code : ℕ) → Told bs code (row_at l.rows code)
  pub within : Within l

-- The history law: the stage and the number of members are those of the latest call that sets them, or as a book that was
-- never opened has them, and the series are as they were booked.
pub record History (cs : List Call) (l : Ledger) : Type 0 where
  pub stage : Some l.stage ≡ or_else (latest stage_set cs) (Some Open)
  pub members : Some l.members ≡ or_else (latest members_set cs) (Some 1)
  pub booked : AsBooked (bookings cs) l
