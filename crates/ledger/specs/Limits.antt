-- The limits, and the size of a unit.
use Rattle.std.specs.Prelude.{ℕ, Bool, ◌||◌, nat_lt}

-- whether a number is not from the low to the high one
abbrev pub outside : ℕ → ℕ → ℕ → Bool
outside low high n = nat_lt n low || nat_lt high n

-- a field of a listing, a deal or a repricing, which goes from 1 to the most that it may be
unfoldable pub field_outside : ℕ → ℕ → Bool
field_outside most n = outside 1 most n

-- members of a group, and seats of a book
abbrev pub most_members : ℕ
most_members = 8

-- series of a book
abbrev pub most_series : ℕ
most_series = 48

-- the fields of a listing, a deal and a repricing, all from 1
abbrev pub most_code : ℕ
most_code = 999999

abbrev pub most_market : ℕ
most_market = 3

-- MWh per lot
abbrev pub most_size : ℕ
most_size = 8784

-- grosze per MWh
abbrev pub most_price : ℕ
most_price = 400000

-- ten-thousandths
abbrev pub most_risk : ℕ
most_risk = 5000

abbrev pub most_side : ℕ
most_side = 2

abbrev pub most_lots : ℕ
most_lots = 2000000

-- a net volume in MWh and a net cost in grosze, on either side of zero
abbrev pub most_volume : ℕ
most_volume = 2000000

abbrev pub most_cost : ℕ
most_cost = 800000000000

-- the total needs and the total surplus of a margin call, in zloty
abbrev pub most_total : ℕ
most_total = 3000000000

-- the bytes of a day file
abbrev pub least_file : ℕ
least_file = 36

abbrev pub most_file : ℕ
most_file = 65536

-- a unit is one fifty-thousandth of a grosz; a zloty has a hundred grosze
abbrev pub units_a_grosz : ℕ
units_a_grosz = 50000

abbrev pub units_a_zloty : ℕ
units_a_zloty = 5000000
