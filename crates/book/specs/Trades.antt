-- What a deal within its limits can add to a position.
use Rattle.std.specs.Prelude.{ℕ, ◌*◌, ℤ, pos, neg_ℤ}
use Rattle.ledger.specs.declared.side.Side.{Side}
use Rattle.ledger.specs.declared.side.Side.TheVariants.{Purchase, Sale}
use Rattle.ledger.specs.Limits.{most_lots, most_size, most_price}

-- MWh at most
abbrev pub most_traded_volume : ℕ
most_traded_volume = most_lots * most_size

-- grosze at most
abbrev pub most_traded_cost : ℕ
most_traded_cost = most_traded_volume * most_price

-- a purchase adds, a sale subtracts
abbrev pub toward : Side → ℕ → ℤ
toward Purchase n = pos n
toward Sale n = neg_ℤ (pos n)
