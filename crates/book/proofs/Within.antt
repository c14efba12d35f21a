-- The limits of a series, as its row has them.
use Rattle.std.proofs.Common.{ℕ, zero, suc, ◌≤◌, List, [], ◌∷◌, map, get_or, nat_abs, arith}
use Rattle.ledger.specs.declared.market.Market.{Market}
use Rattle.ledger.specs.declared.market.Market.TheVariants.{Electricity, Gas, PropertyRights}
use Rattle.ledger.specs.Numbers.{market_number}
use Rattle.ledger.specs.Ledger.{flat}
use Rattle.ledger.specs.History.{Between, RowWithin}
use Rattle.book.specs.declared.state.Position.{Position}
use Rattle.book.specs.declared.state.Series.{Series}
use Rattle.book.specs.Views.{net_from, row_from}

market_within : (m : Market) → Between 1 3 (market_number m)
market_within Electricity = (omega arith, omega arith)
market_within Gas = (omega arith, omega arith)
market_within PropertyRights = (omega arith, omega arith)

volume_within : (ps : List Position) (k : ℕ) → nat_abs (get_or (map net_from ps) k flat).volume ≤ 2000000
volume_within [] k = omega arith
volume_within (p ∷ ps) zero = p.within.0
volume_within (p ∷ ps) (suc k) = volume_within ps k

cost_within : (ps : List Position) (k : ℕ) → nat_abs (get_or (map net_from ps) k flat).cost ≤ 800000000000
cost_within [] k = omega arith
cost_within (p ∷ ps) zero = p.within.1
cost_within (p ∷ ps) (suc k) = cost_within ps k

pub series_within : (s : Series) → RowWithin (row_from s)
series_within s = record {
  code = s.coded;
  market = market_within s.market;
  size = s.sized;
  price = s.priced;
  risk = s.risky;
  volume = volume_within s.positions;
  cost = cost_within s.positions;
}
