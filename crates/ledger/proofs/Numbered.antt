-- Markets and sides by their numbers.
use Rattle.std.proofs.Common.{◌≡◌, ℕ, not, is_some, Some, refl, arith}
use Rattle.std.proofs.lemmas.Bool.Decides.{nat_tests}
use Rattle.ledger.specs.declared.market.Market.{Market}
use Rattle.ledger.specs.declared.market.Market.TheVariants.{Electricity, Gas, PropertyRights}
use Rattle.ledger.specs.Limits.{field_outside}
use Rattle.ledger.specs.Numbers.{market_number, market_numbered, side_numbered}
use Rattle.ledger.specs.Theorems.{KindsNumbered}

there_and_back : (m : Market) → market_numbered (market_number m) ≡ Some m
there_and_back Electricity = refl
there_and_back Gas = refl
there_and_back PropertyRights = refl

all_markets : (n : ℕ) → is_some (market_numbered n) ≡ not (field_outside 3 n)
unfolding field_outside
all_markets n = grind (arith, nat_tests)

both_sides : (n : ℕ) → is_some (side_numbered n) ≡ not (field_outside 2 n)
unfolding field_outside
both_sides n = grind (arith, nat_tests)

pub kinds_numbered : KindsNumbered
kinds_numbered = record { market = there_and_back; markets = all_markets; side = both_sides }
