-- What fields within their limits keep to.
use Rattle.std.proofs.Common.{◌≡◌, ℕ, Bool, true, false, ◌||◌, Some, None, sym, refl, arith}
use Rattle.std.proofs.lemmas.Bool.{false≢true}
use Rattle.std.proofs.lemmas.Bool.Decides.{nat_tests}
use Rattle.ledger.specs.declared.listing.Listing.{Listing}
use Rattle.ledger.specs.declared.deal.Deal.{Deal}
use Rattle.ledger.specs.declared.repricing.Repricing.{Repricing}
use Rattle.ledger.specs.declared.market.Market.{Market}
use Rattle.ledger.specs.Limits.{field_outside}
use Rattle.ledger.specs.Numbers.{market_number, market_numbered, side_numbered}
use Rattle.ledger.specs.Bookings.{wrong_listing, wrong_deal, wrong_repricing}
use Rattle.ledger.specs.History.{Between}

neither : (a b : Bool) → (a || b) ≡ false → (a ≡ false) × (b ≡ false)
neither true b e = (e, absurd (false≢true (sym e)))
neither false b e = (refl, e)

field_within : (most n : ℕ) → field_outside most n ≡ false → Between 1 most n
unfolding field_outside
field_within most n e = (grind (arith, nat_tests), grind (arith, nat_tests))

pub record ListingWithin (s : Listing) : Type 0 where
  pub code : Between 1 999999 s.code
  pub market : Between 1 3 s.market
  pub size : Between 1 8784 s.size
  pub price : Between 1 400000 s.price
  pub risk : Between 1 5000 s.risk

pub listing_within : (s : Listing) → wrong_listing s ≡ false → ListingWithin s
listing_within s e =
    let a = neither _ _ e in
    let b = neither _ _ a.1 in
    let c = neither _ _ b.1 in
    let d = neither _ _ c.1 in
    record {
      code = field_within 999999 s.code a.0;
      market = field_within 3 s.market b.0;
      size = field_within 8784 s.size c.0;
      price = field_within 400000 s.price d.0;
      risk = field_within 5000 s.risk d.1;
    }

pub record DealWithin (d : Deal) : Type 0 where
  pub side : Between 1 2 d.side
  pub lots : Between 1 2000000 d.lots
  pub price : Between 1 400000 d.price

pub deal_within : (d : Deal) → wrong_deal d ≡ false → DealWithin d
deal_within d e =
    let a = neither _ _ e in
    let b = neither _ _ a.1 in
    let c = neither _ _ b.1 in
    record { side = field_within 2 d.side b.0; lots = field_within 2000000 d.lots c.0; price = field_within 400000 d.price c.1 }

pub record RepricingWithin (r : Repricing) : Type 0 where
  pub price : Between 1 400000 r.price
  pub risk : Between 1 5000 r.risk

pub repricing_within : (r : Repricing) → wrong_repricing r ≡ false → RepricingWithin r
repricing_within r e =
    let a = neither _ _ e in
    let b = neither _ _ a.1 in
    record { price = field_within 400000 r.price b.0; risk = field_within 5000 r.risk b.1 }

-- within its limits a number is that of a side, and of a market
pub some_side : (n : ℕ) → Between 1 2 n → None ≡ side_numbered n → ⊥
some_side n h e = grind (arith, nat_tests)

pub some_market : (n : ℕ) → Between 1 3 n → None ≡ market_numbered n → ⊥
some_market n h e = grind (arith, nat_tests)

-- a market's number is the one that it was found by
pub market_back : (m : Market) (n : ℕ) → Some m ≡ market_numbered n → market_number m ≡ n
market_back m n e = grind (arith, nat_tests)
