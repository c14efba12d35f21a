-- The rule in proportion.
use Rattle.std.specs.Prelude.{ℕ, ◌+◌, cond, List, [], ◌∷◌, map, Ok, Err, Result}
use Rattle.sharing.specs.declared.claims.Claim.{Claim}
use Rattle.sharing.specs.declared.claims.Zloty.{Zloty}
use Rattle.sharing.specs.declared.refusal.Refusal.{Refusal}
use Rattle.sharing.specs.declared.refusal.Refusal.TheVariants.{CannotShare}
use Rattle.sharing.specs.Sharing.{shares, unshareable, each_given}

-- the needs share the amount as weighed claims
abbrev pub in_proportion : List ℕ → ℕ → List ℕ
in_proportion needs amount = shares needs amount

-- On the way to the answer: the needs as claims of the seats from this one on, with nothing shared yet,
abbrev pub claims_from : ℕ → List ℕ → List (Claim Zloty)
claims_from seat [] = []
claims_from seat (n ∷ needs) = record { seat = seat; weight = n; share = 0; unit = record {} } ∷ claims_from (seat + 1) needs

-- a need with this share in the place of its own,
abbrev pub with_share : Claim Zloty → ℕ → Claim Zloty
with_share need n = record need { share = n }

-- and the claims with their shares of the amount, unless it cannot be shared
abbrev pub claims_shared : List (Claim Zloty) → ℕ → Result (List (Claim Zloty)) Refusal
claims_shared claims amount =
    cond (unshareable (map (λ c. c.seat) claims) (map (λ c. c.weight) claims) amount) (Err CannotShare)
    (Ok (each_given with_share claims (shares (map (λ c. c.weight) claims) amount)))
