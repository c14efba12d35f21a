-- The needs as claims, and the shares in proportion.
use Rattle.std.specs.Prelude.{◌≡◌, ℕ, ◌+◌, false, List, [], ◌∷◌, map, length, Ok, Err, ◌≢◌, refl}
use Rattle.std.proofs.Common.{sym, ap, ◌∙◌, arith}
use Rattle.std.proofs.lemmas.List.{length-map}
use Rattle.std.proofs.lemmas.Bool.{cond-false}
use Rattle.std.proofs.lemmas.Bool.Decides.{nat_tests}
use Rattle.sharing.specs.declared.refusal.Refusal.{Refusal}
use Rattle.sharing.specs.declared.claims.Claim.{Claim}
use Rattle.sharing.specs.declared.claims.Zloty.{Zloty}
use Rattle.sharing.specs.Lists.{total, repeated}
use Rattle.sharing.specs.Sharing.{shares, unshareable, each_given}
use Rattle.sharing.proofs.Shares.{length_shares, shares_told}
use Rattle.sharing.proofs.Laws.{nothing_lost, capped}
use Rattle.rules.specs.Division.{Lawful, undividable, divided}
use Rattle.rules.specs.Proportions.{in_proportion, claims_from, with_share, claims_shared}
use Rattle.rules.specs.Eight.{eight}

pub fair_proportion : Lawful in_proportion
fair_proportion needs amount n low under = record {
  seats = length_shares needs amount ∙ n;
  within = λ k. omega (arith, capped needs amount 1 (omega arith) k);
  sum = nothing_lost needs amount (λ some. omega arith);
}

owners_apart : (needs : List ℕ) → length needs ≡ 8 → repeated (map (λ c. c.seat) (claims_from 1 needs)) ≡ false
owners_apart needs n = ap (λ xs. repeated (map (λ c. c.seat) (claims_from 1 xs))) (eight 0 needs n)

pub weights_of : (seat : ℕ) (needs : List ℕ) → map (λ c. c.weight) (claims_from seat needs) ≡ needs
weights_of seat [] = refl
weights_of seat (n ∷ needs) = ap (λ xs. n ∷ xs) (weights_of (seat + 1) needs)

-- needs that can be divided make claims that can share
module _ (needs : List ℕ) (amount : ℕ) (claims : List (Claim Zloty)) (long : length needs ≡ 8) (may : undividable needs amount ≡ false) (are : claims ≡ claims_from 1 needs) where
  shareable : unshareable (map (λ c. c.seat) claims) (map (λ c. c.weight) claims) amount ≡ false
  shareable =
      let ok : unshareable (map (λ c. c.seat) (claims_from 1 needs)) (map (λ c. c.weight) (claims_from 1 needs)) amount ≡ false
      = let o = owners_apart needs long in let w = ap total (weights_of 1 needs) in grind (arith, nat_tests) in
      ap (λ cs. unshareable (map (λ c. c.seat) cs) (map (λ c. c.weight) cs) amount) are ∙ ok

  pub never_refused : (e : Refusal) → Err e ≢ claims_shared claims amount
  never_refused e said =
      let both = said ∙ cond-false (unshareable (map (λ c. c.seat) claims) (map (λ c. c.weight) claims) amount) _ _ shareable in
      let z : ◌≡◌ {A = ℕ} 0 1 = cc in omega arith

  -- the shares that the claims then hold are the answer
  pub answered : (held : List (Claim Zloty)) (parts : List ℕ) → Ok held ≡ claims_shared claims amount → parts ≡ map (λ c. c.share) held → Ok parts ≡ divided in_proportion needs amount
  answered held parts said read =
      let weights : map (λ c. c.weight) claims ≡ needs = ap (map (λ c. c.weight)) are ∙ weights_of 1 needs in
      let both = said ∙ cond-false (unshareable (map (λ c. c.seat) claims) (map (λ c. c.weight) claims) amount) _ _ shareable in
      let is : held ≡ each_given with_share claims (shares needs amount) = let e = ap (λ ws. each_given with_share claims (shares ws amount)) weights in cc in
      let long_claims : length claims ≡ length needs = sym (length-map claims (λ c. c.weight)) ∙ ap length weights in
      ap Ok (read ∙ shares_told with_share (λ c. c.share) (λ c n. refl) claims needs amount held long_claims is) ∙ sym (cond-false (undividable needs amount) _ _ may)
