-- What the code counts, tests and makes, as the definitions have it.
use Rattle.std.proofs.Common.{◌≡◌, ℕ, suc, ◌+◌, ◌<◌, ◌&&◌, cond, eqb, List, [], ◌∷◌, length, get_or, sym, refl, ap, arith}
use Rattle.std.proofs.lemmas.Bool.Decides.{nat_tests}
use Rattle.std.proofs.lemmas.List.Recursion.{is_count_by, is_sum_by}
use Rattle.std.specs.List.{count_by, sum_by, list_all}
use Rattle.sharing.specs.declared.claims.Claim.{Claim}
use Rattle.sharing.specs.declared.claims.Zloty.{Zloty}
use Rattle.rules.specs.Proportions.{claims_from}
use Rattle.rules.specs.Sequences.{times, each_once}

pub times_counted : (seat : ℕ) (seats : List ℕ) → times seat seats ≡ count_by (λ s. eqb s seat) seats
times_counted seat seats = is_count_by (times seat) (λ s. eqb s seat) refl (λ s ss. grind (arith, nat_tests)) seats

pub times_summed : (seat : ℕ) (seats : List ℕ) → sum_by (λ s. cond (eqb s seat) 1 0) seats ≡ times seat seats
times_summed seat seats = sym (is_sum_by (times seat) (λ s. cond (eqb s seat) 1 0) refl (λ s ss. refl) seats)

pub each_tested : (sought seats : List ℕ) → list_all (λ s. eqb (times s seats) 1) sought ≡ each_once sought seats
each_tested [] seats = refl
each_tested (s ∷ sought) seats = ap (λ b. eqb (times s seats) 1 && b) (each_tested sought seats)

-- claims of the seats, place by place
pub each_claimed : (seat : ℕ) (needs : List ℕ) (claims : List (Claim Zloty)) → length claims ≡ length needs
    → ((k : ℕ) (c : Claim Zloty) → k < length needs → get_or claims k c ≡ record { seat = seat + k; weight = get_or needs k 0; share = 0; unit = record {} })
    → claims ≡ claims_from seat needs
each_claimed seat [] [] long told = refl
each_claimed seat [] (c ∷ claims) long told = absurd (omega arith)
each_claimed seat (n ∷ needs) [] long told = absurd (omega arith)
each_claimed seat (n ∷ needs) (c ∷ claims) long told =
    let here = told 0 c (omega arith) in
    let same : seat + 0 ≡ seat = omega arith in
    let rest = each_claimed (seat + 1) needs claims (omega arith)
    (λ k d h. let more : seat + suc k ≡ seat + 1 + k = omega arith in let e = told (suc k) d (omega arith) in cc) in cc
