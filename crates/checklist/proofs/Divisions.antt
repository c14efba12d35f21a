-- The sums of a division.
use Rattle.std.proofs.Common.{◌≡◌, ℕ, ◌+◌, ◌≤◌, List, map, length, get_or, refl, ap, ◌∙◌, arith}
use Rattle.std.specs.List.{sum_by}
use Rattle.sharing.specs.Lists.{total, made}
use Rattle.sharing.proofs.Made.{made_from, total_left, total_by}
use Rattle.checklist.specs.declared.division.Part.{Part}
use Rattle.checklist.specs.Dividing.{calls, parts_of}

-- the calls are what shares within their needs leave of these
pub calls_total : (needs shares : List ℕ) → length needs ≡ 8 → length shares ≡ 8 → ((k : ℕ) → get_or shares k 0 ≤ get_or needs k 0)
    → total (calls needs shares) + total shares ≡ total needs
calls_total needs shares n m within =
    let e = ap total (made_from (λ k. get_or needs k 0) needs 8 0 n (λ k h. refl)) in
    let f = ap total (made_from (λ k. get_or shares k 0) shares 8 0 m (λ k h. refl)) in
    let l = total_left (λ k. get_or needs k 0) (λ k. get_or shares k 0) within 8 in
    omega arith

-- the calls of the parts are the calls
calls_told : (needs shares : List ℕ) → map (λ (p : Part). p.call) (parts_of needs shares) ≡ calls needs shares
unfolding made
calls_told needs shares = refl

pub called_is : (needs shares : List ℕ) (parts : List Part) → parts ≡ parts_of needs shares → sum_by (λ p. p.call) parts ≡ total (calls needs shares)
called_is needs shares parts are = total_by (λ p. p.call) parts ∙ ap (λ ps. total (map (λ (p : Part). p.call) ps)) are ∙ ap total (calls_told needs shares)
