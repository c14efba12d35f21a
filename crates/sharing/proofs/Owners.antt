-- Owners among claims.
use Rattle.std.proofs.Common.{◌≡◌, ℕ, ◌||◌, eqb, List, [], ◌∷◌, map, refl, ap}
use Rattle.std.specs.List.{list_any}
use Rattle.sharing.specs.Lists.{among}

-- a test finds an owner among the claims where one of them belongs to him
pub any_owner : {X : Type 0} (f : X → ℕ) (n : ℕ) (xs : List X) → list_any (λ x. eqb (f x) n) xs ≡ among n (map f xs)
any_owner f n [] = refl
any_owner f n (x ∷ xs) = ap (λ b. eqb (f x) n || b) (any_owner f n xs)
