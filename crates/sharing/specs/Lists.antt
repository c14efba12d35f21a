-- Lists of numbers: their sums, and lists given place by place.
use Rattle.std.specs.Prelude.{ℕ, ◌+◌, Bool, false, ◌||◌, List, [], ◌∷◌, map, ◌==◌}
use Rattle.std.specs.List.{range_with_len}

abbrev pub total : List ℕ → ℕ
total [] = 0
total (x ∷ xs) = x + total xs

-- whether n is one of the numbers
abbrev pub among : ℕ → List ℕ → Bool
among n [] = false
among n (x ∷ xs) = x == n || among n xs

-- whether a number stands there twice
abbrev pub repeated : List ℕ → Bool
repeated [] = false
repeated (x ∷ xs) = among x xs || repeated xs

-- f 0, .., f (n - 1)
unfoldable pub made : {X : Type 0} → ℕ → (ℕ → X) → List X
made n f = map f (range_with_len 0 n)
