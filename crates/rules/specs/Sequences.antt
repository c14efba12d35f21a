-- The rule by sequence.
use Rattle.std.specs.Prelude.{ℕ, ◌+◌, ◌-◌, min, Bool, true, cond, ◌&&◌, List, [], ◌∷◌, length, ◌==◌, slice_index}
use Rattle.sharing.specs.Lists.{made}

abbrev pub eight_seats : List ℕ
eight_seats = 1 ∷ 2 ∷ 3 ∷ 4 ∷ 5 ∷ 6 ∷ 7 ∷ 8 ∷ []

-- how often a seat is named
abbrev pub times : ℕ → List ℕ → ℕ
times seat [] = 0
times seat (s ∷ ss) = cond (s == seat) 1 0 + times seat ss

-- each of the sought seats is named just once
abbrev pub each_once : List ℕ → List ℕ → Bool
each_once [] seats = true
each_once (s ∷ sought) seats = times s seats == 1 && each_once sought seats

-- a full order of the eight seats: eight numbers that name each seat just once
unfoldable pub full_order : List ℕ → Bool
full_order seats = length seats == 8 && each_once eight_seats seats

-- the need of a seat
abbrev pub need_of : List ℕ → ℕ → ℕ
need_of needs seat = slice_index needs (seat - 1)

-- what a seat gets where the seats of a sequence take their turns: each gets the smaller of its need and what is left
abbrev pub in_turn : List ℕ → List ℕ → ℕ → ℕ → ℕ
in_turn [] needs left seat = 0
in_turn (s ∷ ss) needs left seat =
    cond (s == seat) (min (need_of needs s) left) (in_turn ss needs (left - min (need_of needs s) left) seat)

-- the shares by seat
abbrev pub by_sequence : List ℕ → List ℕ → ℕ → List ℕ
by_sequence seats needs amount = made 8 (λ k. in_turn seats needs amount (k + 1))
