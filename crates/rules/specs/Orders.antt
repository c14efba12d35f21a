-- What a full order says of each of its places: a seat from 1 to 8, that comes no second time.
use Rattle.std.specs.Prelude.{◌≡◌, ℕ, zero, suc, ◌+◌, ◌-◌, ◌<◌, ◌≤◌, true, cond, List, [], ◌∷◌, map, length, drop, ◌==◌, slice_index, slice_index_or, refl}
use Rattle.std.proofs.Common.{sym, ap, ◌∙◌, arith}
use Rattle.std.specs.List.{range_with_len}
use Rattle.std.proofs.lemmas.List.FromFn.{get_or-range_with_len}
use Rattle.std.proofs.lemmas.List.{at_drop_more}
use Rattle.std.proofs.lemmas.Bool.{and_parts, eqb-true}
use Rattle.std.proofs.lemmas.Bool.Decides.{nat_tests}
use Rattle.sharing.specs.Lists.{total}
use Rattle.rules.specs.Sequences.{eight_seats, times, each_once, full_order}

pub times_more : (s : ℕ) (xs : List ℕ) (i : ℕ) → i < length xs → times s (drop i xs) ≡ cond (slice_index xs i == s) 1 0 + times s (drop (i + 1) xs)
times_more s xs i h = at_drop_more (times s) xs i 0 h

times_drop : (s : ℕ) (xs : List ℕ) (i : ℕ) → times s (drop i xs) ≤ times s xs
times_drop s xs zero = omega arith
times_drop s [] (suc i) = omega arith
times_drop s (x ∷ xs) (suc i) = let ih = times_drop s xs i in omega arith

-- a run of numbers has each at most once, and none outside
times_counting : (x a n : ℕ) → (times x (range_with_len a n) ≤ 1) × (0 < times x (range_with_len a n) → (a ≤ x) × (x < a + n))
times_counting x a zero = (omega arith, λ h. absurd (omega arith))
times_counting x a (suc n) =
    let ih = times_counting x (a + 1) n in
    (grind (arith, nat_tests), λ h. (grind (arith, nat_tests), grind (arith, nat_tests)))

-- how many places of the order name one of the sought seats
named : List ℕ → List ℕ → ℕ
named sought seats = total (map (λ s. times s seats) sought)

named_none : (sought : List ℕ) → named sought [] ≡ 0
unfolding named
named_none [] = refl
named_none (s ∷ sought) = let ih = named_none sought in omega arith

named_more : (sought : List ℕ) (x : ℕ) (xs : List ℕ) → named sought (x ∷ xs) ≡ times x sought + named sought xs
unfolding named
named_more [] x xs = refl
named_more (s ∷ sought) x xs = let ih = named_more sought x xs in grind (arith, nat_tests)

named_once : (sought seats : List ℕ) → each_once sought seats ≡ true → named sought seats ≡ length sought
unfolding named
named_once [] seats ok = refl
named_once (s ∷ sought) seats ok =
    let parts = and_parts (times s seats == 1) (each_once sought seats) ok in
    let here = eqb-true (times s seats) 1 parts.0 in let ih = named_once sought seats parts.1 in omega arith

named_most : (xs : List ℕ) → named eight_seats xs ≤ length xs
named_most [] = omega (arith, named_none eight_seats)
named_most (x ∷ xs) = let ih = named_most xs in let m = named_more eight_seats x xs in let t = times_counting x 1 8 in omega arith

all_seats : (xs : List ℕ) → named eight_seats xs ≡ length xs → (i : ℕ) → i < length xs → (0 < slice_index xs i) × (slice_index xs i < 9)
all_seats [] e i h = absurd (omega arith)
all_seats (x ∷ xs) e zero h =
    let t = times_counting x 1 8 in let m = named_more eight_seats x xs in let b = named_most xs in
    let r = t.1 (omega arith) in (omega arith, omega arith)
all_seats (x ∷ xs) e (suc i) h =
    let t = times_counting x 1 8 in let m = named_more eight_seats x xs in let b = named_most xs in
    all_seats xs (omega arith) i (omega arith)

once_at : (sought seats : List ℕ) → each_once sought seats ≡ true → (i : ℕ) → i < length sought → times (slice_index sought i) seats ≡ 1
once_at [] seats ok i h = absurd (omega arith)
once_at (s ∷ sought) seats ok zero h = eqb-true (times s seats) 1 (and_parts (times s seats == 1) (each_once sought seats) ok).0
once_at (s ∷ sought) seats ok (suc i) h = once_at sought seats (and_parts (times s seats == 1) (each_once sought seats) ok).1 i (omega arith)

pub length_order : (seats : List ℕ) → full_order seats ≡ true → length seats ≡ 8
unfolding full_order
length_order seats ok = eqb-true (length seats) 8 (and_parts (length seats == 8) (each_once eight_seats seats) ok).0

-- each seat is named just once
pub order_once : (seats : List ℕ) → full_order seats ≡ true → (k : ℕ) → k < 8 → times (k + 1) seats ≡ 1
unfolding full_order
order_once seats ok k h =
    let at : slice_index_or eight_seats k 0 ≡ k + 1 = omega (arith, get_or-range_with_len 1 8 k 0 h) in
    ap (λ s. times s seats) (sym at) ∙ once_at eight_seats seats (and_parts (length seats == 8) (each_once eight_seats seats) ok).1 k h

-- each place names a seat
pub order_at : (seats : List ℕ) → full_order seats ≡ true → (i : ℕ) → i < 8 → (0 < slice_index seats i) × (slice_index seats i < 9)
unfolding full_order
order_at seats ok i h =
    let n = length_order seats ok in
    let e = named_once eight_seats seats (and_parts (length seats == 8) (each_once eight_seats seats) ok).1 in
    all_seats seats (e ∙ sym n) i (omega arith)

-- the seat at a place is not named after it
pub order_apart : (seats : List ℕ) → full_order seats ≡ true → (i : ℕ) → i < 8 → times (slice_index seats i) (drop (i + 1) seats) ≡ 0
order_apart seats ok i h =
    let s = slice_index_or seats i 0 in
    let r = order_at seats ok i h in
    let once = order_once seats ok (s - 1) (omega arith) in
    let same : s - 1 + 1 ≡ s = omega arith in
    let e = ap (λ t. times t seats) same in
    let n = length_order seats ok in
    let m = times_more s seats i (omega arith) in
    let l = times_drop s seats i in
    grind (arith, nat_tests)
