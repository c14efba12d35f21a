-- Sums over members and over lists.
use Rattle.std.proofs.Common.{◌≡◌, ℕ, zero, suc, ◌+◌, ◌-◌, ◌*◌, ◌<◌, ◌≤◌, List, [], ◌∷◌, ◌++◌, map, length, get_or, ℤ, pos, negsuc, ◌+ℤ◌, ◌-ℤ◌, ◌*ℤ◌, ◌≤ℤ◌, ◌<ℤ◌, sym, refl, ap, ◌∙◌, add-zero, add-suc, add-mul, mul-zero, mul-add, add-one, arith}
use mathlib.Core.List.{map-map}
use Rattle.std.specs.List.{range_with_len}
use Rattle.std.proofs.lemmas.List.FromFn.{map-range_with_len_more}
use Rattle.std.proofs.lemmas.List.{length-map, get_or-map}
use Rattle.std.proofs.lemmas.Int.{ints}
use Rattle.sharing.specs.Lists.{total, made}
use Rattle.sharing.proofs.Made.{total_made_more, made_from}
use Rattle.ledger.specs.Sums.{total_ℤ, above_zero, below_zero}

-- f 0 + .. + f (n - 1)
abbrev pub upto : ℕ → (ℕ → ℕ) → ℕ
upto zero f = 0
upto (suc n) f = upto n f + f n

abbrev pub upto_ℤ : ℕ → (ℕ → ℤ) → ℤ
upto_ℤ zero f = pos 0
upto_ℤ (suc n) f = upto_ℤ n f +ℤ f n

total_made_none : (f : ℕ → ℕ) → total (made 0 f) ≡ 0
unfolding made
total_made_none f = refl

pub total_made : (n : ℕ) (f : ℕ → ℕ) → total (made n f) ≡ upto n f
total_made zero f = total_made_none f
total_made (suc n) f = rw add-one at (total_made_more f n) ∙ ap (λ x. x + f n) (total_made n f)

total_ℤ_append : (xs ys : List ℤ) → total_ℤ (xs ++ ys) ≡ total_ℤ xs +ℤ total_ℤ ys
total_ℤ_append [] ys = omega (arith, ints)
total_ℤ_append (x ∷ xs) ys = omega (arith, ints, total_ℤ_append xs ys)

total_ℤ_made_none : (f : ℕ → ℤ) → total_ℤ (made 0 f) ≡ pos 0
unfolding made
total_ℤ_made_none f = refl

total_ℤ_made_more : (f : ℕ → ℤ) (n : ℕ) → total_ℤ (made (n + 1) f) ≡ total_ℤ (made n f) +ℤ f n
unfolding made
total_ℤ_made_more f n = ap total_ℤ (map-range_with_len_more f 0 n n (omega arith)) ∙ total_ℤ_append (made n f) (f n ∷ []) ∙ ap (λ x. total_ℤ (made n f) +ℤ x) (omega (arith, ints))

pub total_ℤ_made : (n : ℕ) (f : ℕ → ℤ) → total_ℤ (made n f) ≡ upto_ℤ n f
total_ℤ_made zero f = total_ℤ_made_none f
total_ℤ_made (suc n) f = rw add-one at (total_ℤ_made_more f n) ∙ ap (λ x. x +ℤ f n) (total_ℤ_made n f)

pub map_made : {X Y : Type 0} (g : X → Y) (n : ℕ) (f : ℕ → X) → map g (made n f) ≡ made n (λ k. g (f k))
unfolding made
map_made g n f = map-map g f (range_with_len 0 n)

-- a list mapped, place by place
pub get_or-mapped : {X Y : Type 0} (f : X → Y) (xs : List X) (k : ℕ) (d : X) → get_or (map f xs) k (f d) ≡ f (get_or xs k d)
get_or-mapped f [] k d = refl
get_or-mapped f (x ∷ xs) zero d = refl
get_or-mapped f (x ∷ xs) (suc k) d = get_or-mapped f xs k d

by_place : (f : ℕ → ℕ) (xs : List ℕ) (n : ℕ) → length xs ≡ n → ((k : ℕ) → k < n → get_or xs k 0 ≡ f k) → total xs ≡ upto n f
by_place f xs n e at = ap total (made_from f xs n 0 e at) ∙ total_made n f

pub total_by_place : (xs : List ℕ) (n : ℕ) → length xs ≡ n → total xs ≡ upto n (λ k. get_or xs k 0)
total_by_place xs n e = by_place (λ k. get_or xs k 0) xs n e (λ k h. refl)

pub upto_same : (n : ℕ) (f g : ℕ → ℕ) → ((k : ℕ) → k < n → f k ≡ g k) → upto n f ≡ upto n g
upto_same zero f g e = refl
upto_same (suc n) f g e = omega (arith, upto_same n f g (λ k h. e k (omega arith)), e n (omega arith))

pub total_mapped : {X : Type 0} (f : X → ℕ) (xs : List X) (d : X) → total (map f xs) ≡ upto (length xs) (λ k. f (get_or xs k d))
total_mapped f xs d = by_place (λ k. f (get_or xs k d)) (map f xs) (length xs) (length-map xs f) (λ k h. get_or-map f xs k d 0 h)

pub upto_add : (n : ℕ) (f g h : ℕ → ℕ) → ((k : ℕ) → k < n → f k + g k ≡ h k) → upto n f + upto n g ≡ upto n h
upto_add zero f g h e = refl
upto_add (suc n) f g h e = omega (arith, upto_add n f g h (λ k l. e k (omega arith)), e n (omega arith))

tail : (d n : ℕ) (f : ℕ → ℕ) → ((k : ℕ) → n ≤ k → k < n + d → f k ≡ 0) → upto (n + d) f ≡ upto n f
tail zero n f e = rw add-zero
tail (suc d) n f e = rw add-suc (omega (arith, tail d n f (λ k h j. e k h (omega arith)), e (n + d) (omega arith) (omega arith)))

-- members from n on add nothing
pub upto_tail : (n m : ℕ) (f : ℕ → ℕ) → n ≤ m → ((k : ℕ) → n ≤ k → k < m → f k ≡ 0) → upto m f ≡ upto n f
upto_tail n m f h e = let same : n + (m - n) ≡ m = omega arith in rw same at (tail (m - n) n f (λ k i j. e k i (omega arith)))

pub upto_le : (n m : ℕ) (f : ℕ → ℕ) → ((k : ℕ) → k < n → f k ≤ m) → upto n f ≤ n * m
upto_le zero m f h = omega arith
upto_le (suc n) m f h = omega (arith, upto_le n m f (λ k l. h k (omega arith)), h n (omega arith), add-mul n 1 m)

pub total_le : {X : Type 0} (f g : X → ℕ) (xs : List X) → ((x : X) → f x ≤ g x) → total (map f xs) ≤ total (map g xs)
total_le f g [] h = omega arith
total_le f g (x ∷ xs) h = omega (arith, total_le f g xs h, h x)

pub total_same : {X : Type 0} (f g : X → ℕ) (xs : List X) → ((x : X) → f x ≡ g x) → total (map f xs) ≡ total (map g xs)
total_same f g [] h = refl
total_same f g (x ∷ xs) h = omega (arith, total_same f g xs h, h x)

pub total_ℤ_same : {X : Type 0} (f g : X → ℤ) (xs : List X) → ((x : X) → f x ≡ g x) → total_ℤ (map f xs) ≡ total_ℤ (map g xs)
total_ℤ_same f g [] h = refl
total_ℤ_same f g (x ∷ xs) h = omega (arith, ints, total_ℤ_same f g xs h, h x)

-- each is c times the other, and so are the sums
pub total_scale : {X : Type 0} (c : ℕ) (f g : X → ℕ) (xs : List X) → ((x : X) → f x ≡ c * g x) → total (map f xs) ≡ c * total (map g xs)
total_scale c f g [] h = sym (mul-zero c)
total_scale c f g (x ∷ xs) h = omega (arith, total_scale c f g xs h, h x, mul-add c (g x) (total (map g xs)))

pub total_plus : {X : Type 0} (f g h : X → ℕ) (xs : List X) → ((x : X) → f x + g x ≡ h x) → total (map f xs) + total (map g xs) ≡ total (map h xs)
total_plus f g h [] e = refl
total_plus f g h (x ∷ xs) e = omega (arith, total_plus f g h xs e, e x)

-- a sum of sums may be taken either way round
upto_none : (n : ℕ) → upto n (λ _. 0) ≡ 0
upto_none zero = refl
upto_none (suc n) = omega (arith, upto_none n)

plus : (n : ℕ) (f g : ℕ → ℕ) → upto n f + upto n g ≡ upto n (λ k. f k + g k)
plus zero f g = refl
plus (suc n) f g = omega (arith, plus n f g)

pub exchange : {X : Type 0} (n : ℕ) (f : X → ℕ → ℕ) (xs : List X) → total (map (λ x. upto n (f x)) xs) ≡ upto n (λ k. total (map (λ x. f x k) xs))
exchange n f [] = sym (upto_none n)
exchange n f (x ∷ xs) = ap (λ y. upto n (f x) + y) (exchange n f xs) ∙ plus n (f x) (λ k. total (map (λ y. f y k) xs))

none_ℤ : (n : ℕ) → upto_ℤ n (λ _. pos 0) ≡ pos 0
none_ℤ zero = refl
none_ℤ (suc n) = omega (arith, ints, none_ℤ n)

plus_ℤ : (n : ℕ) (f g : ℕ → ℤ) → upto_ℤ n f +ℤ upto_ℤ n g ≡ upto_ℤ n (λ k. f k +ℤ g k)
plus_ℤ zero f g = refl
plus_ℤ (suc n) f g = omega (arith, ints, plus_ℤ n f g)

pub exchange_ℤ : {X : Type 0} (n : ℕ) (f : X → ℕ → ℤ) (xs : List X) → total_ℤ (map (λ x. upto_ℤ n (f x)) xs) ≡ upto_ℤ n (λ k. total_ℤ (map (λ x. f x k) xs))
exchange_ℤ n f [] = sym (none_ℤ n)
exchange_ℤ n f (x ∷ xs) = ap (λ y. upto_ℤ n (f x) +ℤ y) (exchange_ℤ n f xs) ∙ plus_ℤ n (f x) (λ k. total_ℤ (map (λ y. f y k) xs))

-- a balance is its surplus less its need
sides : (z : ℤ) → z +ℤ pos (below_zero z) ≡ pos (above_zero z)
sides (pos a) = omega (arith, ints)
sides (negsuc a) = omega (arith, ints)

pub sides_summed : (n : ℕ) (b : ℕ → ℤ) → upto_ℤ n b +ℤ pos (upto n (λ k. below_zero (b k))) ≡ pos (upto n (λ k. above_zero (b k)))
sides_summed zero b = refl
sides_summed (suc n) b = omega (arith, ints, sides_summed n b, sides (b n))

-- units u and their whole zloty b, summed
pub floors_low : (n : ℕ) (u b : ℕ → ℤ) → ((k : ℕ) → (b k *ℤ pos 5000000) ≤ℤ u k) → (upto_ℤ n b *ℤ pos 5000000) ≤ℤ upto_ℤ n u
floors_low zero u b h = omega (arith, ints)
floors_low (suc n) u b h = omega (arith, ints, floors_low n u b h, h n)

pub floors_high : (n : ℕ) (u b : ℕ → ℤ) → ((k : ℕ) → u k <ℤ (b k *ℤ pos 5000000 +ℤ pos 5000000)) → (upto_ℤ n u +ℤ pos n) ≤ℤ (upto_ℤ n b *ℤ pos 5000000 +ℤ pos (5000000 * n))
floors_high zero u b h = omega (arith, ints)
floors_high (suc n) u b h = omega (arith, ints, floors_high n u b h, h n)

-- units of the members from their additional margins a and their margins g
pub units_summed : (n : ℕ) (a : ℕ → ℤ) (g : ℕ → ℕ) → upto_ℤ n (λ k. a k *ℤ pos 50000 -ℤ pos (g k)) ≡ upto_ℤ n a *ℤ pos 50000 -ℤ pos (upto n g)
units_summed zero a g = refl
units_summed (suc n) a g = omega (arith, ints, units_summed n a g)
