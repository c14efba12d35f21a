-- The net volumes of positions.
use Rattle.std.proofs.Common.{◌≡◌, ℕ, zero, suc, ◌+◌, ◌*◌, ◌<◌, ◌≤◌, List, [], ◌∷◌, map, length, get_or, take, ℤ, pos, ◌+ℤ◌, nat_abs, sym, refl, ap, ◌∙◌, add-one, mul-le-mul, arith}
use Rattle.std.specs.List.{sum_by}
use Rattle.std.proofs.lemmas.List.{length-map, length-take-le, get_or-map, get_or-take}
use Rattle.std.proofs.lemmas.List.Recursion.{is_sum_by}
use Rattle.std.proofs.lemmas.Int.{ints}
use Rattle.sharing.specs.Lists.{total}
use Rattle.sharing.proofs.Made.{made_from}
use Rattle.ledger.specs.Sums.{total_ℤ}
use Rattle.ledger.specs.Ledger.{Net, net_at, flat}
use Rattle.ledger.specs.SetOff.{spared, weights}
use Rattle.ledger.specs.Margins.{volumes}
use Rattle.ledger.proofs.SetOffs.{minors, sides, sizes, spared_is}
use Rattle.book.specs.declared.state.Position.{Position}
use Rattle.book.specs.declared.state.Series.{Series}
use Rattle.book.specs.Views.{net_from, row_from}
use Rattle.book.specs.SettingOff.{volumes_held}

-- a sum over positions, one more at a time
held_suc : (ps : List Position) (i : ℕ) (p : Position) → i < length ps → total_ℤ (volumes_held (take (suc i) ps)) ≡ total_ℤ (volumes_held (take i ps)) +ℤ (get_or ps i p).volume
held_suc [] i p h = absurd (omega arith)
held_suc (q ∷ ps) zero p h = omega (arith, ints)
held_suc (q ∷ ps) (suc i) p h = omega (arith, ints, held_suc ps i p (omega arith))

pub held_more : (ps : List Position) (i : ℕ) (p : Position) → i < length ps → total_ℤ (volumes_held (take (i + 1) ps)) ≡ total_ℤ (volumes_held (take i ps)) +ℤ (get_or ps i p).volume
held_more ps i p h = rw add-one (held_suc ps i p h)

sizes_held : (ps : List Position) → total (map nat_abs (volumes_held ps)) ≤ 2000000 * length ps
sizes_held [] = omega arith
sizes_held (p ∷ ps) = omega (arith, sizes_held ps, p.within.0)

-- positions whose volumes are vs
module _ (ps : List Position) (vs : List ℤ) (seen : volumes_held ps ≡ vs) where
  pub as_many : length vs ≡ length ps
  as_many = ap length (sym seen) ∙ length-map ps (λ p. p.volume)

  -- a sum over them, as an iterator sums
  pub total_held : (f : ℤ → ℕ) → sum_by (λ p. f p.volume) ps ≡ total (map f vs)
  total_held f = sym (is_sum_by (λ qs. total (map f (volumes_held qs))) (λ p. f p.volume) refl (λ _ _. refl) ps) ∙ ap (λ xs. total (map f xs)) seen

  -- the volume of the position at a place
  pub volume_found : (k : ℕ) (p : Position) → k < length ps → p ≡ get_or ps k p → (k < length vs) × (p.volume ≡ get_or vs k (pos 0))
  volume_found k p within is = (
    omega (arith, as_many, within),
    ap (λ q. q.volume) is ∙ sym (get_or-map (λ q. q.volume) ps k p (pos 0) within) ∙ ap (λ xs. get_or xs k (pos 0)) seen,
  )

  -- within the limits of a position
  sizes_within : length ps ≤ 8 → total (map nat_abs vs) ≤ 16000000
  sizes_within few = omega (arith, sizes_held ps, ap (λ xs. total (map nat_abs xs)) seen)

  pub weight_within : length ps ≤ 8 → total (weights vs) ≤ 16000000
  weight_within few = omega (arith, sizes_within few, sizes vs)

  pub spared_within : (r : ℕ) → r ≤ 2000000000 → length ps ≤ 8 → spared r vs ≤ 64000000000000000
  spared_within r rated few =
      let half : minors vs ≤ 8000000 = omega (arith, sizes_within few, sizes vs, sides vs) in
      let m : r * minors vs ≤ 2000000000 * 8000000 = mul-le-mul rated half in
      omega (arith, spared_is r vs)

-- the volumes of the first seats of a series
seen_from : (n : ℕ) (ps : List Position) → volumes_held (take n ps) ≡ map (λ (x : Net). x.volume) (take n (map net_from ps))
seen_from zero ps = refl
seen_from (suc n) [] = refl
seen_from (suc n) (p ∷ ps) = ap (λ vs. p.volume ∷ vs) (seen_from n ps)

pub volumes_are : (n : ℕ) (s : Series) → n ≤ 8 → volumes_held (take n s.positions) ≡ volumes n (row_from s)
volumes_are n s few =
    let nets = map net_from s.positions in
    let long : length (take n nets) ≡ n = length-take-le n nets (omega (arith, length-map s.positions net_from, s.seats)) in
    seen_from n s.positions
    ∙ made_from (λ k. (net_at (row_from s) k).volume) (map (λ (x : Net). x.volume) (take n nets)) n (pos 0)
    (length-map (take n nets) (λ (x : Net). x.volume) ∙ long)
    (λ k h. get_or-map (λ (x : Net). x.volume) (take n nets) k flat (pos 0) (omega arith) ∙ ap (λ (x : Net). x.volume) (get_or-take n nets k flat h))
