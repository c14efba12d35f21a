-- The laws of set-off in one series, for every rate r and every list of volumes vs.
use Rattle.std.proofs.Common.{◌≡◌, ℕ, zero, suc, ◌+◌, ◌*◌, ◌<◌, ◌≤◌, Bool, true, false, cond, List, [], ◌∷◌, map, length, get_or, ℤ, pos, negsuc, ◌+ℤ◌, nat_abs, sym, refl, ap, ◌∙◌, mul_assoc, mul-le-mul_left, mul-zero, mul-add, arith}
use Rattle.std.proofs.lemmas.List.{length-map}
use Rattle.std.proofs.lemmas.Int.{ints}
use Rattle.std.proofs.lemmas.Bool.Decides.{nat_tests}
use Rattle.sharing.specs.Lists.{total}
use Rattle.sharing.specs.Sharing.{shares}
use Rattle.sharing.proofs.Shares.{length_shares}
use Rattle.sharing.proofs.Laws.{nothing_lost, capped}
use Rattle.ledger.specs.Sums.{total_ℤ}
use Rattle.ledger.specs.SetOff.{margin_before, minor, minor_volume, major_volume, minor_surplus, spared, weights, major_share, relief, margin_after, margins_after, gross_margin}
use Rattle.ledger.specs.Theorems.{MajorsCover, AlwaysVolume, SetOffHolds, SetOffLaw}
use Rattle.ledger.proofs.Sums.{upto, total_made, total_mapped, total_by_place, total_scale, total_plus, get_or-mapped, upto_add}

-- a member is on one side or the other
split_size : (g v : ℤ) → minor_volume g v + major_volume g v ≡ nat_abs v
split_size (pos g) (pos v) = omega arith
split_size (pos g) (negsuc v) = omega arith
split_size (negsuc g) (pos v) = omega arith
split_size (negsuc g) (negsuc v) = omega arith

surplus_is : (r : ℕ) (g v : ℤ) → minor_surplus r g v ≡ 4 * (r * minor_volume g v)
surplus_is r (pos g) (pos v) = omega (arith, mul-zero r)
surplus_is r (pos g) (negsuc v) = refl
surplus_is r (negsuc g) (pos v) = refl
surplus_is r (negsuc g) (negsuc v) = omega (arith, mul-zero r)

-- the majors' volume less the minors' is the group's net volume, without its sign
high_net : (a : ℕ) (vs : List ℤ) → total_ℤ vs +ℤ pos (total (map (minor_volume (pos a)) vs)) ≡ pos (total (map (major_volume (pos a)) vs))
high_net a [] = refl
high_net a (pos v ∷ vs) = omega (arith, ints, high_net a vs)
high_net a (negsuc v ∷ vs) = omega (arith, ints, high_net a vs)

low_net : (a : ℕ) (vs : List ℤ) → total_ℤ vs +ℤ pos (total (map (major_volume (negsuc a)) vs)) ≡ pos (total (map (minor_volume (negsuc a)) vs))
low_net a [] = refl
low_net a (pos v ∷ vs) = omega (arith, ints, low_net a vs)
low_net a (negsuc v ∷ vs) = omega (arith, ints, low_net a vs)

sides_at : (vs : List ℤ) (g : ℤ) → total_ℤ vs ≡ g → total (map (minor_volume g) vs) + nat_abs g ≡ total (map (major_volume g) vs)
sides_at vs (pos a) e = omega (arith, ints, high_net a vs, e)
sides_at vs (negsuc a) e = omega (arith, ints, low_net a vs, e)

-- both sides' volumes
pub minors : List ℤ → ℕ
minors vs = total (map (minor_volume (total_ℤ vs)) vs)

pub sides : (vs : List ℤ) → minors vs + nat_abs (total_ℤ vs) ≡ total (weights vs)
unfolding minors
sides vs = sides_at vs (total_ℤ vs) refl

pub sizes : (vs : List ℤ) → minors vs + total (weights vs) ≡ total (map nat_abs vs)
unfolding minors
sizes vs = total_plus (minor_volume (total_ℤ vs)) (major_volume (total_ℤ vs)) nat_abs vs (split_size (total_ℤ vs))

pub majors_cover : MajorsCover
majors_cover vs = omega (arith, sides_at vs (total_ℤ vs) refl)

module _ (r : ℕ) (vs : List ℤ) where
  pub spared_is : spared r vs ≡ 4 * (r * minors vs)
  unfolding minors
  spared_is =
      omega (
        arith,
        total_scale 4 (minor_surplus r (total_ℤ vs)) (λ v. r * minor_volume (total_ℤ vs) v) vs (surplus_is r (total_ℤ vs)),
        total_scale r (λ v. r * minor_volume (total_ℤ vs) v) (minor_volume (total_ℤ vs)) vs (λ v. refl),
      )

  -- the surplus is at most four rates for each MWh of the majors
  spared_le : spared r vs ≤ 4 * r * total (weights vs)
  spared_le =
      let m : r * minors vs ≤ r * total (weights vs) = mul-le-mul_left r (omega (arith, sides vs)) in
      omega (arith, spared_is, mul_assoc 4 r (total (weights vs)))

  pub has_volume : 0 < spared r vs → 0 < total (weights vs)
  has_volume h = by (total (weights vs)) refl
    where
      by : (w : ℕ) → total (weights vs) ≡ w → 0 < total (weights vs)
      by zero e = absurd (omega (arith, spared_le, ap (λ x. 4 * r * x) e, mul-zero (4 * r)))
      by (suc w) e = omega arith

  pub shares_whole : upto (length vs) (major_share r vs) ≡ spared r vs
  unfolding major_share
  shares_whole =
      sym (total_by_place (shares (weights vs) (spared r vs)) (length vs) (length_shares (weights vs) (spared r vs) ∙ length-map vs (major_volume (total_ℤ vs))))
      ∙ nothing_lost (weights vs) (spared r vs) has_volume

  none_flat : (g : ℤ) → major_volume g (pos 0) ≡ 0
  none_flat (pos a) = refl
  none_flat (negsuc a) = refl

  weight_at : (k : ℕ) → get_or (weights vs) k 0 ≡ major_volume (total_ℤ vs) (get_or vs k (pos 0))
  weight_at k = ap (get_or (weights vs) k) (sym (none_flat (total_ℤ vs))) ∙ get_or-mapped (major_volume (total_ℤ vs)) vs k (pos 0)

  share_le : (k : ℕ) → major_share r vs k ≤ 4 * (r * major_volume (total_ℤ vs) (get_or vs k (pos 0)))
  unfolding major_share
  share_le k =
      omega (
        arith,
        capped (weights vs) (spared r vs) (4 * r) spared_le k,
        ap (λ x. 4 * r * x) (weight_at k),
        mul_assoc 4 r (major_volume (total_ℤ vs) (get_or vs k (pos 0))),
      )

  cut_is : (b : Bool) (s h x : ℕ) → h ≤ 4 * (r * cond b 0 x) → cond b s 0 + h ≡ cond b (cond b s 0) h
  cut_is true s h x l = omega (arith, mul-zero r)
  cut_is false s h x l = omega arith

  cut_le : (b : Bool) (s h x : ℕ) → h ≤ 4 * (r * cond b 0 x) → s ≤ 4 * (r * x) → cond b (cond b s 0) h ≤ 4 * (r * x)
  cut_le true s h x l m = m
  cut_le false s h x l m = l

  relief_is : (k : ℕ) → minor_surplus r (total_ℤ vs) (get_or vs k (pos 0)) + major_share r vs k ≡ relief r vs k
  relief_is k = let v = get_or vs k (pos 0) in cut_is (minor (total_ℤ vs) v) (4 * (r * nat_abs v)) (major_share r vs k) (nat_abs v) (share_le k)

  pub relief_le : (k : ℕ) → relief r vs k ≤ 4 * (r * nat_abs (get_or vs k (pos 0)))
  relief_le k = let v = get_or vs k (pos 0) in cut_le (minor (total_ℤ vs) v) (4 * (r * nat_abs v)) (major_share r vs k) (nat_abs v) (share_le k) (omega arith)

  pub gross_is : gross_margin r vs ≡ 5 * (r * total (map nat_abs vs))
  gross_is =
      omega (
        arith,
        total_scale 5 (margin_before r) (λ v. r * nat_abs v) vs (λ v. refl),
        total_scale r (λ v. r * nat_abs v) nat_abs vs (λ v. refl),
      )

  afters_summed : total (margins_after r vs) + 2 * spared r vs ≡ gross_margin r vs
  afters_summed =
      omega (
        arith,
        total_made (length vs) (margin_after r vs),
        upto_add (length vs) (margin_after r vs) (relief r vs) (λ k. margin_before r (get_or vs k (pos 0))) (λ k l. omega (arith, relief_le k)),
        upto_add (length vs) (λ k. minor_surplus r (total_ℤ vs) (get_or vs k (pos 0))) (major_share r vs) (relief r vs) (λ k l. relief_is k),
        total_mapped (margin_before r) vs (pos 0),
        total_mapped (minor_surplus r (total_ℤ vs)) vs (pos 0),
        shares_whole,
      )

  pub set_off_holds : SetOffHolds r vs
  set_off_holds = record {
    sum =
        omega (
          arith,
          afters_summed,
          spared_is,
          gross_is,
          ap (λ x. r * x) (sizes vs),
          ap (λ x. r * x) (sides vs),
          mul-add r (minors vs) (total (weights vs)),
          mul-add r (minors vs) (nat_abs (total_ℤ vs)),
        );
    least = λ k. omega (arith, relief_le k);
    most = λ k. omega arith;
  }

pub set_off_law : SetOffLaw
set_off_law = set_off_holds

pub always_volume : AlwaysVolume
always_volume r vs = let h = has_volume r vs in grind (arith, nat_tests)
