-- The holdings can share the surplus of the minor side, and what is then taken off each margin.
use Rattle.std.proofs.Common.{◌≡◌, ℕ, zero, suc, ◌+◌, ◌<◌, ◌≤◌, Bool, true, false, cond, ◌&&◌, eqb, ltb, List, ◌++◌, map, length, get_or, take, drop, set, ℤ, pos, Ok, Err, Result, sym, refl, ap, ◌∙◌, arith}
use Rattle.std.specs.List.{range_with_len}
use Rattle.std.proofs.lemmas.List.{length-map, get_or-map, get_or-take, get_or_past, take_at}
use Rattle.std.proofs.lemmas.Bool.{cond-true, lt-ltb, ne_eqb, or_from}
use Rattle.std.proofs.lemmas.Bool.Decides.{nat_tests}
use Rattle.sharing.specs.declared.refusal.Refusal.{Refusal}
use Rattle.sharing.specs.declared.refusal.Refusal.TheVariants.{CannotShare, NoVolume}
use Rattle.sharing.specs.declared.claims.Claim.{Claim}
use Rattle.sharing.specs.declared.claims.Mwh.{Mwh}
use Rattle.sharing.specs.Lists.{total, among, repeated, made}
use Rattle.sharing.specs.Sharing.{shares, unshareable, shared}
use Rattle.sharing.proofs.Made.{length_made, get_or-made, made_from}
use Rattle.sharing.proofs.Shares.{length_shares}
use Rattle.ledger.specs.Sums.{total_ℤ}
use Rattle.ledger.specs.SetOff.{margin_before, minor, major_volume, spared, weights, major_share, relief, no_volume}
use Rattle.ledger.specs.Margins.{over_lines}
use Rattle.ledger.proofs.Sums.{map_made}
use Rattle.ledger.proofs.SetOffs.{relief_le}
use Rattle.book.specs.declared.state.Position.{Position}
use Rattle.book.specs.declared.set_off.Margin.{Margin}
use Rattle.book.specs.SettingOff.{Terms, volumes_held, seat_margin, margin_of, no_margin, holding_with, holding_of, HoldShares, SharesOut, relief_of, margin_with}
use Rattle.book.proofs.Filled.{take_made, over_next, over_more, over_rest}
use Rattle.book.proofs.Held.{as_many, spared_within, weight_within}

-- the owner and the weight of a holding
abbrev owner_of : Claim Mwh → ℕ
owner_of h = h.seat

abbrev weight_of : Claim Mwh → ℕ
weight_of h = h.weight

-- the seats are counted up, so that none stands twice
not_among : (seat a n : ℕ) → seat < a + 1 → among seat (map (λ k. k + 1) (range_with_len a n)) ≡ false
not_among seat a zero h = refl
not_among seat a (suc n) h = or_from (eqb (a + 1) seat) _ (ne_eqb (a + 1) seat (λ e. omega arith)) (not_among seat (a + 1) n (omega arith))

apart_from : (a n : ℕ) → repeated (map (λ k. k + 1) (range_with_len a n)) ≡ false
apart_from a zero = refl
apart_from a (suc n) = or_from (among (a + 1) (map (λ k. k + 1) (range_with_len (a + 1) n))) _ (not_among (a + 1) (a + 1) n (omega arith)) (apart_from (a + 1) n)

seats_apart : (n : ℕ) → repeated (made n (λ k. k + 1)) ≡ false
unfolding made
seats_apart n = apart_from 0 n

-- within the limits, and with owners apart, only an amount with no weight to share it by is refused
only_weightless : (owners ws : List ℕ) (a : ℕ) → a ≤ 64000000000000000 → total ws ≤ 16000000 → repeated owners ≡ false → unshareable owners ws a ≡ (ltb 0 a && eqb (total ws) 0)
only_weightless owners ws a low few apart = grind (arith, nat_tests)

pub length_weights : (vs : List ℤ) → length (weights vs) ≡ length vs
length_weights vs = length-map vs (major_volume (total_ℤ vs))

module _ (t : Terms) (ps : List Position) (seen : volumes_held ps ≡ t.volumes) (rated : t.rate ≤ 2000000000) (few : length ps ≤ 8) (hs : List (Claim Mwh)) (are : hs ≡ made 8 (holding_of t)) (a : ℕ) (whole : a ≡ spared t.rate t.volumes) where
  front : take (length ps) hs ≡ made (length ps) (holding_of t)
  front = ap (take (length ps)) are ∙ take_made (holding_of t) 8 (length ps) few

  owners_are : map owner_of (take (length ps) hs) ≡ made (length ps) (λ k. k + 1)
  owners_are = ap (map owner_of) front ∙ map_made owner_of (length ps) (holding_of t)

  weights_are : map weight_of (take (length ps) hs) ≡ weights t.volumes
  weights_are =
      let long = as_many ps t.volumes seen in
      ap (map weight_of) front
      ∙ map_made weight_of (length ps) (holding_of t)
      ∙ sym (made_from (λ k. major_volume (total_ℤ t.volumes) (get_or t.volumes k (pos 0))) (weights t.volumes) (length ps) 0 (length_weights t.volumes ∙ long)
      (λ k h. get_or-map (major_volume (total_ℤ t.volumes)) t.volumes k (pos 0) 0 (omega arith)))

  answer_is : shared (map owner_of (take (length ps) hs)) (map weight_of (take (length ps) hs)) a ≡ cond (no_volume t.rate t.volumes) (Err CannotShare) (Ok tt)
  answer_is =
      let os = made (length ps) (λ k. k + 1) in
      ap (λ xs. shared xs (map weight_of (take (length ps) hs)) a) owners_are
      ∙ ap (λ ws. shared os ws a) weights_are
      ∙ ap (shared os (weights t.volumes)) whole
      ∙ ap (λ (b : Bool). cond b (Err CannotShare) (Ok tt))
      (only_weightless os (weights t.volumes) (spared t.rate t.volumes) (spared_within ps t.volumes seen t.rate rated few) (weight_within ps t.volumes seen few) (seats_apart (length ps)))

  pub refused : (e : Refusal) → ◌≡◌ {A = Result (Unit {0}) Refusal} (Err e) (shared (map owner_of (take (length ps) hs)) (map weight_of (take (length ps) hs)) a) → SharesOut t (Err NoVolume)
  refused e said = (by (no_volume t.rate t.volumes) (said ∙ answer_is), refl)
    where
      by : (b : Bool) → ◌≡◌ {A = Result (Unit {0}) Refusal} (Err e) (cond b (Err CannotShare) (Ok tt)) → b ≡ true
      by true h = refl
      by false h = let z : ◌≡◌ {A = ℕ} 0 1 = cc in absurd (omega arith)

  -- cs are the members' holdings after the sharing
  pub accepted : (cs : List (Claim Mwh)) → ◌≡◌ {A = Result (Unit {0}) Refusal} (Ok tt) (shared (map owner_of (take (length ps) hs)) (map weight_of (take (length ps) hs)) a)
      → map (λ h. h.share) cs ≡ shares (map weight_of (take (length ps) hs)) a → SharesOut t (Ok (cs ++ drop (length ps) hs))
  accepted cs said told =
      let by_rate : map (λ h. h.share) cs ≡ shares (weights t.volumes) (spared t.rate t.volumes) = told ∙ ap (λ ws. shares ws a) weights_are ∙ ap (shares (weights t.volumes)) whole in
      let long : length cs ≡ length t.volumes = sym (length-map cs (λ h. h.share)) ∙ ap length by_rate ∙ length_shares (weights t.volumes) (spared t.rate t.volumes) ∙ length_weights t.volumes in
      (by (no_volume t.rate t.volumes) (said ∙ answer_is), ap (map (λ h. h.share)) (take_at cs (drop (length ps) hs) (length t.volumes) long) ∙ by_rate)
    where
      by : (b : Bool) → ◌≡◌ {A = Result (Unit {0}) Refusal} (Ok tt) (cond b (Err CannotShare) (Ok tt)) → b ≡ false
      by true h = let z : ◌≡◌ {A = ℕ} 0 1 = cc in absurd (omega arith)
      by false h = refl

-- a member's margin, by what was shared to his holding
module _ (t : Terms) (k : ℕ) (within : k < length t.volumes) (hs : List (Claim Mwh)) (h : Claim Mwh) (told : HoldShares t hs) where
  share_told : (get_or hs k h).share ≡ major_share t.rate t.volumes k
  unfolding major_share
  share_told =
      let long : length (take (length t.volumes) hs) ≡ length t.volumes
      = sym (length-map (take (length t.volumes) hs) (λ x. x.share)) ∙ ap length told ∙ length_shares (weights t.volumes) (spared t.rate t.volumes) ∙ length_weights t.volumes in
      sym (ap (λ x. x.share) (get_or-take (length t.volumes) hs k h within))
      ∙ sym (get_or-map (λ x. x.share) (take (length t.volumes) hs) k h 0 (omega arith))
      ∙ ap (λ xs. get_or xs k 0) told

  module _ (v : ℤ) (read : v ≡ get_or t.volumes k (pos 0)) where
    -- no more is taken off than there is
    pub covered : relief_of t v (get_or hs k h).share ≤ margin_before t.rate v
    covered =
        let is : relief_of t v (get_or hs k h).share ≡ relief t.rate t.volumes k = let s = share_told in cc in
        omega (arith, is, relief_le t.rate t.volumes k, ap (margin_before t.rate) read)

    pub margin_made : (m : Margin) → m ≡ margin_with t v (get_or hs k h).share → m ≡ seat_margin t k
    margin_made m e =
        let is : m ≡ margin_of t k = let s = share_told in cc in
        is ∙ sym (cond-true (ltb k (length t.volumes)) (margin_of t k) no_margin (lt-ltb k (length t.volumes) within))

-- what a seat with no member holds
abbrev pub no_holding : ℕ → Claim Mwh
no_holding k = record { seat = k + 1; weight = 0; share = 0; unit = record {} }

nothing_held : (t : Terms) (k : ℕ) → length t.volumes ≤ k → no_holding k ≡ holding_of t k
nothing_held t k high =
    ap (λ n. record { seat = k + 1; weight = n; share = 0; unit = record {} }) (weightless (minor net (pos 0)))
    ∙ ap (λ v. holding_with net v k) (sym (get_or_past t.volumes k (pos 0) high))
  where
    net : ℤ
    net = total_ℤ t.volumes

    weightless : (b : Bool) → ◌≡◌ {A = ℕ} 0 (cond b 0 0)
    weightless true = refl
    weightless false = refl

-- the weights of the first members, written over those of no member, and one more
pub weighed_more : (t : Terms) (hs : List (Claim Mwh)) (d : Claim Mwh) (k : ℕ) (v : ℤ) (n : ℕ) → k < 8 → hs ≡ over_lines k (holding_of t) (made 8 no_holding)
    → v ≡ get_or t.volumes k (pos 0) → n ≡ major_volume (total_ℤ t.volumes) v → set hs k (record (get_or hs k d) { weight = n }) ≡ over_lines (k + 1) (holding_of t) (made 8 no_holding)
weighed_more t hs d k v n within done read weighed =
    over_more (holding_of t) (made 8 no_holding) hs k (record (get_or hs k d) { weight = n }) (omega (arith, length_made no_holding 8)) done
    (ap (λ (x : Claim Mwh). record { seat = x.seat; weight = n; share = x.share; unit = x.unit }) (over_next (holding_of t) (made 8 no_holding) hs k d done ∙ get_or-made no_holding 8 k d within)
    ∙ ap (λ m. record { seat = k + 1; weight = m; share = 0; unit = record {} }) weighed
    ∙ ap (λ x. holding_with (total_ℤ t.volumes) x k) read)

-- those of all members
pub all_weighed : (t : Terms) → length t.volumes ≤ 8 → over_lines (length t.volumes) (holding_of t) (made 8 no_holding) ≡ made 8 (holding_of t)
all_weighed t few =
    over_rest (holding_of t) (length t.volumes) 8 (made 8 no_holding) (no_holding 0) few (length_made no_holding 8)
    (λ k high l. get_or-made no_holding 8 k (no_holding 0) l ∙ nothing_held t k high)
