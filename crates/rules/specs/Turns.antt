-- The shares of seats that take their turns.
use Rattle.std.specs.Prelude.{◌≡◌, ℕ, zero, suc, ◌+◌, ◌-◌, ◌<◌, ◌≤◌, min, true, cond, ◌≢◌, List, [], ◌∷◌, map, length, drop, ◌==◌, slice_index, slice_index_or, slice_set, refl}
use Rattle.std.proofs.Common.{sym, ap, ◌∙◌, ⊎_elim, arith, add-one}
use Rattle.std.proofs.lemmas.List.{at_drop_more, at_drop_all, get_or-set_same, get_or-set_other, get_or_past, length-set, ext_get_or}
use Rattle.std.proofs.lemmas.Bool.{cases_eq, cases_lt, cond_both, eqb-true}
use Rattle.std.proofs.lemmas.Bool.Decides.{nat_tests}
use Rattle.sharing.specs.Lists.{total, made}
use Rattle.sharing.proofs.Made.{length_made, get_or-made, made_from}
use Rattle.rules.specs.Division.{Lawful}
use Rattle.rules.specs.Sequences.{times, full_order, need_of, in_turn, by_sequence}
use Rattle.rules.specs.Orders.{times_more, length_order, order_once, order_at, order_apart}

need_at : (needs : List ℕ) (k : ℕ) → need_of needs (k + 1) ≡ slice_index needs k
need_at needs k = let e : k + 1 - 1 ≡ k = omega arith in ap (λ j. slice_index needs j) e

-- nobody gets more than he needs
turn_within : (ss needs : List ℕ) (left s : ℕ) → in_turn ss needs left s ≤ need_of needs s
turn_within [] needs left s = omega arith
turn_within (t ∷ ts) needs left s =
    cond_both (t == s) _ _ (λ n. n ≤ need_of needs s)
    (λ e. let same = ap (need_of needs) (eqb-true t s e) in omega arith)
    (λ e. turn_within ts needs (left - min (need_of needs t) left) s)

-- who has no turn gets nothing
turn_absent : (ss needs : List ℕ) (left s : ℕ) → times s ss ≡ 0 → in_turn ss needs left s ≡ 0
turn_absent [] needs left s none = refl
turn_absent (t ∷ ts) needs left s none =
    let ih : times s ts ≡ 0 → in_turn ts needs (left - min (need_of needs t) left) s ≡ 0 = turn_absent ts needs (left - min (need_of needs t) left) s in
    grind (arith, nat_tests)

-- where there is enough for all, who has a turn gets what he needs
turn_full : (ss needs : List ℕ) (left s : ℕ) → 0 < times s ss → total (map (need_of needs) ss) ≤ left → in_turn ss needs left s ≡ need_of needs s
turn_full [] needs left s some enough = absurd (omega arith)
turn_full (t ∷ ts) needs left s some enough =
    cond_both (t == s) _ _ (λ n. n ≡ need_of needs s)
    (λ e. let same = ap (need_of needs) (eqb-true t s e) in omega arith)
    (λ e. turn_full ts needs (left - min (need_of needs t) left) s (grind (arith, nat_tests)) (omega arith))

-- seats from 1 to 8, of which none comes twice
abbrev Apart : List ℕ → Type 0
Apart [] = Unit {0}
Apart (t ∷ ts) = (0 < t) × (t < 9) × (times t ts ≡ 0) × Apart ts

apart_from : (ss : List ℕ) → ((i : ℕ) → i < length ss → (0 < slice_index ss i) × (slice_index ss i < 9)) → ((i : ℕ) → i < length ss → times (slice_index ss i) (drop (suc i) ss) ≡ 0) → Apart ss
apart_from [] range once = tt
apart_from (t ∷ ts) range once =
    let r = range 0 (omega arith) in
    (r.0, r.1, once 0 (omega arith), apart_from ts (λ i h. range (suc i) (omega arith)) (λ i h. once (suc i) (omega arith)))

total_set : (xs : List ℕ) (i y : ℕ) → i < length xs → total (slice_set xs i y) + slice_index xs i ≡ total xs + y
total_set [] i y h = absurd (omega arith)
total_set (x ∷ xs) zero y h = omega arith
total_set (x ∷ xs) (suc i) y h = let ih = total_set xs i y (omega arith) in omega arith

-- the first turn writes one share, and leaves the others to the rest
turn_first : (t : ℕ) (ts needs : List ℕ) (left : ℕ) → 0 < t → t < 9
    → by_sequence (t ∷ ts) needs left ≡ slice_set (by_sequence ts needs (left - min (need_of needs t) left)) (t - 1) (min (need_of needs t) left)
turn_first t ts needs left low high =
    let v = min (need_of needs t) left in
    let rest = by_sequence ts needs (left - v) in
    let n : length rest ≡ 8 = length_made (λ k. in_turn ts needs (left - v) (k + 1)) 8 in
    sym (made_from (λ k. in_turn (t ∷ ts) needs left (k + 1)) (slice_set rest (t - 1) v) 8 0 (length-set rest (t - 1) v ∙ n)
    (λ k h. ⊎_elim
    (λ (e : k ≡ t - 1). let w = ap (λ j. slice_index (slice_set rest (t - 1) v) j) e ∙ get_or-set_same rest (t - 1) v 0 (omega arith) in grind (arith, nat_tests))
    (λ (ne : k ≢ t - 1). let w = get_or-set_other rest (t - 1) k v 0 ne ∙ get_or-made (λ j. in_turn ts needs (left - v) (j + 1)) 8 k 0 h in grind (arith, nat_tests))
    (cases_eq k (t - 1))))

-- together they get the smaller of the amount and their needs
turns_total : (ss needs : List ℕ) (left : ℕ) → Apart ss → total (by_sequence ss needs left) ≡ min left (total (map (need_of needs) ss))
unfolding made
turns_total [] needs left ok = omega arith
turns_total (t ∷ ts) needs left ok =
    let v = min (need_of needs t) left in
    let rest = by_sequence ts needs (left - v) in
    let n : length rest ≡ 8 = length_made (λ k. in_turn ts needs (left - v) (k + 1)) 8 in
    let ih = turns_total ts needs (left - v) ok.3 in
    let same : t - 1 + 1 ≡ t = omega arith in
    let none : slice_index_or rest (t - 1) 0 ≡ 0
    = get_or-made (λ k. in_turn ts needs (left - v) (k + 1)) 8 (t - 1) 0 (omega arith) ∙ ap (in_turn ts needs (left - v)) same ∙ turn_absent ts needs (left - v) t ok.2 in
    let s = total_set rest (t - 1) v (omega arith) in
    let e = ap total (turn_first t ts needs left ok.0 ok.1) in
    omega arith

pub fair_sequence : (seats : List ℕ) → full_order seats ≡ true → Lawful (by_sequence seats)
fair_sequence seats full needs amount n low under =
    let f : ℕ → ℕ = λ k. in_turn seats needs amount (k + 1) in
    let l = length_made f 8 in
    let long = length_order seats full in
    let ok = apart_from seats (λ i h. order_at seats full i (omega arith)) (λ i h. rw add-one at (order_apart seats full i (omega arith))) in
    let t = turns_total seats needs amount ok in
    record {
      seats = l;
      within = λ k. ⊎_elim
          (λ (h : k < 8). let e = get_or-made f 8 k 0 h in let w = turn_within seats needs amount (k + 1) in let p = need_at needs k in omega arith)
          (λ (h : 8 ≤ k). let e = get_or_past (by_sequence seats needs amount) k 0 (omega arith) in omega arith)
          (cases_lt k 8);
      sum = ⊎_elim
          (λ (h : amount < total (map (need_of needs) seats)). omega arith)
          (λ (h : total (map (need_of needs) seats) ≤ amount).
          let all : by_sequence seats needs amount ≡ needs = ext_get_or 0 (by_sequence seats needs amount) needs (l ∙ sym n)
          (λ k lt. get_or-made f 8 k 0 (omega arith) ∙ turn_full seats needs amount (k + 1) (omega (arith, order_once seats full k (omega arith))) h ∙ need_at needs k) in
          let e = ap total all in omega arith)
          (cases_lt amount (total (map (need_of needs) seats)));
    }

-- what holds as the seats take their turns: i are served, and these shares are written, of those that f gives
pub record Served (seats needs : List ℕ) (f : ℕ → ℕ) (i left : ℕ) (shares : List ℕ) : Type 0 where
  pub long : length shares ≡ 8
  pub kept : (k : ℕ) → k < 8 → slice_index shares k + in_turn (drop i seats) needs left (k + 1) ≡ f k
  pub fresh : (k : ℕ) → 0 < times (k + 1) (drop i seats) → slice_index shares k ≡ 0

pub served_more : (seats needs shares : List ℕ) (f : ℕ → ℕ) (i left share : ℕ) → full_order seats ≡ true → i < 8
    → share ≡ min (need_of needs (slice_index seats i)) left → Served seats needs f i left shares
    → Served seats needs f (i + 1) (left - share) (slice_set shares (slice_index seats i - 1) share)
served_more seats needs shares f i left share full h is s =
    let t = slice_index_or seats i 0 in
    let p = t - 1 in
    let long = length_order seats full in
    let in_seats : i < length seats = omega arith in
    let range = order_at seats full i h in
    let place : p < length shares = omega (arith, s.long) in
    let same : p + 1 ≡ t = omega arith in
    let turn : (k : ℕ) → in_turn (drop i seats) needs left (k + 1) ≡ cond (t == k + 1) share (in_turn (drop (i + 1) seats) needs (left - share) (k + 1))
    = λ k. at_drop_more (λ ys. in_turn ys needs left (k + 1)) seats i 0 in_seats
    ∙ ap (λ v. cond (t == k + 1) v (in_turn (drop (i + 1) seats) needs (left - v) (k + 1))) (sym is) in
    let gone = order_apart seats full i h in
    record {
      long = length-set shares p share ∙ s.long;
      kept = λ k lt. ⊎_elim
          (λ (e : k ≡ p).
          let w = ap (λ j. slice_index (slice_set shares p share) j) e ∙ get_or-set_same shares p share 0 place in
          let at : k + 1 ≡ t = omega arith in
          let none = ap (in_turn (drop (i + 1) seats) needs (left - share)) at ∙ turn_absent (drop (i + 1) seats) needs (left - share) t gone in
          let named = ap (λ j. times j (drop i seats)) at ∙ times_more t seats i in_seats in
          let z = s.fresh k (grind (arith, nat_tests)) in
          let q = s.kept k lt in let u = turn k in grind (arith, nat_tests))
          (λ (ne : k ≢ p).
          let w = get_or-set_other shares p k share 0 ne in
          let q = s.kept k lt in let u = turn k in grind (arith, nat_tests))
          (cases_eq k p);
      fresh = λ k some. ⊎_elim
          (λ (e : k ≡ p). absurd (let at : k + 1 ≡ t = omega arith in let z = ap (λ j. times j (drop (i + 1) seats)) at ∙ gone in omega arith))
          (λ (ne : k ≢ p). get_or-set_other shares p k share 0 ne ∙ s.fresh k (let m = times_more (k + 1) seats i in_seats in omega arith))
          (cases_eq k p);
    }

pub served_all : (seats needs shares : List ℕ) (f : ℕ → ℕ) (i left : ℕ) → full_order seats ≡ true → 8 ≤ i → Served seats needs f i left shares → shares ≡ made 8 f
served_all seats needs shares f i left full h s =
    let long = length_order seats full in
    made_from f shares 8 0 s.long
    (λ k lt. let none : in_turn (drop i seats) needs left (k + 1) ≡ 0 = at_drop_all (λ ys. in_turn ys needs left (k + 1)) seats i (omega arith) in omega (arith, s.kept k lt))
