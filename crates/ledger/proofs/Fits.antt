-- Within the limits, every number that is worked out fits 64 bits.
use Rattle.std.proofs.Common.{◌≡◌, ℕ, zero, suc, ◌+◌, ◌*◌, ◌<◌, ◌≤◌, eqb, List, [], ◌∷◌, map, length, get_or, ℤ, pos, negsuc, ◌+ℤ◌, ◌-ℤ◌, ◌*ℤ◌, neg_ℤ, nat_abs, sym, refl, subst, ⊎_elim, add-mul, mul-le-mul, arith}
use Rattle.std.proofs.lemmas.List.{get_or_past}
use Rattle.std.proofs.lemmas.Int.{ints}
use Rattle.std.proofs.lemmas.Bool.{cases_lt, cond_both}
use Rattle.std.proofs.lemmas.Bool.Decides.{nat_tests}
use Rattle.sharing.specs.Lists.{total}
use Rattle.sharing.proofs.Made.{length_made, get_or-made}
use Rattle.ledger.specs.Limits.{field_outside}
use Rattle.ledger.specs.Sums.{total_ℤ, floor_of, above_zero, below_zero}
use Rattle.ledger.specs.Ledger.{Row, Ledger, net_at}
use Rattle.ledger.specs.Bookings.{directed}
use Rattle.ledger.specs.SetOff.{margin_before}
use Rattle.ledger.specs.Margins.{rate_of, volumes, before_of, after_of, worth_of, befores, afters, additional, units, balance, need, surplus, needed, spare}
use Rattle.ledger.specs.History.{RowWithin, RowsWithin, Within}
use Rattle.ledger.specs.Theorems.{RowFits, RowsFit, FiguresFit, LedgersFit, DealsFit, SharesFit}
use Rattle.ledger.proofs.Sums.{total_made, total_mapped, upto_le}
use Rattle.ledger.proofs.SetOffs.{minors, sides, sizes, spared_is, set_off_holds}

abs_neg : (n : ℕ) → nat_abs (neg_ℤ (pos n)) ≡ n
abs_neg zero = refl
abs_neg (suc n) = refl

pub abs_mul : (a b : ℤ) → nat_abs (a *ℤ b) ≡ nat_abs a * nat_abs b
abs_mul (pos a) (pos b) = refl
abs_mul (pos a) (negsuc b) = abs_neg (a * suc b)
abs_mul (negsuc a) (pos b) = abs_neg (suc a * b)
abs_mul (negsuc a) (negsuc b) = refl

-- a product of numbers within m and n
pub product_within : (a b : ℤ) (m n : ℕ) → nat_abs a ≤ m → nat_abs b ≤ n → nat_abs (a *ℤ b) ≤ m * n
product_within a b m n h k = omega (arith, abs_mul a b, mul-le-mul h k)

abs_minus : (a b : ℤ) → nat_abs (a -ℤ b) ≤ nat_abs a + nat_abs b
abs_minus a b = omega (arith, ints)

abs_plus : (a b : ℤ) → nat_abs (a +ℤ b) ≤ nat_abs a + nat_abs b
abs_plus a b = omega (arith, ints)

-- One series.
module _ (n : ℕ) (few : n ≤ 8) (s : Row) (w : RowWithin s) where
  rate_fits : rate_of s ≤ 2000000000
  rate_fits = mul-le-mul w.price.1 w.risk.1

  margin_fits : (v : ℤ) → nat_abs v ≤ 2000000 → margin_before (rate_of s) v ≤ 20000000000000000
  margin_fits v h = let m : rate_of s * nat_abs v ≤ 2000000000 * 2000000 = mul-le-mul rate_fits h in omega arith

  volume_fits : (k : ℕ) → nat_abs (get_or (volumes n s) k (pos 0)) ≤ 2000000
  volume_fits k = ⊎_elim
      (λ (h : k < n). subst (λ v. nat_abs v ≤ 2000000) (sym (get_or-made (λ j. (net_at s j).volume) n k (pos 0) h)) (w.volume k))
      (λ (h : n ≤ k). subst (λ v. nat_abs v ≤ 2000000) (sym (get_or_past (volumes n s) k (pos 0) (omega (arith, length_made (λ j. (net_at s j).volume) n)))) (omega arith))
      (cases_lt k n)

  sizes_fit : total (map nat_abs (volumes n s)) ≤ 16000000
  sizes_fit =
      omega (
        arith,
        total_mapped nat_abs (volumes n s) (pos 0),
        upto_le (length (volumes n s)) 2000000 (λ k. nat_abs (get_or (volumes n s) k (pos 0))) (λ k h. volume_fits k),
        length_made (λ j. (net_at s j).volume) n,
      )

  pub row_fits : RowFits n s
  row_fits =
      let both = sizes (volumes n s) in
      let net = sides (volumes n s) in
      let law = set_off_holds (rate_of s) (volumes n s) in
      record {
        rate = rate_fits;
        before = λ k. margin_fits (net_at s k).volume (w.volume k);
        after = λ k. omega (arith, law.most k, margin_fits (get_or (volumes n s) k (pos 0)) (volume_fits k));
        worth = λ k.
            omega (
              arith,
              abs_minus ((net_at s k).volume *ℤ pos s.price) (net_at s k).cost,
              product_within (net_at s k).volume (pos s.price) 2000000 400000 (w.volume k) w.price.1,
              w.cost k,
            );
        net_volume = omega (arith, sizes_fit, both, net);
        shared_out =
            let half : minors (volumes n s) ≤ 8000000 = omega (arith, sizes_fit, both, net) in
            let m : rate_of s * minors (volumes n s) ≤ 2000000000 * 8000000 = mul-le-mul rate_fits half in
            omega (arith, spared_is (rate_of s) (volumes n s));
        weight = omega (arith, sizes_fit, both);
      }

rows_fit : (n : ℕ) → n ≤ 8 → (ss : List Row) → RowsWithin ss → RowsFit n ss
rows_fit n few [] ws = tt
rows_fit n few (s ∷ ss) ws = (row_fits n few s ws.0, rows_fit n few ss ws.1)

-- sums over series, each within m
total_within : (n m : ℕ) (f : Row → ℕ) (ss : List Row) → ((s : Row) → RowFits n s → f s ≤ m) → RowsFit n ss → total (map f ss) ≤ length ss * m
total_within n m f [] h ws = omega arith
total_within n m f (s ∷ ss) h ws = omega (arith, total_within n m f ss h ws.1, h s ws.0, add-mul 1 (length ss) m)

total_ℤ_within : (n m : ℕ) (f : Row → ℤ) (ss : List Row) → ((s : Row) → RowFits n s → nat_abs (f s) ≤ m) → RowsFit n ss → nat_abs (total_ℤ (map f ss)) ≤ length ss * m
total_ℤ_within n m f [] h ws = omega arith
total_ℤ_within n m f (s ∷ ss) h ws =
    omega (arith, abs_plus (f s) (total_ℤ (map f ss)), total_ℤ_within n m f ss h ws.1, h s ws.0, add-mul 1 (length ss) m)

floor_fits : (z : ℤ) → nat_abs z ≤ 4800000000000000000 → nat_abs (floor_of z 5000000) ≤ 960000000000
floor_fits (pos a) h = omega arith
floor_fits (negsuc a) h = omega arith

below_fits : (z : ℤ) → below_zero z ≤ nat_abs z
below_fits (pos a) = omega arith
below_fits (negsuc a) = omega arith

above_fits : (z : ℤ) → above_zero z ≤ nat_abs z
above_fits (pos a) = omega arith
above_fits (negsuc a) = omega arith

-- A margin call.
module _ (l : Ledger) (w : Within l) where
  fit : RowsFit l.members l.rows
  fit = rows_fit l.members w.members.1 l.rows w.each

  befores_fit : (k : ℕ) → befores l k ≤ 960000000000000000
  unfolding befores
  befores_fit k = omega (arith, total_within l.members 20000000000000000 (λ s. before_of s k) l.rows (λ s f. f.before k) fit, w.few)

  afters_fit : (k : ℕ) → afters l k ≤ 960000000000000000
  unfolding afters
  afters_fit k = omega (arith, total_within l.members 20000000000000000 (λ s. after_of l.members s k) l.rows (λ s f. f.after k) fit, w.few)

  additional_fits : (k : ℕ) → nat_abs (additional l k) ≤ 76800000000000
  unfolding additional
  additional_fits k = omega (arith, total_ℤ_within l.members 1600000000000 (λ s. worth_of s k) l.rows (λ s f. f.worth k) fit, w.few)

  units_fit : (k : ℕ) → nat_abs (units l k) ≤ 4800000000000000000
  units_fit k =
      omega (
        arith,
        abs_minus (additional l k *ℤ pos 50000) (pos (afters l k)),
        product_within (additional l k) (pos 50000) 76800000000000 50000 (additional_fits k) (omega arith),
        afters_fit k,
      )

  balance_fits : (k : ℕ) → nat_abs (balance l k) ≤ 960000000000
  unfolding balance
  balance_fits k = floor_fits (units l k) (units_fit k)

  need_fits : (k : ℕ) → need l k ≤ 960000000000
  need_fits k = let b = below_fits (balance l k) in let f = balance_fits k in grind (arith, nat_tests)

  needed_fits : needed l ≤ 7680000000000
  unfolding needed
  needed_fits = omega (arith, total_made 8 (need l), upto_le 8 960000000000 (need l) (λ k h. need_fits k))

  spare_fits : spare l ≤ 7680000000000
  unfolding spare
  spare_fits =
      omega (
        arith,
        total_made l.members (surplus l),
        upto_le l.members 960000000000 (surplus l) (λ k h. omega (arith, above_fits (balance l k), balance_fits k)),
        w.members.1,
      )

  pub figures_fit : FiguresFit l
  figures_fit = record {
    rows = fit;
    margins_before = befores_fit;
    margins_after = afters_fit;
    additional_margin = additional_fits;
    in_units = λ k. product_within (additional l k) (pos 50000) 76800000000000 50000 (additional_fits k) (omega arith);
    balance_units = units_fit;
    balance_zloty = balance_fits;
    each_need = need_fits;
    total_needs = needed_fits;
    total_surplus = spare_fits;
  }

pub ledgers_fit : LedgersFit
ledgers_fit = figures_fit

directed_fits : (side n : ℕ) → nat_abs (directed side n) ≤ n
directed_fits side n = cond_both (eqb side 1) (pos n) (neg_ℤ (pos n)) (λ z. nat_abs z ≤ n) (λ e. omega arith) (λ e. omega (arith, abs_neg n))

pub deals_fit : DealsFit
unfolding field_outside
deals_fit size d small ok =
    let lots : d.lots ≤ 2000000 = grind (arith, nat_tests) in
    let price : d.price ≤ 400000 = grind (arith, nat_tests) in
    let volume : d.lots * size ≤ 17568000000 = mul-le-mul lots small in
    let cost : d.lots * size * d.price ≤ 7027200000000000 = mul-le-mul volume price in
    record {
      volume = volume;
      cost = cost;
      new_volume = λ p h. omega (arith, abs_plus p.volume (directed d.side (d.lots * size)), directed_fits d.side (d.lots * size));
      new_cost = λ p h. omega (arith, abs_plus p.cost (directed d.side (d.lots * size * d.price)), directed_fits d.side (d.lots * size * d.price));
    }

pub shares_fit : SharesFit
shares_fit c m w le lt high =
    let first : c ≤ 3000000000 = omega arith in
    let left : m ≤ 2999999999 = omega arith in
    let p : c * m ≤ 3000000000 * 2999999999 = mul-le-mul first left in
    omega arith
