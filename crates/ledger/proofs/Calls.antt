-- The laws of a margin call, for every lawful meaning.
use Rattle.std.proofs.Common.{◌≡◌, ℕ, ◌+◌, ◌*◌, ◌<◌, ◌≤◌, map, get_or, ℤ, pos, ◌+ℤ◌, ◌-ℤ◌, ◌*ℤ◌, neg_ℤ, ◌≤ℤ◌, sym, refl, ap, ◌∙◌, subst, arith}
use Rattle.std.specs.Int.{int_max}
use Rattle.std.proofs.lemmas.List.{get_or-map}
use Rattle.std.proofs.lemmas.Int.{ints, clamps}
use Rattle.std.proofs.lemmas.Bool.{cond-true, cond-false, lt-ltb, le-ltb}
use Rattle.sharing.specs.Lists.{total, made}
use Rattle.sharing.proofs.Made.{length_made, get_or-made}
use Rattle.rules.specs.Division.{Meaning, Lawful, Fair}
use Rattle.ledger.specs.declared.lines.ReportLine.{ReportLine}
use Rattle.ledger.specs.Sums.{total_ℤ, below_zero}
use Rattle.ledger.specs.Ledger.{Row, Ledger, net_at}
use Rattle.ledger.specs.SetOff.{margin_before, margins_after}
use Rattle.ledger.specs.Margins.{rate_of, volumes, before_of, after_of, worth_of, befores, afters, additional, units, balance, alone, need, surplus, needs, needed, spare, amount, share, call, report_line, calls_of, called}
use Rattle.ledger.specs.Obeys.{gross_of, net_margin_of, SeriesObeys, owed, Obeys}
use Rattle.ledger.specs.Theorems.{CallsObey}
use Rattle.ledger.proofs.Sums.{upto, upto_ℤ, map_made, total_made, total_ℤ_made, total_by_place, total_le, total_same, total_ℤ_same, total_scale, upto_same, upto_add, upto_tail, exchange, exchange_ℤ, sides_summed, floors_low, floors_high, units_summed}
use Rattle.ledger.proofs.SetOffs.{set_off_holds}
use Rattle.ledger.proofs.Rounding.{floor_low, floor_high, short_grows}

-- One series.
module _ (n : ℕ) (s : Row) where
  pub volume_at : (k : ℕ) → k < n → get_or (volumes n s) k (pos 0) ≡ (net_at s k).volume
  volume_at k h = get_or-made (λ j. (net_at s j).volume) n k (pos 0) h

  all_after : total (margins_after (rate_of s) (volumes n s)) ≡ total (made n (after_of n s))
  all_after = ap (λ j. total (made j (after_of n s))) (length_made (λ j. (net_at s j).volume) n)

  pub series_obeys : SeriesObeys n s
  series_obeys =
      let law = set_off_holds (rate_of s) (volumes n s) in
      record {
        sum = ap (λ x. 5 * x) (sym all_after) ∙ law.sum;
        least = λ k h. subst (λ v. margin_before (rate_of s) v ≤ 5 * after_of n s k) (volume_at k h) (law.least k);
        most = λ k h. subst (λ v. after_of n s k ≤ margin_before (rate_of s) v) (volume_at k h) (law.most k);
      }

module _ (l : Ledger) where
  afters_le : (k : ℕ) → k < l.members → afters l k ≤ befores l k
  unfolding afters befores
  afters_le k h = total_le (λ s. after_of l.members s k) (λ s. before_of s k) l.rows (λ s. (series_obeys l.members s).most k h)

  need_at : (k : ℕ) → k < l.members → need l k ≡ below_zero (balance l k)
  need_at k h = cond-true _ _ _ (lt-ltb k l.members h)

  need_above : (k : ℕ) → l.members ≤ k → need l k ≡ 0
  need_above k h = cond-false _ _ _ (le-ltb k l.members h)

  need_capped : (k : ℕ) → k < l.members → need l k ≤ alone l k
  unfolding balance
  need_capped k h =
      omega (arith, need_at k h, short_grows (units l k) (pos (befores l k) -ℤ additional l k *ℤ pos 50000) (omega (arith, ints, afters_le k h)))

  margins_exchanged : total (map (λ s. total (made l.members (after_of l.members s))) l.rows) ≡ upto l.members (afters l)
  unfolding afters
  margins_exchanged =
      total_same (λ s. total (made l.members (after_of l.members s))) (λ s. upto l.members (after_of l.members s)) l.rows (λ s. total_made l.members (after_of l.members s))
      ∙ exchange l.members (after_of l.members) l.rows

  additional_exchanged : total_ℤ (map (λ s. total_ℤ (made l.members (worth_of s))) l.rows) ≡ upto_ℤ l.members (additional l)
  unfolding additional
  additional_exchanged =
      total_ℤ_same (λ s. total_ℤ (made l.members (worth_of s))) (λ s. upto_ℤ l.members (worth_of s)) l.rows (λ s. total_ℤ_made l.members (worth_of s))
      ∙ exchange_ℤ l.members worth_of l.rows

  owed_by : owed l ≡ pos (upto l.members (afters l)) -ℤ upto_ℤ l.members (additional l) *ℤ pos 50000
  unfolding owed
  owed_by = omega (arith, ints, margins_exchanged, additional_exchanged)

  -- what the group owes is what its members' units lack
  owed_is : owed l +ℤ upto_ℤ l.members (units l) ≡ pos 0
  owed_is = omega (arith, ints, units_summed l.members (additional l) (afters l), owed_by)

  needed_by : l.members ≤ 8 → needed l ≡ upto l.members (need l)
  unfolding needed
  needed_by h = total_made 8 (need l) ∙ upto_tail l.members 8 (need l) h (λ k i j. need_above k i)

  needed_is : l.members ≤ 8 → needed l ≡ upto l.members (λ k. below_zero (balance l k))
  needed_is h = needed_by h ∙ upto_same l.members (need l) (λ k. below_zero (balance l k)) need_at

  balances : l.members ≤ 8 → upto_ℤ l.members (balance l) +ℤ pos (needed l) ≡ pos (spare l)
  unfolding spare
  balances h =
      ap (λ x. upto_ℤ l.members (balance l) +ℤ pos x) (needed_is h)
      ∙ sides_summed l.members (balance l)
      ∙ ap pos (sym (total_made l.members (surplus l)))

  low : (upto_ℤ l.members (balance l) *ℤ pos 5000000) ≤ℤ upto_ℤ l.members (units l)
  unfolding balance
  low = floors_low l.members (units l) (balance l) (λ k. floor_low (units l k))

  high : (upto_ℤ l.members (units l) +ℤ pos l.members) ≤ℤ (upto_ℤ l.members (balance l) *ℤ pos 5000000 +ℤ pos (5000000 * l.members))
  unfolding balance
  high = floors_high l.members (units l) (balance l) (λ k. floor_high (units l k))

  series_fifths : 5 * upto l.members (afters l) ≡ total (map (λ s. gross_of l.members s + 4 * net_margin_of l.members s) l.rows)
  series_fifths =
      ap (λ x. 5 * x) (sym margins_exchanged)
      ∙ sym (total_scale 5 (λ s. gross_of l.members s + 4 * net_margin_of l.members s) (λ s. total (made l.members (after_of l.members s))) l.rows (λ s. sym (series_obeys l.members s).sum))

  module _ (m : Meaning) (lawful : Lawful m) (some : 1 ≤ l.members) (few : l.members ≤ 8) (fits : needed l ≤ 3000000000) where
    fair : Fair (needs l) (amount l) (m (needs l) (amount l))
    unfolding needed
    fair = lawful (needs l) (amount l) (length_made (need l) 8) fits (omega arith)

    pub share_within : (k : ℕ) → k < 8 → share m l k ≤ need l k
    share_within k h = omega (arith, fair.within k, get_or-made (need l) 8 k 0 h)

    shares_all : upto l.members (share m l) ≡ amount l
    shares_all =
        sym (upto_tail l.members 8 (share m l) few (λ k h i. omega (arith, share_within k i, need_above k h)))
        ∙ sym (total_by_place (m (needs l) (amount l)) 8 fair.seats)
        ∙ fair.sum

    line_at : (f : ReportLine → ℕ) (k : ℕ) → k < l.members → get_or (map f (made l.members (report_line m l))) k 0 ≡ f (report_line m l k)
    line_at f k h =
        get_or-map f (made l.members (report_line m l)) k (report_line m l k) 0 (omega (arith, length_made (report_line m l) l.members))
        ∙ ap f (get_or-made (report_line m l) l.members k (report_line m l k) h)

    over_lines : (f : ReportLine → ℕ) → total (map f (made l.members (report_line m l))) ≡ upto l.members (λ k. f (report_line m l k))
    over_lines f = ap total (map_made f l.members (report_line m l)) ∙ total_made l.members (λ k. f (report_line m l k))

    over_lines_ℤ : (f : ReportLine → ℤ) → total_ℤ (map f (made l.members (report_line m l))) ≡ upto_ℤ l.members (λ k. f (report_line m l k))
    over_lines_ℤ f = ap total_ℤ (map_made f l.members (report_line m l)) ∙ total_ℤ_made l.members (λ k. f (report_line m l k))

    called_by : called m l ≡ upto l.members (call m l)
    unfolding called
    called_by = over_lines (λ x. x.call)

    -- the calls are the needs, less what was shared out
    called_is : called m l + amount l ≡ needed l
    called_is =
        omega (
          arith,
          called_by,
          shares_all,
          needed_by few,
          upto_add l.members (call m l) (share m l) (need l) (λ k h. omega (arith, share_within k (omega arith))),
        )

    lacking : pos (called m l) ≡ int_max (pos 0) (neg_ℤ (upto_ℤ l.members (balance l)))
    lacking = omega (arith, ints, clamps, balances few, called_is)

    summed : called m l ≡ calls_of (made l.members (report_line m l))
    unfolding called
    summed = refl

    pub obeys : Obeys l (made l.members (report_line m l)) (called m l)
    obeys = record {
      series = series_obeys l.members;
      seats = length_made (report_line m l) l.members;
      summed = summed;
      fifths = ap (λ x. 5 * x) (over_lines (λ x. x.after)) ∙ series_fifths;
      owing = omega (arith, ints, owed_by, over_lines (λ x. x.after), over_lines_ℤ (λ x. x.additional));
      capped = λ k h. omega (arith, line_at (λ x. x.call) k h, need_capped k h);
      lacking = lacking ∙ ap (λ x. int_max (pos 0) (neg_ℤ x)) (sym (total_ℤ_made l.members (balance l)));
      enough = omega (arith, ints, clamps, lacking, low, owed_is);
      close = omega (arith, ints, clamps, lacking, high, owed_is);
    }

pub calls_obey : CallsObey
calls_obey m l lawful some few fits = obeys l m lawful some few fits
