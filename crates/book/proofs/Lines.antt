-- The lines of the set-off question, from the margins of the members.
use Rattle.std.proofs.Common.{◌≡◌, ℕ, ◌+◌, ◌<◌, ◌≤◌, Bool, true, false, cond, ltb, List, ◌++◌, length, get_or, drop, Some, Ok, Err, Option, sym, ap, ◌∙◌, arith}
use Rattle.std.proofs.lemmas.Bool.{cond-true, lt-ltb}
use Rattle.sharing.proofs.Made.{length_made, get_or-made}
use Rattle.sharing.specs.declared.refusal.Refusal.TheVariants.{NoVolume}
use Rattle.ledger.specs.declared.lines.SetOffLine.{SetOffLine}
use Rattle.ledger.specs.Ledger.{Row, net_at}
use Rattle.ledger.specs.SetOff.{margin_before}
use Rattle.ledger.specs.Margins.{rate_of, volumes, after_of, no_volume_of, set_off_line, over_lines}
use Rattle.ledger.specs.Calls.{set_off_written}
use Rattle.ledger.proofs.Calls.{volume_at}
use Rattle.book.specs.declared.set_off.Margin.{Margin}
use Rattle.book.specs.SettingOff.{terms_of, margin_of, seat_margin, no_margin, margins_in, margins_found, line_of}
use Rattle.book.proofs.Filled.{made_same}

module _ (n : ℕ) (few : n ≤ 8) (s : Row) where
  margin_found : (k : ℕ) → k < n → get_or (margins_in (terms_of n s)) k no_margin ≡ margin_of (terms_of n s) k
  margin_found k h =
      get_or-made (seat_margin (terms_of n s)) 8 k no_margin (omega arith)
      ∙ cond-true (ltb k (length (volumes n s))) (margin_of (terms_of n s) k) no_margin
      (lt-ltb k (length (volumes n s)) (omega (arith, length_made (λ j. (net_at s j).volume) n)))

  line_found : (k : ℕ) → k < n → line_of (margins_in (terms_of n s)) k ≡ set_off_line n s k
  line_found k h =
      ap (λ (m : Margin). record { seat = k + 1; before = m.before; after = m.after }) (margin_found k h)
      ∙ ap (λ v. record { seat = k + 1; before = margin_before (rate_of s) v; after = after_of n s k }) (volume_at n s k h)

  -- the lines of the members' margins are those of the question
  lines_are : (old : List SetOffLine) → over_lines n (line_of (margins_in (terms_of n s))) old ≡ over_lines n (set_off_line n s) old
  lines_are old = ap (λ xs. xs ++ drop n old) (made_same n (line_of (margins_in (terms_of n s))) (set_off_line n s) (set_off_line n s 0) line_found)

  -- and those of margins that were not refused
  pub lines_found : (ms : List Margin) (o : Option Row) (old held : List SetOffLine) → Ok ms ≡ margins_found n s → o ≡ Some s
      → held ≡ over_lines n (line_of ms) old → held ≡ set_off_written n o old
  lines_found ms o old held told found wrote =
      wrote
      ∙ ap (λ xs. over_lines n (line_of xs) old) (by (no_volume_of n s) told)
      ∙ lines_are old
      ∙ sym (ap (λ (p : Option Row). set_off_written n p old) found)
    where
      by : (q : Bool) → Ok ms ≡ cond q (Err NoVolume) (Ok (margins_in (terms_of n s))) → ms ≡ margins_in (terms_of n s)
      by true e = let z : ◌≡◌ {A = ℕ} 0 1 = cc in absurd (omega arith)
      by false e = cc
