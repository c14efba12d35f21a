-- Examples that were worked out by hand, in one table.
use Rattle.std.specs.Prelude.{◌≡◌, ℕ, Bool, true, false, ◌&&◌, List, [], ◌∷◌, ◌++◌, map, take, pos, negsuc, codes, ◌==◌}
use Rattle.sharing.specs.Sharing.{shares, shared}
use Rattle.rules.specs.Sequences.{by_sequence}
use Rattle.rules.specs.Proportions.{in_proportion}
use Rattle.ledger.specs.Limits.{units_a_zloty}
use Rattle.ledger.specs.Sums.{floor_of, above_zero, below_zero}
use Rattle.ledger.specs.Ledger.{opened}
use Rattle.ledger.specs.Bookings.{lists, deals, booked_all}
use Rattle.ledger.specs.SetOff.{margin_before, margins_after}
use Rattle.ledger.specs.Texts.{printed, space_after}
use Rattle.ledger.specs.Calls.{opening, listing, dealing, repricing, strike, reopening, position, set_off, margin_call, refusals, figures}
use Rattle.ledger.specs.Days.{day_texts}
use Rattle.ledger.specs.Samples.{contents_bytes, listing_bytes, deal_bytes, mark_bytes, one_listing, three_deals, three_member_day, joined, printed_for, four_in_a_series, answer_numbers, numbers_of, struck_two, a_deal, old_line, answer_number, print_number}

-- two lists of numbers, as texts are, are the same
abbrev pub same : List ℕ → List ℕ → Bool
same [] [] = true
same [] (y ∷ ys) = false
same (x ∷ xs) [] = false
same (x ∷ xs) (y ∷ ys) = x == y && same xs ys

-- what the definitions give, and what was worked out
pub record Example : Type 0 where
  pub given : List ℕ
  pub expected : List ℕ

abbrev pub all_as_expected : List Example → Bool
all_as_expected [] = true
all_as_expected (e ∷ es) = same e.given e.expected && all_as_expected es

abbrev pub table : List Example
table =
    -- the three-member day in proportion, as it is printed
    record {
      given = printed_for three_member_day;
      expected = codes "1 60000000000 42000000000 1200000 3600 0 0\n2 30000000000 6000000000 0 -1200 720 480\n3 20000000000 14000000000 -200000 -4800 2880 1920\n4 0 0 0 0 0 0\n5 0 0 0 0 0 0\n6 0 0 0 0 0 0\n7 0 0 0 0 0 0\n8 0 0 0 0 0 0\ngroup 2400\n";
    }
    -- the same by the sequence 2, 3, 1, 4, 5, 6, 7, 8
    ∷ record {
      given = joined (day_texts (by_sequence (2 ∷ 3 ∷ 1 ∷ 4 ∷ 5 ∷ 6 ∷ 7 ∷ 8 ∷ [])) three_member_day);
      expected = codes "1 60000000000 42000000000 1200000 3600 0 0\n2 30000000000 6000000000 0 -1200 1200 0\n3 20000000000 14000000000 -200000 -4800 2400 2400\n4 0 0 0 0 0 0\n5 0 0 0 0 0 0\n6 0 0 0 0 0 0\n7 0 0 0 0 0 0\n8 0 0 0 0 0 0\ngroup 2400\n";
    }
    -- price 1 and risk 1, seats 1 to 3 long a MWh and seat 4 short one: margins after set-off
    ∷ record { given = margins_after 1 (pos 1 ∷ pos 1 ∷ pos 1 ∷ negsuc 0 ∷ []); expected = 4 ∷ 4 ∷ 3 ∷ 1 ∷ [] }
    -- the other way about: where the group's net volume is negative, the long member is the minor one
    ∷ record { given = margins_after 1 (negsuc 0 ∷ negsuc 0 ∷ negsuc 0 ∷ pos 1 ∷ []); expected = 4 ∷ 4 ∷ 3 ∷ 1 ∷ [] }
    -- all flat: margins before and after
    ∷ record {
      given = map (margin_before 20000000) (pos 0 ∷ pos 0 ∷ pos 0 ∷ []) ++ margins_after 20000000 (pos 0 ∷ pos 0 ∷ pos 0 ∷ []);
      expected = 0 ∷ 0 ∷ 0 ∷ 0 ∷ 0 ∷ 0 ∷ [];
    }
    -- 3 over the weights 2, 1, 2
    ∷ record { given = shares (2 ∷ 1 ∷ 2 ∷ []) 3; expected = 1 ∷ 0 ∷ 2 ∷ [] }
    -- 1 over the weights 0, 0 is refused
    ∷ record { given = answer_number (shared (1 ∷ 2 ∷ []) (0 ∷ 0 ∷ []) 1); expected = 11 ∷ [] }
    -- 0 over no claims is accepted
    ∷ record { given = answer_number (shared [] [] 0); expected = 0 ∷ [] }
    -- a balance of -1 unit is a need of 1 zloty, and one of 4,999,999 units a surplus of 0
    ∷ record {
      given = below_zero (floor_of (negsuc 0) units_a_zloty) ∷ above_zero (floor_of (pos 4999999) units_a_zloty) ∷ [];
      expected = 1 ∷ 0 ∷ [];
    }
    -- the four in a series as set-off lines, with a fifth line that stays; and the position of seat 4
    ∷ record {
      given = answer_numbers (figures four_in_a_series (set_off 7 (old_line ∷ old_line ∷ old_line ∷ old_line ∷ old_line ∷ [])));
      expected = 1 ∷ 2 ∷ 3 ∷ 4 ∷ 9 ∷ 5 ∷ 5 ∷ 5 ∷ 5 ∷ 9 ∷ 4 ∷ 4 ∷ 3 ∷ 1 ∷ 9 ∷ [];
    }
    ∷ record {
      given = answer_numbers (figures (booked_all (opened 2) (lists (record { code = 7; market = 1; size = 10; price = 1; risk = 1 }) ∷ deals (record { code = 7; seat = 2; side = 2; lots = 30; price = 20000 }) ∷ [])) (position 2 7));
      expected = codes "-300 -6000000\n";
    }
    -- three empty sections load, and 35 bytes do not
    ∷ record {
      given = printed_for (contents_bytes 36 0 36 0 36 0);
      expected = codes "1 0 0 0 0 0 0\n2 0 0 0 0 0 0\n3 0 0 0 0 0 0\n4 0 0 0 0 0 0\n5 0 0 0 0 0 0\n6 0 0 0 0 0 0\n7 0 0 0 0 0 0\n8 0 0 0 0 0 0\ngroup 0\n";
    }
    ∷ record { given = printed_for (take 35 (contents_bytes 36 0 36 0 36 0)); expected = codes "refused 14 0 0 0\n" }
    -- the first section at 35; deals of 64 bytes where 48 are left; a byte behind the last section
    ∷ record { given = printed_for (contents_bytes 35 16 52 48 100 0 ++ (one_listing ++ three_deals)); expected = codes "refused 14 1 0 0\n" }
    ∷ record { given = printed_for (contents_bytes 36 16 52 64 100 0 ++ (one_listing ++ three_deals)); expected = codes "refused 14 2 0 0\n" }
    ∷ record { given = printed_for (three_member_day ++ (0 ∷ [])); expected = codes "refused 14 3 0 0\n" }
    -- half a record
    ∷ record { given = printed_for (contents_bytes 36 8 44 0 44 0 ++ take 8 one_listing); expected = codes "refused 14 1 0 0\n" }
    -- seat 9 in the first deal and no lots in the third: either may be named
    ∷ record {
      given = printed_for (contents_bytes 36 16 52 48 100 0 ++ (one_listing ++ (deal_bytes 101 9 1 60 18000 ++ (deal_bytes 101 2 2 30 20000 ++ deal_bytes 101 3 1 0 21000))));
      expected = codes "refused 15 2 1 5\nrefused 15 2 3 5\n";
    }
    -- two marks, of which the second has a code that is not listed
    ∷ record {
      given = printed_for (contents_bytes 36 16 52 0 52 24 ++ (one_listing ++ (mark_bytes 101 20000 1000 ++ mark_bytes 102 20000 1000)));
      expected = codes "refused 16 3 2 3\n";
    }
    -- 2,000,000 MWh bought at 1 grosz, at a clearing price of 400,000: a surplus of 7,999,180,000 zloty
    ∷ record {
      given = printed_for (contents_bytes 36 16 52 16 68 0 ++ (listing_bytes 101 1 1000 400000 1 ++ deal_bytes 101 1 1 2000 1));
      expected = codes "refused 10 0 0 0\n";
    }
    -- one MWh bought at 1 grosz, at the largest price and risk parameter: a margin of 10^10 units, an additional margin of
    -- 399,999 grosze, and a balance of 9,999,950,000 units
    ∷ record {
      given = printed_for (contents_bytes 36 16 52 16 68 0 ++ (listing_bytes 101 3 1 400000 5000 ++ deal_bytes 101 1 1 1 1));
      expected = codes "1 10000000000 10000000000 399999 1999 0 0\n2 0 0 0 0 0 0\n3 0 0 0 0 0 0\n4 0 0 0 0 0 0\n5 0 0 0 0 0 0\n6 0 0 0 0 0 0\n7 0 0 0 0 0 0\n8 0 0 0 0 0 0\ngroup 0\n";
    }
    -- a code above its limits by its highest byte alone
    ∷ record { given = printed_for (contents_bytes 36 16 52 0 52 0 ++ listing_bytes 16777317 1 10 20000 1000); expected = codes "refused 15 1 1 5\n" }
    -- the causes of a deal in their order, each where those behind it apply too: struck, code 0, no seat 3, not listed; then
    -- a net volume of 2,000,001, and one of 2,000,000, which is accepted
    ∷ record {
      given =
          numbers_of (
          refusals struck_two (dealing (a_deal 0 3 1))
          ∷ refusals (opened 2) (dealing (a_deal 0 3 1))
          ∷ refusals (opened 2) (dealing (a_deal 7 3 1))
          ∷ refusals (opened 2) (dealing (a_deal 7 2 1))
          ∷ refusals four_in_a_series (dealing (a_deal 7 1 2000000))
          ∷ refusals four_in_a_series (dealing (a_deal 7 1 1999999))
          ∷ []
          );
      expected = 8 ∷ 5 ∷ 2 ∷ 3 ∷ 7 ∷ [];
    }
    -- opening with 0 and 9 members; a listing with size 0 and one of a listed code; a repricing of a code that is not listed
    ∷ record {
      given =
          numbers_of (
          refusals struck_two (opening 0)
          ∷ refusals struck_two (opening 9)
          ∷ refusals four_in_a_series (listing (record { code = 7; market = 1; size = 0; price = 1; risk = 1 }))
          ∷ refusals four_in_a_series (listing (record { code = 7; market = 1; size = 1; price = 1; risk = 1 }))
          ∷ refusals four_in_a_series (repricing (record { code = 8; price = 1; risk = 1 }))
          ∷ []
          );
      expected = 1 ∷ 1 ∷ 5 ∷ 4 ∷ 3 ∷ [];
    }
    -- a strike of a struck book and a reopening of an open one; the other way about they are accepted
    ∷ record { given = numbers_of (refusals struck_two strike ∷ refusals (opened 2) reopening ∷ []); expected = 8 ∷ 8 ∷ [] }
    ∷ record { given = numbers_of (refusals (opened 2) strike ∷ refusals struck_two reopening ∷ []); expected = [] }
    -- the questions, in either stage, and the margin call: no seat 3, not listed; not listed, no lines; open, no lines
    ∷ record {
      given =
          numbers_of (
          refusals struck_two (position 3 7)
          ∷ refusals (opened 2) (position 2 7)
          ∷ refusals struck_two (set_off 7 [])
          ∷ refusals four_in_a_series (set_off 7 [])
          ∷ refusals (opened 2) (margin_call in_proportion [])
          ∷ refusals struck_two (margin_call in_proportion [])
          ∷ []
          );
      expected = 2 ∷ 3 ∷ 3 ∷ 9 ∷ 8 ∷ 9 ∷ [];
    }
    -- two bytes printed into a space of three, and four bytes, which have no room there
    ∷ record {
      given = print_number (printed (codes "ab") (codes "xyz")) ++ space_after (codes "ab") (codes "xyz");
      expected = 2 ∷ codes "abz";
    }
    ∷ record {
      given = print_number (printed (codes "abcd") (codes "xyz")) ++ space_after (codes "abcd") (codes "xyz");
      expected = 9 ∷ codes "xyz";
    }
    ∷ []

abbrev pub WorkedByHand : Type 0
WorkedByHand = all_as_expected table ≡ true
