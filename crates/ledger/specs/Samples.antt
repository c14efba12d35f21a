-- The files, books and calls of the worked examples.
use Rattle.std.specs.Prelude.{ℕ, ◌/◌, ◌%◌, List, [], ◌∷◌, ◌++◌, map, Ok, Err, codes, Result}
use Rattle.std.specs.Fmt.{signed_decimal}
use Rattle.sharing.specs.declared.refusal.Refusal.{Refusal}
use Rattle.sharing.specs.Refusals.{number_of}
use Rattle.rules.specs.Proportions.{in_proportion}
use Rattle.ledger.specs.declared.deal.Deal.{Deal}
use Rattle.ledger.specs.declared.fault.RefusalNumbers.{RefusalNumbers}
use Rattle.ledger.specs.declared.lines.SetOffLine.{SetOffLine}
use Rattle.ledger.specs.declared.stage.Stage.TheVariants.{Struck}
use Rattle.ledger.specs.Ledger.{Ledger, opened}
use Rattle.ledger.specs.Bookings.{lists, deals, booked_all}
use Rattle.ledger.specs.Texts.{fields_text}
use Rattle.ledger.specs.Calls.{Answer, refused, accepted, net_position, set_off_lines, margin_lines, in_stage}
use Rattle.ledger.specs.Days.{day_texts}

-- bytes of a file, least byte first
abbrev pub two_bytes : ℕ → List ℕ
two_bytes n = n % 256 ∷ n / 256 ∷ []

abbrev pub four_bytes : ℕ → List ℕ
four_bytes n = n % 256 ∷ n / 256 % 256 ∷ n / 65536 % 256 ∷ n / 16777216 ∷ []

-- the contents of a file, by the offset and the length of each section
abbrev pub contents_bytes : ℕ → ℕ → ℕ → ℕ → ℕ → ℕ → List ℕ
contents_bytes start size start' size' start'' size'' =
    codes "SERS"
    ++ (four_bytes start
    ++ (four_bytes size ++ (codes "DEAL" ++ (four_bytes start' ++ (four_bytes size' ++ (codes "MARK" ++ (four_bytes start'' ++ four_bytes size'')))))))

abbrev pub listing_bytes : ℕ → ℕ → ℕ → ℕ → ℕ → List ℕ
listing_bytes code market size price risk = four_bytes code ++ (two_bytes market ++ (two_bytes size ++ (four_bytes price ++ four_bytes risk)))

abbrev pub deal_bytes : ℕ → ℕ → ℕ → ℕ → ℕ → List ℕ
deal_bytes code seat side lots price = four_bytes code ++ (two_bytes seat ++ (two_bytes side ++ (four_bytes lots ++ four_bytes price)))

abbrev pub mark_bytes : ℕ → ℕ → ℕ → List ℕ
mark_bytes code price risk = four_bytes code ++ (four_bytes price ++ four_bytes risk)

-- the day of three members: series 101 of market 1, 10 MWh a lot, price 20,000 and risk 1,000; seat 1 buys 60 lots at
-- 18,000, seat 2 sells 30 at 20,000, seat 3 buys 20 at 21,000
abbrev pub one_listing : List ℕ
one_listing = listing_bytes 101 1 10 20000 1000

abbrev pub three_deals : List ℕ
three_deals = deal_bytes 101 1 1 60 18000 ++ (deal_bytes 101 2 2 30 20000 ++ deal_bytes 101 3 1 20 21000)

abbrev pub three_member_day : List ℕ
three_member_day = contents_bytes 36 16 52 48 100 0 ++ (one_listing ++ three_deals)

-- the texts that are right for a file in proportion, one behind the other: there is one but where several records have a
-- field outside its limits
abbrev pub joined : List (List ℕ) → List ℕ
joined [] = []
joined (t ∷ ts) = t ++ joined ts

abbrev pub printed_for : List ℕ → List ℕ
printed_for file = joined (day_texts in_proportion file)

-- a group of four in a series of one MWh a lot, price 1 and risk 1: seats 1 to 3 are long a MWh, seat 4 short one
abbrev pub four_in_a_series : Ledger
four_in_a_series =
    booked_all (opened 4) (
    lists (record { code = 7; market = 1; size = 1; price = 1; risk = 1 })
    ∷ deals (record { code = 7; seat = 1; side = 1; lots = 1; price = 1 })
    ∷ deals (record { code = 7; seat = 2; side = 1; lots = 1; price = 1 })
    ∷ deals (record { code = 7; seat = 3; side = 1; lots = 1; price = 1 })
    ∷ deals (record { code = 7; seat = 4; side = 2; lots = 1; price = 1 })
    ∷ []
    )

-- an answer as numbers: a position with its signs, or seats, margins before and margins after of set-off lines
abbrev pub answer_numbers : Answer → List ℕ
answer_numbers (refused r) = []
answer_numbers accepted = []
answer_numbers (net_position volume cost) = fields_text (signed_decimal volume ∷ signed_decimal cost ∷ [])
answer_numbers (set_off_lines lines) = map (λ x. x.seat) lines ++ (map (λ x. x.before) lines ++ map (λ x. x.after) lines)
answer_numbers (margin_lines lines total) = []

-- the numbers of the refusals that calls deserve
abbrev pub numbers_of : List (List RefusalNumbers) → List ℕ
numbers_of [] = []
numbers_of (rs ∷ more) = map (λ r. r.refusal) rs ++ numbers_of more

abbrev pub struck_two : Ledger
struck_two = in_stage Struck (opened 2)

-- a purchase of so many lots of the series, for a seat, at 1 grosz
abbrev pub a_deal : ℕ → ℕ → ℕ → Deal
a_deal code seat lots = record { code = code; seat = seat; side = 1; lots = lots; price = 1 }

-- a line that was there before
abbrev pub old_line : SetOffLine
old_line = record { seat = 9; before = 9; after = 9 }

-- the answer of a sharing by its number, 0 where it is accepted
abbrev pub answer_number : Result (Unit {0}) Refusal → List ℕ
answer_number (Ok _) = 0 ∷ []
answer_number (Err r) = number_of r ∷ []

-- the answer of a print: the bytes written, or the number of its refusal
abbrev pub print_number : Result ℕ Refusal → List ℕ
print_number (Ok n) = n ∷ []
print_number (Err r) = number_of r ∷ []
