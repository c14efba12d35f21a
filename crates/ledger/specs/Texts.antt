-- What is printed: the report and the refusal line, and where a text space is too short.
use Rattle.std.specs.Prelude.{ℕ, cond, List, [], ◌∷◌, ◌++◌, length, drop, codes, decimal, Result, nat_lt}
use Rattle.std.specs.Fmt.{signed_decimal}
use Rattle.sharing.specs.declared.refusal.Refusal.{Refusal}
use Rattle.sharing.specs.declared.refusal.Refusal.TheVariants.{TooLittleRoom}
use Rattle.ledger.specs.declared.fault.RefusalNumbers.{RefusalNumbers}
use Rattle.ledger.specs.declared.lines.ReportLine.{ReportLine}
use Rattle.ledger.specs.Checks.{decided}

-- fields with a space between two, and a line feed at the end
abbrev pub fields_text : List (List ℕ) → List ℕ
fields_text [] = codes "\n"
fields_text (f ∷ []) = f ++ codes "\n"
fields_text (f ∷ (g ∷ gs)) = f ++ (codes " " ++ fields_text (g ∷ gs))

-- the seven fields of a member's line; a minus sign where one is negative, and no leading zeros
abbrev pub line_text : ReportLine → List ℕ
line_text x =
    fields_text (
    decimal x.seat
    ∷ decimal x.before
    ∷ decimal x.after
    ∷ signed_decimal x.additional
    ∷ signed_decimal x.balance
    ∷ decimal x.share
    ∷ decimal x.call
    ∷ []
    )

abbrev pub lines_text : List ReportLine → List ℕ
lines_text [] = []
lines_text (x ∷ xs) = line_text x ++ lines_text xs

-- the report: a line for each line handed in, then the total
unfoldable pub report_text : List ReportLine → ℕ → List ℕ
report_text lines total = lines_text lines ++ fields_text (codes "group" ∷ decimal total ∷ [])

unfoldable pub refusal_text : RefusalNumbers → List ℕ
refusal_text r = fields_text (codes "refused" ∷ decimal r.refusal ∷ decimal r.section ∷ decimal r.place ∷ decimal r.cause ∷ [])

-- a print into a text space: the number of bytes written, unless the space is too short
abbrev pub printed : List ℕ → List ℕ → Result ℕ Refusal
printed text space = decided ((nat_lt (length space) (length text), TooLittleRoom) ∷ []) (length text)

-- and what the space then holds: the text and what was behind it, or what it held
abbrev pub space_after : List ℕ → List ℕ → List ℕ
space_after text space = cond (nat_lt (length space) (length text)) space (text ++ drop (length text) space)
