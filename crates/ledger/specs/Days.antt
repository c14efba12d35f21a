-- A day of the program: it opens a book of eight, loads the file, strikes, makes the margin call and prints.
use Rattle.std.specs.Prelude.{◌≡◌, ℕ, ◌⊎◌, List, [], ◌∷◌, map, pos}
use Rattle.sharing.specs.Lists.{made}
use Rattle.rules.specs.Division.{Meaning}
use Rattle.rules.specs.Proportions.{in_proportion}
use Rattle.ledger.specs.declared.fault.RefusalNumbers.{RefusalNumbers}
use Rattle.ledger.specs.declared.lines.ReportLine.{ReportLine}
use Rattle.ledger.specs.Limits.{most_members}
use Rattle.ledger.specs.Ledger.{Ledger, opened}
use Rattle.ledger.specs.Margins.{report_line, called}
use Rattle.ledger.specs.Texts.{report_text, refusal_text}
use Rattle.ledger.specs.Calls.{loading, strike, margin_call, refusals, changed}

-- the program hands in a line a member
abbrev pub day_lines : List ReportLine
day_lines = made most_members (λ k. record { seat = 0; before = 0; after = 0; additional = pos 0; balance = pos 0; share = 0; call = 0 })

-- the texts that are right where these refusals are deserved: those given where none is, else the line of any of them
abbrev pub texts_by : List RefusalNumbers → List (List ℕ) → List (List ℕ)
texts_by [] texts = texts
texts_by (r ∷ rs) texts = map refusal_text (r ∷ rs)

abbrev pub report_of : Meaning → Ledger → List ℕ
report_of m l = report_text (made l.members (report_line m l)) (called m l)

-- the text of a margin call on a ledger: at most one refusal is deserved there
abbrev pub call_texts : Meaning → Ledger → List (List ℕ)
call_texts m l = texts_by (refusals l (margin_call m day_lines)) (report_of m l ∷ [])

-- the ledger of a day whose file is loaded, as it is struck
abbrev pub day_ledger : List ℕ → Ledger
day_ledger file = changed (changed (opened most_members) (loading file)) strike

-- the texts that are right for a file, where m is the meaning of the division rule
abbrev pub day_texts : Meaning → List ℕ → List (List ℕ)
day_texts m file = texts_by (refusals (opened most_members) (loading file)) (call_texts m (day_ledger file))

-- the program calls in proportion, and prints one of them
abbrev pub IsOne : List ℕ → List (List ℕ) → Type 0
IsOne text [] = ⊥
IsOne text (t ∷ ts) = (text ≡ t) ⊎ IsOne text ts

abbrev pub Prints : List ℕ → List ℕ → Type 0
Prints file text = IsOne text (day_texts in_proportion file)
