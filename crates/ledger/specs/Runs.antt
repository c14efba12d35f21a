-- Runs: any list of calls on one book, with what they answered, newest first.
use Rattle.std.specs.Prelude.{◌≡◌, Bool, true, false, cond, List, [], ◌∷◌}
use Rattle.rules.specs.Division.{Lawful}
use Rattle.ledger.specs.Ledger.{Ledger, unopened}
use Rattle.ledger.specs.Calls.{Call, opening, listing, dealing, repricing, loading, strike, reopening, position, set_off, margin_call, Answer, refused, accepted, net_position, set_off_lines, margin_lines, ledger_after, Right}
use Rattle.ledger.specs.Obeys.{Obeyed}
use Rattle.ledger.specs.History.{History}

-- a call with what it answered
pub record Turn : Type 0 where
  pub call : Call
  pub answered : Answer

-- the ledger of a run is fed the calls' arguments alone
abbrev pub ledger : List Turn → Ledger
ledger [] = unopened
ledger (t ∷ run) = ledger_after (ledger run) t.call

-- every call answered what the ledger before it gives
abbrev pub AllRight : List Turn → Type 0
AllRight [] = Unit {0}
AllRight (t ∷ run) = Right (ledger run) t.call t.answered × AllRight run

-- every answered margin call keeps to the laws, by the ledger before it
abbrev pub AllObeyed : List Turn → Type 0
AllObeyed [] = Unit {0}
AllObeyed (t ∷ run) = Obeyed (ledger run) t.answered × AllObeyed run

-- the calls that were not refused
abbrev pub taken : Answer → Bool
taken (refused r) = false
taken accepted = true
taken (net_position volume cost) = true
taken (set_off_lines lines) = true
taken (margin_lines lines answered) = true

abbrev pub accepted_calls : List Turn → List Call
accepted_calls [] = []
accepted_calls (t ∷ run) = cond (taken t.answered) (t.call ∷ accepted_calls run) (accepted_calls run)

-- a call whose division rule, if it has one, is lawful
abbrev pub LawfulIn : Call → Type 0
LawfulIn (opening n) = Unit {0}
LawfulIn (listing s) = Unit {0}
LawfulIn (dealing d) = Unit {0}
LawfulIn (repricing r) = Unit {0}
LawfulIn (loading file) = Unit {0}
LawfulIn strike = Unit {0}
LawfulIn reopening = Unit {0}
LawfulIn (position seat code) = Unit {0}
LawfulIn (set_off code lines) = Unit {0}
LawfulIn (margin_call m lines) = Lawful m

abbrev pub AllLawful : List Turn → Type 0
AllLawful [] = Unit {0}
AllLawful (t ∷ run) = LawfulIn t.call × AllLawful run

-- The law over runs: a book that holds the ledger l has gone through the run. Its ledger is the run's, every call was
-- refused just where the checks find a cause and else answered the ledger's figures, every answered margin call keeps to
-- the laws, and the ledger is what the accepted calls tell.
pub record Ran (run : List Turn) (l : Ledger) : Type 0 where
  pub stands : l ≡ ledger run
  pub right : AllRight run
  pub obeyed : AllObeyed run
  pub history : History (accepted_calls run) l

-- What every call owes: its answer and the ledger after it are those of the definitions, and any run that the book has
-- gone through goes on with this turn.
pub record Turned (l : Ledger) (c : Call) (a : Answer) (l' : Ledger) : Type 0 where
  pub answers : Right l c a
  pub turns : l' ≡ ledger_after l c
  pub runs : (run : List Turn) → Ran run l → Ran (record { call = c; answered = a } ∷ run) l'
