-- The numbers of markets, sides and sections, and the four numbers of a refusal.
use Rattle.std.specs.Prelude.{ℕ, cond, Some, None, Ok, Err, Option, Result, ◌==◌, ok_or}
use Rattle.sharing.specs.declared.refusal.Refusal.{Refusal}
use Rattle.sharing.specs.Refusals.{number_of}
use Rattle.ledger.specs.declared.market.Market.{Market}
use Rattle.ledger.specs.declared.market.Market.TheVariants.{Electricity, Gas, PropertyRights}
use Rattle.ledger.specs.declared.side.Side.{Side}
use Rattle.ledger.specs.declared.side.Side.TheVariants.{Purchase, Sale}
use Rattle.ledger.specs.declared.unknown.UnknownNumber.{UnknownNumber}
use Rattle.ledger.specs.declared.section.Section.{Section}
use Rattle.ledger.specs.declared.section.Section.TheVariants.{Series, Deals, Marks}
use Rattle.ledger.specs.declared.fault.LoadFault.{LoadFault}
use Rattle.ledger.specs.declared.fault.LoadFault.TheVariants.{WrongStage, FileLength, BrokenEntry, OutsideLimits, Refused}
use Rattle.ledger.specs.declared.fault.RefusalNumbers.{RefusalNumbers}

abbrev pub market_number : Market → ℕ
market_number Electricity = 1
market_number Gas = 2
market_number PropertyRights = 3

abbrev pub market_numbered : ℕ → Option Market
market_numbered n = cond (n == 1) (Some Electricity) (cond (n == 2) (Some Gas) (cond (n == 3) (Some PropertyRights) None))

abbrev pub side_numbered : ℕ → Option Side
side_numbered n = cond (n == 1) (Some Purchase) (cond (n == 2) (Some Sale) None)

-- what a number stands for, or else the number that stands for nothing
abbrev pub known : {K : Type 0} → (ℕ → Option K) → ℕ → Result K UnknownNumber
known numbered n = ok_or (numbered n) (record { 0 = n })

abbrev pub section_number : Section → ℕ
section_number Series = 1
section_number Deals = 2
section_number Marks = 3

-- refusal, section, record and cause; outside a load the last three are 0
abbrev pub plain_numbers : Refusal → RefusalNumbers
plain_numbers r = record { refusal = number_of r; section = 0; place = 0; cause = 0 }

abbrev pub fault_numbers : LoadFault → RefusalNumbers
fault_numbers WrongStage = record { refusal = 8; section = 0; place = 0; cause = 0 }
fault_numbers FileLength = record { refusal = 14; section = 0; place = 0; cause = 0 }
fault_numbers (BrokenEntry s) = record { refusal = 14; section = section_number s; place = 0; cause = 0 }
fault_numbers (OutsideLimits s n) = record { refusal = 15; section = section_number s; place = n; cause = 5 }
fault_numbers (Refused s n c) = record { refusal = 16; section = section_number s; place = n; cause = number_of c }

-- a load that is accepted answers four zeros
abbrev pub load_numbers : Result (Unit {0}) LoadFault → RefusalNumbers
load_numbers (Ok _) = record { refusal = 0; section = 0; place = 0; cause = 0 }
load_numbers (Err f) = fault_numbers f
