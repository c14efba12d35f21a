-- The causes of refusal by their numbers.
use Rattle.std.specs.Prelude.{ℕ}
use Rattle.sharing.specs.declared.refusal.Refusal.{Refusal}
use Rattle.sharing.specs.declared.refusal.Refusal.TheVariants.{MemberCount, NoSuchSeat, NotListed, ListedAlready, FieldOutsideLimits, BookFull, PositionLimits, WrongStage, TooLittleRoom, TotalsTooLarge, CannotShare, NoVolume, NotAFullOrder, BrokenContents, RecordOutsideLimits, RecordRefused}

abbrev pub number_of : Refusal → ℕ
number_of MemberCount = 1
number_of NoSuchSeat = 2
number_of NotListed = 3
number_of ListedAlready = 4
number_of FieldOutsideLimits = 5
number_of BookFull = 6
number_of PositionLimits = 7
number_of WrongStage = 8
number_of TooLittleRoom = 9
number_of TotalsTooLarge = 10
number_of CannotShare = 11
number_of NoVolume = 12
number_of NotAFullOrder = 13
number_of BrokenContents = 14
number_of RecordOutsideLimits = 15
number_of RecordRefused = 16
