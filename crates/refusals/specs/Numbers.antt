-- The number of each refusal, in documents 01 and 02, and that of a result.
use Rattle.std.specs.Prelude.{ℕ, Result, Ok, Err}
use Rattle.refusals.specs.declared.Refusal.{Refusal}
use Rattle.refusals.specs.declared.Refusal.TheVariants.{NoPlace, BookLength, RaterCount, NoRater, GradeCount, ColumnKind, ManyDefaults, NoObligors, HighRate, ManyObligors, HighPrice, ShortBuffer, PlaceLoaded, PlaceEmpty, NoDefaults, NoSurvivors, UnequalTotals, TableStart, TableEnd, Leftover, FallingRate, LargeTable, NoGrade, NoFirm, FullTable}

abbrev pub number_of : Refusal → ℕ
number_of NoPlace = 1
number_of BookLength = 2
number_of RaterCount = 3
number_of NoRater = 4
number_of GradeCount = 6
number_of ColumnKind = 7
number_of ManyDefaults = 8
number_of NoObligors = 9
number_of HighRate = 10
number_of ManyObligors = 11
number_of HighPrice = 12
number_of ShortBuffer = 13
number_of PlaceLoaded = 21
number_of PlaceEmpty = 22
number_of NoDefaults = 23
number_of NoSurvivors = 24
number_of UnequalTotals = 25
number_of TableStart = 31
number_of TableEnd = 32
number_of Leftover = 33
number_of FallingRate = 34
number_of LargeTable = 35
number_of NoGrade = 36
number_of NoFirm = 37
number_of FullTable = 38

-- the number that a call was refused with, 0 where it was accepted
abbrev pub number_in : {A : Type 0} → Result A Refusal → ℕ
number_in (Ok x) = 0
number_in (Err r) = number_of r
