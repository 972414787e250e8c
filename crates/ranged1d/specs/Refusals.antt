-- 01 "Why a call stops": the number of each refusal. Assumes nothing.
use Rattle.std.specs.Prelude.{ℕ}
use Rattle.ranged1d.specs.declared.Refusal.{Refusal}
use Rattle.ranged1d.specs.declared.Refusal.TheVariants.{WholeNotAdmitted, LimitNotAdmitted, NoStep, NoSegments, TooFar, StepAgainstAxis, ListTooLong, NotMonotone, NanTarget, AboveI32, NotPrintable, TooManyDecimals, OutTooShort, NotARuler, UnknownTwist, TwistLost, RealAxisNotMarked, NotOnAxis, BelowI32, TooManyDigits, NotADecimal, BadWeek, BadMinute, TooSmall, NoChartEntry, CountFull, CountEmpty, BorderCount}

abbrev pub number_of : Refusal → ℕ
-- a whole end, value, step or list entry that is not admitted
number_of WholeNotAdmitted = 1
-- a limit or a pixel that is not admitted
number_of LimitNotAdmitted = 2
-- none of the 28 steps serves
number_of NoStep = 3
-- segments of an axis with no entries, or of a whole axis with too many
number_of NoSegments = 4
-- a place too far from p
number_of TooFar = 5
-- a step that leads away from b
number_of StepAgainstAxis = 6
-- a stepped list that is too long, or longer than the list lent for it
number_of ListTooLong = 7
-- a searched list that neither rises nor falls throughout, or has a NaN
number_of NotMonotone = 8
-- a NaN to search for, other than exactly, in a list with an entry
number_of NanTarget = 9
-- a value above the largest i32
number_of AboveI32 = 10
-- a number that has no label
number_of NotPrintable = 11
-- more decimals than a label can have
number_of TooManyDecimals = 12
-- bytes or a mark list to be written that are too short
number_of OutTooShort = 13
-- bytes that are no ruler
number_of NotARuler = 14
-- a twist that is neither S nor Z
number_of UnknownTwist = 15
-- a Z ruler that would lose its twist
number_of TwistLost = 16
-- 02 (d): a real axis, or a mark limit, for which there are no marks
number_of RealAxisNotMarked = 17
-- 02 (e): a needle off its axis, or on one without length
number_of NotOnAxis = 18
-- 02 (g): a value below the negation of the largest i32
number_of BelowI32 = 19
-- 02 (k): more decimals than a printed pitch can have
number_of TooManyDigits = 24
-- 02 (k): a text that is printed of no admitted number with so many decimals
number_of NotADecimal = 25
-- 02 (l): windows that are no running week
number_of BadWeek = 26
-- 02 (l): a clock minute beyond the week
number_of BadMinute = 27
-- 02 (n): a number of a scientific label that is smaller than the table's first power
number_of TooSmall = 28
-- 02 (h): a pin at no entry of its chart, or a list that is too long for one
number_of NoChartEntry = 20
-- 02 (h): a pin more where the count can hold no more
number_of CountFull = 21
-- 02 (h): a pin less where none is counted
number_of CountEmpty = 22
-- 02 (j): a film without borders, or with more than 16
number_of BorderCount = 23
