-- 01 "Why a call stops": a call's result, by 01's values and numbers. Assumes nothing.
use Rattle.std.specs.Prelude.{Option, Some, None, Result, Ok, Err}
use Rattle.ranged1d.specs.Answer.{Answer, given, none, refused}
use Rattle.ranged1d.specs.Refusals.{number_of}
use Rattle.ranged1d.specs.declared.Refusal.{Refusal}

-- of a call that always has something to give: that, or the number of the refusal
abbrev pub tell : {A : Type 0} → Result A Refusal → Answer A
tell (Ok x) = given x
tell (Err r) = refused (number_of r)

-- of a call that is never refused
abbrev pub tell_option : {A : Type 0} → Option A → Answer A
tell_option (Some x) = given x
tell_option None = none

-- of a call that may have nothing to give
abbrev pub tell_found : {A : Type 0} → Result (Option A) Refusal → Answer A
tell_found (Ok x) = tell_option x
tell_found (Err r) = refused (number_of r)
