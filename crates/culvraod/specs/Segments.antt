-- How values of segments cross the C interface: a number for the case, and the number that the value carries. Assumes nothing.
use Rattle.std.specs.Prelude.{ℕ, zero, suc, false, ℤ, pos, Float}
use Rattle.std.specs.Float.{fin}
use Rattle.ranged1d.specs.Answer.{Answer, given, refused}
use Rattle.segmented.specs.Values.{Segment}
use Rattle.segmented.specs.declared.SegmentValue.TheVariants.{Exact, CenterOf, Last}
use Rattle.culvraod.specs.Boundary.{code, out_after}

-- on the way in: 0 is Exact, 1 CenterOf, 2 Last, whatever number comes with it; no other number is a case, and the call is refused with 1
abbrev pub case_of : {A : Type 0} → ℕ → A → Answer (Segment A)
case_of zero v = given (Exact v)
case_of (suc zero) v = given (CenterOf v)
case_of (suc (suc zero)) v = given Last
case_of (suc (suc (suc n))) v = refused 1

-- on the way out: the same numbers; Last comes with 0, among reals with this one
abbrev pub nil : Float
nil = fin false 0 (pos 0)

abbrev pub kind_of : {A : Type 0} → Segment A → ℕ
kind_of (Exact v) = 0
kind_of (CenterOf v) = 1
kind_of Last = 2

abbrev pub carried : {A : Type 0} → A → Segment A → A
carried o (Exact v) = v
carried o (CenterOf v) = v
carried o Last = o

-- a call that answers with a value of segments: what is returned, the case, and the number
abbrev pub segment_c : {A : Type 0} → A → Answer (Segment A) → ℕ → A → ℤ × ℕ × A
segment_c o x kind v = (code x, out_after kind_of x kind, out_after (carried o) x v)
