-- 02 (d): the marks of a real axis, when there are none to be had (17), and the call for them. A reader needs `real_marks`, `unmarked` and `real_key_points`.
-- Assumes nothing.
use Rattle.std.specs.Prelude.{ℕ, zero, suc, Bool, true, cond, not, ◌&&◌, ◌||◌, List, [], ◌∷◌, leb, ltb, eqb, length, Float}
use Rattle.std.specs.Float.{binary64}
use Rattle.std.specs.Float.Ieee.{lt, le, neg, of_bits}
use Rattle.ranged1d.specs.Answer.{Answer, given, none, refused, Reason, ◌when◌, lowest, written}
use Rattle.rounding.specs.Integral.{floor_of, round_of}
use Rattle.rounding.specs.Operations.{◌⊕◌, ◌⊖◌, ◌⊗◌, ◌⊘◌}
use Rattle.keypoints.specs.Scale.{nil, epsilon, is_small, first_mark, last_mark, scale_for}
use Rattle.keypoints.specs.declared.Scale.{Scale}
use Rattle.keypoints.specs.declared.Run.{Run}

-- ---- The list goes from the first multiple of the step to the last. The source holds a mark as a base, the first one cut to the granularity, and a distance x
-- from there, so that a step that is small beside the ends still moves it.
abbrev pub base_of : Float → Float → Float
base_of left grain = floor_of (left ⊘ grain) ⊗ grain

abbrev pub run_of : Float → Float → Scale → Run
run_of lo hi s = record { step = s.step; grain = s.grain; base = base_of (first_mark lo s.step) s.grain; right = last_mark hi s.step }

module _ (r : Run) where
  -- the mark at the distance x is not past the last multiple by more than EPSILON
  unfoldable pub passes : Float → Bool
  passes x = le (neg epsilon) (r.right ⊖ x ⊖ r.base)

  -- x itself, or one granularity more where x, rounded to the granularity, is below 0
  unfoldable pub shifted : Float → Float
  shifted x = cond (lt (round_of (x ⊘ r.grain) ⊗ r.grain) nil) (x ⊕ r.grain) x

  -- the marks from the distance x on, but no more than n of them
  unfoldable pub marks_from : ℕ → Float → List Float
  marks_from zero x = []
  marks_from (suc n) x = cond (passes x) ((shifted x ⊕ r.base) ∷ marks_from n (shifted x ⊕ r.step)) []

-- 02 (d): a 2,001st mark is too many; it is listed here, so that it is known
abbrev pub most_marks : ℕ
most_marks = 2000

unfoldable pub marks_by : Float → Float → Scale → List Float
marks_by lo hi s = marks_from (run_of lo hi s) (suc most_marks) (first_mark lo s.step ⊖ base_of (first_mark lo s.step) s.grain)

-- the marks by the scale that was chosen, if one was
abbrev pub marks_of : Float → Float → Answer Scale → List Float
marks_of lo hi (given s) = marks_by lo hi s
marks_of lo hi none = []
marks_of lo hi (refused n) = []

-- ---- 02 (d): ends in order. Ends closer than EPSILON have the smaller one as their only mark.
unfoldable pub marks_for : Float → Float → ℕ → List Float
marks_for lo hi m = cond (is_small epsilon (lo ⊖ hi)) (lo ∷ []) (marks_of lo hi (scale_for lo hi m))

-- ---- 02 (d): ends in either order, of equal ones the first counting as the smaller; a mark limit of 0 leaves the list empty, whatever the ends are
abbrev pub smaller : Float → Float → Float
smaller a b = cond (lt b a) b a

abbrev pub larger : Float → Float → Float
larger a b = cond (lt b a) a b

unfoldable pub real_marks : Float → Float → ℕ → List Float
real_marks a b m = cond (eqb m 0) [] (marks_for (smaller a b) (larger a b) m)

-- ---- 02 (d), 17
-- 1,000,000, and the double nearest to 0.001
abbrev pub million : Float
million = of_bits binary64 0x412E_8480_0000_0000

abbrev pub milli : Float
milli = of_bits binary64 0x3F50_624D_D2F1_A9FC

-- an end within ±1,000,000; a NaN is not
unfoldable pub end_admitted : Float → Bool
end_admitted x = le (neg million) x && le x million

-- the largest mark limit
abbrev pub most_asked : ℕ
most_asked = 1000

-- both ends and the mark limit
abbrev pub axis_admitted : Float → Float → ℕ → Bool
axis_admitted a b m = end_admitted a && (end_admitted b && leb m most_asked)

-- the choice would need a 21st round, or the list has a 2,001st mark
abbrev pub goes_on : Float → Float → Answer Scale → Bool
goes_on lo hi (given s) = ltb most_marks (length (marks_by lo hi s))
goes_on lo hi none = true
goes_on lo hi (refused n) = true

-- of ends in order: their difference is EPSILON or more, and less than 0.001; or choice or list goes on too long
unfoldable pub unmarked_for : Float → Float → ℕ → Bool
unmarked_for lo hi m = not (is_small epsilon (lo ⊖ hi)) && (is_small milli (lo ⊖ hi) || goes_on lo hi (scale_for lo hi m))

-- m is not 0, and an end or m is not admitted, or the above holds
unfoldable pub unmarked : Float → Float → ℕ → Bool
unmarked a b m = not (eqb m 0) && (not (axis_admitted a b m) || unmarked_for (smaller a b) (larger a b) m)

-- ---- the call: 17, then 13 where the lent list is too short; then the list is written, and its length told
abbrev pub list_reasons : Bool → List Float → List Float → List Reason
list_reasons stop l old = 17 when stop ∷ 13 when ltb (length old) (length l) ∷ []

abbrev pub put_unless : Bool → List Float → List Float → Answer ℕ × List Float
put_unless stop l old = written (lowest (list_reasons stop l old) (given (length l))) l old

abbrev pub real_key_points_reasons : Float → Float → ℕ → List Float → List Reason
real_key_points_reasons a b m old = list_reasons (unmarked a b m) (real_marks a b m) old

unfoldable pub real_key_points : Float → Float → ℕ → List Float → Answer ℕ × List Float
real_key_points a b m old = put_unless (unmarked a b m) (real_marks a b m) old
