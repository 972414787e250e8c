-- What each call of numeric answers, on every input, and what the list lent to it holds afterwards: 01 "Marks on a whole axis" with the
-- refusals of 01 "Why a call stops". Assumes nothing.
use Rattle.std.specs.Prelude.{◌≡◌, ℕ, Bool, cond, not, ◌&&◌, List, [], ◌∷◌, ◌++◌, map, ltb, ℤ, pos, nat_abs, ◌+ℤ◌, ◌*ℤ◌, length}
use Rattle.ranged1d.specs.Answer.{Answer, given, none, Reason, ◌when◌, lowest, written}
use Rattle.ranged1d.specs.Admitted.{ends_admitted, index_admitted}
use Rattle.ranged1d.specs.Numbers.{is_i32}
use Rattle.numeric.specs.declared.Choice.{Choice}
use Rattle.numeric.specs.declared.Choice.TheVariants.{Cut, Inside}
use Rattle.numeric.specs.declared.KeyPoints.{KeyPoints}
use Rattle.numeric.specs.Marks.{low, first_index, no_step, step_of, marks, marks_by}

-- ---- why an axis has no marks, from whether its ends are admitted: 1 where they are not, 3 where no step serves
abbrev pub plan_reasons : Bool → ℤ → ℤ → ℕ → List Reason
plan_reasons admitted a b m = 1 when not admitted ∷ 3 when no_step a b m ∷ []

-- ---- `key_points`, of either kind of axis, with the step and the list of marks as it has them: 13 where the lent list is too short; else the
-- step and the number of marks, which is the length of their list, and the marks at the start of the lent list
abbrev pub key_points_reasons : {A : Type 0} → Bool → ℤ → ℤ → ℕ → List A → List A → List Reason
key_points_reasons admitted a b m new old = plan_reasons admitted a b m ++ (13 when ltb (length old) (length new) ∷ [])

abbrev pub key_points_by : {A : Type 0} → Bool → A → ℤ → ℤ → ℕ → List A → List A → Answer (A × ℕ) × List A
key_points_by admitted step a b m new old = written (lowest (key_points_reasons admitted a b m new old) (given (step, length new))) new old

-- ---- RangedCoordi32
-- the marks as f has them
abbrev pub key_points_as : {A : Type 0} → (ℤ → A) → ℤ → ℤ → ℕ → List A → Answer (A × ℕ) × List A
key_points_as f a b m old = key_points_by (ends_admitted a b) (f (pos (step_of a b m))) a b m (map f (marks a b m)) old

-- a closure that answers nothing but what f does, by what may be its result at each argument
abbrev pub Computes : {A B : Type 0} → (A → B → Type 0) → (A → B) → Type 0
Computes {A} {B} post f = (x : A) (r : B) → post x r → r ≡ f x

unfoldable pub whole_key_points : ℤ → ℤ → ℕ → List ℤ → Answer (ℤ × ℕ) × List ℤ
whole_key_points a b m old = key_points_by (ends_admitted a b) (pos (step_of a b m)) a b m (marks a b m) old

-- `plan`: the same marks unwritten: where the first of them lies, the step to the next, and how many they are. Where there is no
-- mark, `first` is the multiple that would be the first.
abbrev pub plan_with : Choice → ℤ → ℤ → ℕ → KeyPoints
plan_with c a b m = record {
  first = first_index (low a b) (step_of a b m) *ℤ pos (step_of a b m);
  step = pos (step_of a b m);
  count = length (marks_by c a b m);
}

abbrev pub plan_of : ℤ → ℤ → ℕ → KeyPoints
plan_of a b m = plan_with Cut a b m

unfoldable pub whole_plan : ℤ → ℤ → ℕ → Answer KeyPoints
whole_plan a b m = lowest (plan_reasons (ends_admitted a b) a b m) (given (plan_of a b m))

-- 02 (a): the same of the marks on the axis, and of either
unfoldable pub inside_plan : ℤ → ℤ → ℕ → Answer KeyPoints
inside_plan a b m = lowest (plan_reasons (ends_admitted a b) a b m) (given (plan_with Inside a b m))

abbrev pub plan_by : Choice → ℤ → ℤ → ℕ → Answer KeyPoints
plan_by Cut a b m = whole_plan a b m
plan_by Inside a b m = inside_plan a b m

-- ---- KeyPoints
-- `get`: mark i, counted from 0; none from the count on. A value of the struct that no plan gives may lead past the range of an i32:
-- none there too.
abbrev pub element : ℤ → ℤ → ℕ → ℤ
element first step i = first +ℤ pos i *ℤ step

unfoldable pub point_at : KeyPoints → ℕ → Answer ℤ
point_at p i = cond (ltb i p.count && is_i32 (element p.first p.step i)) (given (element p.first p.step i)) none

-- ---- RangedCoordusize: the integer form on usize, whose ends are naturals. Its marks are those of the whole axis with the same ends,
-- none of which is below zero (`index-whole` of proofs/Theorems).
abbrev pub index_marks : ℕ → ℕ → ℕ → List ℕ
index_marks a b m = map nat_abs (marks (pos a) (pos b) m)

unfoldable pub index_key_points : ℕ → ℕ → ℕ → List ℕ → Answer (ℕ × ℕ) × List ℕ
index_key_points a b m old = key_points_by (index_admitted a && index_admitted b) (step_of (pos a) (pos b) m) (pos a) (pos b) m (index_marks a b m) old
