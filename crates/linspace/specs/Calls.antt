-- What each call on a stepped axis (a, b, d) answers, on every input, and what the list lent to it holds afterwards: 01 "Mirroring, real
-- reading, stepped axes" with the refusals of 01 "Why a call stops". Every rule is written once, for both kinds of numbers. Assumes
-- nothing.
use Rattle.std.specs.Prelude.{◌≡◌, ℕ, zero, suc, ◌-◌, ◌*◌, ◌<◌, ◌≤◌, Bool, cond, not, ◌&&◌, ◌||◌, List, [], ◌∷◌, ◌++◌, map, ltb, eqb, ℤ, ◌-ℤ◌, length, get_or, Option}
use Rattle.ranged1d.specs.Answer.{Answer, given, none, Reason, ◌when◌, lowest, written, and_then}
use Rattle.ranged1d.specs.Admitted.{reading_admitted}
use Rattle.ranged1d.specs.declared.Limit.{Limit}
use Rattle.discrete.specs.Index.{index_for}
use Rattle.real.specs.Place.{spot, number, real_place_reasons}
use Rattle.numeric.specs.Marks.{list_of}
use Rattle.numeric.specs.Calls.{index_marks}
use Rattle.search.specs.Search.{search}
use Rattle.search.specs.Lists.{nan_target}
use Rattle.search.specs.declared.RoundingMethod.{RoundingMethod}
use Rattle.linspace.specs.List.{Kind, stepped, against, too_long, axis_admitted}

-- ---- lists: the entry at an index, none past the end; whether there is an entry; the entries at the marks of 0..count − 1
abbrev pub nth : {A : Type 0} → List A → ℕ → Answer A
nth [] k = none
nth (x ∷ xs) zero = given x
nth (x ∷ xs) (suc k) = nth xs k

abbrev pub has_entries : {A : Type 0} → List A → Bool
has_entries l = ltb 0 (length l)

-- the value at an index that a pixel was read as, if it was
abbrev pub nth_of : {A : Type 0} → List A → Answer ℕ → Answer A
nth_of l r = and_then r (nth l)

unfoldable pub marks_of : {A : Type 0} → A → List A → ℕ → List A
marks_of x l m = cond (has_entries l) (map (λ k. get_or l k x) (index_marks 0 (length l - 1) m)) []

-- the marks of n indices are `count`, `by` apart from the first on, for the promises of private functions
pub record Spaced (n m by count : ℕ) : Type 0 where
  pub some : 0 < n
  pub few : count ≤ n
  pub marks : index_marks 0 (n - 1) m ≡ list_of (λ k. k * by) count
  pub within : (k : ℕ) → k < count → k * by < n

module _ {A : Type 0} (kind : Kind A) (a b d : A) where
  -- ---- `values`: the list itself; 7 also where it is longer than the lent list
  abbrev pub values_reasons : List A → List Reason
  values_reasons old =
      1 when not (axis_admitted kind a b d)
      ∷ 6 when against kind a b d
      ∷ 7 when (too_long kind a b d || ltb (length old) (length (stepped kind a b d)))
      ∷ []

  unfoldable pub step_values : List A → Answer ℕ × List A
  step_values old = written (lowest (values_reasons old) (given (length (stepped kind a b d)))) (stepped kind a b d) old

  -- ---- why a list cannot be counted: 6 and 7
  abbrev pub unlisted : List Reason
  unlisted = 6 when against kind a b d ∷ 7 when too_long kind a b d ∷ []

  -- ---- `size`, `from_index`: the number of entries, and the entry at an index; 1 where the axis is not admitted
  abbrev pub count_reasons : List Reason
  count_reasons = 1 when not (axis_admitted kind a b d) ∷ unlisted

  abbrev pub counting : {B : Type 0} → Answer B → Answer B
  counting r = lowest count_reasons r

  unfoldable pub step_size : Answer ℕ
  step_size = counting (given (length (stepped kind a b d)))

  unfoldable pub step_from_index : ℕ → Answer A
  step_from_index k = counting (nth (stepped kind a b d) k)

  -- ---- `index_of`: the index that the chosen search finds for v; 9 as for a lent list
  abbrev pub step_index_reasons : A → RoundingMethod → List Reason
  step_index_reasons v method =
      1 when not (axis_admitted kind a b d && kind.admitted v) ∷ unlisted ++ (9 when nan_target kind.numbers v method (length (stepped kind a b d)) ∷ [])

  unfoldable pub step_index_of : A → RoundingMethod → Answer ℕ
  step_index_of v method = lowest (step_index_reasons v method) (search kind.numbers v method (stepped kind a b d))

  -- ---- `index_among`: that index, and beside it the number of entries
  abbrev pub among : Answer ℕ → Answer (ℕ × ℕ)
  among found = and_then found (λ k. given (k, length (stepped kind a b d)))

  abbrev pub step_index_among : A → RoundingMethod → Answer (ℕ × ℕ)
  step_index_among v method = among (step_index_of v method)

  -- ---- `map`: the place of v, by the ends alone; 2 and 5 as on a real axis, before 6 and 7
  abbrev pub step_spot : A → Limit → Option ℤ
  step_spot v limit = spot (kind.float a) (kind.float b) (kind.float v) limit

  abbrev pub step_place_reasons : A → Limit → List Reason
  step_place_reasons v limit =
      1 when not (axis_admitted kind a b d && kind.admitted v) ∷ real_place_reasons (kind.float a) (kind.float b) (kind.float v) limit ++ unlisted

  unfoldable pub step_place : A → Limit → Answer ℤ
  step_place v limit = lowest (step_place_reasons v limit) (given (number (step_spot v limit)))

  -- ---- `unmap`: the entry at the index of the pixel, none past the end
  abbrev pub step_reading_reasons : ℤ → Limit → List Reason
  step_reading_reasons x limit = 1 when not (axis_admitted kind a b d) ∷ 2 when not (reading_admitted x limit) ∷ unlisted

  unfoldable pub step_reading : ℤ → Limit → Answer A
  step_reading x limit =
      lowest (step_reading_reasons x limit) (nth_of (stepped kind a b d) (index_for (x -ℤ limit.0) (limit.1 -ℤ limit.0) (length (stepped kind a b d))))

  -- ---- `key_points`: the entries at the marks of 0..count − 1, written to the lent list; 3 where m is 0 and there is an entry
  abbrev pub step_marks : ℕ → List A
  step_marks m = marks_of kind.nil (stepped kind a b d) m

  abbrev pub unserved : ℕ → Bool
  unserved m = eqb m 0 && has_entries (stepped kind a b d)

  abbrev pub unmarked : ℕ → List Reason
  unmarked m = 1 when not (axis_admitted kind a b d) ∷ 3 when unserved m ∷ unlisted

  abbrev pub step_key_points_reasons : ℕ → List A → List Reason
  step_key_points_reasons m old = unmarked m ++ (13 when ltb (length old) (length (step_marks m)) ∷ [])

  unfoldable pub step_key_points : ℕ → List A → Answer ℕ × List A
  step_key_points m old = written (lowest (step_key_points_reasons m old) (given (length (step_marks m)))) (step_marks m) old
