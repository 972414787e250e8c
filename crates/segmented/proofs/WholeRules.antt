-- What is known of segments over a whole axis: its count, its entries and their places, and what its calls answer. Assumes nothing.
use Rattle.std.proofs.Common.{◌≡◌, ℕ, ◌<◌, ◌≤◌, Bool, true, false, cond, not, ◌||◌, eqb, ltb, List, [], ◌∷◌, length, ℤ, pos, ◌+ℤ◌, nat_abs, sym, refl, ap, ◌∙◌, arith}
use borrow.Author.Tests.{not-false}
use Rattle.ranged1d.specs.Answer.{Answer, given, none, refused, Reason, ◌when◌, lowest, written, and_then}
use Rattle.ranged1d.specs.declared.Limit.{Limit}
use Rattle.ranged1d.proofs.Answers.{given_is}
use Rattle.ranged1d.proofs.Lowest.{given_tests, stops}
use Rattle.real.specs.Place.{whole_place}
use Rattle.ranged1d.proofs.Whole.{minus-far}
use Rattle.numeric.specs.declared.KeyPoints.{KeyPoints}
use Rattle.numeric.specs.Marks.{marks, step_of, no_step}
use Rattle.numeric.specs.Calls.{plan_reasons, plan_of, whole_plan, whole_key_points}
use Rattle.numeric.proofs.Readings.{ends-near}
use Rattle.numeric.specs.Whole.{count_of, ends_admitted, whole_size, whole_index_of}
use Rattle.segmented.specs.Segments.{Axis, segment_key_points}
use Rattle.segmented.specs.Axes.{most_values, whole_axis, whole_finder}
use Rattle.segmented.specs.Steps.{standing, count_answer, size_answer, entry_answer, index_answer, place_answer, Stands}
use Rattle.segmented.specs.Regular.{spans, value-near, whole-regular}
use Rattle.segmented.proofs.Rules.{counted_by, some-entries}

module _ (a b : ℤ) where
  abbrev axis : Axis ℤ
  axis = whole_axis a b

  -- ---- the count
  abbrev none_or_many : Reason
  none_or_many = 4 when (eqb (count_of a b) 0 || ltb most_values (count_of a b))

  size_tests : count_answer axis ≡ lowest (1 when not (ends_admitted a b) ∷ none_or_many ∷ []) (given (count_of a b))
  unfolding count_answer
  size_tests = refl

  -- ---- what the axis answers
  pub size_by : whole_size a b ≡ size_answer axis
  unfolding whole_size size_answer
  size_by = refl

  pub entry_by : (k : ℕ) {r : Answer ℕ} → r ≡ whole_size a b → and_then r (λ n. cond (ltb k n) (given (a +ℤ pos k)) none) ≡ entry_answer axis k
  unfolding whole_size entry_answer
  entry_by k e = ap (λ (r : Answer ℕ). and_then r (λ n. cond (ltb k n) (given (a +ℤ pos k)) none)) e ∙ go (ends_admitted a b)
    where
      go : (t : Bool) → and_then (lowest (1 when not t ∷ []) (given (count_of a b))) (λ n. cond (ltb k n) (given (a +ℤ pos k)) none)
          ≡ lowest (1 when not t ∷ []) (cond (ltb k (count_of a b)) (given (a +ℤ pos k)) none)
      go true = refl
      go false = refl

  -- an entry that is told, and its index, are no larger than these
  pub entry-near : (k n : ℕ) → given n ≡ whole_size a b → k < n → (k ≤ 2_000_000_000) × (nat_abs (a +ℤ pos k) ≤ 1_000_000_000)
  unfolding whole_size
  entry-near k n e l =
      let told = given_tests (1 when not (ends_admitted a b) ∷ []) (given (count_of a b)) (sym e) in
      let ok = not-false (ends_admitted a b) told.0.0 in
      let in_count : k < count_of a b = omega (arith, l, given_is told.1) in
      let near = ends-near a b ok in
      (omega (arith, spans a b ok k in_count, minus-far b a, near.0, near.1), value-near a b ok k in_count)

  pub index_by : (v : ℤ) → whole_index_of a b v ≡ index_answer axis (whole_finder a) v
  unfolding whole_index_of index_answer
  index_by v = refl

  pub place_by : (v : ℤ) (l : Limit) → whole_place a b v l ≡ place_answer axis v l
  unfolding whole_place place_answer
  place_by v l = refl

  -- ---- the count that segments stand on
  pub counted : {r : Answer ℕ} → r ≡ whole_size a b → standing r ≡ count_answer axis
  counted e = counted_by axis (whole-regular a b) (e ∙ size_by)

  -- ---- `key_points`
  module _ (m : ℕ) (old : List ℤ) where
    abbrev told : ℤ × ℕ
    told = (pos (step_of a b m), length (marks a b m))

    pub points_refused : {n : ℕ} → refused n ≡ whole_plan a b m → (refused n, old) ≡ segment_key_points axis told m old
    unfolding whole_plan segment_key_points
    points_refused e = ap (λ (x : Answer (ℤ × ℕ)). written x (marks a b m) old)
        (sym (stops (plan_reasons (ends_admitted a b) a b m) (none_or_many ∷ 13 when ltb (length old) (length (marks a b m)) ∷ []) (given told) (plan_of a b m) (sym e)))

    module _ {p : KeyPoints} (e : given p ≡ whole_plan a b m) where
      planned : (ends_admitted a b ≡ true) × (no_step a b m ≡ false)
      unfolding whole_plan
      planned = let tests = (given_tests (plan_reasons (ends_admitted a b) a b m) (given (plan_of a b m)) (sym e)).0 in (not-false (ends_admitted a b) tests.0, tests.1.0)

      pub points_stopped : {n : ℕ} → refused n ≡ count_answer axis → (refused n, old) ≡ segment_key_points axis told m old
      unfolding segment_key_points
      points_stopped c = rw (planned.0, planned.1)
          (ap (λ (x : Answer (ℤ × ℕ)). written x (marks a b m) old)
          (sym (stops (none_or_many ∷ []) (13 when ltb (length old) (length (marks a b m)) ∷ []) (given told) (count_of a b) (rw planned.0 at (sym (c ∙ size_tests))))))

      pub points_is : {n : ℕ} → Stands axis n → whole_key_points a b m old ≡ segment_key_points axis told m old
      unfolding whole_key_points segment_key_points
      points_is s = rw (s.admitted, planned.1, some-entries axis s, s.few) refl
