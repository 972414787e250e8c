-- The rules of the calls over a stepped axis of either kind of numbers, by those of the axis. Assumes nothing.
use Rattle.std.proofs.Common.{◌≡◌, ℕ, Bool, true, false, not, ◌&&◌, ◌||◌, eqb, ltb, List, [], ◌∷◌, length, ℤ, sym, refl, ap, ◌∙◌, true≢false, arith, ltb-false, ltb-true, ne_eqb, eqb-true}
use borrow.Author.Tests.{eqb-false}
use lib.Ieee.{Float}
use Rattle.ranged1d.specs.Answer.{Answer, given, refused, ◌when◌, lowest, written}
use Rattle.ranged1d.specs.Admitted.{whole_admitted}
use Rattle.ranged1d.proofs.Bools.{both_true}
use Rattle.ranged1d.specs.declared.Limit.{Limit}
use Rattle.real.specs.Place.{real_place, whole_place}
use Rattle.search.specs.declared.RoundingMethod.{RoundingMethod}
use Rattle.linspace.specs.List.{Kind, whole, real, stepped, against, too_long, axis_admitted, most}
use Rattle.linspace.specs.Calls.{step_size, step_from_index, step_index_of, step_marks, step_key_points, unserved}
use Rattle.linspace.proofs.Marks.{marks-none, marks-some, some-marks}
use Rattle.segmented.specs.Segments.{Axis, segment_key_points}
use Rattle.segmented.specs.Axes.{stepped_axis, stepped_finder}
use Rattle.segmented.specs.Steps.{at_least_one, size_answer, entry_answer, index_answer, place_answer}

module _ {A : Type 0} (kind : Kind A) (a b d : A) where
  abbrev steps : Axis A
  steps = stepped_axis kind a b d

  -- ---- what the axis answers
  pub size_by : step_size kind a b d ≡ size_answer steps
  unfolding step_size size_answer
  size_by = refl

  pub entry_by : (k : ℕ) → step_from_index kind a b d k ≡ entry_answer steps k
  unfolding step_from_index entry_answer
  entry_by k = refl

  pub index_by : (v : A) (method : RoundingMethod) → step_index_of kind a b d v method ≡ index_answer steps (stepped_finder kind a b d method) v
  unfolding step_index_of index_answer
  index_by v method = refl

  -- ---- `key_points`
  module _ (m : ℕ) (old : List A) where
    abbrev marked : List A
    marked = step_marks kind a b d m

    abbrev segment_marks : Answer ℕ × List A
    segment_marks = segment_key_points steps (length marked) m old

    no_marks : length (stepped kind a b d) ≡ 0 → marked ≡ []
    no_marks e = marks-none kind.nil (stepped kind a b d) m e

    -- memory too short for the marks is so for an axis with entries
    short-some : ltb (length old) (length marked) ≡ true → eqb (length (stepped kind a b d)) 0 ≡ false
    short-some h = ne_eqb (length (stepped kind a b d)) 0 (λ e. omega (arith, ltb-true (length old) (length marked) h, ap length (no_marks e)))

    abbrev by : Bool → Bool → Bool → Bool → Bool → Bool → Answer ℕ
    by t y u z f o = lowest (1 when not t ∷ 3 when y ∷ 4 when (not (u || z) && (o || false)) ∷ 6 when u ∷ 7 when z ∷ 13 when f ∷ []) (given (length marked))

    abbrev below : Bool → Bool → Bool → Bool → Bool → Answer ℕ
    below t y u z f = lowest (1 when not t ∷ 3 when y ∷ 6 when u ∷ 7 when z ∷ 13 when f ∷ []) (given (length marked))

    -- an axis that is not refused has marks if it has entries
    some_marked : unserved kind a b d m ≡ false → too_long kind a b d ≡ false → eqb (length (stepped kind a b d)) 0 ≡ false → length marked ≡ 0 → ⊥
    some_marked y z o e =
        let n = length (stepped kind a b d) in
        let some = eqb-false n 0 o in
        let few = ltb-false most n z in
        let bound = some-marks (stepped kind a b d) m n y refl (omega (arith, some)) in
        omega (arith, e, marks-some kind.nil (stepped kind a b d) m n refl some (omega (arith, few)) bound)

    -- what the axis has written, from how many marks: there are none exactly if there are no entries
    marks_by_lem : (at_least_one (step_key_points kind a b d m old).0, (step_key_points kind a b d m old).1) ≡ segment_marks
    unfolding step_key_points segment_key_points
    marks_by_lem =
        go (axis_admitted kind a b d) (unserved kind a b d m) refl (against kind a b d) (too_long kind a b d) refl (ltb (length old) (length marked)) refl (eqb (length (stepped kind a b d)) 0) refl
      where
        go : (t y : Bool) → unserved kind a b d m ≡ y → (u z : Bool) → too_long kind a b d ≡ z → (f : Bool) → ltb (length old) (length marked) ≡ f → (o : Bool) → eqb (length (stepped kind a b d)) 0 ≡ o
            → (at_least_one (below t y u z f), (written (below t y u z f) marked old).1) ≡ written (by t y u z f o) marked old
        go false y hy u z hz f hf o ho = refl
        go true true hy u z hz f hf o ho = refl
        go true false hy true z hz f hf o ho = refl
        go true false hy false true hz f hf o ho = refl
        go true false hy false false hz true hf true ho = absurd (true≢false (sym ho ∙ short-some hf))
        go true false hy false false hz true hf false ho = refl
        go true false hy false false hz false hf true ho = rw (no_marks (eqb-true (length (stepped kind a b d)) 0 ho)) refl
        go true false hy false false hz false hf false ho = rw (ne_eqb (length marked) 0 (some_marked hy hz ho)) refl

    pub points_some : {r l : Answer ℕ} {new : List A} → r ≡ at_least_one l → (l, new) ≡ step_key_points kind a b d m old → (r, new) ≡ segment_marks
    points_some {new = new} e f = ap (λ (x : Answer ℕ). (x, new)) e ∙ ap (λ (q : Answer ℕ × List A). (at_least_one q.0, q.1)) f ∙ marks_by_lem

-- ---- places, by the ends alone
pub real_place_by : (a b d v : Float) (l : Limit) → real_place a b v l ≡ place_answer (stepped_axis real a b d) v l
unfolding real_place place_answer
real_place_by a b d v l = refl

pub whole_place_by : (a b d : ℤ) → axis_admitted whole a b d ≡ true → (v : ℤ) (l : Limit) → whole_place a b v l ≡ place_answer (stepped_axis whole a b d) v l
unfolding whole_place place_answer
whole_place_by a b d h v l = rw (h, (both_true (whole_admitted a && whole_admitted b) (whole_admitted d) h).0) refl

pub not_placed : (a b d : ℤ) → axis_admitted whole a b d ≡ false → (v : ℤ) (l : Limit) → refused 1 ≡ place_answer (stepped_axis whole a b d) v l
unfolding place_answer
not_placed a b d h v l = rw h refl
