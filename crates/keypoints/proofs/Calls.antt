-- What the call answers and writes, case by case as the code has them. Assumes nothing.
use mathlib.Core.Path.{◌≡◌, refl, sym, ap, ◌∙◌}
use mathlib.Core.Bool.{true, false}
use mathlib.Core.List.{List, [], ◌∷◌}
use Prim.Native.Nat.{ℕ, ◌<◌}
use native.Mathlib.Omega.{arith}
use borrow.Author.Tests.{le-ltb, eq-eqb, ne_eqb}
use lib.Dec.{ltb}
use lib.ListN.{length, set}
use lib.Ieee.{Float, nan}
use Rattle.ranged1d.specs.Answer.{Answer, given, none, refused}
use Rattle.ranged1d.proofs.Answers.{too_short, all-written}
use Rattle.ranged1d.proofs.Pieces.{put_next}
use Rattle.rounding.specs.Operations.{◌⊖◌}
use Rattle.keypoints.specs.Scale.{epsilon, is_small, start_of, chosen, most_rounds, scale_for}
use Rattle.keypoints.specs.Marks.{marks_by, marks_of, marks_for, real_marks, milli, axis_admitted, goes_on, unmarked_for, unmarked, put_unless, smaller, larger, real_key_points}
use Rattle.keypoints.specs.declared.Scale.{Scale}

-- ---- an axis from lo to hi
module _ (lo hi : Float) (m : ℕ) (old : List Float) where
  abbrev Sorted : Answer ℕ × List Float
  Sorted = put_unless (unmarked_for lo hi m) (marks_for lo hi m) old

  one_mark : is_small epsilon (lo ⊖ hi) ≡ true → Sorted ≡ put_unless false (lo ∷ []) old
  unfolding marks_for unmarked_for
  one_mark h = rw h

  pub one_no_room : is_small epsilon (lo ⊖ hi) ≡ true → length old ≡ 0 → Sorted ≡ (refused 13, old)
  one_no_room h s = one_mark h ∙ sym (too_short (lo ∷ []) old 1 refl (omega arith))

  pub one_written : is_small epsilon (lo ⊖ hi) ≡ true → 0 < length old → Sorted ≡ (given 1, set old 0 lo)
  one_written h s = sym (ap (λ (l : List Float). (given 1, l)) (put_next nan [] lo 0 old refl s) ∙ all-written (lo ∷ []) old 1 refl (omega arith) ∙ sym (one_mark h))

  pub too_near : is_small epsilon (lo ⊖ hi) ≡ false → is_small milli (lo ⊖ hi) ≡ true → Sorted ≡ (refused 17, old)
  unfolding marks_for unmarked_for
  too_near h k = rw (h, k)

  module _ (far : is_small epsilon (lo ⊖ hi) ≡ false) (apart : is_small milli (lo ⊖ hi) ≡ false) where
    by_rounds : (w : Answer Scale) → scale_for lo hi m ≡ w → Sorted ≡ put_unless (goes_on lo hi w) (marks_of lo hi w) old
    unfolding marks_for unmarked_for
    by_rounds w e = rw (far, apart, e)

    pub no_scale : chosen lo hi m most_rounds (start_of lo hi m).step (start_of lo hi m).grain ≡ none → Sorted ≡ (refused 17, old)
    unfolding scale_for
    no_scale e = by_rounds none e

    pub scale_is : (t : Scale) → chosen lo hi m most_rounds (start_of lo hi m).step (start_of lo hi m).grain ≡ given t
        → Sorted ≡ put_unless (ltb 2000 (length (marks_by lo hi t))) (marks_by lo hi t) old
    unfolding scale_for
    scale_is t e = by_rounds (given t) e

-- ---- the ends in either order
module _ (a b : Float) (m : ℕ) (old : List Float) where
  pub no_marks_asked : m ≡ 0 → real_key_points a b m old ≡ (given 0, old)
  unfolding real_key_points real_marks unmarked
  no_marks_asked e = rw (eq-eqb m 0 e, le-ltb (length old) 0 (omega arith))

  pub not_admitted : (m ≡ 0 → ⊥) → axis_admitted a b m ≡ false → real_key_points a b m old ≡ (refused 17, old)
  unfolding real_key_points unmarked
  not_admitted n h = rw (ne_eqb m 0 n, h)

  pub in_order : (m ≡ 0 → ⊥) → axis_admitted a b m ≡ true
      → real_key_points a b m old ≡ put_unless (unmarked_for (smaller a b) (larger a b) m) (marks_for (smaller a b) (larger a b) m) old
  unfolding real_key_points real_marks unmarked
  in_order n h = rw (ne_eqb m 0 n, h)

-- what the answers to a span, and to an axis, go by
pub ruleset of_span = (one_no_room, one_written, too_near, no_scale, scale_is)

pub ruleset of_axis = (no_marks_asked, not_admitted, in_order)
