-- What a caller may rely on beyond the rules. Three theorems stand in files of their own:
-- an axis that has a step has at most m + 1 marks, `at_most` of Most; refusal 3 is met exactly where 01's table has it,
-- `refused_3_exactly` of NoStep; and the mirror theorem of specs/Mirror, `mirror` of Mirror. Assumes nothing.
use mathlib.Core.Path.{◌≡◌, refl, sym, ap, ◌∙◌, subst}
use mathlib.Core.Bool.{true}
use mathlib.Core.List.{List, map}
use Prim.Native.Nat.{ℕ, zero, suc, ◌+◌, ◌-◌, ◌*◌, ◌/◌, ◌≤◌, ◌<◌}
use native.Mathlib.Nat.{div-mul-le_self, lt-div-mul-add, lt_of_mul-lt-mul_right, suc-mul, mul-le-mul_right, le-div_iff_mul-le}
use native.Mathlib.Omega.{arith}
use borrow.Author.Tests.{lt-ltb, le-ltb, le-leb, leb-true}
use lib.Dec.{T}
use lib.IntN.{ℤ, pos, negsuc, neg_ℤ, nat_abs, ◌*ℤ◌, pos-ne-negsuc}
use lib.ListN.{length, get_or}
use lib.Signed.{le_z, ◌≤ℤ◌}
use Rattle.ranged1d.specs.Answer.{given, none}
use Rattle.ranged1d.specs.Numbers.{is_i32}
use Rattle.ranged1d.proofs.Whole.{yes_le, le_yes, neg-order, below_all, neg_times}
use Rattle.numeric.specs.declared.Choice.{Choice}
use Rattle.numeric.specs.declared.KeyPoints.{KeyPoints}
use Rattle.numeric.specs.Marks.{low, high, first_index, last_index, how_many, multiple, ceil_div, step_of, marks_for, marks, marks_by}
use Rattle.numeric.specs.Calls.{plan_by, element, point_at, index_marks}
use Rattle.numeric.proofs.Lists.{entry, list_ext, map_list}
use Rattle.numeric.proofs.Plans.{planned_good_by, low_pos}

-- ---- a plan streams the marks: asked for mark i, `get` gives entry i of the list that `key_points` writes, and none from its end on
near_i32 : (z : ℤ) → nat_abs z ≤ 2000000000 → is_i32 z ≡ true
near_i32 (pos n) h = le-leb n 2147483647 (omega arith)
near_i32 (negsuc n) h = rw (le-leb n 2147483647 (omega arith))

module _ (c : Choice) (a b : ℤ) (m : ℕ) {p : KeyPoints} (e : plan_by c a b m ≡ given p) (i : ℕ) where
  count_is : length (marks_by c a b m) ≡ p.count
  count_is = ap (λ (q : KeyPoints). q.count) (planned_good_by c a b m e).plan

  pub streamed : i < length (marks_by c a b m) → point_at p i ≡ given (get_or (marks_by c a b m) i (pos 0))
  unfolding point_at
  streamed h =
      let l : i < p.count = omega (arith, count_is) in
      let good = planned_good_by c a b m e in
      rw (lt-ltb i p.count l, near_i32 (element p.first p.step i) (good.near i l).1, good.marks-are, entry (element p.first p.step) (pos 0) p.count i l)

  pub streamed_end : length (marks_by c a b m) ≤ i → point_at p i ≡ none
  unfolding point_at
  streamed_end h = rw (le-ltb i p.count (omega (arith, count_is)))

-- ---- the marks of an index axis are those of the whole axis with the same ends: none of these is below zero
index-multiple : (z : ℤ) (s k : ℕ) → pos (nat_abs z) ≡ z → pos (nat_abs (multiple (first_index z s) s k)) ≡ multiple (first_index z s) s k
index-multiple (pos n) s k e = refl
index-multiple (negsuc n) s k e = absurd (pos-ne-negsuc (suc n) n e)

pub index-whole : (a b m : ℕ) → map pos (index_marks a b m) ≡ marks (pos a) (pos b) m
unfolding marks_for
index-whole a b m =
    let s = step_of (pos a) (pos b) m in
    let i = first_index (low (pos a) (pos b)) s in
    let n = how_many i (last_index (high (pos a) (pos b)) s) in
    ap (λ (l : List ℕ). map pos l) (map_list nat_abs (multiple i s) n)
    ∙ map_list pos (λ k. nat_abs (multiple i s k)) n
    ∙ list_ext (λ k. pos (nat_abs (multiple i s k))) (multiple i s) n (λ k h. index-multiple (low (pos a) (pos b)) s k (low_pos a b))

-- ---- the first mark is a multiple that is not below lo, and no other such multiple is less
module _ (s : ℕ) (hs : 0 < s) where
  pub first_not_below : (lo : ℤ) → lo ≤ℤ (first_index lo s *ℤ pos s)
  first_not_below (pos n) = yes_le (le-leb n (ceil_div n s * s) (omega (arith, lt-div-mul-add {a = n + (s - 1)} hs)))
  first_not_below (negsuc n) = yes_le (rw (neg_times (pos (suc n / s)) s) (neg-order (suc n) (suc n / s * s) (div-mul-le_self (suc n) s)))

  not_above_negative : (n x : ℕ) → 0 < x → le_z (pos n) (neg_ℤ (pos x)) ≡ true → ⊥
  not_above_negative n zero h e = omega arith
  not_above_negative n (suc x) h e = subst T (sym e) tt

  below_negative : (n x : ℕ) → le_z (negsuc n) (neg_ℤ (pos x)) ≡ true → x ≤ suc n
  below_negative n zero e = omega arith
  below_negative n (suc x) e = omega (arith, leb-true x n e)

  pub first_least : (lo k : ℤ) → lo ≤ℤ (k *ℤ pos s) → (first_index lo s *ℤ pos s) ≤ℤ (k *ℤ pos s)
  first_least (pos n) (pos j) h =
      let least : ceil_div n s < suc j = lt_of_mul-lt-mul_right s (omega (arith, leb-true n (j * s) (le_yes h), suc-mul j s, div-mul-le_self (n + (s - 1)) s)) in
      yes_le (le-leb (ceil_div n s * s) (j * s) (mul-le-mul_right s (omega arith)))
  first_least (pos n) (negsuc j) h = absurd (not_above_negative n (suc j * s) (omega (arith, suc-mul j s)) (le_yes h))
  first_least (negsuc n) (pos j) h = yes_le (rw (neg_times (pos (suc n / s)) s) (below_all (suc n / s * s) (j * s)))
  first_least (negsuc n) (negsuc j) h =
      let fewer : suc j ≤ suc n / s = (le-div_iff_mul-le hs).1 (below_negative n (suc j * s) (le_yes h)) in
      yes_le (rw (neg_times (pos (suc n / s)) s) (neg-order (suc n / s * s) (suc j * s) (mul-le-mul_right s fewer)))
