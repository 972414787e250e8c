-- 02 (a): the marks on the axis beside those that end at hi cut toward zero: they are never more. Assumes nothing.
use mathlib.Core.Path.{◌≡◌, refl, sym, ap, ◌∙◌}
use Prim.Native.Nat.{ℕ, zero, suc, ◌+◌, ◌-◌, ◌/◌, ◌≤◌, ◌<◌}
use native.Mathlib.Nat.{div-mul-le_self, le-div_iff_mul-le, div-eq_of_lt, zero-div}
use native.Mathlib.Omega.{arith}
use lib.IntN.{ℤ, pos, negsuc, neg_ℤ, nat_abs, ◌+ℤ◌, ◌-ℤ◌, +ℤ_comm, +ℤ_assoc, +ℤ_idr, neg_ℤ-+ℤ, neg_ℤ-neg_ℤ, -ℤ-+ℤ_cancel}
use lib.ListN.{length}
use Rattle.ranged1d.specs.Numbers.{raised}
use Rattle.numeric.specs.declared.Choice.{Choice}
use Rattle.numeric.specs.declared.Choice.TheVariants.{Cut, Inside}
use Rattle.ranged1d.specs.Answer.{given, lowest}
use Rattle.ranged1d.specs.Admitted.{ends_admitted}
use Rattle.numeric.specs.Marks.{low, high, ceil_div, first_index, last_index, last_inside, last_by, how_many, multiple, multiples, step_of, marks_for, inside_for, marks_by}
use Rattle.numeric.specs.Calls.{plan_reasons, whole_plan, inside_plan, plan_with, plan_by}
use Rattle.numeric.proofs.Lists.{length_of}
use Rattle.numeric.proofs.Bounds.{first-far}
use Rattle.ranged1d.proofs.Whole.{neg-far, quotient-far}

-- ---- either choice by its last multiple
pub marks_by_lem : (c : Choice) (a b : ℤ) (m : ℕ) → marks_by c a b m ≡ multiples (first_index (low a b) (step_of a b m)) (last_by c (high a b) (step_of a b m)) (step_of a b m)
unfolding marks_for inside_for
marks_by_lem Cut a b m = refl
marks_by_lem Inside a b m = refl

pub count_by : (c : Choice) (a b : ℤ) (m : ℕ) → length (marks_by c a b m) ≡ how_many (first_index (low a b) (step_of a b m)) (last_by c (high a b) (step_of a b m))
count_by c a b m = ap length (marks_by_lem c a b m) ∙ length_of (multiple (first_index (low a b) (step_of a b m)) (step_of a b m)) _

pub plan_by_lem : (c : Choice) (a b : ℤ) (m : ℕ) → plan_by c a b m ≡ lowest (plan_reasons (ends_admitted a b) a b m) (given (plan_with c a b m))
unfolding whole_plan inside_plan
plan_by_lem Cut a b m = refl
plan_by_lem Inside a b m = refl

-- ---- how the two last multiples lie
pub last-far : (c : Choice) (z : ℤ) (s : ℕ) → 0 < s → nat_abs (last_by c z s) ≤ nat_abs z
last-far Cut z s h = quotient-far z (pos s)
last-far Inside z s h = rw (neg-far (first_index (neg_ℤ z) s)) (omega (arith, first-far (neg_ℤ z) s h, neg-far z))

pub last_near_hi : (c : Choice) (z : ℤ) (s : ℕ) → 0 < s → nat_abs z ≤ 1000000000 → nat_abs (last_by c z s) ≤ 1000000000
last_near_hi c z s h b = omega (arith, last-far c z s h, b)

module _ (s : ℕ) (hs : 0 < s) where
  pub inside-above : (n : ℕ) → last_inside (pos n) s ≡ pos (n / s)
  inside-above zero = let none : ceil_div 0 s ≡ 0 = div-eq_of_lt (omega arith) in rw (none, zero-div s)
  inside-above (suc n) = neg_ℤ-neg_ℤ (pos (suc n / s))

  further-down : (q d : ℕ) → neg_ℤ (pos q) ≡ neg_ℤ (pos (q + d)) +ℤ pos d
  further-down q d = sym (ap (λ (z : ℤ). z +ℤ pos d) (neg_ℤ-+ℤ (pos q) (pos d)) ∙ -ℤ-+ℤ_cancel (neg_ℤ (pos q)) (pos d))

  pub inside_gap : (z : ℤ) → (d : ℕ) × (last_index z s ≡ last_inside z s +ℤ pos d)
  inside_gap (pos n) = (0, sym (+ℤ_idr (last_inside (pos n) s) ∙ inside-above n))
  inside_gap (negsuc n) =
      let q = suc n / s in
      let c = ceil_div (suc n) s in
      let less : q ≤ c = (le-div_iff_mul-le hs).1 (omega (arith, div-mul-le_self (suc n) s)) in
      let whole : q + (c - q) ≡ c = omega arith in
      (c - q, further-down q (c - q) ∙ ap (λ (x : ℕ). neg_ℤ (pos x) +ℤ pos (c - q)) whole)

  raised-more : (z : ℤ) (d : ℕ) → raised z ≤ raised (z +ℤ pos d)
  raised-more (pos n) d = omega arith
  raised-more (negsuc n) d = omega arith

  many_on : (i j : ℤ) (d : ℕ) → how_many i (j +ℤ pos d) ≡ raised ((j +ℤ pos 1 -ℤ i) +ℤ pos d)
  many_on i j d =
      ap (λ (z : ℤ). raised (z -ℤ i)) (+ℤ_assoc j (pos d) (pos 1) ∙ ap (λ (z : ℤ). j +ℤ z) (+ℤ_comm (pos d) (pos 1)) ∙ sym (+ℤ_assoc j (pos 1) (pos d)))
      ∙ ap raised (+ℤ_assoc (j +ℤ pos 1) (pos d) (neg_ℤ i) ∙ ap (λ (z : ℤ). j +ℤ pos 1 +ℤ z) (+ℤ_comm (pos d) (neg_ℤ i)) ∙ sym (+ℤ_assoc (j +ℤ pos 1) (neg_ℤ i) (pos d)))

  -- so that no choice has more marks than the cut
  pub fewer : (c : Choice) (i z : ℤ) → how_many i (last_by c z s) ≤ how_many i (last_index z s)
  fewer Cut i z = omega arith
  fewer Inside i z =
      let gap = inside_gap z in
      rw (gap.1, many_on i (last_inside z s) gap.0) (raised-more (last_inside z s +ℤ pos 1 -ℤ i) gap.0)
