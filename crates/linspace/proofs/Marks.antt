-- The entries at the marks of the indices 0..n − 1, for entries of any kind: the marks have a plan, all lie on the list, and what is
-- written by the plan are the entries at them. Assumes nothing.
use mathlib.Core.Path.{◌≡◌, refl, sym, ap, subst, ◌∙◌}
use mathlib.Core.Bool.{Bool, true, false, true≢false, ◌&&◌}
use mathlib.Core.List.{List, [], map}
use mathlib.Core.Logic.{◌⊎◌, inl, inr}
use Prim.Native.Nat.{ℕ, ◌+◌, ◌-◌, ◌*◌, ◌/◌, ◌≤◌, ◌<◌}
use native.Mathlib.Nat.{div-le_self, zero-mul, div-eq_of_lt, div-mul-le_self, mul-le-mul_right}
use native.Mathlib.Decide.{dec_lt}
use native.Mathlib.Omega.{arith}
use borrow.Author.Tests.{lt-ltb, le-leb, lt-leb, eqb-false}
use lib.Dec.{leb, eqb, leb-zero}
use lib.IntN.{ℤ, pos, nat_abs, ◌*ℤ◌}
use lib.ListN.{length, get_or, length-map}
use Rattle.ranged1d.specs.Answer.{Answer, given, refused, list_written}
use Rattle.ranged1d.proofs.Answers.{not-both, all-written}
use Rattle.numeric.specs.declared.KeyPoints.{KeyPoints}
use Rattle.numeric.specs.Marks.{low, high, distance, chosen, step_at, first_index, last_index, how_many, ceil_div, list_of, multiple, multiples, no_step_for, step_for, marks_for}
use Rattle.numeric.specs.Calls.{whole_plan, plan_of, index_marks}
use Rattle.numeric.proofs.Lists.{length_of, list_ext, map_list, entry}
use Rattle.numeric.proofs.Steps.{step_pos, step_top}
use Rattle.numeric.proofs.Reflect.{many_pos}
use Rattle.numeric.proofs.NoStep.{none_served}
use Rattle.numeric.proofs.Plans.{planned_good, index_marks_are}
use Rattle.linspace.specs.Calls.{Spaced, has_entries, marks_of}

-- ---- the axis from 0 to h
low_zero : (h : ℕ) → low (pos 0) (pos h) ≡ pos 0
low_zero h = rw (leb-zero h) refl

high_zero : (h : ℕ) → high (pos 0) (pos h) ≡ pos h
high_zero h = rw (leb-zero h) refl

apart : (h : ℕ) → distance (low (pos 0) (pos h)) (high (pos 0) (pos h)) ≡ h
apart h = rw (low_zero h, high_zero h) (omega arith)

-- it has a plan, unless m is 0
pub plan_is : (h m : ℕ) → h ≤ 1000000000 → 0 < m → whole_plan (pos 0) (pos h) m ≡ given (plan_of (pos 0) (pos h) m)
unfolding whole_plan no_step_for
plan_is h m near some = rw (le-leb h 1000000000 near, served) refl
  where
    d : ℕ
    d = distance (low (pos 0) (pos h)) (high (pos 0) (pos h))

    served : leb 28 (chosen d m) ≡ false
    served = lt-leb 28 (chosen d m) (go (dec_lt (chosen d m) 28))
      where
        neither : ((m ≡ 0) × (0 < d)) ⊎ ((m ≡ 1) × (1000000000 < d)) → ⊥
        neither (inl x) = omega (arith, x.0, some)
        neither (inr x) = omega (arith, x.1, apart h, near)

        go : Dec (chosen d m < 28) → chosen d m < 28
        go (yes l) = l
        go (no g) = absurd (neither (none_served d m (omega (arith, apart h, near)) (omega (arith, g))))

pub plan-given : (h m : ℕ) → h ≤ 1000000000 → 0 < m → {r : ℕ} → whole_plan (pos 0) (pos h) m ≡ refused r → ⊥
plan-given h m near some e = not-both (sym (plan_is h m near some) ∙ e)

-- its first mark is 0, and the others lie a step apart, as far as h
pub record FromZero (h : ℕ) (p : KeyPoints) : Type 0 where
  pub first : nat_abs p.first ≡ 0
  pub small : nat_abs p.step ≤ 1000000000
  pub count : p.count ≡ h / nat_abs p.step + 1

from_zero : (lo hi : ℤ) (s h : ℕ) → lo ≡ pos 0 → hi ≡ pos h → 0 < s → s ≤ 1000000000
    → FromZero h (record { first = first_index lo s *ℤ pos s; step = pos s; count = length (multiples (first_index lo s) (last_index hi s) s) })
from_zero lo hi s h el eh some top =
    let c = ceil_div 0 s in
    let first : c ≡ 0 = div-eq_of_lt (omega (arith, some)) in
    rw (el, eh) (record {
      first = ap (λ (q : ℕ). q * s) first ∙ zero-mul s;
      small = top;
      count = omega (arith, length_of (multiple (pos c) s) (how_many (pos c) (pos (h / s))), many_pos c (h / s), first);
    })

pub begins : (h m : ℕ) {p : KeyPoints} → whole_plan (pos 0) (pos h) m ≡ given p → FromZero h p
unfolding step_for marks_for
begins h m e =
    let good = planned_good (pos 0) (pos h) m e in
    let k = chosen (distance (low (pos 0) (pos h)) (high (pos 0) (pos h))) m in
    subst (FromZero h) good.plan (from_zero (low (pos 0) (pos h)) (high (pos 0) (pos h)) (step_at k) h (low_zero h) (high_zero h) (step_pos k good.in_table) (step_top k good.in_table))

-- so that every mark lies on the axis
pub mark-inside : (h m : ℕ) {p : KeyPoints} → whole_plan (pos 0) (pos h) m ≡ given p → (k : ℕ) → k < p.count → nat_abs p.first + k * nat_abs p.step ≤ h
mark-inside h m {p} e k l =
    let g = begins h m e in
    let s = nat_abs p.step in
    let few : k ≤ h / s = omega (arith, l, g.count) in
    omega (arith, g.first, mul-le-mul_right s few, div-mul-le_self h s)

-- they are a step apart, from index 0 on
pub spaced : (n m : ℕ) → 0 < n → n ≤ 65536 → {p : KeyPoints} → whole_plan (pos 0) (pos (n - 1)) m ≡ given p → Spaced n m (nat_abs p.step) p.count
spaced n m some few {p} e =
    let g = begins (n - 1) m e in record {
      some = some;
      few = omega (arith, g.count, div-le_self (n - 1) (nat_abs p.step), some);
      marks = index_marks_are 0 (n - 1) m [] e ∙ list_ext _ _ p.count (λ k h. omega (arith, g.first));
      within = λ k h. omega (arith, mark-inside (n - 1) m e k h, some);
    }

-- the entries at such marks
pub marks_spaced : {A : Type 0} (x : A) (l : List A) {n m by count : ℕ} → length l ≡ n → Spaced n m by count → marks_of x l m ≡ list_of (λ k. get_or l (k * by) x) count
unfolding marks_of
marks_spaced x l {n} {m} {by} {count} e s =
    rw (e, lt-ltb 0 n s.some) (ap (map (λ k. get_or l k x)) s.marks ∙ map_list (λ k. get_or l k x) (λ k. k * by) count)

pub marks_long : {A : Type 0} (x : A) (l : List A) (m : ℕ) {n : ℕ} → length l ≡ n → 0 < n → length (marks_of x l m) ≡ length (index_marks 0 (n - 1) m)
unfolding marks_of
marks_long x l m {n} e some = rw (e, lt-ltb 0 n some) (length-map (index_marks 0 (n - 1) m) (λ k. get_or l k x))

-- of a list by index
pub marks_by : {A : Type 0} (x : A) (f : ℕ → A) {n m by count : ℕ} → Spaced n m by count → marks_of x (list_of f n) m ≡ list_of (λ k. f (k * by)) count
marks_by x f {n} {m} {by} {count} s = marks_spaced x (list_of f n) (length_of f n) s ∙ list_ext _ (λ k. f (k * by)) count (λ k h. entry f x n (k * by) (s.within k h))

-- ---- the entries at the marks
module _ {A : Type 0} (x : A) (l : List A) (m : ℕ) where
  pub marks-none : length l ≡ 0 → marks_of x l m ≡ []
  unfolding marks_of
  marks-none e = rw e refl

  pub marks-are : (n : ℕ) → length l ≡ n → (n ≡ 0 → ⊥) → {p : KeyPoints} → whole_plan (pos 0) (pos (n - 1)) m ≡ given p
      → marks_of x l m ≡ list_of (λ k. get_or l (nat_abs p.first + k * nat_abs p.step) x) p.count
  unfolding marks_of
  marks-are n e some {p} plan =
      rw (e, lt-ltb 0 n (omega (arith, some)))
      (ap (map (λ k. get_or l k x)) (index_marks_are 0 (n - 1) m [] plan)
      ∙ map_list (λ k. get_or l k x) (λ k. nat_abs p.first + k * nat_abs p.step) p.count)

  pub marks-some : (n : ℕ) → length l ≡ n → (n ≡ 0 → ⊥) → n ≤ 1000000000 → 0 < m → 0 < length (marks_of x l m)
  marks-some n e some near h =
      let plan = plan_is (n - 1) m (omega (arith, near)) h in
      let p = plan_of (pos 0) (pos (n - 1)) m in
      omega (arith, ap length (marks-are n e some plan), length_of (λ k. get_or l (nat_abs p.first + k * nat_abs p.step) x) p.count, (begins (n - 1) m plan).count)

-- ---- what is written
module _ {A : Type 0} (l old : List A) where
  pub nothing_written : l ≡ [] → ◌≡◌ {A = Answer ℕ × List A} (given 0, old) (list_written l old)
  nothing_written e = rw e (all-written [] old 0 refl (omega arith))

-- a list with an entry has marks, where 3 was not met
pub some-marks : {A : Type 0} (l : List A) (m n : ℕ) → (eqb m 0 && has_entries l) ≡ false → length l ≡ n → 0 < n → 0 < m
some-marks l m n e size some = go (eqb m 0) refl
  where
    go : (t : Bool) → eqb m 0 ≡ t → 0 < m
    go true u = absurd (true≢false (sym (rw (u, size, lt-ltb 0 n some) refl) ∙ e))
    go false u = let f = eqb-false m 0 u in omega (arith, f)
