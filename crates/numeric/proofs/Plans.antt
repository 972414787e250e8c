-- A plan of an axis: the list that `key_points` writes is read off it, and every number on the way fits. Assumes nothing.
use mathlib.Core.Path.{◌≡◌, refl, sym, ap, ◌∙◌, subst}
use mathlib.Core.Bool.{Bool, cond}
use mathlib.Core.List.{List, [], ◌∷◌, ◌++◌, map, map-id}
use Prim.Native.Nat.{ℕ, suc, ◌+◌, ◌*◌, ◌≤◌, ◌<◌}
use native.Mathlib.Omega.{arith}
use lib.Dec.{leb, ltb}
use lib.IntN.{ℤ, pos, negsuc, nat_abs, ◌*ℤ◌, pos-ne-negsuc}
use lib.ListN.{length, drop}
use lib.Signed.{le_z}
use borrow.Author.Tests.{leb-false, lt-ltb, le-ltb, not-false}
use Rattle.ranged1d.specs.Answer.{Answer, given, refused, ◌when◌, lowest, written, and_then}
use Rattle.ranged1d.specs.Admitted.{ends_admitted}
use Rattle.ranged1d.proofs.Answers.{given_is}
use Rattle.ranged1d.proofs.Bools as tests
use Rattle.ranged1d.proofs.Lowest.{given_tests, lowest_then}
use Rattle.ranged1d.proofs.Whole.{both_near}
use Rattle.numeric.specs.declared.Choice.{Choice}
use Rattle.numeric.specs.declared.Choice.TheVariants.{Cut}
use Rattle.numeric.specs.declared.KeyPoints.{KeyPoints}
use Rattle.numeric.specs.Marks.{low, high, distance, chosen, step_at, first_index, last_by, how_many, list_of, multiple, no_step_for, step_for, step_of, marks, marks_by}
use Rattle.numeric.specs.Calls.{plan_reasons, key_points_by, whole_key_points, whole_plan, plan_of, plan_with, plan_by, element, key_points_as, index_marks, index_key_points}
use Rattle.numeric.proofs.Lists.{list_ext, map_list}
use Rattle.numeric.proofs.Steps.{step_pos, step_top}
use Rattle.numeric.proofs.Bounds.{multiple-element, marks-near, count-near}
use Rattle.numeric.proofs.Inside.{marks_by_lem, count_by, plan_by_lem, fewer}

-- of the two ends of an admitted axis each is admitted
pub one-near : (a b : ℤ) → nat_abs a ≤ 1000000000 → nat_abs b ≤ 1000000000 → (t : Bool) → nat_abs (cond t a b) ≤ 1000000000
one-near a b ha hb t = tests.chosen (λ (z : ℤ). nat_abs z ≤ 1000000000) t ha hb

-- what is known of a plan that was given, of either choice
pub record GoodBy (c : Choice) (a b : ℤ) (m : ℕ) (p : KeyPoints) : Type 0 where
  pub ends : (nat_abs a ≤ 1000000000) × (nat_abs b ≤ 1000000000)
  pub in_table : chosen (distance (low a b) (high a b)) m < 28
  pub plan : plan_with c a b m ≡ p
  pub marks-are : marks_by c a b m ≡ list_of (element p.first p.step) p.count
  pub few : p.count ≤ 2000000001
  pub near : (k : ℕ) → k < p.count → (nat_abs (pos k *ℤ p.step) ≤ 2000000000) × (nat_abs (element p.first p.step k) ≤ 2000000000)

abbrev pub Good : ℤ → ℤ → ℕ → KeyPoints → Type 0
Good a b m p = GoodBy Cut a b m p

module _ (c : Choice) (a b : ℤ) (m : ℕ) where
  good_plan : nat_abs a ≤ 1000000000 → nat_abs b ≤ 1000000000 → chosen (distance (low a b) (high a b)) m < 28 → GoodBy c a b m (plan_with c a b m)
  unfolding step_for
  good_plan ha hb h =
      let k = chosen (distance (low a b) (high a b)) m in
      let s = step_at k in
      let lo = low a b in
      let hi = high a b in
      let i = first_index lo s in
      let n = how_many i (last_by c hi s) in
      let hl = one-near a b ha hb (le_z a b) in
      let hh = one-near b a hb ha (le_z a b) in
      let n_is : length (marks_by c a b m) ≡ n = count_by c a b m in
      let fewer_is = fewer s (step_pos k h) c i hi in
      record {
        ends = (ha, hb);
        in_table = h;
        plan = refl;
        marks-are = marks_by_lem c a b m ∙ list_ext (multiple i s) (element (i *ℤ pos s) (pos s)) n (λ j l. multiple-element i s j) ∙ ap (λ (x : ℕ). list_of (element (i *ℤ pos s) (pos s)) x) (sym n_is);
        few = omega (arith, n_is, fewer_is, count-near lo hi s hl hh (step_pos k h) (step_top k h));
        near = λ j l.
            let both = marks-near lo hi s hl hh (step_pos k h) (step_top k h) j (omega (arith, n_is, fewer_is)) in
            (omega (arith, both.0), rw (← multiple-element i s j) both.1);
      }

  pub planned_good_by : {p : KeyPoints} → plan_by c a b m ≡ given p → GoodBy c a b m p
  unfolding no_step_for
  planned_good_by e =
      let told = given_tests (plan_reasons (ends_admitted a b) a b m) (given (plan_with c a b m)) (sym (plan_by_lem c a b m) ∙ e) in
      let near = both_near 1_000_000_000 a b (not-false (ends_admitted a b) told.0.0) in
      subst (GoodBy c a b m) (given_is told.1) (good_plan near.0 near.1 (leb-false _ _ told.0.1.0))

pub planned_good : (a b : ℤ) (m : ℕ) {p : KeyPoints} → whole_plan a b m ≡ given p → Good a b m p
planned_good a b m e = planned_good_by Cut a b m e

-- What `key_points` does, by the plan: one law for every element type A, with f from whole numbers to A and `new` the marks as A has
-- them. The rules of specs/Calls are `rule_by` at f = λ z. z and at f = nat_abs.
module _ {A : Type 0} (f : ℤ → A) (a b : ℤ) (m : ℕ) (new old : List A) (same : length new ≡ length (marks a b m)) where
  abbrev pub rule_by : Answer (A × ℕ) × List A
  rule_by = key_points_by (ends_admitted a b) (f (pos (step_of a b m))) a b m new old

  -- the plan's count and step, put behind its own reasons
  by_plan : Answer KeyPoints → Answer (A × ℕ) × List A
  by_plan r = written (and_then r (λ p. lowest (13 when ltb (length old) p.count ∷ []) (given (f p.step, p.count)))) new old

  by_plan_lem : rule_by ≡ by_plan (whole_plan a b m)
  unfolding whole_plan by_plan
  by_plan_lem = rw same (ap (λ (r : Answer (A × ℕ)). written r new old)
      (sym (lowest_then (plan_reasons (ends_admitted a b) a b m) (given (plan_of a b m)) (λ p. lowest (13 when ltb (length old) p.count ∷ []) (given (f p.step, p.count))))))

  pub plan-refused : {n : ℕ} → whole_plan a b m ≡ refused n → rule_by ≡ (refused n, old)
  unfolding by_plan
  plan-refused e = by_plan_lem ∙ ap by_plan e

  module _ {p : KeyPoints} (e : whole_plan a b m ≡ given p) where
    pub plan-short : length old < p.count → rule_by ≡ (refused 13, old)
    unfolding by_plan
    plan-short h = by_plan_lem ∙ ap by_plan e ∙ rw (lt-ltb (length old) p.count h)

    pub plan-written : p.count ≤ length old → rule_by ≡ (given (f p.step, p.count), new ++ drop p.count old)
    unfolding by_plan
    plan-written h =
        let n_is : length new ≡ p.count = same ∙ ap (λ (q : KeyPoints). q.count) (planned_good a b m e).plan in
        by_plan_lem ∙ ap by_plan e ∙ rw (le-ltb (length old) p.count h, n_is)

-- the marks as f has them, read off the plan
pub marks_as : {A : Type 0} (f : ℤ → A) (a b : ℤ) (m : ℕ) {p : KeyPoints} → whole_plan a b m ≡ given p → map f (marks a b m) ≡ list_of (λ k. f (element p.first p.step k)) p.count
marks_as f a b m {p} e = ap (map f) (planned_good a b m e).marks-are ∙ map_list f (element p.first p.step) p.count

-- the marks as they are
pub whole-as : (a b : ℤ) (m : ℕ) (old : List ℤ) → key_points_as (λ z. z) a b m old ≡ whole_key_points a b m old
unfolding whole_key_points
whole-as a b m old = ap (λ (l : List ℤ). key_points_by (ends_admitted a b) (pos (step_of a b m)) a b m l old) (map-id (marks a b m))

-- and as naturals, on an index axis
pub index-as : (a b : ℕ) {x y : ℤ} (m : ℕ) (old : List ℕ) → x ≡ pos a → y ≡ pos b → key_points_as nat_abs x y m old ≡ index_key_points a b m old
unfolding index_key_points
index-as a b m old e f = rw (e, f) refl

-- On an index axis: a plan of its ends as whole numbers has nothing below zero.
pub low_pos : (a b : ℕ) → pos (nat_abs (low (pos a) (pos b))) ≡ low (pos a) (pos b)
low_pos a b = tests.chosen (λ (z : ℤ). pos (nat_abs z) ≡ z) (leb a b) refl refl

first_pos : (z : ℤ) (s : ℕ) → pos (nat_abs z) ≡ z → pos (nat_abs (first_index z s *ℤ pos s)) ≡ first_index z s *ℤ pos s
first_pos (pos n) s e = refl
first_pos (negsuc n) s e = absurd (pos-ne-negsuc (suc n) n e)

natural-element : (f s : ℤ) (k : ℕ) → pos (nat_abs f) ≡ f → pos (nat_abs s) ≡ s → nat_abs (element f s k) ≡ nat_abs f + k * nat_abs s
natural-element (pos x) (pos y) k ef es = refl
natural-element (pos x) (negsuc y) k ef es = absurd (pos-ne-negsuc (suc y) y es)
natural-element (negsuc x) s k ef es = absurd (pos-ne-negsuc (suc x) x ef)

module _ (a b m : ℕ) (old : List ℕ) where
  module _ {p : KeyPoints} (e : whole_plan (pos a) (pos b) m ≡ given p) where
    first-natural : pos (nat_abs p.first) ≡ p.first
    first-natural = subst (λ (q : KeyPoints). pos (nat_abs q.first) ≡ q.first) (planned_good (pos a) (pos b) m e).plan (first_pos (low (pos a) (pos b)) (step_of (pos a) (pos b) m) (low_pos a b))

    step_natural : pos (nat_abs p.step) ≡ p.step
    step_natural = subst (λ (q : KeyPoints). pos (nat_abs q.step) ≡ q.step) (planned_good (pos a) (pos b) m e).plan refl

    pub index_marks_are : index_marks a b m ≡ list_of (λ k. nat_abs p.first + k * nat_abs p.step) p.count
    index_marks_are =
        marks_as nat_abs (pos a) (pos b) m e
        ∙ list_ext (λ k. nat_abs (element p.first p.step k)) (λ k. nat_abs p.first + k * nat_abs p.step) p.count (λ k l. natural-element p.first p.step k first-natural step_natural)
