-- How near the marks of an accepted axis lie to it: each is admitted, and it lies at most eleven times as far from either end as the
-- ends are apart. So every mark has a place. Assumes nothing.
use mathlib.Core.Path.{◌≡◌, sym, ap, ◌∙◌, subst}
use mathlib.Core.Bool.{Bool, true, false, cond, ◌&&◌}
use mathlib.Core.Logic.{inl}
use Prim.Native.Nat.{ℕ, zero, suc, ◌+◌, ◌-◌, ◌*◌, ◌/◌, ◌%◌, ◌≤◌, ◌<◌, max}
use native.Mathlib.Nat.{le_trans, add-mul, div-mul-le_self, div-add-mod', lt-div-mul-add, mul-le-mul_right, pos_of_ne-zero}
use native.Mathlib.Decide.{dec_le}
use native.Mathlib.Omega.{arith}
use borrow.Author.Tests.{leb-true, leb-false, eq-eqb}
use lib.Dec.{T, leb, ltb, eqb, leb→le, eqb→eq}
use lib.IntN.{ℤ, pos, negsuc, neg_ℤ, nat_abs, sub_ℕ, ◌+ℤ◌, ◌-ℤ◌, ◌*ℤ◌, +ℤ_assoc}
use mir.Facts.{and_yes}
use lib.Signed.{le_z}
use Rattle.ranged1d.proofs.Whole.{low-high, turned-far, sub_cases, sub-size, neg-far, neg_times, times_far, minus_shift, from_start, back_to_start}
use Rattle.ranged1d.specs.Answer.{given}
use Rattle.numeric.specs.declared.Choice.{Choice}
use Rattle.numeric.specs.declared.KeyPoints.{KeyPoints}
use Rattle.numeric.proofs.Bounds.{between, last_times, max_times, multiple-element}
use Rattle.numeric.proofs.Plans.{one-near, GoodBy, planned_good_by}
use Rattle.numeric.proofs.Inside.{count_by, fewer}
use Rattle.numeric.proofs.NoStep.{differ, served_none}
use Rattle.ranged1d.proofs.Table.{at}
use Rattle.numeric.specs.Marks.{low, high, distance, step_at, power_of_ten, ceil_div, chosen, first_index, last_index, how_many, multiple, step_for}
use Rattle.numeric.specs.Calls.{plan_with, plan_by, element}
use Rattle.numeric.proofs.Steps.{steps, step_pos}
use Rattle.numeric.proofs.Reflect.{many_pos, many_turned}
use Rattle.numeric.proofs.Most.{apart_pos, apart_neg, many_across, chosen-first}

-- ---- the step is at most ten times the distance
-- the last power of ten before step k, and that step k is at most ten times it: one test over the table
before : ℕ → ℕ
before k = 3 * ((k - 1) / 3)

right : ℕ → ℕ → Bool
right k x = leb (step_at k) (10 * step_at (before k)) && eqb (before k % 3) 0

passed : (k : ℕ) → k < 28 → T (leb (step_at k) (10 * step_at (before k)) && eqb (before k % 3) 0)
unfolding right before step_at
passed k h = at right steps tt k h

ten_times : (k : ℕ) → k < 28 → step_at k ≤ 10 * step_at (before k)
ten_times k h = leb→le _ _ (and_yes (leb (step_at k) (10 * step_at (before k))) (eqb (before k % 3) 0) (passed k h)).0

power : (k : ℕ) → k < 28 → power_of_ten (before k) ≡ true
power k h = eq-eqb _ _ (eqb→eq (before k % 3) 0 (and_yes (leb (step_at k) (10 * step_at (before k))) (eqb (before k % 3) 0) (passed k h)).1)

first_step : {d : ℕ} → 0 < d → step_at 0 ≤ 10 * d
unfolding step_at
first_step h = omega arith

module _ (d m : ℕ) (hd : 0 < d) (h : chosen d m < 28) where
  -- m is not 0, since no step serves then
  some : 0 < m
  some = pos_of_ne-zero (λ z. omega (arith, h, served_none d m (inl (z, hd))))

  -- the power of ten before it did not serve, so the distance is longer than that
  longer : 1 ≤ chosen d m → step_at (before (chosen d m)) ≤ d
  unfolding before
  longer l =
      let b = before (chosen d m) in
      let t = step_at b in
      let failed : leb (ceil_div d t) m ≡ false = subst (λ (u : Bool). cond u (leb (ceil_div d t) m) (ltb (ceil_div d t) m) ≡ false) (power (chosen d m) h) (chosen-first d m b (omega arith)) in
      let two : 2 ≤ ceil_div d t = omega (arith, leb-false (ceil_div d t) m failed, some) in
      omega (arith, mul-le-mul_right t two, div-mul-le_self (d + (t - 1)) t)

  pub step_near : step_at (chosen d m) ≤ 10 * d
  step_near = go (dec_le 1 (chosen d m))
    where
      go : Dec (1 ≤ chosen d m) → step_at (chosen d m) ≤ 10 * d
      go (no f) = let z : chosen d m ≡ 0 = omega arith in rw z (first_step hd)
      go (yes l) = omega (arith, ten_times (chosen d m) h, longer l)

-- ---- how far after lo the marks lie
-- the first mark after lo
offset : ℤ → ℕ → ℕ
offset (pos n) s = ceil_div n s * s - n
offset (negsuc n) s = suc n % s

neg-sub : (x r n : ℕ) → x + r ≡ n → neg_ℤ (pos x) ≡ sub_ℕ r n
neg-sub zero r n e = sub_cases r n (λ z. pos 0 ≡ z) (λ l. absurd (omega arith)) (λ l. ap pos (omega arith))
neg-sub (suc x) r n e = sub_cases r n (λ z. negsuc x ≡ z) (λ l. ap negsuc (omega arith)) (λ l. absurd (omega arith))

module _ (s : ℕ) (hs : 0 < s) where
  first-after : (lo : ℤ) → first_index lo s *ℤ pos s ≡ lo +ℤ pos (offset lo s)
  unfolding offset
  first-after (pos n) = ap pos (let e : ceil_div n s * s ≡ n + (ceil_div n s * s - n) = omega (arith, lt-div-mul-add {a = n + (s - 1)} hs) in e)
  first-after (negsuc n) = neg_times (pos (suc n / s)) s ∙ neg-sub (suc n / s * s) (suc n % s) (suc n) (div-add-mod' (suc n) s)

  -- of an axis in order: the last mark lies less than a step after hi
  within : (lo hi : ℤ) → le_z lo hi ≡ true → (k : ℕ) → k < how_many (first_index lo s) (last_index hi s) → offset lo s + k * s ≤ distance lo hi + s
  unfolding offset
  within (pos p) (pos q) l k h =
      let c = ceil_div p s in
      let few : c + k ≤ q / s = omega (arith, many_pos c (q / s)) in
      omega (arith, leb-true p q l, apart_pos p q (leb-true p q l), mul-le-mul_right s few, add-mul c k s, div-mul-le_self q s, lt-div-mul-add {a = p + (s - 1)} hs)
  within (pos p) (negsuc q) l k h = absurd (subst T (sym l) tt)
  within (negsuc p) (pos q) l k h =
      let f = suc p / s in
      let few : k ≤ q / s + f = omega (arith, many_across f (q / s)) in
      omega (arith, mul-le-mul_right s few, add-mul (q / s) f s, div-mul-le_self q s, div-add-mod' (suc p) s)
  within (negsuc p) (negsuc q) l k h =
      let f = suc p / s in
      let g = suc q / s in
      let few : k + g ≤ f = omega (arith, many_turned (pos g) (pos f), many_pos g f) in
      omega (arith, leb-true q p l, apart_neg p q (leb-true q p l), mul-le-mul_right s few, add-mul k g s, div-add-mod' (suc p) s, lt-div-mul-add {a = suc q} hs)

  -- and no mark lies further from zero than the further end
  mark_in : (lo hi : ℤ) → le_z lo hi ≡ true → (k : ℕ) → k < how_many (first_index lo s) (last_index hi s) → nat_abs (multiple (first_index lo s) s k) ≤ max (nat_abs lo) (nat_abs hi)
  mark_in (pos p) (pos q) l k h =
      let c = ceil_div p s in
      let few : c + k ≤ q / s = omega (arith, many_pos c (q / s)) in
      omega (arith, mul-le-mul_right s few, div-mul-le_self q s)
  mark_in (pos p) (negsuc q) l k h = absurd (subst T (sym l) tt)
  mark_in (negsuc p) hi l k h =
      let i = first_index (negsuc p) s in
      let j = last_index hi s in
      rw (times_far (i +ℤ pos k) s)
      (le_trans (mul-le-mul_right s (between i j k h))
      (max_times (nat_abs i) (nat_abs j) s (max (suc p) (nat_abs hi)) (rw (neg-far (pos (suc p / s))) (omega (arith, div-mul-le_self (suc p) s))) (omega (arith, last_times hi s))))

-- ---- distances from either end
both_ends : (lo hi v : ℤ) (x : ℕ) → le_z lo hi ≡ true → v ≡ lo +ℤ pos x → x ≤ 11 * distance lo hi → (nat_abs (v -ℤ lo) ≤ 11 * distance lo hi) × (nat_abs (v -ℤ hi) ≤ 11 * distance lo hi)
both_ends lo hi v x l e h = (
  rw (e, back_to_start lo (pos x)) h,
  subst (λ (z : ℤ). nat_abs (v -ℤ z) ≤ 11 * distance lo hi) (from_start lo hi l) (rw (e, minus_shift lo (pos x) (pos (distance lo hi))) (omega (arith, sub-size x (distance lo hi), h))),
)

-- ---- the marks of an axis with a plan
module _ (a b : ℤ) (m : ℕ) (ha : nat_abs a ≤ 1000000000) (hb : nat_abs b ≤ 1000000000) (h : chosen (distance (low a b) (high a b)) m < 28) where
  lo : ℤ
  lo = low a b

  hi : ℤ
  hi = high a b

  s : ℕ
  s = step_at (chosen (distance (low a b) (high a b)) m)

  s_pos : 0 < s
  unfolding s
  s_pos = step_pos _ h

  module _ (k : ℕ) (l : k < how_many (first_index lo s) (last_index hi s)) where
    v : ℤ
    v = multiple (first_index lo s) s k

    admitted : nat_abs v ≤ 1000000000
    unfolding lo hi s v
    admitted = omega (arith, mark_in s s_pos lo hi (low-high a b) k l, one-near a b ha hb (le_z a b), one-near b a hb ha (le_z a b))

    after : v ≡ lo +ℤ pos (offset lo s + k * s)
    unfolding v
    after =
        multiple-element (first_index lo s) s k
        ∙ ap (λ (z : ℤ). z +ℤ pos (k * s)) (first-after s s_pos lo)
        ∙ +ℤ_assoc lo (pos (offset lo s)) (pos (k * s))

    ends-near : 0 < distance lo hi → (nat_abs (v -ℤ lo) ≤ 11 * distance lo hi) × (nat_abs (v -ℤ hi) ≤ 11 * distance lo hi)
    unfolding lo hi s
    ends-near d = both_ends lo hi v (offset lo s + k * s) (low-high a b) after (omega (arith, within s s_pos lo hi (low-high a b) k l, step_near (distance lo hi) m d h))

    -- the end a is the one or the other
    either : (t : Bool) → (nat_abs (v -ℤ cond t a b) ≤ 11 * nat_abs (cond t b a -ℤ cond t a b)) × (nat_abs (v -ℤ cond t b a) ≤ 11 * nat_abs (cond t b a -ℤ cond t a b)) → nat_abs (v -ℤ a) ≤ 11 * nat_abs (b -ℤ a)
    either true e = e.0
    either false e = rw (turned-far b a) e.1

    near-a : 0 < distance lo hi → nat_abs (v -ℤ a) ≤ 11 * nat_abs (b -ℤ a)
    unfolding lo hi
    near-a d = either (le_z a b) (ends-near d)

-- every mark that a plan of either choice streams is admitted, and it lies at most eleven times as far from a as b does
pub mark-near : (c : Choice) (a b : ℤ) (m : ℕ) {p : KeyPoints} → plan_by c a b m ≡ given p → (k : ℕ) → k < p.count → (nat_abs (element p.first p.step k) ≤ 1000000000) × ((a ≡ b → ⊥) → nat_abs (element p.first p.step k -ℤ a) ≤ 11 * nat_abs (b -ℤ a))
unfolding lo hi s v step_for
mark-near c a b m {p} e k l =
    let good = planned_good_by c a b m e in
    subst (λ (q : KeyPoints). k < q.count → (nat_abs (element q.first q.step k) ≤ 1000000000) × ((a ≡ b → ⊥) → nat_abs (element q.first q.step k -ℤ a) ≤ 11 * nat_abs (b -ℤ a))) good.plan (known good) l
  where
    known : GoodBy c a b m p → k < (plan_with c a b m).count → (nat_abs (element (plan_with c a b m).first (plan_with c a b m).step k) ≤ 1000000000) × ((a ≡ b → ⊥) → nat_abs (element (plan_with c a b m).first (plan_with c a b m).step k -ℤ a) ≤ 11 * nat_abs (b -ℤ a))
    known good l =
        let h = good.in_table in
        let i = first_index (low a b) (step_at (chosen (distance (low a b) (high a b)) m)) in
        let st = step_at (chosen (distance (low a b) (high a b)) m) in
        let n_is = count_by c a b m in
        let below : k < how_many i (last_index (high a b) st) = omega (arith, n_is, fewer st (step_pos _ h) c i (high a b)) in
        rw (← multiple-element i st k) (admitted a b m good.ends.0 good.ends.1 h k below, λ f. near-a a b m good.ends.0 good.ends.1 h k below (differ a b f))
