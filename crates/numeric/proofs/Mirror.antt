-- The mirror theorem for marks: `mirror` proves what specs/Mirror states. Assumes nothing.
use mathlib.Core.Path.{◌≡◌, refl, sym, ap, ap₂, ◌∙◌, subst}
use mathlib.Core.Logic.{◌⊎◌, inl, inr}
use mathlib.Core.Bool.{Bool, true, false, cond, ◌&&◌}
use mathlib.Core.List.{List, [], ◌∷◌, ◌++◌, map}
use Prim.Native.Nat.{ℕ, zero, suc, ◌+◌, ◌-◌, ◌*◌, ◌/◌, ◌%◌, ◌≤◌, ◌<◌}
use native.Mathlib.Nat.{zero-mod, suc-mul, div-add-mod', div-mul-le_self, le-div_iff_mul-le, mod-lt, le_trans}
use native.Mathlib.Omega.{arith}
use borrow.Author.Tests.{leb-true, leb-false, ltb-true, eqb-true, eqb-false, lt-ltb}
use lib.Arith.{digits_div}
use lib.Dec.{T, leb, ltb, eqb}
use lib.IntN.{ℤ, pos, negsuc, neg_ℤ, nat_abs, ◌+ℤ◌, ◌*ℤ◌, +ℤ_comm, neg_ℤ-neg_ℤ}
use lib.ListN.{length, length-append, length-map, length-reverse}
use lib.Signed.{le_z, lt_z, quot_z, ◌<ℤ◌}
use Rattle.ranged1d.specs.Answer.{given, BothLong}
use Rattle.ranged1d.specs.Admitted.{whole_admitted, ends_admitted}
use Rattle.ranged1d.proofs.Lowest.{lowest_then, last-same}
use Rattle.ranged1d.proofs.Whole.{admitted-neg, low-neg, high-neg, low-high, neg-far, less_not_above, yes_le, yes_lt, lt_yes, neg_below, below_all, neg_le, neg_lt, neg_times, quot_neg}
use Rattle.numeric.specs.declared.Choice.TheVariants.{Inside}
use Rattle.numeric.specs.Marks.{low, high, distance, step_at, chosen, ceil_div, first_index, last_index, multiples, no_step_for, step_for, marks_for, no_step, step_of, marks, marks_by, last_inside}
use Rattle.numeric.specs.Calls.{plan_reasons, key_points_reasons, whole_key_points}
use Rattle.numeric.specs.Mirror.{mirrored, nearest, Divides, NextTowardZero, OneMore, step_only, Mirrored}
use Rattle.numeric.proofs.Steps.{step_pos}
use Rattle.numeric.proofs.Reflect.{reflect, one_more, mirrored_cons}
use Rattle.numeric.proofs.Theorems.{first_least}
use Rattle.numeric.proofs.Inside.{marks_by_lem}

-- ---- z cut to a multiple of s toward zero, for z below zero and no multiple itself, is the next multiple toward zero
abbrev cut : ℕ → ℤ → ℤ
cut s z = quot_z z (pos s) *ℤ pos s

module _ (s : ℕ) (hs : 0 < s) (n : ℕ) (odd : suc n % s ≡ 0 → ⊥) where
  c : ℕ
  c = suc n / s

  cut_is : cut s (negsuc n) ≡ neg_ℤ (pos (c * s))
  unfolding c
  cut_is = neg_times (pos (suc n / s)) s

  cut-past : c * s < suc n
  unfolding c
  cut-past = omega (arith, div-add-mod' (suc n) s)

  pub cut-next : NextTowardZero s (negsuc n) (cut s (negsuc n))
  cut-next = record {
    multiple = (quot_z (negsuc n) (pos s), refl);
    past = yes_lt (rw cut_is (neg_below (suc n) (c * s) cut-past));
    toward_zero = yes_le (rw cut_is (below_all (c * s) 0));
    next = λ k h. first_least s hs (negsuc n) k (yes_le (less_not_above (negsuc n) (k *ℤ pos s) (lt_yes h)));
  }

-- ---- an axis from lo to hi, with the step s
abbrev marks_cut : ℤ → ℤ → ℕ → List ℤ
marks_cut lo hi s = multiples (first_index lo s) (last_index hi s) s

ceil_even : (n s : ℕ) → 0 < s → n % s ≡ 0 → ceil_div n s ≡ n / s
ceil_even n s h e =
    let whole : n ≡ n / s * s = omega (arith, div-add-mod' n s) in
    ap (λ (x : ℕ). (x + (s - 1)) / s) whole ∙ digits_div (n / s) {m = s} {r = s - 1} (omega arith)

ceil_odd : (n s : ℕ) → 0 < s → (n % s ≡ 0 → ⊥) → ceil_div n s ≡ suc (n / s)
ceil_odd n s h e =
    let split : n + (s - 1) ≡ suc (n / s) * s + (n % s - 1) = omega (arith, div-add-mod' n s, suc-mul (n / s) s) in
    ap (λ (x : ℕ). x / s) split ∙ digits_div (suc (n / s)) {m = s} {r = n % s - 1} (omega (arith, mod-lt n h))

module _ (s : ℕ) (hs : 0 < s) where
  first_zero : first_index (pos 0) s ≡ quot_z (pos 0) (pos s)
  first_zero = ap pos (ceil_even 0 s hs (zero-mod s))

  -- where s divides the needle nearest zero, the first mark on either side is the end cut toward zero
  first_lo : (lo hi : ℤ) → Divides s (nearest lo hi) → first_index lo s ≡ quot_z lo (pos s)
  first_lo (pos zero) hi e = first_zero
  first_lo (pos (suc p)) hi e =
      ap pos (ceil_even (suc p) s hs (subst (λ (t : Bool). Divides s (cond t (pos (suc p)) (cond (lt_z hi (pos 0)) hi (pos 0)))) (lt-ltb 0 (suc p) (omega arith)) e))
  first_lo (negsuc p) hi e = refl

  first_hi : (lo hi : ℤ) → le_z lo hi ≡ true → Divides s (nearest lo hi) → first_index (neg_ℤ hi) s ≡ quot_z (neg_ℤ hi) (pos s)
  first_hi lo (pos zero) l e = first_zero
  first_hi lo (pos (suc q)) l e = refl
  first_hi (pos p) (negsuc q) l e = absurd (subst T (sym l) tt)
  first_hi (negsuc p) (negsuc q) l e = ap pos (ceil_even (suc q) s hs e)

  even_at : (lo hi : ℤ) → le_z lo hi ≡ true → Divides s (nearest lo hi) → marks_cut (neg_ℤ hi) (neg_ℤ lo) s ≡ mirrored (marks_cut lo hi s)
  even_at lo hi l e =
      ap₂ (λ (f g : ℤ). multiples f g s) (first_hi lo hi l e ∙ quot_neg hi s) (quot_neg lo s)
      ∙ reflect (quot_z lo (pos s)) (quot_z hi (pos s)) s
      ∙ ap (λ (f : ℤ). mirrored (multiples f (quot_z hi (pos s)) s)) (sym (first_lo lo hi e))

  grows : (p q : ℕ) → p ≤ q → p / s ≤ q / s
  grows p q h = (le-div_iff_mul-le hs).1 (le_trans (div-mul-le_self p s) h)

  first-neg : (q : ℕ) → first_index (neg_ℤ (pos q)) s ≡ neg_ℤ (pos (q / s))
  first-neg zero = first_zero ∙ quot_neg (pos 0) s
  first-neg (suc q) = refl

  -- where it does not, and the axis lies above zero, its mirror has one mark more: its end nearest zero, cut toward zero
  above_at : (p q : ℕ) → p ≤ q → (p % s ≡ 0 → ⊥) → marks_cut (neg_ℤ (pos q)) (neg_ℤ (pos p)) s ≡ mirrored (marks_cut (pos p) (pos q) s) ++ (cut s (neg_ℤ (pos p)) ∷ [])
  above_at p q l e =
      let x = p / s in
      let y = q / s in
      ap₂ (λ (f g : ℤ). multiples f g s) (first-neg q) (quot_neg (pos p) s)
      ∙ reflect (pos x) (pos y) s
      ∙ ap mirrored (one_more x y s (grows p q l))
      ∙ mirrored_cons (pos x *ℤ pos s) (multiples (pos (suc x)) (pos y) s)
      ∙ ap₂ (λ (n : ℕ) (z : ℤ). mirrored (multiples (pos n) (pos y) s) ++ (z ∷ [])) (sym (ceil_odd p s hs e)) (sym (neg_times (pos x) s) ∙ ap (λ (z : ℤ). z *ℤ pos s) (sym (quot_neg (pos p) s)))

  -- the same, for an axis whose ends are any numbers above zero
  above_more : (lo hi : ℤ) → le_z lo hi ≡ true → (Divides s lo → ⊥) → lt_z (pos 0) lo ≡ true → OneMore s (neg_ℤ lo) (marks_cut (neg_ℤ hi) (neg_ℤ lo) s) (marks_cut lo hi s)
  above_more (negsuc p) hi l e u = absurd (subst T (sym u) tt)
  above_more (pos p) (negsuc q) l e u = absurd (subst T (sym l) tt)
  above_more (pos zero) (pos q) l e u = absurd (e (zero-mod s))
  above_more (pos (suc p)) (pos q) l e u = record {
    extra = cut s (negsuc p);
    is_next = cut-next s hs p e;
    others_match = above_at (suc p) q (leb-true (suc p) q l) e;
  }

-- ---- the ends of the mirror
pub distance-neg : (lo hi : ℤ) → distance (neg_ℤ hi) (neg_ℤ lo) ≡ distance lo hi
distance-neg lo hi = ap nat_abs (ap (λ (z : ℤ). neg_ℤ lo +ℤ z) (neg_ℤ-neg_ℤ hi) ∙ +ℤ_comm (neg_ℤ lo) hi)

-- ---- the axis with the ends a and b
pub length-mirrored : (l : List ℤ) → length (mirrored l) ≡ length l
length-mirrored l = length-reverse (map neg_ℤ l) ∙ length-map l neg_ℤ

pub one_longer : {s : ℕ} {z : ℤ} {more fewer : List ℤ} → OneMore s z more fewer → length more ≡ length fewer + 1
one_longer {s} {z} {more} {fewer} o = ap length o.others_match ∙ length-append (mirrored fewer) (o.extra ∷ []) ∙ ap (λ (n : ℕ). n + 1) (length-mirrored fewer)

by_half : (s : ℕ) (lo hi : ℤ) → (Divides s (nearest lo hi) → ⊥) → (hi <ℤ pos 0) ⊎ (pos 0 <ℤ lo)
by_half s lo hi e = go (lt_z (pos 0) lo) refl (lt_z hi (pos 0)) refl e
  where
    go : (t : Bool) → lt_z (pos 0) lo ≡ t → (u : Bool) → lt_z hi (pos 0) ≡ u → (Divides s (cond t lo (cond u hi (pos 0))) → ⊥) → (hi <ℤ pos 0) ⊎ (pos 0 <ℤ lo)
    go true p u q f = inr (yes_lt p)
    go false p true q f = inl (yes_lt q)
    go false p false q f = absurd (f (zero-mod s))

-- the needle nearest zero of an axis on one side of it
nearest-above : (lo hi : ℤ) → pos 0 <ℤ lo → nearest lo hi ≡ lo
nearest-above lo hi h = rw (lt_yes h)

nearest_below : (lo hi : ℤ) → le_z lo hi ≡ true → hi <ℤ pos 0 → nearest lo hi ≡ hi
nearest_below lo (pos q) l h = absurd (omega (arith, ltb-true q 0 (lt_yes h)))
nearest_below (pos p) (negsuc q) l h = absurd (subst T (sym l) tt)
nearest_below (negsuc p) (negsuc q) l h = refl

module _ (a b : ℤ) (m : ℕ) where
  lo : ℤ
  lo = low a b

  hi : ℤ
  hi = high a b

  s : ℕ
  s = step_of a b m

  no_step_neg : no_step (neg_ℤ a) (neg_ℤ b) m ≡ no_step a b m
  unfolding no_step_for
  no_step_neg = ap₂ (λ (x y : ℤ). leb 28 (chosen (distance x y) m)) (low-neg a b) (high-neg a b) ∙ ap (λ (d : ℕ). leb 28 (chosen d m)) (distance-neg (low a b) (high a b))

  step_neg : step_of (neg_ℤ a) (neg_ℤ b) m ≡ step_of a b m
  unfolding step_for
  step_neg = ap₂ (λ (x y : ℤ). step_at (chosen (distance x y) m)) (low-neg a b) (high-neg a b) ∙ ap (λ (d : ℕ). step_at (chosen d m)) (distance-neg (low a b) (high a b))

  marks-are : marks a b m ≡ marks_cut lo hi s
  unfolding lo hi s marks_for
  marks-are = refl

  marks-neg : marks (neg_ℤ a) (neg_ℤ b) m ≡ marks_cut (neg_ℤ hi) (neg_ℤ lo) s
  unfolding lo hi s marks_for
  marks-neg = ap₂ (λ (x y : ℤ). marks_cut x y (step_of (neg_ℤ a) (neg_ℤ b) m)) (low-neg a b) (high-neg a b) ∙ ap (λ (n : ℕ). marks_cut (neg_ℤ hi) (neg_ℤ lo) n) step_neg

  verdict : (old old' : List ℤ) → BothLong (plan_reasons (ends_admitted a b) a b m) (length (marks a b m)) old (length (marks (neg_ℤ a) (neg_ℤ b) m)) old' → step_only (whole_key_points (neg_ℤ a) (neg_ℤ b) m old').0 ≡ step_only (whole_key_points a b m old).0
  unfolding whole_key_points
  verdict old old' e =
      lowest_then (key_points_reasons (whole_admitted (neg_ℤ a) && whole_admitted (neg_ℤ b)) (neg_ℤ a) (neg_ℤ b) m (marks (neg_ℤ a) (neg_ℤ b) m) old') _ (λ x. given x.0)
      ∙ rw (admitted-neg a, admitted-neg b, no_step_neg, step_neg)
      (last-same (plan_reasons (ends_admitted a b) a b m) 13 (ltb (length old') (length (marks (neg_ℤ a) (neg_ℤ b) m))) (ltb (length old) (length (marks a b m))) (given (pos (step_of a b m))) (λ h. sym (e h)))
      ∙ sym (lowest_then (key_points_reasons (ends_admitted a b) a b m (marks a b m) old) _ (λ x. given x.0))

  -- where a step serves
  module _ (served : no_step a b m ≡ false) where
    s_pos : 0 < s
    unfolding s no_step_for step_for
    s_pos = step_pos (chosen (distance (low a b) (high a b)) m) (leb-false _ _ served)

    ends_in_order : le_z lo hi ≡ true
    unfolding lo hi
    ends_in_order = low-high a b

    matching : Divides s (nearest lo hi) → marks (neg_ℤ a) (neg_ℤ b) m ≡ mirrored (marks a b m)
    matching e = marks-neg ∙ even_at s s_pos lo hi ends_in_order e ∙ ap mirrored (sym marks-are)

    more-above : (Divides s (nearest lo hi) → ⊥) → pos 0 <ℤ lo → OneMore s (neg_ℤ lo) (marks (neg_ℤ a) (neg_ℤ b) m) (marks a b m)
    more-above e h =
        rw (marks-neg, marks-are)
        (above_more s s_pos lo hi ends_in_order (λ d. e (rw (nearest-above lo hi h) d)) (lt_yes h))

    more_below : (Divides s (nearest lo hi) → ⊥) → hi <ℤ pos 0 → OneMore s hi (marks a b m) (marks (neg_ℤ a) (neg_ℤ b) m)
    more_below e h =
        rw (marks-neg, marks-are)
        (subst (λ (x : ℤ). OneMore s x (marks_cut lo x s) (marks_cut (neg_ℤ hi) (neg_ℤ lo) s)) (neg_ℤ-neg_ℤ hi)
        (subst (λ (x : ℤ). OneMore s (neg_ℤ (neg_ℤ hi)) (marks_cut x (neg_ℤ (neg_ℤ hi)) s) (marks_cut (neg_ℤ hi) (neg_ℤ lo) s)) (neg_ℤ-neg_ℤ lo)
        (above_more s s_pos (neg_ℤ hi) (neg_ℤ lo) (neg_le hi lo ∙ ends_in_order)
        (λ d. e (rw (nearest_below lo hi ends_in_order h) (ap (λ (n : ℕ). n % s) (sym (neg-far hi)) ∙ d)))
        (neg_lt (pos 0) hi ∙ lt_yes h))))

    divided : marks (neg_ℤ a) (neg_ℤ b) m ≡ mirrored (marks a b m) → Divides s (nearest lo hi)
    divided e = go (eqb (nat_abs (nearest lo hi) % s) 0) refl
      where
        same : length (marks (neg_ℤ a) (neg_ℤ b) m) ≡ length (marks a b m)
        same = ap length e ∙ length-mirrored (marks a b m)

        no_half : (Divides s (nearest lo hi) → ⊥) → (hi <ℤ pos 0) ⊎ (pos 0 <ℤ lo) → ⊥
        no_half f (inl h) = let n = one_longer (more_below f h) in omega (arith, same)
        no_half f (inr h) = let n = one_longer (more-above f h) in omega (arith, same)

        go : (t : Bool) → eqb (nat_abs (nearest lo hi) % s) 0 ≡ t → Divides s (nearest lo hi)
        go true q = eqb-true _ _ q
        go false q = absurd (no_half (eqb-false _ _ q) (by_half s lo hi (eqb-false _ _ q)))

pub mirror : (a b : ℤ) (m : ℕ) → Mirrored a b m
unfolding lo hi s
mirror a b m = record {
  same_verdict = verdict a b m;
  same_refusal = no_step_neg a b m;
  same_step = step_neg a b m;
  match_exactly = λ served. (divided a b m served, matching a b m served);
  one_half = by_half (step_of a b m) (low a b) (high a b);
  one_more_below = more_below a b m;
  one_more_above = more-above a b m;
}

-- ---- 02 (a): the marks on the axis match those of the mirror on every axis
inside-turned : (lo hi : ℤ) (s : ℕ) → multiples (first_index (neg_ℤ hi) s) (last_inside (neg_ℤ lo) s) s ≡ mirrored (multiples (first_index lo s) (last_inside hi s) s)
inside-turned lo hi s =
    ap₂ (λ (f g : ℤ). multiples f (neg_ℤ (first_index g s)) s) (sym (neg_ℤ-neg_ℤ (first_index (neg_ℤ hi) s))) (neg_ℤ-neg_ℤ lo)
    ∙ reflect (first_index lo s) (last_inside hi s) s

pub inside-mirrored : (a b : ℤ) (m : ℕ) → marks_by Inside (neg_ℤ a) (neg_ℤ b) m ≡ mirrored (marks_by Inside a b m)
inside-mirrored a b m =
    marks_by_lem Inside (neg_ℤ a) (neg_ℤ b) m
    ∙ ap (λ (s : ℕ). multiples (first_index (low (neg_ℤ a) (neg_ℤ b)) s) (last_inside (high (neg_ℤ a) (neg_ℤ b)) s) s) (step_neg a b m)
    ∙ ap₂ (λ (x y : ℤ). multiples (first_index x (step_of a b m)) (last_inside y (step_of a b m)) (step_of a b m)) (low-neg a b) (high-neg a b)
    ∙ inside-turned (low a b) (high a b) (step_of a b m)
    ∙ ap mirrored (sym (marks_by_lem Inside a b m))
