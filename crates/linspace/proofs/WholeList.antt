-- The list of a whole stepped axis: entry k is a + k · d, and their number is the distance of the ends over the step's size, rounded up.
-- Assumes nothing.
use mathlib.Core.Path.{◌≡◌, refl, sym, ap, subst, ◌∙◌}
use mathlib.Core.Bool.{Bool, true, false, cond, ◌&&◌}
use mathlib.Core.List.{[]}
use Prim.Native.Nat.{ℕ, zero, suc, ◌+◌, ◌-◌, ◌*◌, ◌/◌, ◌≤◌, ◌<◌, min}
use native.Mathlib.Nat.{le-div_iff_mul-le, add-zero, mul-zero, zero-mul, one-mul, min-zero, min-eq_left, min-eq_right}
use native.Mathlib.Omega.{arith}
use borrow.Author.Tests.{lt-ltb, le-ltb, le-leb, lt-leb, leb-true, ltb-true, ltb-false}
use lib.Dec.{leb, ltb}
use lib.IntN.{ℤ, ℤ_discrete, pos, negsuc, neg_ℤ, nat_abs, ◌+ℤ◌, ◌-ℤ◌, ◌*ℤ◌, +ℤ_assoc, +ℤ_idl, +ℤ_idr, +ℤ_invr, +ℤ-neg_ℤ_cancel, neg_ℤ-+ℤ, neg_ℤ-neg_ℤ, zero-*ℤ, suc_ℤ-*ℤ}
use lib.ListN.{length}
use lib.Signed.{lt_z}
use Rattle.ranged1d.specs.Admitted.{whole_admitted}
use Rattle.ranged1d.proofs.Bools.{both_true}
use Rattle.ranged1d.proofs.Whole.{sub_cases, minus-far, turned-far, minus_shift, from_start, back_to_start, near_on, less_not_above, not_lt, both_ways, neg-far, neg_lt, both_near, same_yes}
use Rattle.numeric.specs.Marks.{list_of}
use Rattle.numeric.specs.Calls.{element}
use Rattle.numeric.proofs.Lists.{length_of}
use Rattle.search.specs.Lists.{toward}
use Rattle.search.proofs.WholeOrder.{whole-order}
use Rattle.search.proofs.Orders.{not_itself}
use Rattle.linspace.specs.List.{whole, most, entries, run, stepped, against, too_long, axis_admitted}
use Rattle.linspace.specs.WholeSteps.{whole_count, Known, Lies}
use Rattle.linspace.proofs.Entries.{entries_list}
use Rattle.linspace.proofs.Ways.{leading}

-- ---- order and sums
-- one number is below another where their difference is below zero
lt_minus : (x y : ℤ) → lt_z x y ≡ lt_z (x -ℤ y) (pos 0)
lt_minus (pos a) (pos zero) = ap (λ (n : ℕ). ltb n 0) (sym (add-zero a))
lt_minus (pos a) (pos (suc b)) = sub_cases a (suc b) (λ z. ltb a (suc b) ≡ lt_z z (pos 0)) (λ h. lt-ltb a (suc b) h) (λ h. le-ltb a (suc b) h ∙ sym (le-ltb (a - suc b) 0 (omega arith)))
lt_minus (pos a) (negsuc b) = sym (le-ltb (a + suc b) 0 (omega arith))
lt_minus (negsuc a) (pos zero) = ap (λ (z : ℤ). lt_z z (pos 0)) (sym (+ℤ_idr (negsuc a)))
lt_minus (negsuc a) (pos (suc b)) = refl
lt_minus (negsuc a) (negsuc b) = sub_cases (suc b) (suc a) (λ z. ltb b a ≡ lt_z z (pos 0)) (λ h. lt-ltb b a (omega (arith, h))) (λ h. le-ltb b a (omega (arith, h)) ∙ sym (le-ltb (suc b - suc a) 0 (omega arith)))

pub lt_shift : (a x y : ℤ) → lt_z (a +ℤ x) (a +ℤ y) ≡ lt_z x y
lt_shift a x y = lt_minus (a +ℤ x) (a +ℤ y) ∙ ap (λ (z : ℤ). lt_z z (pos 0)) (minus_shift a x y) ∙ sym (lt_minus x y)

-- ---- a direction: z on the way, as a number to add
abbrev pub way : Bool → ℤ → ℤ
way rises z = cond rises z (neg_ℤ z)

-- of two numbers on the way from a, which comes first is the order of how far they lie
pub along : (rises : Bool) (a x y : ℤ) → toward rises lt_z (a +ℤ way rises x) (a +ℤ way rises y) ≡ lt_z x y
along true a x y = lt_shift a x y
along false a x y = lt_shift a (neg_ℤ y) (neg_ℤ x) ∙ neg_lt y x

way_far : (rises : Bool) (n : ℕ) → nat_abs (way rises (pos n)) ≡ n
way_far true n = refl
way_far false n = neg-far (pos n)

way_times : (rises : Bool) (k s : ℕ) → pos k *ℤ way rises (pos s) ≡ way rises (pos (k * s))
way_times true k s = refl
way_times false k zero = rw (mul-zero k) refl
way_times false k (suc s) = refl

-- ---- the entries by their index
pub element-next : (a d : ℤ) (k : ℕ) → element a d k +ℤ d ≡ element a d (suc k)
element-next a d k = +ℤ_assoc a (pos k *ℤ d) d ∙ ap (λ (z : ℤ). a +ℤ z) (sym (suc_ℤ-*ℤ (pos k) d))

pub element-first : (a d : ℤ) → element a d 0 ≡ a
element-first a d = ap (λ (z : ℤ). a +ℤ z) (zero-*ℤ d) ∙ +ℤ_idr a

element-second : (a d : ℤ) → element a d 1 ≡ a +ℤ d
element-second a d = sym (element-next a d 0) ∙ ap (λ (z : ℤ). z +ℤ d) (element-first a d)

-- k steps stay below q exactly where k is below q ÷ s, rounded up
pub rounded_up : (k q s : ℕ) → 0 < s → 0 < q → ltb (k * s) q ≡ ltb k ((q - 1) / s + 1)
rounded_up k q s hs hq = go (ltb (k * s) q) refl
  where
    go : (t : Bool) → ltb (k * s) q ≡ t → ltb (k * s) q ≡ ltb k ((q - 1) / s + 1)
    go true e = let f : k ≤ (q - 1) / s = (le-div_iff_mul-le hs).1 (omega (arith, ltb-true (k * s) q e)) in e ∙ sym (lt-ltb k ((q - 1) / s + 1) (omega (arith, f)))
    go false e = e ∙ sym (le-ltb k ((q - 1) / s + 1) (above (ltb k ((q - 1) / s + 1)) refl))
      where
        above : (t : Bool) → ltb k ((q - 1) / s + 1) ≡ t → (q - 1) / s + 1 ≤ k
        above true f = absurd (omega (arith, (le-div_iff_mul-le {k = s} {x = k} {y = q - 1} hs).0 (omega (arith, ltb-true k ((q - 1) / s + 1) f)), ltb-false (k * s) q e))
        above false f = ltb-false k ((q - 1) / s + 1) f

-- ---- an axis whose step leads from a to b: the distance p and the step's size s
pub record Sloped (rises : Bool) (a b d : ℤ) (p s : ℕ) : Type 0 where
  pub end : b ≡ a +ℤ way rises (pos p)
  pub step : d ≡ way rises (pos s)
  pub apart : 0 < p
  pub moves : 0 < s

module _ {rises : Bool} {a b d : ℤ} {p s : ℕ} (x : Sloped rises a b d p s) where
  pub element_is : (k : ℕ) → element a d k ≡ a +ℤ way rises (pos (k * s))
  element_is k = ap (λ (z : ℤ). a +ℤ pos k *ℤ z) x.step ∙ ap (λ (z : ℤ). a +ℤ z) (way_times rises k s)

  -- entry k against a number on the way
  pub element-toward : (k : ℕ) (v q : ℤ) → v ≡ a +ℤ way rises q → toward rises lt_z (element a d k) v ≡ lt_z (pos (k * s)) q
  element-toward k v q e = rw (element_is k, e) (along rises a (pos (k * s)) q)

  pub element-before : (k : ℕ) → toward rises lt_z (element a d k) b ≡ ltb (k * s) p
  element-before k = element-toward k b (pos p) x.end

  span_is : nat_abs (b -ℤ a) ≡ p
  span_is = ap nat_abs (ap (λ (z : ℤ). z -ℤ a) x.end ∙ back_to_start a (way rises (pos p))) ∙ way_far rises p

  size_is : nat_abs d ≡ s
  size_is = ap nat_abs x.step ∙ way_far rises s

  count_is : whole_count a b d ≡ cond (leb p s) 0 ((p - 1) / s + 1)
  unfolding whole_count
  count_is = rw (span_is, size_is) refl

  -- which of the two directions it is, and whether the second entry comes before b
  first-before : toward rises lt_z a b ≡ true
  first-before = ap (λ (z : ℤ). toward rises lt_z z b) (sym (element-first a d)) ∙ element-before 0 ∙ lt-ltb (0 * s) p (omega (arith, zero-mul s, x.apart))

  second-before : toward rises lt_z (a +ℤ d) b ≡ ltb s p
  second-before = ap (λ (z : ℤ). toward rises lt_z z b) (sym (element-second a d)) ∙ element-before 1 ∙ ap (λ (n : ℕ). ltb n p) (one-mul s)

  run_is : run whole a b d rises ≡ list_of (element a d) (min (suc most) ((p - 1) / s + 1))
  run_is =
      ap (λ (z : ℤ). entries (λ y. toward rises lt_z y b) (λ y. y +ℤ d) (suc most) z) (sym (element-first a d))
      ∙ entries_list (λ y. toward rises lt_z y b) (λ y. y +ℤ d) (element a d) (suc most) ((p - 1) / s + 1) (element-next a d) (λ k. element-before k ∙ rounded_up k p s x.moves x.apart)

-- ---- the list of such an axis
stepped-run : (rises : Bool) {a b d : ℤ} {p s : ℕ} → Sloped rises a b d p s → stepped whole a b d ≡ cond (ltb s p) (run whole a b d rises) []
unfolding stepped
stepped-run true {a} {b} x = rw (first-before x, second-before x, whole-order.asym a b (first-before x)) refl
stepped-run false {a} {b} x = rw (whole-order.asym b a (first-before x), first-before x, second-before x) refl

stepped_sloped : {rises : Bool} {a b d : ℤ} {p s : ℕ} → Sloped rises a b d p s → stepped whole a b d ≡ list_of (element a d) (min (suc most) (whole_count a b d))
stepped_sloped {rises} {a} {b} {d} {p} {s} x = stepped-run rises x ∙ go (ltb s p) refl
  where
    counted : (t : Bool) → leb p s ≡ t → cond t 0 ((p - 1) / s + 1) ≡ whole_count a b d
    counted t e = ap (λ (u : Bool). cond u 0 ((p - 1) / s + 1)) (sym e) ∙ sym (count_is x)

    go : (t : Bool) → ltb s p ≡ t → cond t (run whole a b d rises) [] ≡ list_of (element a d) (min (suc most) (whole_count a b d))
    go true e = run_is x ∙ ap (λ (n : ℕ). list_of (element a d) (min (suc most) n)) (counted false (lt-leb p s (ltb-true s p e)))
    go false e = ap (λ (n : ℕ). list_of (element a d) n) (sym (min-zero (suc most))) ∙ ap (λ (n : ℕ). list_of (element a d) (min (suc most) n)) (counted true (le-leb p s (ltb-false s p e)))

-- ---- every axis that is not refused with 6 is such an axis, or its ends are equal
apart_some : (x y : ℤ) → lt_z x y ≡ true → 0 < nat_abs (y -ℤ x)
apart_some x y h =
    let p = nat_abs (y -ℤ x) in
    ltb-true 0 p (sym (lt_shift x (pos 0) (pos p)) ∙ ap (λ (z : ℤ). lt_z z (x +ℤ pos p)) (+ℤ_idr x) ∙ ap (λ (z : ℤ). lt_z x z) (from_start x y (less_not_above x y h)) ∙ h)

-- y lies so far from x, on the way
led : (rises : Bool) (x y : ℤ) → toward rises lt_z x y ≡ true → (y ≡ x +ℤ way rises (pos (nat_abs (y -ℤ x)))) × (0 < nat_abs (y -ℤ x))
led true x y h = (sym (from_start x y (less_not_above x y h)), apart_some x y h)
led false x y h =
    let p = nat_abs (x -ℤ y) in
    (rw (turned-far y x) (sym (+ℤ-neg_ℤ_cancel y (pos p)) ∙ ap (λ (z : ℤ). z +ℤ neg_ℤ (pos p)) (from_start y x (less_not_above y x h))), rw (turned-far y x) (apart_some y x h))

-- equal ends
level-count : (a d : ℤ) → whole_count a a d ≡ 0
unfolding whole_count
level-count a d = rw (+ℤ_invr a, le-leb 0 (nat_abs d) (omega arith)) refl

level_list : (a d : ℤ) → stepped whole a a d ≡ []
unfolding stepped
level_list a d = rw (not_itself whole-order a) refl

level : (a b d : ℤ) → a ≡ b → stepped whole a b d ≡ list_of (element a d) (min (suc most) (whole_count a b d))
level a b d e =
    subst (λ (z : ℤ). stepped whole a z d ≡ list_of (element a d) (min (suc most) (whole_count a z d))) e
    (level_list a d ∙ ap (λ (n : ℕ). list_of (element a d) n) (sym (min-zero (suc most))) ∙ ap (λ (n : ℕ). list_of (element a d) (min (suc most) n)) (sym (level-count a d)))

module _ (a b d : ℤ) (h : against whole a b d ≡ false) where
  slope : (rises : Bool) → toward rises lt_z a b ≡ true → Sloped rises a b d (nat_abs (b -ℤ a)) (nat_abs d)
  slope rises e =
      let u = led rises a b e in
      let v : (d ≡ pos 0 +ℤ way rises (pos (nat_abs d))) × (0 < nat_abs d) = rw (+ℤ_idr d) at (led rises (pos 0) d (leading whole whole-order a b d rises e (same_yes d d refl) refl h)) in
      record { end = u.0; step = v.0 ∙ +ℤ_idl (way rises (pos (nat_abs d))); apart = u.1; moves = v.1 }

  pub sloped : (a ≡ b → ⊥) → Sloped (lt_z a b) a b d (nat_abs (b -ℤ a)) (nat_abs d)
  sloped n = go (lt_z a b) refl (lt_z b a) refl
    where
      go : (t : Bool) → lt_z a b ≡ t → (u : Bool) → lt_z b a ≡ u → Sloped t a b d (nat_abs (b -ℤ a)) (nat_abs d)
      go true e u f = slope true e
      go false e true f = slope false f
      go false e false f = absurd (n (both_ways a b (not_lt b a f) (not_lt a b e)))

  -- the list, for every axis that is not refused with 6
  pub stepped_is : stepped whole a b d ≡ list_of (element a d) (min (suc most) (whole_count a b d))
  stepped_is = go (ℤ_discrete a b)
    where
      go : Dec (a ≡ b) → stepped whole a b d ≡ list_of (element a d) (min (suc most) (whole_count a b d))
      go (yes e) = level a b d e
      go (no n) = stepped_sloped (sloped n)

  -- whether it is too long, and its length
  length_min : length (stepped whole a b d) ≡ min (suc most) (whole_count a b d)
  length_min = ap length stepped_is ∙ length_of (element a d) (min (suc most) (whole_count a b d))

  pub too_long_lem : most < whole_count a b d → too_long whole a b d ≡ true
  too_long_lem l = rw (length_min, min-eq_left {n = suc most} {m = whole_count a b d} l) refl

  pub length_is : whole_count a b d ≤ most → length (stepped whole a b d) ≡ whole_count a b d
  length_is l = length_min ∙ min-eq_right {n = whole_count a b d} {m = suc most} (omega (arith, l))

  pub not_long : whole_count a b d ≤ most → too_long whole a b d ≡ false
  not_long l = rw (length_is l) (le-ltb most (whole_count a b d) l)

-- ---- what is known of a list that is not refused
near_way : (rises : Bool) (m : ℕ) (a : ℤ) (x p : ℕ) → x ≤ p → nat_abs a ≤ m → nat_abs (a +ℤ way rises (pos p)) ≤ m → nat_abs (a +ℤ way rises (pos x)) ≤ m
near_way true m a x p l h g = near_on m a x p l h g
near_way false m a x p l h g = rw (← turned x) (near_on m (neg_ℤ a) x p l (rw (neg-far a) h) (rw (turned p) g))
  where
    turned : (n : ℕ) → nat_abs (neg_ℤ a +ℤ pos n) ≡ nat_abs (a +ℤ neg_ℤ (pos n))
    turned n = sym (neg-far (neg_ℤ a +ℤ pos n)) ∙ ap nat_abs (neg_ℤ-+ℤ (neg_ℤ a) (pos n) ∙ ap (λ (z : ℤ). z +ℤ neg_ℤ (pos n)) (neg_ℤ-neg_ℤ a))

module _ (a b d : ℤ) (h : axis_admitted whole a b d ≡ true) where
  pub admitted-near : (nat_abs a ≤ 1000000000) × (nat_abs b ≤ 1000000000) × (nat_abs d ≤ 1000000000)
  admitted-near =
      let both = both_true (whole_admitted a && whole_admitted b) (whole_admitted d) h in
      let ends = both_near 1000000000 a b both.0 in
      (ends.0, ends.1, leb-true (nat_abs d) 1000000000 both.1)

module _ {a b d : ℤ} {n : ℕ} (known : Known a b d n) where
  pub list_is : stepped whole a b d ≡ list_of (element a d) n
  list_is = stepped_is a b d known.onward ∙ ap (λ (k : ℕ). list_of (element a d) k) (ap (min (suc most)) (sym known.count) ∙ min-eq_right {n = n} {m = suc most} (omega (arith, known.few)))

  -- a list with an entry has a step that leads from a to b
  pub known_sloped : 0 < n → Sloped (lt_z a b) a b d (nat_abs (b -ℤ a)) (nat_abs d)
  known_sloped l = sloped a b d known.onward (λ e. omega (arith, l, known.count, ap (λ (z : ℤ). whole_count a z d) (sym e), level-count a d))

  pub lies : (k : ℕ) → k < n → Lies a b d k
  lies k l = record {
    index = omega (arith, l, known.few);
    far = omega (arith, inside, minus-far b a, ends.0, ends.1);
    near = between;
  }
    where
      p : ℕ
      p = nat_abs (b -ℤ a)

      s : ℕ
      s = nat_abs d

      x : Sloped (lt_z a b) a b d p s
      x = known_sloped (omega (arith, l))

      go : (t : Bool) → k < cond t 0 ((p - 1) / s + 1) → k < (p - 1) / s + 1
      go true u = absurd (omega (arith, u))
      go false u = u

      inside : k * s < p
      inside = ltb-true (k * s) p (rounded_up k p s x.moves x.apart ∙ lt-ltb k ((p - 1) / s + 1) (go (leb p s) (subst (λ (m : ℕ). k < m) (known.count ∙ count_is x) l)))

      ends : (nat_abs a ≤ 1000000000) × (nat_abs b ≤ 1000000000) × (nat_abs d ≤ 1000000000)
      ends = admitted-near a b d known.admitted

      between : nat_abs (a +ℤ pos k *ℤ d) ≤ 1000000000
      between = rw (element_is x k) (near_way (lt_z a b) 1000000000 a (k * s) p (omega (arith, inside)) ends.0 (rw (← x.end) ends.1))
