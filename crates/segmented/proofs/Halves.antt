-- A length shared among n, by the cut of twice the quotient: doubling the length doubles the float. Assumes nothing.
use Rattle.std.proofs.Common.{◌≡◌, ℕ, zero, suc, ◌+◌, ◌-◌, ◌*◌, ◌/◌, ◌^◌, ◌<◌, ◌≤◌, min, true, false, T, pos, sym, refl, ap, ◌∙◌, subst, true≢false, le_trans, mul_assoc, suc-mul, mul_comm, div-lt_iff_lt-mul, add-mul, mul-le-mul_left, mul-pos, le-mul_of_pos_right, mul_left_comm, arith, lt→ltb, pow_pos, leb-true}
use native.Mathlib.Nat.{div-div-eq-div-mul, add-div_right}
use lib.Ieee.{prec, low, Float, fin, binary32, up, down, round, lt, of_int, to_unsigned, inf, nan}
use lib.Ieee.Fits.{down_pos}
use lib.Ieee.Exact.{HasValue}
use lib.Ieee.Nearest.{div_same}
use lib.Ieee.Scale.{grid, finite, round_val, round_under, grid_scale, normal_of_fraction}
use Rattle.rounding.specs.Integral.{halves}
use Rattle.rounding.specs.Within.{whole_of, AtMost}
use Rattle.rounding.proofs.Small.{Plus}
use Rattle.rounding.proofs.Values.{div-round}
use Rattle.real.proofs.Sizes.{plus-div, small_quotient}
use Rattle.segmented.specs.Axes.{most_values}
use Rattle.segmented.specs.Segments.{shared}
use Rattle.segmented.proofs.Margin.{quotient, int_plus, no_share}

-- ---- fractions: one and a half of them
spread : (a b g d : ℕ) → a * d ≡ g * b → (2 * a + b) * (2 * d) ≡ (2 * g + d) * (2 * b)
spread a b g d e =
    let p : 2 * a * (2 * d) ≡ 2 * (2 * (a * d)) = simp (mul_assoc, mul_comm, mul_left_comm) in
    let q : b * (2 * d) ≡ 2 * (b * d) = simp (mul_assoc, mul_comm, mul_left_comm) in
    let r : 2 * g * (2 * b) ≡ 2 * (2 * (g * b)) = simp (mul_assoc, mul_comm, mul_left_comm) in
    let s : d * (2 * b) ≡ 2 * (b * d) = simp (mul_assoc, mul_comm, mul_left_comm) in
    omega (arith, add-mul (2 * a) b (2 * d), add-mul (2 * g) d (2 * b), p, q, r, s, e)

halved : (g d : ℕ) → 0 < d → (g * 2 / d + 1) / 2 ≡ (2 * g + d) / (2 * d)
halved g d p =
    ap (λ (z : ℕ). z / 2) (sym (add-div_right (g * 2) p))
    ∙ div-div-eq-div-mul (g * 2 + d) d 2
    ∙ ap (λ (z : ℕ). (z + d) / (d * 2)) (mul_comm g 2)
    ∙ ap (λ (z : ℕ). (2 * g + d) / z) (mul_comm d 2)

-- ---- floats that are the fraction g / d
near_of : (x : Float) (g d : ℕ) → 0 < d → HasValue x false g d → whole_of halves x ≡ pos ((2 * g + d) / (2 * d))
unfolding whole_of
near_of (fin true m e) g d p h = absurd (true≢false h.0)
near_of nan g d p h = elim h [ ]
near_of (inf _) g d p h = elim h [ ]
near_of (fin false m e) g d p h =
    ap pos (div_same (2 * (m * up e) + down e) (2 * down e) (2 * g + d) (2 * d) (mul-pos (omega arith) (down_pos e)) (mul-pos (omega arith) p) (spread (m * up e) (down e) g d h.1))

cut_of : (y : Float) (g d : ℕ) → 0 < d → AtMost 4000000 y → HasValue y false g d → to_unsigned 64 y ≡ g / d
unfolding to_unsigned
cut_of (fin true m e) g d p s h = absurd (true≢false h.0)
cut_of nan g d p s h = elim s [ ]
cut_of (inf _) g d p s h = elim s [ ]
cut_of (fin false m e) g d p s h =
    let l : m * up e / down e < 4000001 = (div-lt_iff_lt-mul (down_pos e)).1 (omega (arith, s, down_pos e)) in
    let r : min (m * up e / down e) (2 ^ 64 - 1) ≡ m * up e / down e = omega (arith, l) in
    r ∙ div_same (m * up e) (down e) g d (down_pos e) p h.1

cut_le : (C : ℕ) (y : Float) → AtMost C y → to_unsigned 64 y ≤ C
unfolding to_unsigned
cut_le C (fin true m e) s = omega arith
cut_le C nan s = elim s [ ]
cut_le C (inf _) s = elim s [ ]
cut_le C (fin false m e) s =
    let l : m * up e / down e < suc C = (div-lt_iff_lt-mul (down_pos e)).1 (omega (arith, s, suc-mul C (down e), down_pos e)) in
    let r : min (m * up e / down e) (2 ^ 64 - 1) ≤ C = omega (arith, l) in
    r

in_range : (y : Float) → Plus y → AtMost 4000000 y → T (lt (fin true 1 (pos 0)) y) × T (lt y (fin false 1 (pos 64)))
unfolding lt
in_range (fin true m e) p s = absurd (true≢false p)
in_range nan p s = elim p [ ]
in_range (inf _) p s = elim s [ ]
in_range (fin false m e) p s = (lt→ltb 0 (1 * down e + m * up e * 1) (omega (arith, down_pos e)), lt→ltb (m * up e * 1) (18446744073709551616 * down e) (omega (arith, s, down_pos e)))

small_finite : (C : ℕ) (x : Float) → AtMost C x → T (finite x)
small_finite C nan h = elim h [ ]
small_finite C (inf _) h = elim h [ ]
small_finite C (fin s m e) h = tt

-- ---- l ÷ n
module _ (n : ℕ) (some : 1 ≤ n) (few : n ≤ most_values) where
  rounds : (k : ℕ) → k ≤ 16777216 → quotient n (pos k) ≡ round binary32 false k n
  rounds k h = div-round binary32 (of_int binary32 (pos k)) (of_int binary32 (pos n)) false false k n some (int_plus k h) (int_plus n few)

  small : (k C : ℕ) → k ≤ C → C ≤ 16777216 → AtMost C (quotient n (pos k))
  small k C h c = small_quotient binary32 C c (pos k) (pos n) (omega (arith, h, c)) few some (le_trans h (le-mul_of_pos_right C some))

  -- what the cut asks for
  pub cut_allowed : (k : ℕ) → k ≤ 4000000 → T (lt (fin true 1 (pos 0)) (quotient n (pos k))) × T (lt (quotient n (pos k)) (fin false 1 (pos 64)))
  cut_allowed k h =
      in_range (quotient n (pos k))
      (plus-div binary32 (of_int binary32 (pos k)) (of_int binary32 (pos n)) k n some (int_plus k (omega (arith, h))) (int_plus n few))
      (small k 4000000 h (omega arith))

  pub cut_small : (k : ℕ) → k ≤ 4000000 → to_unsigned 64 (quotient n (pos k)) ≤ 4000000
  cut_small k h = cut_le 4000000 (quotient n (pos k)) (small k 4000000 h (omega arith))

  value : (k : ℕ) → k ≤ 4000000 → HasValue (quotient n (pos k)) false (grid binary32 k n) (2 ^ low binary32)
  value k h =
      let is = rounds k (omega (arith, h)) in
      let ends = subst (λ (x : Float). T (finite x)) is (small_finite 4000000 (quotient n (pos k)) (small k 4000000 h (omega arith))) in
      subst (λ (x : Float). HasValue x false (grid binary32 k n) (2 ^ low binary32)) (sym is) (round_val binary32 k n (round_under binary32 k n ends))

  -- no quotient is so small that digits are lost
  normal : (k : ℕ) → 1 ≤ k → 2 ^ (prec binary32 - 1) * n ≤ k * 2 ^ low binary32
  normal k h =
      let D = 2 ^ low binary32 in
      le_trans (mul-le-mul_left (2 ^ (prec binary32 - 1)) few) (le_trans (leb-true (2 ^ (prec binary32 - 1) * 16777216) D refl) (subst (λ (z : ℕ). D ≤ z) (mul_comm D k) (le-mul_of_pos_right D h)))

  doubled : (k : ℕ) → 1 ≤ k → grid binary32 (k + k) n ≡ grid binary32 k n * 2
  doubled k h =
      let twice : k + k ≡ k * 2 ^ 1 = omega arith in
      ap (λ (z : ℕ). grid binary32 z n) twice ∙ grid_scale binary32 k n 1 some (normal_of_fraction binary32 k n some (normal k h))

  pub share-cut : (k : ℕ) → k ≤ 2000000 → pos ((to_unsigned 64 (quotient n (pos (k + k))) + 1) / 2) ≡ shared n (pos k)
  unfolding shared
  share-cut zero h =
      let none : to_unsigned 64 (quotient n (pos 0)) ≡ 0 = omega (arith, cut_le 0 (quotient n (pos 0)) (small 0 0 (omega arith) (omega arith))) in
      ap (λ (z : ℕ). pos ((z + 1) / 2)) none ∙ sym (no_share n)
  share-cut (suc j) h =
      let k = suc j in
      let G = grid binary32 k n in
      let D = 2 ^ low binary32 in
      let cut = cut_of (quotient n (pos (k + k))) (grid binary32 (k + k) n) D (pow_pos (low binary32)) (small (k + k) 4000000 (omega (arith, h)) (omega arith)) (value (k + k) (omega (arith, h))) in
      ap (λ (z : ℕ). pos ((z + 1) / 2)) (cut ∙ ap (λ (z : ℕ). z / D) (doubled k (omega arith)))
      ∙ ap pos (halved G D (pow_pos (low binary32)))
      ∙ sym (near_of (quotient n (pos k)) G D (pow_pos (low binary32)) (value k (omega (arith, h))))
