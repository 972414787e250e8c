-- 02 (n): after the one-more step the mantissa is below ten in size, before it is shortened. Assumes nothing.
use mathlib.Core.Path.{◌≡◌, refl, sym, ap, ◌∙◌, subst}
use mathlib.Core.Bool.{Bool, true, false, ◌&&◌, true≢false}
use mathlib.Core.List.{List}
use Prim.Native.Nat.{ℕ, ◌+◌, ◌*◌, ◌^◌, ◌≤◌, ◌<◌}
use native.Mathlib.Nat.{mul-pos, mul_assoc, mul-le-mul_left, mul-le-mul_right, le_trans, le_of_eq}
use native.Mathlib.Omega.{arith}
use lib.Dec.{T, leb, ltb, leb→le}
use lib.IntN.{ℤ, negsuc}
use lib.ListN.{replicate}
use lib.Ieee as Ieee
use lib.Ieee.{Float, nan, inf, fin, up, down, binary64, of_bits, sum, add, mul, div, neg, lt, le, eq}
use lib.Ieee.Bits.{is_true}
use lib.Ieee.Fits.{up_pos, down_pos}
use lib.Ieee.Back.{round_whole}
use lib.Ieee.Order.{round_mono}
use lib.Ieee.Positive.{num, den, den_pos, positive, through}
use mir.Facts.{and_yes}
use borrow.Author.Tests.{ltb-true, ltb-false, lt-ltb, ne_eqb}
use Rattle.ranged1d.proofs.Table.{at}
use Rattle.rounding.specs.Within.{AtMost}
use Rattle.rounding.proofs.Signs.{round-neg}
use Rattle.rounding.proofs.Small.{rounded, round_small}
use Rattle.decades.specs.Powers.{power}
use Rattle.decades.specs.Decade.{decade_index}
use Rattle.decades.proofs.Table.{above_zero}
use Rattle.float.specs.Shorten.{ten}
use Rattle.float.specs.Text.{sign_of, size_of}
use Rattle.float.specs.Scientific.{zero_float, tiny, comes_to_ten, scale_of}
use Rattle.float.specs.Calls.{printable, too_small}
use Rattle.float.proofs.Notation.{scale_more, scale_same}
use Rattle.float.proofs.Scales.{decade_low, in_table, by_decade, above_zero_is, large, mantissa_sixteen}

-- ---- ten times a power is at least eight times it: a test over the powers that a number below 2 ^ 53 can have, and more
test : ℕ → Bool
test k = leb (8 * num (power k) * den (mul binary64 (power k) ten)) (num (mul binary64 (power k) ten) * den (power k)) && positive (mul binary64 (power k) ten)

places : List ℕ
places = replicate 400 0

module _ (k : ℕ) (h : k < 400) where
  abbrev eight : Bool
  eight = leb (8 * num (power k) * den (mul binary64 (power k) ten)) (num (mul binary64 (power k) ten) * den (power k))

  abbrev some : Bool
  some = positive (mul binary64 (power k) ten)

  passed : T (eight && some)
  unfolding test places power mul of_bits Ieee.round
  passed = at (λ i x. test i) places tt k h

  eightfold : 8 * num (power k) * den (mul binary64 (power k) ten) ≤ num (mul binary64 (power k) ten) * den (power k)
  eightfold = leb→le _ _ (and_yes eight some passed).0

  tenfold_above : T (positive (mul binary64 (power k) ten))
  tenfold_above = (and_yes eight some passed).1

-- ---- sizes
size-neg : (x : Float) → size_of (neg x) ≡ size_of x
unfolding neg
size-neg nan = refl
size-neg (inf s) = refl
size-neg (fin s m e) = refl

plus-size : (a b : ℕ) → size_of (Ieee.round binary64 false a b) ≡ Ieee.round binary64 false a b
plus-size a b = rounded (λ (x : Float). size_of x ≡ x) binary64 false (λ m e. refl) refl a b

size-round : (s : Bool) (a b : ℕ) → size_of (Ieee.round binary64 s a b) ≡ Ieee.round binary64 false a b
size-round false a b = plus-size a b
size-round true a b = ap size_of (round-neg binary64 false a b) ∙ size-neg (Ieee.round binary64 false a b) ∙ plus-size a b

size-div : (s : Bool) (m : ℕ) (e : ℤ) (y : Float) → T (positive y) → size_of (div binary64 (fin s m e) y) ≡ div binary64 (fin false m e) y
unfolding div
size-div s m e nan p = elim p [ ]
size-div s m e (inf _) p = elim p [ ]
size-div s m e (fin true n d) p = elim p [ ]
size-div s m e (fin false n d) p =
    let z = ltb-true 0 n (is_true (ltb 0 n) p) in
    rw (ne_eqb n 0 (λ q. omega arith)) (size-round _ (m * up e * down d) (n * up d * down e))

-- ---- below ten
ten_is : Ieee.round binary64 false 10 1 ≡ ten
unfolding Ieee.round of_bits
ten_is = refl

-- a sum with a number that is at least ten is at least ten
sum-ten : (m : ℕ) (e : ℤ) (n : ℕ) (d : ℤ) → 10 * down e ≤ m * up e → T (le ten (add binary64 (fin false m e) (fin false n d)))
unfolding add sum
sum-ten m e n d h =
    let x : 10 * down e * down d ≤ m * up e * down d = mul-le-mul_right (down d) h in
    let y : 10 * (down e * down d) ≤ (m * up e * down d + n * up d * down e) * 1 = omega (arith, mul_assoc 10 (down e) (down d)) in
    subst (λ (z : Float). T (le z (Ieee.round binary64 false (m * up e * down d + n * up d * down e) (down e * down d)))) ten_is
    (round_mono binary64 10 1 (m * up e * down d + n * up d * down e) (down e * down d) (omega arith) (mul-pos (down_pos e) (down_pos d)) y)

-- so a number whose sum with 0.00001 is below ten is below ten
sum_below : (m : ℕ) (e : ℤ) → le ten (add binary64 (fin false m e) tiny) ≡ false → lt (fin false m e) ten ≡ true
unfolding lt of_bits
sum_below m e h = go (ltb (m * up e * 1) (10 * down e)) refl
  where
    go : (b : Bool) → ltb (m * up e * 1) (10 * down e) ≡ b → ltb (m * up e * 1) (10 * down e) ≡ true
    go true q = q
    go false q =
        let l : 10 * down e ≤ m * up e * 1 = ltb-false (m * up e * 1) (10 * down e) q in
        absurd (rw h at (sum-ten m e 5902958103587057 (negsuc 68) (omega arith)))

below_ten : (q : Float) → AtMost 16 q → size_of q ≡ q → le ten (add binary64 q tiny) ≡ false → lt q ten ≡ true
below_ten (fin true m e) w s h = absurd (true≢false (ap sign_of (sym s)))
below_ten nan w s h = elim w [ ]
below_ten (inf _) w s h = elim w [ ]
below_ten (fin false m e) w s h = sum_below m e h

small_below : (q : Float) → AtMost 2 q → lt (size_of q) ten ≡ true
unfolding lt of_bits
small_below nan w = elim w [ ]
small_below (inf _) w = elim w [ ]
small_below (fin s m e) w = lt-ltb (m * up e * 1) (10 * down e) (omega (arith, w, down_pos e))

-- ---- the mantissa
module _ (s : Bool) (m : ℕ) (e : ℤ) (above : T (positive (fin false m e))) (least : lt (fin false m e) (power 0) ≡ false) (low : m * up e < 2 ^ 53 * down e) where
  abbrev x : Float
  x = fin false m e

  abbrev k : ℕ
  k = decade_index x

  -- by ten times the decade: at most two
  tenth : (y : Float) → T (positive y) → 8 * num (power k) * den y ≤ num y * den (power k) → AtMost 2 (div binary64 (fin s m e) y)
  unfolding div
  tenth nan p h = elim p [ ]
  tenth (inf _) p h = elim p [ ]
  tenth (fin true n d) p h = elim p [ ]
  tenth (fin false n d) p h =
      let z = ltb-true 0 n (is_true (ltb 0 n) p) in
      let P = num (power k) in
      let Q = den (power k) in
      let t : 16 * P ≡ 2 * (8 * P) = omega arith in
      let a : 16 * P * down d ≤ 2 * (n * up d) * Q = le_trans (le_of_eq (ap (λ (j : ℕ). j * down d) t ∙ mul_assoc 2 (8 * P) (down d))) (le_trans (mul-le-mul_left 2 h) (le_of_eq (sym (mul_assoc 2 (n * up d) Q)))) in
      let b : m * up e * down d ≤ 2 * (n * up d * down e) = le_trans (through (m * up e) (16 * P) (2 * (n * up d)) (down e) Q (down d) (den_pos (power k)) (by_decade m e above least low) a) (le_of_eq (mul_assoc 2 (n * up d) (down e))) in
      rw (ne_eqb n 0 (λ q. omega arith))
      (round_small binary64 2 (round_whole binary64 false 2 (omega arith)) _ (m * up e * down d) (n * up d * down e) (mul-pos (mul-pos z (up_pos d)) (down_pos e)) b)

  k-low : k < 400
  k-low = omega (arith, decade_low m e above least low)

  part_below : lt (size_of (div binary64 (fin s m e) (scale_of x))) ten ≡ true
  unfolding comes_to_ten
  part_below = go (comes_to_ten x) refl
    where
      go : (b : Bool) → comes_to_ten x ≡ b → lt (size_of (div binary64 (fin s m e) (scale_of x))) ten ≡ true
      go true h =
          ap (λ (y : Float). lt (size_of (div binary64 (fin s m e) y)) ten) (scale_more x h).1
          ∙ small_below (div binary64 (fin s m e) (mul binary64 (power k) ten)) (tenth (mul binary64 (power k) ten) (tenfold_above k k-low) (eightfold k k-low))
      go false h =
          let p = above_zero k (in_table m e above least low) in
          let w = subst (λ (y : Float). AtMost 16 (div binary64 x y)) (scale_same x h).1 (mantissa_sixteen m e above least low false) in
          ap (λ (y : Float). lt (size_of (div binary64 (fin s m e) y)) ten) (scale_same x h).1
          ∙ ap (λ (y : Float). lt y ten) (size-div s m e (power k) p)
          ∙ below_ten (div binary64 x (power k)) w (size-div false m e (power k) p) h

pub mantissa_below_ten : (n : Float) → printable n ≡ true → eq n zero_float ≡ false → too_small n ≡ false → lt (size_of (div binary64 n (scale_of (size_of n)))) ten ≡ true
unfolding printable
mantissa_below_ten nan a z t = absurd (true≢false (sym a))
mantissa_below_ten (inf s) a z t = absurd (true≢false (sym a))
mantissa_below_ten (fin s m e) a z t = part_below s m e (above_zero_is s m e z) (large (fin s m e) z t) (ltb-true (m * up e) (2 ^ 53 * down e) a)
