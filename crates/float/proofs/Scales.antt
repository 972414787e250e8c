-- The mantissa of a scientific label is small, since powers that follow each other are less than 16 times apart. Assumes nothing.
use mathlib.Core.Path.{◌≡◌, refl, sym, ap, ◌∙◌}
use mathlib.Core.Bool.{Bool, true, false, ◌&&◌, true≢false}
use mathlib.Core.List.{List}
use Prim.Native.Nat.{ℕ, suc, ◌+◌, ◌*◌, ◌^◌, ◌≤◌, ◌<◌}
use native.Mathlib.Nat.{mul-pos, mul_assoc, mul-le-mul_left, le_trans, le_of_eq, pos_of_ne-zero}
use native.Mathlib.Omega.{arith}
use lib.Dec.{T, leb, ltb, lt→ltb, leb→le}
use lib.IntN.{ℤ, pos}
use lib.ListN.{replicate}
use lib.Ieee as Ieee
use lib.Ieee.{Float, nan, inf, fin, up, down, binary64, of_bits, of_int, mul, div, lt, le, eq}
use lib.Ieee.Bits.{is_true}
use lib.Ieee.Fits.{up_pos, down_pos}
use lib.Ieee.Back.{round_whole}
use lib.Ieee.Positive.{num, den, den_pos, positive, above, le→cross, cross→le, through, above_of_le}
use mir.Facts.{and_yes}
use borrow.Author.Tests.{ltb-true, ltb-false, eq-eqb, ne_eqb}
use Rattle.ranged1d.proofs.Bools.{chosen, both_false}
use Rattle.ranged1d.proofs.Table.{at}
use Rattle.rounding.specs.Within.{AtMost}
use Rattle.rounding.proofs.Small.{round_small}
use Rattle.decades.specs.Powers.{power}
use Rattle.decades.specs.Decade.{reached, decade_index}
use Rattle.decades.proofs.Table.{above_zero}
use Rattle.decades.proofs.Decades.{rise_to, reached-before, greatest, last_found, from_all}
use Rattle.float.specs.Shorten.{tolerance, ten}
use Rattle.float.specs.Text.{size_of}
use Rattle.float.specs.Scientific.{zero_float, tiny, comes_to_ten, table_index, scale_of}
use Rattle.float.specs.Calls.{printable, too_small}

-- ---- the table: the next power is at most 16 times a power, and ten times it is not below it
test : ℕ → Bool
test k = leb (num (power (suc k)) * den (power k)) (16 * num (power k) * den (power (suc k))) && le (power k) (mul binary64 (power k) ten)

places : List ℕ
places = replicate 616 0

module _ (k : ℕ) (h : k < 616) where
  abbrev near_next : Bool
  near_next = leb (num (power (suc k)) * den (power k)) (16 * num (power k) * den (power (suc k)))

  abbrev not_below : Bool
  not_below = le (power k) (mul binary64 (power k) ten)

  passed : T (near_next && not_below)
  unfolding test places power le lt eq mul of_bits Ieee.round
  passed = at (λ i x. test i) places tt k h

  next-near : num (power (suc k)) * den (power k) ≤ 16 * num (power k) * den (power (suc k))
  next-near = leb→le _ _ (and_yes near_next not_below passed).0

  tenfold : T (le (power k) (mul binary64 (power k) ten))
  tenfold = (and_yes near_next not_below passed).1

-- ---- order of numbers above zero
not_lt : (x y : Float) → T (positive x) → T (positive y) → lt x y ≡ false → T (le y x)
unfolding lt
not_lt nan y p q h = elim p [ ]
not_lt (inf _) y p q h = elim p [ ]
not_lt (fin false m e) nan p q h = elim q [ ]
not_lt (fin false m e) (inf _) p q h = elim q [ ]
not_lt (fin false m e) (fin true n d) p q h = elim q [ ]
not_lt (fin true m e) y p q h = elim p [ ]
not_lt (fin false m e) (fin false n d) p q h = cross→le (fin false n d) (fin false m e) q p (ltb-false (m * up e * down d) (n * up d * down e) h)

not_le : (y x : Float) → T (positive y) → T (positive x) → le y x ≡ false → num x * den y ≤ num y * den x
unfolding le lt
not_le nan _ q p h = elim q [ ]
not_le (inf _) _ q p h = elim q [ ]
not_le (fin false n d) nan q p h = elim p [ ]
not_le (fin false n d) (inf _) q p h = elim p [ ]
not_le (fin false n d) (fin true m e) q p h = elim p [ ]
not_le (fin true n d) _ q p h = elim q [ ]
not_le (fin false n d) (fin false m e) q p h = ltb-false (n * up d * down e) (m * up e * down d) (both_false (ltb (n * up d * down e) (m * up e * down d)) _ h).0

-- ---- a number that a scientific label is asked for
module _ (m : ℕ) (e : ℤ) (some : T (positive (fin false m e))) (least : lt (fin false m e) (power 0) ≡ false) (low : m * up e < 2 ^ 53 * down e) where
  abbrev x : Float
  x = fin false m e

  from_first : reached x 0 ≡ true
  from_first = is_true (reached x 0) (not_lt x (power 0) some (above_zero 0 (omega arith)) least)

  abbrev k : ℕ
  k = decade_index x

  own : reached x k ≡ true
  own = (greatest x 0 (omega arith) from_first).0

  pub in_table : k < 616
  in_table = (greatest x 0 (omega arith) from_first).1

  -- 10 ^ 16 is above x
  sixteen : (num (power 323) ≡ 10 ^ 16) × (den (power 323) ≡ 1)
  unfolding power Ieee.round
  sixteen = (refl, refl)

  pub decade_low : k ≤ 322
  decade_low = go (ltb 322 k) refl
    where
      go : (b : Bool) → ltb 322 k ≡ b → k ≤ 322
      go true h =
          let r = reached-before x 323 k (ltb-true 322 k h) in_table own in
          let c : num (power 323) * down e ≤ m * up e * den (power 323) = le→cross (power 323) x (above_zero 323 (omega arith)) some (rw r tt) in
          let d : 10 ^ 16 * down e ≤ m * up e * 1 = rw (sixteen.0, sixteen.1) at c in
          absurd (let z : ⊥ = omega arith in z)
      go false h = ltb-false 322 k h

  next-above : reached x (suc k) ≡ false
  next-above = go (reached x (suc k)) refl
    where
      go : (b : Bool) → reached x (suc k) ≡ b → reached x (suc k) ≡ false
      go true h =
          let f = last_found (reached x) (suc k) 616 (omega (arith, decade_low)) h in
          let q = from_all x in
          absurd (let z : ⊥ = omega (arith, f.2) in z)
      go false h = h

  -- x is below each power behind its decade
  under-power : (j : ℕ) → k < j → j < 616 → num x * den (power j) ≤ num (power j) * den x
  under-power j h l =
      through (num x) (num (power (suc k))) (num (power j)) (den x) (den (power (suc k))) (den (power j)) (den_pos (power (suc k)))
      (not_le (power (suc k)) x (above_zero (suc k) (omega (arith, decade_low))) some next-above)
      (le→cross (power (suc k)) (power j) (above_zero (suc k) (omega (arith, decade_low))) (above_zero j l) (rise_to (suc k) j h l))

  -- x is at most 16 times its decade
  pub by_decade : num x * den (power k) ≤ 16 * num (power k) * den x
  by_decade =
      through (num x) (num (power (suc k))) (16 * num (power k)) (den x) (den (power (suc k))) (den (power k)) (den_pos (power (suc k)))
      (not_le (power (suc k)) x (above_zero (suc k) (omega (arith, decade_low))) some next-above) (next-near k in_table)

  -- and so at most 16 times any number that is not below the decade
  by_larger : (n : ℕ) (d : ℤ) → T (positive (fin false n d)) → T (le (power k) (fin false n d)) → m * up e * down d ≤ 16 * (n * up d * down e)
  by_larger n d p h =
      let c : num (power k) * down d ≤ n * up d * den (power k) = le→cross (power k) (fin false n d) (above_zero k in_table) p h in
      let c16 : 16 * num (power k) * down d ≤ 16 * (n * up d) * den (power k) = le_trans (le_of_eq (mul_assoc 16 (num (power k)) (down d))) (le_trans (mul-le-mul_left 16 c) (le_of_eq (sym (mul_assoc 16 (n * up d) (den (power k)))))) in
      le_trans (through (num x) (16 * num (power k)) (16 * (n * up d)) (down e) (den (power k)) (down d) (den_pos (power k)) by_decade c16) (le_of_eq (mul_assoc 16 (n * up d) (down e)))

  quotient : (s : Bool) (y : Float) → T (above y) → T (le (power k) y) → AtMost 16 (div binary64 (fin s m e) y)
  unfolding div
  quotient s (inf t) a h = omega arith
  quotient s nan a h = elim a [ ]
  quotient s (fin true n d) a h = elim a [ ]
  quotient s (fin false n d) a h =
      let z = ltb-true 0 n (is_true (ltb 0 n) a) in
      rw (ne_eqb n 0 (λ q. omega arith))
      (round_small binary64 16 (round_whole binary64 false 16 (omega arith)) _ (m * up e * down d) (n * up d * down e) (mul-pos (mul-pos z (up_pos d)) (down_pos e)) (by_larger n d a h))

  pub mantissa_sixteen : (s : Bool) → AtMost 16 (div binary64 (fin s m e) (scale_of x))
  unfolding scale_of
  mantissa_sixteen s = chosen (λ (y : Float). AtMost 16 (div binary64 (fin s m e) y)) (comes_to_ten x) (by (mul binary64 (power k) ten) (tenfold k in_table)) (by (power k) (cross→le (power k) (power k) (above_zero k in_table) (above_zero k in_table) (omega arith)))
    where
      by : (y : Float) → T (le (power k) y) → AtMost 16 (div binary64 (fin s m e) y)
      by y h = quotient s y (above_of_le (power k) y (above_zero k in_table) h) h

-- ---- from what the call has tested
zero_is : (s : Bool) (m : ℕ) (e : ℤ) → m ≡ 0 → eq (fin s m e) zero_float ≡ true
unfolding eq of_bits
zero_is s m e h =
    let z : m * up e ≡ 0 = ap (λ (j : ℕ). j * up e) h ∙ omega arith in
    let a : m * up e * 1 ≡ 0 * down e = omega arith in
    let b : m * up e * 1 ≡ 0 = omega arith in
    go s a b
  where
    go : (s : Bool) → m * up e * 1 ≡ 0 * down e → m * up e * 1 ≡ 0 → eq (fin s m e) (fin false 0 (pos 0)) ≡ true
    go true a b = rw (eq-eqb (m * up e * 1) (0 * down e) a, eq-eqb (m * up e * 1) 0 b)
    go false a b = rw (eq-eqb (m * up e * 1) (0 * down e) a)

pub above_zero_is : (s : Bool) (m : ℕ) (e : ℤ) → eq (fin s m e) zero_float ≡ false → T (positive (fin false m e))
above_zero_is s m e h = lt→ltb 0 m (pos_of_ne-zero (λ z. true≢false (sym (zero_is s m e z) ∙ h)))

pub large : (n : Float) → eq n zero_float ≡ false → too_small n ≡ false → lt (size_of n) (power 0) ≡ false
unfolding too_small
large n z t = rw z at t

pub mantissa_small : (n : Float) → printable n ≡ true → eq n zero_float ≡ false → too_small n ≡ false → AtMost 16 (div binary64 n (scale_of (size_of n)))
unfolding printable
mantissa_small nan a z t = absurd (true≢false (sym a))
mantissa_small (inf s) a z t = absurd (true≢false (sym a))
mantissa_small (fin s m e) a z t = mantissa_sixteen m e (above_zero_is s m e z) (large (fin s m e) z t) (ltb-true (m * up e) (2 ^ 53 * down e) a) s

-- ---- how large the number is, by its decade
thousand : (num (power 310) ≡ 1000) × (den (power 310) ≡ 1)
unfolding power Ieee.round
thousand = (refl, refl)

unit : (num (power 307) ≡ 1) × (den (power 307) ≡ 1)
unfolding power Ieee.round
unit = (refl, refl)

pub decade_most : (n : Float) → printable n ≡ true → eq n zero_float ≡ false → too_small n ≡ false → decade_index (size_of n) ≤ 322
unfolding printable
decade_most nan a z t = absurd (true≢false (sym a))
decade_most (inf s) a z t = absurd (true≢false (sym a))
decade_most (fin s m e) a z t = decade_low m e (above_zero_is s m e z) (large (fin s m e) z t) (ltb-true (m * up e) (2 ^ 53 * down e) a)

pub under : (C j : ℕ) → (num (power j) ≡ C) × (den (power j) ≡ 1) → j < 616 → (n : Float) → printable n ≡ true → eq n zero_float ≡ false → too_small n ≡ false → decade_index (size_of n) < j → AtMost C n
unfolding printable
under C j v l nan a z t h = true≢false (sym a)
under C j v l (inf s) a z t h = true≢false (sym a)
under C j v l (fin s m e) a z t h =
    let w = under-power m e (above_zero_is s m e z) (large (fin s m e) z t) (ltb-true (m * up e) (2 ^ 53 * down e) a) j h l in
    let u : m * up e * 1 ≤ C * down e = rw (v.0, v.1) at w in
    omega arith

pub under_thousand : (n : Float) → printable n ≡ true → eq n zero_float ≡ false → too_small n ≡ false → decade_index (size_of n) < 310 → AtMost 1000 n
under_thousand = under 1000 310 thousand (omega arith)

pub under_one : (n : Float) → printable n ≡ true → eq n zero_float ≡ false → too_small n ≡ false → decade_index (size_of n) < 307 → AtMost 1 n
under_one = under 1 307 unit (omega arith)

-- the place in the table is the decade's, or the next
pub place-near : (x : Float) → (decade_index x ≤ table_index x) × (table_index x ≤ decade_index x + 1)
unfolding table_index
place-near x = chosen (λ (k : ℕ). (decade_index x ≤ k) × (k ≤ decade_index x + 1)) (comes_to_ten x) (omega arith, omega arith) (omega arith, omega arith)

-- ---- the tolerance of the mantissa
pub tolerance-five : tolerance 5 ≡ tiny
unfolding div of_int of_bits Ieee.round
tolerance-five = refl
