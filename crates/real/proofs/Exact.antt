-- Whole numbers as floats: their differences are exact, so that the share of a whole axis is one quotient; and what they are read from
-- as bits. Assumes nothing.
use mathlib.Core.Path.{◌≡◌, refl, sym, ap, ap₂, subst, ◌∙◌}
use mathlib.Core.Bool.{Bool, true, false, not, ◌||◌, beq, true≢false}
use mathlib.Core.Logic.{◌⊎◌, inl, inr}
use Prim.Native.Nat.{ℕ, zero, suc, ◌+◌, ◌-◌, ◌*◌, ◌/◌, ◌%◌, ◌^◌, ◌≤◌, ◌<◌}
use native.Mathlib.Nat.{add-zero, eq_of_mul-eq-mul_right}
use native.Mathlib.Omega.{arith}
use lib.IntN.{ℤ, pos, negsuc, nat_abs, ◌+ℤ◌, ◌-ℤ◌, +ℤ_idr}
use lib.Dec.{T, eqb, eqb→eq}
use lib.Ieee.{Float, nan, inf, fin, binary64, up, down, odd, round, neg, sum, add, sub, div, eq, of_int, of_bits, of_fields, nan_bits, is_nan}
use lib.Pow.{pow_pos}
use lib.Ieee.Bits.{of_bits-fits, nan_bits_above}
use lib.Ieee.Exact.{HasValue, odd_sign}
use lib.Ieee.Back.{round_whole, whole_unique}
use lib.Ieee.Fits.{down_pos, round-fits}
use mir.Facts.{and_yes, or_yes}
use borrow.Author.Tests.{le-ltb, lt-leb}
use Rattle.ranged1d.proofs.Whole.{minus_shift}
use Rattle.ranged1d.proofs.Parts.{over, under, abs_parts}
use Rattle.rounding.proofs.Signs.{round-neg}
use Rattle.rounding.proofs.Compare.{own}
use Rattle.rounding.proofs.Units.{Signed, Holds, valued_of, int_holds, of_holds, one_held}
use Rattle.rounding.proofs.Sums.{ones, add-whole, whole_sum}
use Rattle.real.specs.Place.{share}
use Rattle.real.proofs.Signs.{level-same, int_value, int_neg}

-- x - 0
minus-none : (x : ℤ) → nat_abs x ≤ 2 ^ 53 → add binary64 (of_int binary64 x) (round binary64 true 0 1) ≡ of_int binary64 x
unfolding of_int sum
minus-none (pos n) h =
    add-whole binary64 (round binary64 false n 1) (round binary64 true 0 1) false true n 0 (round_whole binary64 false n h) (round_whole binary64 true 0 (omega arith))
    ∙ rw (le-ltb n 0 (omega arith)) (let e : n - 0 ≡ n = omega arith in ap (λ (k : ℕ). round binary64 false k 1) e)
minus-none (negsuc n) h =
    add-whole binary64 (round binary64 true (suc n) 1) (round binary64 true 0 1) true true (suc n) 0 (round_whole binary64 true (suc n) h) (round_whole binary64 true 0 (omega arith))
    ∙ ap (λ (k : ℕ). round binary64 true k 1) (add-zero (suc n))

none-turned : neg (of_int binary64 (pos 0)) ≡ round binary64 true 0 1
unfolding of_int
none-turned = sym (round-neg binary64 false 0 1)

pub less_int : (x y : ℤ) → nat_abs x ≤ 2 ^ 53 → nat_abs y ≤ 2 ^ 53 → sub binary64 (of_int binary64 x) (of_int binary64 y) ≡ of_int binary64 (x -ℤ y)
unfolding sub
less_int x (pos zero) h k = ap (add binary64 (of_int binary64 x)) none-turned ∙ minus-none x h ∙ ap (of_int binary64) (sym (+ℤ_idr x))
less_int x (pos (suc n)) h k = ap (add binary64 (of_int binary64 x)) (sym (int_neg binary64 (pos (suc n)) (λ e. omega (arith, ap nat_abs e)))) ∙ whole_sum binary64 x (negsuc n) h k
less_int x (negsuc n) h k = ap (add binary64 (of_int binary64 x)) (sym (int_neg binary64 (negsuc n) (λ e. omega (arith, ap nat_abs e)))) ∙ whole_sum binary64 x (pos (suc n)) h k

-- ---- from 2^52 to 2^53 the low bits count ones
abbrev pub Low : ℕ → Type 0
Low k = k < 4294967296

low-number : (k : ℕ) → Low k → of_bits binary64 (4841369599423283200 + k) ≡ odd 53 false (4503599627370496 + k) 1074 1074
unfolding of_bits of_fields
low-number k h =
    let field : (4841369599423283200 + k) % 9223372036854775808 / 4503599627370496 ≡ 1075 = omega arith in
    let digits : (4841369599423283200 + k) % 4503599627370496 ≡ k = omega arith in
    rw (lt-leb 9223372036854775808 (4841369599423283200 + k) (omega arith), field, digits)

pub low_bits : (k : ℕ) → Low k → of_bits binary64 (4841369599423283200 + k) ≡ of_int binary64 (pos (4503599627370496 + k))
unfolding of_int
low_bits k h =
    let n = 4503599627370496 + k in
    let x = of_bits binary64 (4841369599423283200 + k) in
    let v : HasValue x false n 1 = ones x false n (2 ^ 1074) (pow_pos 1074) (subst (λ (y : Float). HasValue y false (n * 2 ^ 1074) (2 ^ 1074)) (sym (low-number k h)) (odd_sign 53 false n 1074 1074)) in
    whole_unique binary64 x (round binary64 false n 1) false n (of_bits-fits binary64 _) (round-fits binary64 false n 1) v (round_whole binary64 false n (omega arith))

pub low_no_nan : (k : ℕ) → Low k → T (not (nan_bits binary64 (4841369599423283200 + k)))
low_no_nan k h =
    let n = 4841369599423283200 + k in
    subst (λ (b : Bool). T (not b)) (sym (nan_bits_above binary64 n ∙ le-ltb 9218868437227405312 (n % 9223372036854775808) (omega arith))) tt

-- with 2^52 and j taken off again
pub low-less : (k j : ℕ) → Low k → Low j → sub binary64 (of_int binary64 (pos (4503599627370496 + k))) (of_bits binary64 (4841369599423283200 + j)) ≡ of_int binary64 (pos k -ℤ pos j)
low-less k j h g =
    let c = pos 4503599627370496 in
    rw (low_bits j g) (less_int (c +ℤ pos k) (c +ℤ pos j) (omega arith) (omega arith) ∙ ap (of_int binary64) (minus_shift c (pos k) (pos j)))

-- every number but NaN equals itself
pub eq_self : (x : Float) → T (not (is_nan x)) → eq x x ≡ true
unfolding eq is_nan
eq_self nan h = absurd h
eq_self (inf true) h = refl
eq_self (inf false) h = refl
eq_self (fin s m e) h = level-same s s (m * up e * down e) (m * up e * down e) refl refl

valued : (x : Float) (s : Bool) (k : ℕ) → HasValue x s k 1 → eq x x ≡ true
unfolding is_nan
valued nan s k v = elim v [ ]
valued (inf _) s k v = elim v [ ]
valued (fin u m e) s k v = eq_self (fin u m e) tt

-- whole numbers that differ as floats differ
pub int_self : (z : ℤ) → nat_abs z ≤ 2 ^ 53 → eq (of_int binary64 z) (of_int binary64 z) ≡ true
int_self z h = let x = int_value binary64 z h in valued (of_int binary64 z) x.0 (nat_abs z) x.1

pub differ : (a b : ℤ) → nat_abs a ≤ 2 ^ 53 → eq (of_int binary64 a) (of_int binary64 b) ≡ false → a ≡ b → ⊥
differ a b h n e = true≢false (sym (int_self a h) ∙ ap (λ (z : ℤ). eq (of_int binary64 a) (of_int binary64 z)) e ∙ n)

-- floats that are equal: their values are, and the signs, except at 0
one_value : (x y : Float) (s t : Bool) (m n c d : ℕ) → 0 < c → HasValue x s m c → HasValue y t n d → eq x y ≡ true → (m * d ≡ n * c) × (beq s t ≡ false → m ≡ 0)
unfolding eq
one_value nan y s t m n c d C hx hy h = elim hx [ ]
one_value (inf _) y s t m n c d C hx hy h = elim hx [ ]
one_value (fin u j e) nan s t m n c d C hx hy h = elim hy [ ]
one_value (fin u j e) (inf _) s t m n c d C hx hy h = elim hy [ ]
one_value (fin u j e) (fin w k g) s t m n c d C hx hy h =
    let A = j * up e * down g in
    let B = k * up g * down e in
    let told = and_yes (eqb A B) (beq u w || eqb A 0) (subst T (sym h) tt) in
    let same : A ≡ B = eqb→eq A B told.0 in
    let left : j * up e * c ≡ m * down e = hx.1 in
    let right : k * up g * d ≡ n * down g = hy.1 in (
      cancel (m * d) (n * c) (omega (arith, ap (λ (i : ℕ). i * down g * d) left, ap (λ (i : ℕ). i * down e * c) right, ap (λ (i : ℕ). i * c * d) same)),
      λ f. cancel m 0 (omega (arith, ap (λ (i : ℕ). i * down g) left, ap (λ (i : ℕ). i * c) (nothing A told.1 f))),
    )
  where
    cancel : (i l : ℕ) → i * down e * down g ≡ l * down e * down g → i ≡ l
    cancel i l q = eq_of_mul-eq-mul_right (down e) (down_pos e) i l (eq_of_mul-eq-mul_right (down g) (down_pos g) (i * down e) (l * down e) q)

    nothing : (A : ℕ) → T (beq u w || eqb A 0) → beq s t ≡ false → A ≡ 0
    nothing A r f = go (or_yes (beq u w) (eqb A 0) r)
      where
        go : T (beq u w) ⊎ T (eqb A 0) → A ≡ 0
        go (inl q) = absurd (subst T (ap₂ beq hx.0 hy.0 ∙ f) q)
        go (inr q) = eqb→eq A 0 q

-- a float that equals one of a whole value has that value
signed_either : (s t : Bool) (z : ℤ) → (beq s t ≡ false → nat_abs z ≡ 0) → Signed t (nat_abs z) (over z) (under z) → Signed s (nat_abs z) (over z) (under z)
signed_either false false z n g = g
signed_either true true z n g = g
signed_either false true z n g = omega (arith, n refl, abs_parts z)
signed_either true false z n g = omega (arith, n refl, abs_parts z)

pub equal-holds : (x y : Float) (z : ℤ) → Holds y z → eq x y ≡ true → Holds x z
unfolding eq
equal-holds nan y z q e = absurd (true≢false (sym e))
equal-holds (inf s) (fin t n g) z q e = absurd (true≢false (sym e))
equal-holds (inf s) nan z q e = elim q [ ]
equal-holds (inf s) (inf _) z q e = elim q [ ]
equal-holds (fin s m e) y z q h =
    let (t, hy, g) = of_holds y z q in
    let w = one_value (fin s m e) y s t (m * up e) (nat_abs z) (down e) 1 (down_pos e) (own s m e) hy h in
    valued_of (fin s m e) s (nat_abs z) 1 (over z) (under z) (refl, w.0) (signed_either s t z (λ f. none (nat_abs z) (down e) (down_pos e) (omega (arith, w.0, w.1 f))) g)
  where
    none : (a d : ℕ) → 0 < d → a * d ≡ 0 → a ≡ 0
    none a d D h = eq_of_mul-eq-mul_right d D a 0 (omega arith)

-- so that two that are equal have one value
pub equal_held : (x y : Float) (a b : ℤ) → Holds x a → Holds y b → eq x y ≡ true → a ≡ b
equal_held x y a b p q e = one_held x a b p (equal-holds x y b q e)

-- whole numbers that are equal as floats are equal
pub same_int : (a b : ℤ) → nat_abs a ≤ 2 ^ 53 → nat_abs b ≤ 2 ^ 53 → eq (of_int binary64 a) (of_int binary64 b) ≡ true → a ≡ b
same_int a b h k e = equal_held (of_int binary64 a) (of_int binary64 b) a b (int_holds binary64 a h) (int_holds binary64 b k) e

-- the share, as one quotient of whole numbers
pub whole-share : (a b v : ℤ) → nat_abs a ≤ 2 ^ 53 → nat_abs b ≤ 2 ^ 53 → nat_abs v ≤ 2 ^ 53
    → share (of_int binary64 a) (of_int binary64 b) (of_int binary64 v) ≡ div binary64 (of_int binary64 (v -ℤ a)) (of_int binary64 (b -ℤ a))
whole-share a b v ha hb hv = rw (less_int v a hv ha, less_int b a hb ha)
