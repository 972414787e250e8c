-- The place of a whole value on an axis with whole ends, counted exactly: |L| * |v - a| / |b - a| pixels from p, cut, or one more where
-- the remainder is nearly all of |b - a|. Each rounding's bound is a multiple of h = 2 ^ 1014 units; 2 ^ 60 * h of them make 1.
-- Assumes nothing.
use Rattle.std.specs.Prelude.{Some}
use mathlib.Core.Path.{◌≡◌, refl, sym, ap, ◌∙◌}
use mathlib.Core.Logic.{◌⊎◌, inl, inr}
use mathlib.Core.Bool.{Bool, true, false, cond, not-eq-not}
use Prim.Native.Nat.{ℕ, zero, suc, ◌+◌, ◌*◌, ◌/◌, ◌%◌, ◌^◌, ◌≤◌, ◌<◌}
use native.Mathlib.Nat.{mul-le-mul_right, mul-le-mul_left, mul-lt-mul_of_pos_right, le_of_mul-le-mul_right, lt_of_mul-lt-mul_right, mul-pos, zero-mul, zero-div, div-add-mod', mod-lt}
use native.Mathlib.Decide.{dec_le}
use native.Mathlib.Omega.{arith}
use lib.Dec.{lit<, lit≤}
use lib.Pow.{pow_pos}
use lib.IntN.{ℤ, pos, negsuc, nat_abs, ◌+ℤ◌, ◌-ℤ◌, +ℤ_idr}
use lib.Signed.{le_z, lt_z}
use lib.Ieee.{Float, inf, fin, binary64, add, sub, neg, mul, div, eq, of_int, of_bits, nan}
use lib.Ieee.Exact.{HasValue}
use Rattle.ranged1d.specs.Admitted.{limit_admitted}
use Rattle.ranged1d.specs.Numbers.{low, high}
use Rattle.ranged1d.specs.declared.Limit.{Limit}
use Rattle.ranged1d.proofs.Bools.{both_false}
use Rattle.ranged1d.proofs.Whole.{minus-far, length-near, some_size, no_difference, not_lt}
use Rattle.ranged1d.proofs.Parts.{Parts, over, under, abs_parts, diff_parts, le_parts}
use Rattle.rounding.specs.Within.{signed}
use Rattle.rounding.proofs.Bounds.{kept_in}
use Rattle.rounding.proofs.Steps.{signed_abs}
use Rattle.rounding.proofs.Errors.{Near, Off}
use Rattle.rounding.proofs.Units.{Signed, Valued, Holds, Along, Part, Apart, to_zero, of_holds, sub_holds, mul-within, add-within, div-within, cut_at}
use Rattle.real.specs.Place.{farthest, milli, share, plus, rising, falling, along, spot}
use Rattle.real.specs.Reading.{outside}
use Rattle.real.specs.Exact.{pixels, distance, toward, away}
use Rattle.real.proofs.Cases.{steps}
use Rattle.real.proofs.Signs.{int_signed}
use Rattle.real.proofs.Exact.{equal_held}

-- ---- over natural numbers alone: the units in 1 for each h, and those in 0.001
abbrev pub one : ℕ → ℕ
one h = 1152921504606846976 * h

abbrev nudge : ℕ → ℕ
nudge h = 1152921504606847 * h

-- a share of at most 1, rounded, is little more than 1; N times it is below 2 ^ 21, and so with 0.001
pub share-most : (w D g h : ℕ) → 0 < D → w ≤ D → Near g D (w * one h) (256 * h) → 100 * g ≤ 104 * one h
share-most w D g h dp le n = let a : w * h ≤ D * h = mul-le-mul_right h le in le_of_mul-le-mul_right {k = D} (omega arith) dp

times_most : (N M g U : ℕ) → N ≤ M → 100 * g ≤ 104 * U → 100 * (N * g) ≤ 104 * (M * U)
times_most N M g U few le =
    let a : N * (100 * g) ≤ N * (104 * U) = mul-le-mul_left N le in
    let b : N * U ≤ M * U = mul-le-mul_right U few in
    omega arith

pub product-most : (N M b g U : ℕ) → 0 < U → N ≤ M → 104 * M < 100 * b → 100 * g ≤ 104 * U → Apart (N * g) (N * 0) (b * U)
product-most N M b g U up few room le =
    let a = times_most N M g U few le in
    let c : 104 * M * U < 100 * b * U = mul-lt-mul_of_pos_right room up in
    (omega arith, omega arith)

sum-most : (N g u2 v2 c e U : ℕ) → 0 < U → N ≤ 2_000_000 → 100 * g ≤ 104 * U → c ≤ U → e ≤ U → Off u2 v2 (N * g) (N * 0) e → Apart (u2 + c) (v2 + 0) (2_097_152 * U)
sum-most N g u2 v2 c e U up few le c_u e_u m = let a = times_most N 2_000_000 g U few le in (omega arith, omega arith)

-- k is N * w / D, or one more where the remainder is 998,999,999 thousand-millionths of D at least
abbrev pub Counts : ℕ → ℕ → ℕ → ℕ → Type 0
Counts N w D k = (k ≡ N * w / D) ⊎ ((k ≡ suc (N * w / D)) × (998_999_999 * D ≤ 1_000_000_000 * (N * w % D)))

one_of_two : (k Q : ℕ) (C : Type 0) → Q < suc k → k < suc (suc Q) → (k ≡ suc Q → C) → (k ≡ Q) ⊎ ((k ≡ suc Q) × C)
one_of_two k Q C l m f = go (dec_le k Q)
  where
    go : Dec (k ≤ Q) → (k ≡ Q) ⊎ ((k ≡ suc Q) × C)
    go (yes h) = inl (omega arith)
    go (no h) = let e : k ≡ suc Q = omega arith in inr (e, f e)

-- 2 ^ 61 parts of D, less those that 0.001 and the roundings make
share_of : (D R h : ℕ) → 2305843009213693952 * (D * h) ≤ 2305843009213693952 * (R * h) + 2305844058084606 * (D * h) → 998_999_999 * D * h ≤ 1_000_000_000 * R * h
share_of D R h k = omega arith

-- g / one is t, (u2 - v2) / one is L * t, and (u3 - v3) / one the sum with 0.001
module _ (N w D g u2 v2 u3 v3 h : ℕ) (dp : 0 < D) (hp : 0 < h) (few : N ≤ 2_000_000)
    (t : Near g D (w * one h) (256 * h)) (m : Off u2 v2 (N * g) (N * 0) (268435456 * h)) (s : Off u3 v3 (u2 + nudge h) (v2 + 0) (268435456 * h)) where
  -- the sum is N * w / D + 0.001, but for 1048870912 / 2 of h
  middle : Off (u3 * D) (v3 * D) (N * w * one h + nudge h * D) 0 (1048870912 * (D * h))
  middle =
      let tu : 2 * (g * D) * N ≤ (2 * (w * one h) + D * (256 * h)) * N = mul-le-mul_right N t.0 in
      let tl : 2 * (w * one h) * N ≤ (2 * (g * D) + D * (256 * h)) * N = mul-le-mul_right N t.1 in
      let nn : N * (D * h) ≤ 2_000_000 * (D * h) = mul-le-mul_right (D * h) few in
      let mu : (2 * u2 + 2 * (N * 0)) * D ≤ (2 * v2 + 2 * (N * g) + 268435456 * h) * D = mul-le-mul_right D m.0 in
      let ml : (2 * v2 + 2 * (N * g)) * D ≤ (2 * u2 + 2 * (N * 0) + 268435456 * h) * D = mul-le-mul_right D m.1 in
      let su : (2 * u3 + 2 * (v2 + 0)) * D ≤ (2 * v3 + 2 * (u2 + nudge h) + 268435456 * h) * D = mul-le-mul_right D s.0 in
      let sl : (2 * v3 + 2 * (u2 + nudge h)) * D ≤ (2 * u3 + 2 * (v2 + 0) + 268435456 * h) * D = mul-le-mul_right D s.1 in
      (omega arith, omega arith)

  above : v3 < u3
  above = let dh : 0 < D * h = mul-pos dp hp in let x = middle in lt_of_mul-lt-mul_right D (omega arith)

  counted : (k : ℕ) → k * one h + v3 ≤ u3 → u3 < suc k * one h + v3 → Counts N w D k
  counted k lo hi =
      let Q = N * w / D in
      let R = N * w % D in
      let dh : 0 < D * h = mul-pos dp hp in
      let x = middle in
      let r : R < D = mod-lt (N * w) dp in
      let rh : R * h ≤ D * h = mul-le-mul_right h (omega arith) in
      let q : (Q * D + R) * h ≡ N * w * h = ap (λ (z : ℕ). z * h) (div-add-mod' (N * w) D) in
      let lo' : (k * one h + v3) * D ≤ u3 * D = mul-le-mul_right D lo in
      let hi' : u3 * D < (suc k * one h + v3) * D = mul-lt-mul_of_pos_right hi dp in
      one_of_two k Q (998_999_999 * D ≤ 1_000_000_000 * R) (lt_of_mul-lt-mul_right (D * h) (omega arith)) (lt_of_mul-lt-mul_right (D * h) (omega arith))
      (λ (e : k ≡ suc Q).
      let e' : k * (D * h) ≡ suc Q * (D * h) = ap (λ (z : ℕ). z * (D * h)) e in
      le_of_mul-le-mul_right {k = h} (share_of D R h (omega arith)) hp)

-- such a k is at most N, and D * k is nearer to N * w than D
pub count_close : (N w D k : ℕ) → 0 < D → w ≤ D → Counts N w D k → (k ≤ N) × (D * k < N * w + D) × (N * w < D * k + D)
count_close N w D k dp wd c =
    let q : N * w / D * D + N * w % D ≡ N * w = div-add-mod' (N * w) D in
    let r : N * w % D < D = mod-lt (N * w) dp in
    let n : N * w ≤ N * D = mul-le-mul_left N wd in
    let (lo, hi) : (D * k < N * w + D) × (N * w < D * k + D) = go q r c in
    let l : k < suc N = lt_of_mul-lt-mul_right D (omega arith) in
    (omega arith, lo, hi)
  where
    go : N * w / D * D + N * w % D ≡ N * w → N * w % D < D → Counts N w D k → (D * k < N * w + D) × (N * w < D * k + D)
    go q r (inl e) = let d : k * D ≡ N * w / D * D = ap (λ (z : ℕ). z * D) e in (omega arith, omega arith)
    go q r (inr (e, f)) = let d : k * D ≡ suc (N * w / D) * D = ap (λ (z : ℕ). z * D) e in (omega arith, omega arith)

-- ---- the floats: L * t and the sum with 0.001, each rounded, along the sign of L
abbrev pub h : ℕ
h = 2 ^ 1014

pub h_pos : 0 < h
h_pos = pow_pos 1014

pub one_pos : 0 < one h
one_pos = pow_pos 1074

-- 0.001 in the direction of L
abbrev facing_milli : Bool → Float
facing_milli false = milli
facing_milli true = neg milli

milli_is : (s : Bool) → Along binary64 s (facing_milli s) (nudge h) 0
unfolding of_bits neg
milli_is false = refl
milli_is true = refl

module _ (s : Bool) (l : ℤ) (t : Float) (w D : ℕ) (few : nat_abs l ≤ 2_000_000) (value : HasValue (of_int binary64 l) s (nat_abs l) 1)
    (dp : 0 < D) (wd : w ≤ D) (pt : Part binary64 t w D (2 ^ 1022)) where
  steps_counted : (k : ℕ) × (steps (to_zero s) farthest (facing_milli s) l t ≡ Some (signed s k)) × Counts (nat_abs l) w D k
  steps_counted =
      let N = nat_abs l in
      let (g, i, n) = pt in
      let most = share-most w D g h dp wd n in
      let (u2, v2, i2, o2) = mul-within binary64 s (of_int binary64 l) t N 1042 g 0 (lit< tt) (product-most N 2_000_000 2_097_152 g (one h) one_pos few (lit< tt) most) value i in
      let (u3, v3, i3, o3) = add-within binary64 s (mul binary64 (of_int binary64 l) t) (facing_milli s) 1042 u2 v2 (nudge h) 0 (lit< tt)
      (sum-most N g u2 v2 (nudge h) (268435456 * h) (one h) one_pos few most (lit≤ tt) (lit≤ tt) o2) i2 (milli_is s) in
      let (k, e, lo, hi) = cut_at s (add binary64 (mul binary64 (of_int binary64 l) t) (facing_milli s)) farthest u3 v3 (one h) one_pos (above N w D g u2 v2 u3 v3 h dp h_pos few n o2 o3) i3 in
      let c = counted N w D g u2 v2 u3 v3 h dp h_pos few n o2 o3 k lo hi in
      (k, e ∙ kept_in farthest (signed s k) (rw (signed_abs s k) (omega (arith, (count_close N w D k dp wd c).0))), c)

not_inf : (t : Float) (u v c : ℕ) (s : Bool) → Valued t u v c → eq t (inf s) ≡ false
unfolding eq
not_inf nan u v c s i = elim i [ ]
not_inf (inf _) u v c s i = elim i [ ]
not_inf (fin r m e) u v c s i = refl

along-counted : (p q l : ℤ) (t : Float) (w D : ℕ) → q -ℤ p ≡ l → nat_abs l ≤ 2_000_000 → 0 < D → w ≤ D → Part binary64 t w D (2 ^ 1022)
    → (k : ℕ) × (along p q l t ≡ Some (p +ℤ toward l k)) × Counts (nat_abs l) w D k
unfolding along rising falling sub
along-counted p q (pos zero) t w D e few dp wd pt = (0, ap Some (sym (no_difference p q e) ∙ sym (+ℤ_idr p)), inl (sym (rw (zero-mul w) (zero-div D))))
along-counted p q (pos (suc n)) t w D e few dp wd pt =
    let (k, is, c) = steps_counted false (pos (suc n)) t w D few (int_signed binary64 (pos (suc n)) (omega arith)) dp wd pt in
    (k, rw (not_inf t _ _ _ false pt.1, not_inf t _ _ _ true pt.1) (ap (plus p) is), c)
along-counted p q (negsuc n) t w D e few dp wd pt =
    let (k, is, c) = steps_counted true (negsuc n) t w D few (int_signed binary64 (negsuc n) (omega arith)) dp wd pt in
    (k, rw (not_inf t _ _ _ false pt.1, not_inf t _ _ _ true pt.1) (ap (plus p) is), c)

-- ---- the share
-- z and y are on one side of 0
abbrev pub OneSide : ℤ → ℤ → Type 0
OneSide z y = ((over z ≡ 0) × (over y ≡ 0)) ⊎ ((under z ≡ 0) × (under y ≡ 0))

pub between : (x p q : ℤ) → outside x p q ≡ false → ((le_z p x ≡ true) × (le_z x q ≡ true)) ⊎ ((le_z q x ≡ true) × (le_z x p ≡ true))
between x p q o = go (le_z p q) (both_false (lt_z x (low p q)) (lt_z (high p q) x) o)
  where
    go : (t : Bool) → (lt_z x (cond t p q) ≡ false) × (lt_z (cond t q p) x ≡ false) → ((le_z p x ≡ true) × (le_z x q ≡ true)) ⊎ ((le_z q x ≡ true) × (le_z x p ≡ true))
    go true w = inl (not_lt x p w.0, not_lt q x w.1)
    go false w = inr (not_lt x q w.0, not_lt p x w.1)

-- v - a is on the side of b - a, and no larger
pub between-share : (a b v : ℤ) → outside v a b ≡ false → OneSide (v -ℤ a) (b -ℤ a) × (nat_abs (v -ℤ a) ≤ nat_abs (b -ℤ a))
between-share a b v o = go (between v a b o) (diff_parts v a) (diff_parts b a)
  where
    up : (z y : ℤ) → under z ≤ over z → over z + under y ≤ over y + under z → OneSide z y × (nat_abs z ≤ nat_abs y)
    up (pos m) (pos n) h k = (inr (refl, refl), omega arith)
    up (pos m) (negsuc n) h k = absurd (omega arith)
    up (negsuc m) y h k = absurd (omega arith)

    down : (z y : ℤ) → over z ≤ under z → over y + under z ≤ over z + under y → OneSide z y × (nat_abs z ≤ nat_abs y)
    down (pos zero) (pos n) h k = (inr (refl, refl), omega arith)
    down (pos zero) (negsuc n) h k = (inl (refl, refl), omega arith)
    down (pos (suc m)) y h k = absurd (omega arith)
    down (negsuc m) (pos n) h k = absurd (omega arith)
    down (negsuc m) (negsuc n) h k = (inl (refl, refl), omega arith)

    go : ((le_z a v ≡ true) × (le_z v b ≡ true)) ⊎ ((le_z b v ≡ true) × (le_z v a ≡ true)) → Parts (v -ℤ a) (over v + under a) (under v + over a) → Parts (b -ℤ a) (over b + under a) (under b + over a)
        → OneSide (v -ℤ a) (b -ℤ a) × (nat_abs (v -ℤ a) ≤ nat_abs (b -ℤ a))
    go (inl w) d e = up (v -ℤ a) (b -ℤ a) (omega (arith, le_parts a v w.0)) (omega (arith, le_parts v b w.1))
    go (inr w) d e = down (v -ℤ a) (b -ℤ a) (omega (arith, le_parts v a w.1)) (omega (arith, le_parts b v w.0))

signs_alike : (s t : Bool) (z y : ℤ) → 0 < nat_abs y → OneSide z y → Signed s (nat_abs z) (over z) (under z) → Signed t (nat_abs y) (over y) (under y) → (s ≡ t) ⊎ (nat_abs z ≡ 0)
signs_alike false false z y n o g k = inl refl
signs_alike true true z y n o g k = inl refl
signs_alike false true z y n (inl o) g k = inr (omega (arith, abs_parts z))
signs_alike false true z y n (inr o) g k = absurd (omega (arith, abs_parts y))
signs_alike true false z y n (inl o) g k = absurd (omega (arith, abs_parts y))
signs_alike true false z y n (inr o) g k = inr (omega (arith, abs_parts z))

-- whole numbers x and y with x / y from 0 to 1: the quotient of their floats
double : (w D U : ℕ) → 0 < D → w ≤ D → 0 < U → w * U < 2 * U * D
double w D U dp wd up = let a : w * U ≤ D * U = mul-le-mul_right U wd in let b : 0 < D * U = mul-pos dp up in omega arith

pub quotient-part : (X Y : Float) (x y : ℤ) → Holds X x → Holds Y y → 0 < nat_abs y → OneSide x y → nat_abs x ≤ nat_abs y → Part binary64 (div binary64 X Y) (nat_abs x) (nat_abs y) (2 ^ 1022)
quotient-part X Y x y hx hy d o le =
    let (s, p, g) = of_holds X x hx in
    let (t, q, k) = of_holds Y y hy in
    div-within binary64 X Y s t (nat_abs x) (nat_abs y) 1022 d (lit< tt) (double (nat_abs x) (nat_abs y) (2 ^ 1074) d le (pow_pos 1074)) (signs_alike s t x y d o g k) p q

-- ---- the place of a value between the ends: numbers that floats hold, a zero having either sign
module _ (fa fb fv : Float) (a b v : ℤ) (limit : Limit) (ha : Holds fa a) (hb : Holds fb b) (hv : Holds fv v) (na : nat_abs a ≤ 1_000_000_000) (nb : nat_abs b ≤ 1_000_000_000)
    (ne : a ≡ b → ⊥) (inside : outside v a b ≡ false) (ok : limit_admitted limit ≡ true) where
  abbrev D : ℕ
  D = distance a b

  pub long : 0 < D
  long = some_size (b -ℤ a) (λ z. ne (no_difference a b z))

  pub wide : D ≤ 2_000_000_000
  wide = omega (arith, minus-far b a)

  pub axis-holds : Holds (sub binary64 fb fa) (b -ℤ a)
  axis-holds = sub_holds binary64 fb fa b a (omega (arith, wide)) hb ha

  share_part : Part binary64 (share fa fb fv) (distance a v) D (2 ^ 1022)
  share_part =
      let w = between-share a b v inside in
      quotient-part (sub binary64 fv fa) (sub binary64 fb fa) (v -ℤ a) (b -ℤ a) (sub_holds binary64 fv fa v a (omega (arith, w.1, wide)) hv ha) axis-holds long w.0 w.1

  unequal : eq fa fb ≡ false
  unequal = (not-eq-not {b = false}).0 (λ e. ne (equal_held fa fb a b ha hb e))

  pub spot-counted : (k : ℕ) × (spot fa fb fv limit ≡ Some (away limit k)) × Counts (pixels limit) (distance a v) D k
  unfolding spot
  spot-counted = rw unequal (along-counted limit.0 limit.1 (limit.1 -ℤ limit.0) (share fa fb fv) (distance a v) D refl (length-near limit ok) long (between-share a b v inside).1 share_part)
