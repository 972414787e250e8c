-- 02 (m): the place of a whole value read back, as specs/Stray states it. Assumes nothing.
use mathlib.Core.Path.{◌≡◌, refl, ap, subst}
use mathlib.Core.Logic.{inl, inr}
use mathlib.Core.Bool.{Bool, true, false, cond, ◌||◌}
use Prim.Native.Nat.{ℕ, ◌+◌, ◌*◌, ◌^◌, ◌≤◌, ◌<◌}
use native.Mathlib.Nat.{mul-le-mul_right, mul-le-mul_left, mul-lt-mul_of_pos_left, le_of_mul-le-mul_right, lt_of_mul-lt-mul_right}
use native.Mathlib.Omega.{arith}
use lib.Dec.{lit<, lit≤}
use lib.IntN.{ℤ, pos, negsuc, neg_ℤ, nat_abs, ◌+ℤ◌, ◌-ℤ◌, ◌*ℤ◌}
use lib.Signed.{le_z, lt_z}
use lib.Ieee.{Float, fin, binary64, up, down, add, sub, mul, div, of_int, inf, nan}
use lib.Ieee.Fits.{down_pos}
use lib.Ieee.Exact.{HasValue}
use Rattle.ranged1d.specs.Answer.{given}
use Rattle.ranged1d.specs.Admitted.{limit_admitted}
use Rattle.ranged1d.specs.declared.Limit.{Limit}
use Rattle.ranged1d.proofs.Whole.{both_near, neg-far, length-near, some_size, no_difference, same_no, lt_le, other_way, back_to_start, start_to, add-far, minus-far}
use Rattle.ranged1d.proofs.Parts.{Parts, over, under, abs_parts, neg-parts, sum-parts, diff_parts, times_parts, le_parts, parts_le, abs_close}
use Rattle.rounding.specs.Within.{signed}
use Rattle.rounding.proofs.Errors.{Near, Off}
use Rattle.rounding.proofs.Units.{Signed, Valued, Holds, Along, Part, Apart, int_holds, of_holds, valued_times, mul-within, add-within}
use Rattle.real.specs.Reading.{outside, offset, value_at, real_reading}
use Rattle.real.specs.Exact.{pixels, distance, toward, away}
use Rattle.real.specs.Stray.{Away, ReadBack, Stray}
use Rattle.real.proofs.Cases.{inside-admitted}
use Rattle.real.proofs.Exact.{equal-holds}
use Rattle.real.proofs.Placed.{real_answered}
use Rattle.real.proofs.Error.{one, share-most, product-most, Counts, count_close, h, h_pos, one_pos, OneSide, between-share, quotient-part, long, wide, axis-holds, spot-counted}

-- ---- over natural numbers alone: g / U is k / N rounded, (u2 - v2) / U is D times it, and (u3 - v3) / U the sum with p - q; x - y is p - q + w
all_errors : (N D h : ℕ) → 0 < h → N ≤ 2_000_000 → D ≤ 2_000_000_000 → D * (N * (256 * h)) + N * (274877906944 * h) + N * (137438953472 * h) < 2 * one h
all_errors N D h hp few wide =
    let a : N * h ≤ 2_000_000 * h = mul-le-mul_right h few in
    let b : D * (N * h) ≤ 2_000_000_000 * (N * h) = mul-le-mul_right (N * h) wide in
    omega arith

-- what a share of at most 1 has above 1
share-over : (w D g U e : ℕ) → 0 < D → w ≤ D → Near g D (w * U) e → 2 * g ≤ 2 * U + e
share-over w D g U e dp le n = let a : w * U ≤ D * U = mul-le-mul_right U le in le_of_mul-le-mul_right {k = D} (omega arith) dp

-- p - q is the one end, and p - q + D the other: the sum is nearly between them, so below 2 ^ 30
wide_sum : (D g u v p q e1 e2 U : ℕ) → 0 < U → 2 * g ≤ 2 * U + e1 → D * e1 ≤ U → e2 ≤ U → q ≤ 1_000_000_000 + p → p + D ≤ q + 1_000_000_000 → Off u v (D * g) (D * 0) e2
    → Apart (u + p * U) (v + q * U) (1_073_741_824 * U)
wide_sum D g u v p q e1 e2 U p_u le de ee first last m =
    let a : D * (2 * g) ≤ D * (2 * U + e1) = mul-le-mul_left D le in
    let b : q * U ≤ (1_000_000_000 + p) * U = mul-le-mul_right U first in
    let c : (p + D) * U ≤ (q + 1_000_000_000) * U = mul-le-mul_right U last in
    (omega arith, omega arith)

wide_error : (D h : ℕ) → D ≤ 2_000_000_000 → D * (256 * h) ≤ one h
wide_error D h wide = let a : D * h ≤ 2_000_000_000 * h = mul-le-mul_right h wide in omega arith

-- two roundings and a sum: first the product, then all
product-up : (N D k g u v U e1 e2 : ℕ) → 2 * (g * N) ≤ 2 * (k * U) + N * e1 → 2 * u + 2 * (D * 0) ≤ 2 * v + 2 * (D * g) + e2
    → 2 * (N * u) ≤ 2 * (N * v) + 2 * (D * k * U) + D * (N * e1) + N * e2
product-up N D k g u v U e1 e2 t m = omega (arith, mul-le-mul_left D t, mul-le-mul_left N m)

product-down : (N D k g u v U e1 e2 : ℕ) → 2 * (k * U) ≤ 2 * (g * N) + N * e1 → 2 * v + 2 * (D * g) ≤ 2 * u + 2 * (D * 0) + e2
    → 2 * (N * v) + 2 * (D * k * U) ≤ 2 * (N * u) + D * (N * e1) + N * e2
product-down N D k g u v U e1 e2 t m = omega (arith, mul-le-mul_left D t, mul-le-mul_left N m)

sum-up : (N u2 v2 u3 v3 p q U e : ℕ) → 2 * u3 + 2 * (v2 + q * U) ≤ 2 * v3 + 2 * (u2 + p * U) + e
    → 2 * (N * u3) + 2 * (N * v2) + 2 * (N * U * q) ≤ 2 * (N * v3) + 2 * (N * u2) + 2 * (N * U * p) + N * e
sum-up N u2 v2 u3 v3 p q U e s = omega (arith, mul-le-mul_left N s)

moved : (N U x y p q w : ℕ) → x + q ≡ y + p + w → N * U * x + N * U * q ≡ N * U * y + N * U * p + N * w * U
moved N U x y p q w e = omega (arith, ap (λ (z : ℕ). N * U * z) e)

short : (K W D U : ℕ) → K < W + D → K * U + U ≤ W * U + D * U
short K W D U h = omega (arith, mul-le-mul_right U h)

-- and from here on every product is a number by itself
chain_up : (U D U2 V2 U3 V3 X Y P Q K W E1 E2 E3 : ℕ) → E1 + E2 + E3 < 2 * U → 2 * U2 ≤ 2 * V2 + 2 * K + E1 + E2 → 2 * U3 + 2 * V2 + 2 * Q ≤ 2 * V3 + 2 * U2 + 2 * P + E3
    → X + Q ≡ Y + P + W → K + U ≤ W + D → U3 + Y < V3 + X + D
chain_up U D U2 V2 U3 V3 X Y P Q K W E1 E2 E3 a b c d e = omega arith

chain_down : (U D U2 V2 U3 V3 X Y P Q K W E1 E2 E3 : ℕ) → E1 + E2 + E3 < 2 * U → 2 * V2 + 2 * K ≤ 2 * U2 + E1 + E2 → 2 * V3 + 2 * U2 + 2 * P ≤ 2 * U3 + 2 * V2 + 2 * Q + E3
    → X + Q ≡ Y + P + W → W + U ≤ K + D → V3 + X < U3 + Y + D
chain_down U D U2 V2 U3 V3 X Y P Q K W E1 E2 E3 a b c d e = omega arith

spread : (N D u v x y U : ℕ) → N * u + N * U * y < N * v + N * U * x + D * U → N * (u + y * U) < N * (v + x * U) + D * U
spread N D u v x y U h = omega arith

-- u - v and x - y are less than D / N apart, either way
abbrev Within : ℕ → ℕ → ℕ → ℕ → ℕ → ℕ → ℕ → Type 0
Within N D U u v x y = (N * (u + y * U) < N * (v + x * U) + D * U) × (N * (v + x * U) < N * (u + y * U) + D * U)

all_told : (N D k w g u2 v2 u3 v3 p q x y U e1 e2 e3 : ℕ) → D * (N * e1) + N * e2 + N * e3 < 2 * U
    → Near g N (k * U) e1 → Off u2 v2 (D * g) (D * 0) e2 → Off u3 v3 (u2 + p * U) (v2 + q * U) e3
    → x + q ≡ y + p + w → D * k < N * w + D → N * w < D * k + D → Within N D U u3 v3 x y
all_told N D k w g u2 v2 u3 v3 p q x y U e1 e2 e3 all t m s xy lo hi =
    let NU = N * U in
    let go_up = chain_up U (D * U) (N * u2) (N * v2) (N * u3) (N * v3) (NU * x) (NU * y) (NU * p) (NU * q) (D * k * U) (N * w * U) (D * (N * e1)) (N * e2) (N * e3) all
    (product-up N D k g u2 v2 U e1 e2 t.0 m.0) (sum-up N u2 v2 u3 v3 p q U e3 s.0) (moved N U x y p q w xy) (short (D * k) (N * w) D U lo) in
    let go_down = chain_down U (D * U) (N * u2) (N * v2) (N * u3) (N * v3) (NU * x) (NU * y) (NU * p) (NU * q) (D * k * U) (N * w * U) (D * (N * e1)) (N * e2) (N * e3) all
    (product-down N D k g u2 v2 U e1 e2 t.1 m.1) (sum-up N v2 u2 v3 u3 q p U e3 s.1) (moved N U x y p q w xy) (short (N * w) (D * k) D U hi) in
    (spread N D u3 v3 x y U go_up, spread N D v3 u3 y x U go_down)

-- ---- from units to the exact fraction ±X / d, which is (u - v) / U
scaled : (N X Y d u v x y E U : ℕ) → 0 < d → X * U + v * d ≡ Y * U + u * d → N * (u + y * U) < N * (v + x * U) + E * U → N * (X + y * d) < N * (Y + x * d) + E * d
scaled N X Y d u v x y E U dp i h =
    let a : N * (X * U + v * d) ≡ N * (Y * U + u * d) = ap (λ (z : ℕ). N * z) i in
    let b : d * (N * (u + y * U)) < d * (N * (v + x * U) + E * U) = mul-lt-mul_of_pos_left h dp in
    lt_of_mul-lt-mul_right U (omega arith)

signed_parts : (s : Bool) (X U u v d : ℕ) → Signed s (X * U) (u * d) (v * d) → over (signed s X) * U + v * d ≡ under (signed s X) * U + u * d
signed_parts false X U u v d g = omega (arith, g)
signed_parts true X U u v d g = let n = neg-parts (pos X) in rw (n.0, n.1) (omega (arith, g))

nearer_of : (r : Float) (z : ℤ) (N E u v U : ℕ) → Valued r u v U → Within N E U u v (over z) (under z) → Away ◌<◌ N r z E
nearer_of nan z N E u v U i w = elim i [ ]
nearer_of (inf _) z N E u v U i w = elim i [ ]
nearer_of (fin s m e) z N E u v U i w =
    let d = down e in
    let X = signed s (m * up e) in
    let p = signed_parts s (m * up e) U u v d i in
    let t = times_parts z d in
    abs_close (X -ℤ z *ℤ pos d) (over X + under z * d) (under X + over z * d) N (E * d)
    (omega (arith, diff_parts X (z *ℤ pos d), t))
    (scaled N (over X) (under X) d u v (over z) (under z) E U (down_pos e) p w.0)
    (scaled N (under X) (over X) d v u (under z) (over z) E U (down_pos e) (omega (arith, p)) w.1)

near_of : (r : Float) (z : ℤ) (N E : ℕ) → Away ◌<◌ N r z E → Away ◌≤◌ N r z (E + 1)
near_of nan z N E w = elim w [ ]
near_of (inf _) z N E w = elim w [ ]
near_of (fin s m e) z N E w = omega (arith, w)

-- ---- k pixels toward q
toward_abs : (l : ℤ) (k : ℕ) → nat_abs (toward l k) ≡ k
toward_abs (pos n) k = refl
toward_abs (negsuc n) k = neg-far (pos k)

toward_side : (l : ℤ) (k : ℕ) → OneSide (toward l k) l
toward_side (pos n) k = inr (refl, refl)
toward_side (negsuc n) k = inl ((neg-parts (pos k)).0, refl)

inside_by : (p q x : ℤ) → (le_z p q ≡ true → (le_z p x ≡ true) × (le_z x q ≡ true)) → (le_z q p ≡ true → (le_z q x ≡ true) × (le_z x p ≡ true)) → outside x p q ≡ false
inside_by p q x f g = go (le_z p q) refl
  where
    within : (y z : ℤ) → (le_z y x ≡ true) × (le_z x z ≡ true) → (lt_z x y || lt_z z x) ≡ false
    within y z w = rw (lt_le x y, lt_le z x, w.0, w.1)

    go : (t : Bool) → le_z p q ≡ t → (lt_z x (cond t p q) || lt_z (cond t q p) x) ≡ false
    go true h = within p q (f h)
    go false h = within q p (g (other_way p q h))

-- z is a part of q - p
inside-at : (p q z l : ℤ) → q -ℤ p ≡ l → over z ≤ over l → under z ≤ under l → (under l ≤ over l → under l ≡ 0) → (over l ≤ under l → over l ≡ 0) → outside (p +ℤ z) p q ≡ false
inside-at p q z l e o u rises falls =
    let d = subst (λ (x : ℤ). Parts x (over q + under p) (under q + over p)) e (diff_parts q p) in
    let s = sum-parts p z in
    let x = p +ℤ z in
    inside_by p q x
    (λ i. let f = le_parts p q i in let n = rises (omega arith) in (parts_le p x (omega arith), parts_le x q (omega arith)))
    (λ i. let f = le_parts q p i in let n = falls (omega arith) in (parts_le q x (omega arith), parts_le x p (omega arith)))

pub toward-inside : (p q l : ℤ) (k : ℕ) → q -ℤ p ≡ l → k ≤ nat_abs l → outside (p +ℤ toward l k) p q ≡ false
toward-inside p q (pos n) k e le = inside-at p q (pos k) (pos n) e le (omega arith) (λ h. refl) (λ h. omega arith)
toward-inside p q (negsuc n) k e le =
    let m = neg-parts (pos k) in
    inside-at p q (neg_ℤ (pos k)) (negsuc n) e (omega (arith, m.0)) (omega (arith, m.1)) (λ h. absurd (omega arith)) (λ h. refl)

-- ---- b - a times the share, and the sum with a, each rounded, along b - a, p - q being a along it. Below 2 ^ 31 a rounding is of at most a
-- half of 2 ^ 38 * h, below 2 ^ 30 of a half of 2 ^ 37 * h.
abbrev e31 : ℕ
e31 = 274877906944 * h

abbrev e30 : ℕ
e30 = 137438953472 * h

summed : (s : Bool) (y t c : Float) (N k w D p q x z : ℕ) → 0 < N → N ≤ 2_000_000 → k ≤ N → D ≤ 2_000_000_000 → q ≤ 1_000_000_000 + p → p + D ≤ q + 1_000_000_000
    → HasValue y s D 1 → Part binary64 t k N (2 ^ 1022) → Along binary64 s c (p * one h) (q * one h) → x + q ≡ z + p + w → D * k < N * w + D → N * w < D * k + D
    → (u : ℕ) × (v : ℕ) × Along binary64 s (add binary64 (mul binary64 y t) c) u v × Within N D (one h) u v x z
summed s y t c N k w D p q x z np few kn wide first last hy (g, i, n) j at lo hi =
    let (u2, v2, i2, o2) = mul-within binary64 s y t D 1052 g 0 (lit< tt) (product-most D 2_000_000_000 2_147_483_648 g (one h) one_pos wide (lit< tt) (share-most k N g h np kn n)) hy i in
    let (u3, v3, i3, o3) = add-within binary64 s (mul binary64 y t) c 1051 u2 v2 (p * one h) (q * one h) (lit< tt)
    (wide_sum D g u2 v2 p q (256 * h) e31 (one h) one_pos (share-over k N g (one h) (256 * h) np kn n) (wide_error D h wide) (lit≤ tt) first last o2) i2 j in
    (u3, v3, i3, all_told N D k w g u2 v2 u3 v3 p q x z (one h) (256 * h) e31 e30 (all_errors N D h h_pos few wide) n o2 o3 at lo hi)

-- the reading, by the sign of b - a
reading-nearer : (s : Bool) (y t c : Float) (a b v : ℤ) (N k : ℕ) → nat_abs a ≤ 1_000_000_000 → nat_abs b ≤ 1_000_000_000 → distance a b ≤ 2_000_000_000 → 0 < N → N ≤ 2_000_000 → k ≤ N
    → HasValue y s (distance a b) 1 → Signed s (distance a b) (over (b -ℤ a)) (under (b -ℤ a)) → Part binary64 t k N (2 ^ 1022) → Holds c a
    → OneSide (v -ℤ a) (b -ℤ a) → 0 < distance a b → distance a b * k < N * distance a v + distance a b → N * distance a v < distance a b * k + distance a b
    → Away ◌<◌ N (add binary64 (mul binary64 y t) c) v (distance a b)
reading-nearer false y t c a b v N k na nb wide np few kn hy g pt hc o long lo hi =
    let d = diff_parts b a in
    let (u, w, i, m) = summed false y t c N k (distance a v) (distance a b) (over a) (under a) (over v) (under v) np few kn wide (omega (arith, abs_parts a)) (omega (arith, abs_parts b)) hy pt
    (valued_times c (over a) (under a) (one h) hc) (rises o) lo hi in
    nearer_of (add binary64 (mul binary64 y t) c) v N (distance a b) u w (one h) i m
  where
    rises : OneSide (v -ℤ a) (b -ℤ a) → over v + under a ≡ under v + over a + distance a v
    rises (inl z) = absurd (omega (arith, abs_parts (b -ℤ a)))
    rises (inr z) = omega (arith, abs_parts (v -ℤ a), diff_parts v a)
reading-nearer true y t c a b v N k na nb wide np few kn hy g pt hc o long lo hi =
    let d = diff_parts b a in
    let (u, w, i, m) = summed true y t c N k (distance a v) (distance a b) (under a) (over a) (under v) (over v) np few kn wide (omega (arith, abs_parts a)) (omega (arith, abs_parts b)) hy pt
    (valued_times c (over a) (under a) (one h) hc) (falls o) lo hi in
    nearer_of (add binary64 (mul binary64 y t) c) v N (distance a b) w u (one h) i (m.1, m.0)
  where
    falls : OneSide (v -ℤ a) (b -ℤ a) → under v + over a ≡ over v + under a + distance a v
    falls (inl z) = omega (arith, abs_parts (v -ℤ a), diff_parts v a)
    falls (inr z) = absurd (omega (arith, abs_parts (b -ℤ a)))

-- ---- the theorem
read-there : (fa fb : Float) (x : ℤ) (limit : Limit) → limit_admitted limit ≡ true → (limit.0 ≡ limit.1 → ⊥) → outside x limit.0 limit.1 ≡ false
    → real_reading fa fb x limit ≡ given (value_at fa fb (offset x limit.0 limit.1))
unfolding real_reading
read-there fa fb x limit ok ne o = rw (inside-admitted x limit ok o, ok, o, same_no limit.0 limit.1 ne)

module _ (fa fb fv : Float) (a b v : ℤ) (limit : Limit) (ha : Holds fa a) (hb : Holds fb b) (hv : Holds fv v) (na : nat_abs a ≤ 1_000_000_000) (nb : nat_abs b ≤ 1_000_000_000)
    (ne : a ≡ b → ⊥) (inside : outside v a b ≡ false) (ok : limit_admitted limit ≡ true) (pq : limit.0 ≡ limit.1 → ⊥) where
  abbrev l : ℤ
  l = limit.1 -ℤ limit.0

  some : 0 < pixels limit
  some = some_size l (λ z. pq (no_difference limit.0 limit.1 z))

  read_at : (k : ℕ) → Counts (pixels limit) (distance a v) (distance a b) k
      → (outside (away limit k) limit.0 limit.1 ≡ false) × Away ◌<◌ (pixels limit) (value_at fa fb (offset (away limit k) limit.0 limit.1)) v (distance a b)
  read_at k c =
      let far = long fa fb fv a b v limit ha hb hv na nb ne inside ok in
      let spread = wide fa fb fv a b v limit ha hb hv na nb ne inside ok in
      let sh = between-share a b v inside in
      let few = length-near limit ok in
      let (kn, lo, hi) = count_close (pixels limit) (distance a v) (distance a b) k far sh.1 c in
      let part : Part binary64 (div binary64 (of_int binary64 (toward l k)) (of_int binary64 l)) k (pixels limit) (2 ^ 1022) =
      subst (λ (z : ℕ). Part binary64 (div binary64 (of_int binary64 (toward l k)) (of_int binary64 l)) z (pixels limit) (2 ^ 1022)) (toward_abs l k)
      (quotient-part (of_int binary64 (toward l k)) (of_int binary64 l) (toward l k) l (int_holds binary64 (toward l k) (rw (toward_abs l k) (omega arith))) (int_holds binary64 l (omega arith)) some
      (toward_side l k) (rw (toward_abs l k) kn)) in
      let (s, hy, g) = of_holds (sub binary64 fb fa) (b -ℤ a) (axis-holds fa fb fv a b v limit ha hb hv na nb ne inside ok) in (
        toward-inside limit.0 limit.1 l k refl kn,
        rw (back_to_start limit.0 (toward l k))
            (reading-nearer s (sub binary64 fb fa) (div binary64 (of_int binary64 (toward l k)) (of_int binary64 l)) fa a b v (pixels limit) k na nb spread some few kn hy g part ha sh.0 far lo hi),
      )

  held : ReadBack fa fb fv a b v limit
  held =
      let (k, at, c) = spot-counted fa fb fv a b v limit ha hb hv na nb ne inside ok in
      let (o, w) = read_at k c in
      record {
        place = away limit k;
        placed = real_answered fa fb fv limit ok at;
        reading = value_at fa fb (offset (away limit k) limit.0 limit.1);
        read = read-there fa fb (away limit k) limit ok pq o;
        near = near_of (value_at fa fb (offset (away limit k) limit.0 limit.1)) v (pixels limit) (distance a b) w;
        nearer = w;
      }

pub read_back : Stray
read_back fa fb fv a b v limit wa wb wv ends ne inside ok pq =
    let (na, nb) = both_near 1_000_000_000 a b ends in
    let sh = (between-share a b v inside).1 in
    held fa fb fv a b v limit (equal-holds fa _ a (int_holds binary64 a (omega arith)) wa) (equal-holds fb _ b (int_holds binary64 b (omega arith)) wb)
    (equal-holds fv _ v (int_holds binary64 v (omega (arith, minus-far b a, add-far a (v -ℤ a), ap nat_abs (start_to a v)))) wv) na nb ne inside ok pq
