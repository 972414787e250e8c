-- The casts to u64 are exact: the whole part and the decimals that the code takes from a shortened number are the rule's, with no end of a u64 near.
-- Assumes nothing.
use mathlib.Core.Path.{◌≡◌, sym, ap, ◌∙◌}
use mathlib.Core.Bool.{true, false, true≢false}
use Prim.Native.Nat.{ℕ, ◌-◌, ◌*◌, ◌/◌, ◌^◌, ◌≤◌, ◌<◌, min}
use native.Mathlib.Nat.{mul-one}
use native.Mathlib.Omega.{arith}
use lib.IntN.{pos, nat_abs}
use lib.Ieee.{Float, nan, inf, fin, up, down, binary64, sub, mul, of_int, to_unsigned, fits}
use Rattle.float.proofs.Cases.{pow_small}
use lib.Ieee.Bits.{is_true}
use lib.Ieee.Fits.{down_pos, mul-fits}
use lib.Ieee.Exact.{HasValue}
use lib.Ieee.Back.{round_whole}
use Rattle.rounding.specs.Integral.{floors, halves, sized, floor_of, round_of}
use Rattle.rounding.specs.Within.{whole_of, AtMost}
use Rattle.rounding.proofs.Small.{mul_small}
use Rattle.rounding.proofs.Quotients.{sized_le, sized-whole}
use Rattle.rounding.proofs.Value.{integral-value}
use Rattle.float.specs.Text.{size_of, whole_part, decimals_of}
use Rattle.float.proofs.Bounds.{near, Small, sign_round, value-within, part_small}

-- ---- the whole part
pub whole-most : (C : ℕ) (x : Float) → AtMost C x → whole_part x ≤ C
unfolding whole_of
whole-most C nan w = elim w [ ]
whole-most C (inf _) w = elim w [ ]
whole-most C (fin s m e) w = sized_le floors false (m * up e) (down e) C (down_pos e) w

pub whole_le : (x : Float) → AtMost near x → whole_part x ≤ near
whole_le = whole-most near

-- the whole part of a label is that of the shortened number
pub whole-exact : (x : Float) → AtMost near x → to_unsigned 64 (size_of x) ≡ whole_part x
unfolding to_unsigned whole_of
whole-exact nan w = elim w [ ]
whole-exact (inf _) w = elim w [ ]
whole-exact (fin s m e) w =
    let l : m * up e / down e ≤ near = sized_le floors false (m * up e) (down e) near (down_pos e) w in
    let r : min (m * up e / down e) (2 ^ 64 - 1) ≡ m * up e / down e = omega arith in
    r

-- ---- the decimals
-- a float that is a whole number is cast to it
cast_whole : (y : Float) (k : ℕ) → HasValue y false k 1 → k < 2 ^ 64 → to_unsigned 64 y ≡ k
unfolding to_unsigned
cast_whole (fin true m e) k v l = absurd (true≢false v.0)
cast_whole nan k v l = elim v [ ]
cast_whole (inf _) k v l = elim v [ ]
cast_whole (fin false m e) k v l =
    let q : m * up e / down e ≡ k = ap (λ (n : ℕ). n / down e) (sym (mul-one (m * up e)) ∙ v.1) ∙ sized-whole floors false k (down e) (down_pos e) in
    let r : min (m * up e / down e) (2 ^ 64 - 1) ≡ k = omega arith in
    r

round_exact : (y : Float) → fits binary64 y ≡ true → Small (2 ^ 53) y → to_unsigned 64 (round_of y) ≡ nat_abs (whole_of halves y)
unfolding whole_of
round_exact nan t w = absurd w.1
round_exact (inf s) t w = absurd w.1
round_exact (fin true m e) t w = absurd (true≢false w.0)
round_exact (fin false m e) t w =
    let l : sized halves false (m * up e) (down e) ≤ 2 ^ 53 = sized_le halves false (m * up e) (down e) (2 ^ 53) (down_pos e) w.1 in
    cast_whole (round_of (fin false m e)) (sized halves false (m * up e) (down e)) (integral-value binary64 halves false m e t) (omega arith)

-- a number of at most 1, times a whole number
times : (N : ℕ) (x y : Float) → N ≤ 2 ^ 53 → Small 1 x → HasValue y false N 1 → Small (2 ^ 53) (mul binary64 x y)
unfolding mul
times N nan y l w v = absurd w.1
times N (inf s) y l w v = absurd w.1
times N (fin true m e) y l w v = absurd (true≢false w.0)
times N (fin false m e) (fin true n d) l w v = absurd (true≢false v.0)
times N (fin false m e) nan l w v = elim v [ ]
times N (fin false m e) (inf _) l w v = elim v [ ]
times N (fin false m e) (fin false n d) l w v =
    let y = fin false n d in (
      sign_round false (m * up e * (n * up d)) (down e * down d),
      mul_small binary64 (2 ^ 53) (round_whole binary64 false (2 ^ 53) (omega arith)) 1 N (fin false m e) y (omega (arith, l)) w.1 (value-within y false N N v (omega arith)),
    )

size_fits : (x : Float) → fits binary64 x ≡ true → fits binary64 (size_of x) ≡ true
unfolding fits
size_fits nan t = t
size_fits (inf s) t = t
size_fits (fin s m e) t = t

size_at_most : (C : ℕ) (x : Float) → AtMost C x → AtMost C (size_of x)
size_at_most C nan w = w
size_at_most C (inf s) w = w
size_at_most C (fin s m e) w = w

-- the decimals of a label are its fraction times 10 ^ p, rounded
pub decimals-exact : (x : Float) (p : ℕ) → p ≤ 10 → fits binary64 x ≡ true → AtMost near x → to_unsigned 64 (round_of (mul binary64 (sub binary64 (size_of x) (floor_of (size_of x))) (of_int binary64 (pos (10 ^ p))))) ≡ decimals_of x p
unfolding of_int
decimals-exact x p h t w =
    let N = 10 ^ p in
    let l : N ≤ 10_000_000_000 = pow_small p h in
    let m : N ≤ 2 ^ 53 = omega arith in
    let f = part_small near (size_of x) (size_fits x t) (size_at_most near x w) in
    let y = mul binary64 (sub binary64 (size_of x) (floor_of (size_of x))) (of_int binary64 (pos N)) in
    round_exact y (is_true (fits binary64 y) (mul-fits binary64 (sub binary64 (size_of x) (floor_of (size_of x))) (of_int binary64 (pos N))))
    (times N (sub binary64 (size_of x) (floor_of (size_of x))) (of_int binary64 (pos N)) m f (round_whole binary64 false N m))
