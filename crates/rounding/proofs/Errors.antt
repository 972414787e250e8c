-- How far a rounded fraction is from the fraction, counted in units of the format's smallest value. Assumes nothing.
use Rattle.std.proofs.Common.{◌≡◌, ℕ, suc, ◌+◌, ◌-◌, ◌*◌, ◌/◌, ◌%◌, ◌^◌, ◌<◌, ◌≤◌, Bool, not, T, sym, subst, le_trans, le_of_eq, mul-le-mul_right, mod-lt, div-lt_iff_lt-mul, lt_of_mul-lt-mul_right, mul-le-mul_left, mul-pos, div-add-mod', arith, eqb→eq, leb→le, pow_pos, pow_mono}
use Prim.Native.Nat.{compare, Ordering}
use native.Mathlib.Nat.{pow-succ'}
use lib.Dec.{is_le, compare_is_eq, nleb→lt}
use lib.Ieee.{Float, Format, prec, emax, low, size, nearest, round}
use lib.Ieee.Digits.{size-le}
use lib.Ieee.Fits.{round_is}
use lib.Ieee.Exact.{HasValue, units_val}
use lib.Ieee.Nearest.{closest}
use lib.Ieee.Order.{drop, kept}
use lib.Ieee.Scale.{grid, overflow}

-- x is within e / 2 of n / c, and u - v within e / 2 of p - q
abbrev pub Near : ℕ → ℕ → ℕ → ℕ → Type 0
Near x c n e = (2 * (x * c) ≤ 2 * n + c * e) × (2 * n ≤ 2 * (x * c) + c * e)

abbrev pub Off : ℕ → ℕ → ℕ → ℕ → ℕ → Type 0
Off u v p q e = (2 * u + 2 * q ≤ 2 * v + 2 * p + e) × (2 * v + 2 * p ≤ 2 * u + 2 * q + e)

-- ---- a / b to the nearest whole number is within a half of a / b
near_of : (q r b : ℕ) (o : Ordering) → r < b → (T (is_le o) → r * 2 ≤ b) → (T (not (is_le o)) → b < r * 2) → (T (compare_is_eq o) → r * 2 ≡ b) → Near (nearest q o) b (q * b + r) 1
near_of q r b Ordering.lt l h k e = let h' : r * 2 ≤ b = h tt in omega arith
near_of q r b Ordering.eq l h k e =
    let e' : r * 2 ≡ b = e tt in
    let m : q % 2 * b ≤ 1 * b = mul-le-mul_right b (omega arith) in
    omega arith
near_of q r b Ordering.gt l h k e = let k' : b < r * 2 = k tt in omega arith

pub closest_near : (a b : ℕ) → 0 < b → Near (closest a b) b a 1
closest_near a b B =
    subst (λ (z : ℕ). Near (closest a b) b z 1) (div-add-mod' a b)
    (near_of (a / b) (a % b) b (compare (a % b * 2) b) (mod-lt a B) (leb→le (a % b * 2) b) (nleb→lt (a % b * 2) b) (eqb→eq (a % b * 2) b))

-- ---- a fraction below 2 ^ (prec + j) of the format's smallest values is rounded by at most a half of 2 ^ j of them
loosen : (q k c n j : ℕ) → 2 ^ k ≤ 2 ^ j → Near q (c * 2 ^ k) n 1 → Near (q * 2 ^ k) c n (2 ^ j)
loosen q k c n j le h = let m : c * 2 ^ k ≤ c * 2 ^ j = mul-le-mul_left c le in omega arith

spare : (z p l : ℕ) → z ≤ p + l → z - p ≤ l
spare z p l h = omega arith

grid_near : (f : Format) (a c j : ℕ) → 0 < c → a * 2 ^ low f < 2 ^ (prec f + j) * c → Near (grid f a c) c (a * 2 ^ low f) (2 ^ j)
grid_near f a c j C h =
    let n = a * 2 ^ low f in
    let k = drop (prec f) n c in
    let kj : k ≤ j = spare (size (n / c)) (prec f) j (size-le (n / c) (prec f + j) ((div-lt_iff_lt-mul C).1 h)) in
    loosen (kept (prec f) n c) k c n j (pow_mono kj) (closest_near n (c * 2 ^ k) (mul-pos C (pow_pos k)))

-- and does not overflow
below : (g c n b e o : ℕ) → 0 < c → n < b * c → e ≤ b → 2 * b ≤ o → Near g c n e → g < o
below g c n b e o C h le bo w =
    let m : c * e ≤ c * b = mul-le-mul_left c le in
    let o' : 2 * b * c ≤ o * c = mul-le-mul_right c bo in
    lt_of_mul-lt-mul_right c (omega arith)

pub round-near : (f : Format) (s : Bool) (a c j : ℕ) → 0 < c → prec f + j < low f + suc (emax f) → a * 2 ^ low f < 2 ^ (prec f + j) * c
    → HasValue (round f s a c) s (grid f a c) (2 ^ low f) × Near (grid f a c) c (a * 2 ^ low f) (2 ^ j)
round-near f s a c j C r h =
    let n = a * 2 ^ low f in
    let w = grid_near f a c j C h in
    let bo : 2 * 2 ^ (prec f + j) ≤ overflow f = le_trans (le_of_eq (sym (pow-succ' 2 (prec f + j)))) (pow_mono r) in (
      subst (λ (x : Float). HasValue x s (grid f a c) (2 ^ low f)) (sym (round_is f s a c))
          (units_val f s (kept (prec f) n c) (drop (prec f) n c) (below (grid f a c) c n (2 ^ (prec f + j)) (2 ^ j) (overflow f) C h (pow_mono (more (prec f) j)) bo w)),
      w,
    )
  where
    more : (p j : ℕ) → j ≤ p + j
    more p j = omega arith
