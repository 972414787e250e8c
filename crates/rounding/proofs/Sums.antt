-- Sums of whole numbers as floats are exact, and a sum in the range where a format holds whole numbers only is one next to the true sum. Assumes nothing.
use Rattle.std.proofs.Common.{◌≡◌, ℕ, zero, suc, ◌+◌, ◌-◌, ◌*◌, ◌/◌, ◌%◌, ◌^◌, ◌<◌, ◌≤◌, Bool, true, false, cond, eqb, ltb, ℤ, pos, negsuc, ◌+ℤ◌, nat_abs, sym, refl, ap, ◌∙◌, subst, le_trans, le_of_eq, lt_of_lt_of_le, lt_of_le_of_lt, lt_irrefl, mul-le-mul_right, zero-lt-suc, mul_assoc, suc-mul, div-lt_iff_lt-mul, pos_of_ne-zero, mul-lt-mul_of_pos_right, mul-pos, lt_of_not-le, div-add-mod', le-div_iff_mul-le, mul-one, mul_right_comm, not-le_of_lt, arith, lit<, pow_pos, pow_mono, pow-add, ltb-false, ltb-true, le-ltb, eqb-true}
use Prim.Native.Nat.compare
use Prim.Native.Nat.{Ordering}
use Prim.Native.Nat.{compare}
use native.Mathlib.Nat.{lt-div-mul-add, eq_of_mul-eq-mul_right}
use lib.Pow.{pow-lt}
use lib.Ieee.{Float, fin, Format, binary32, binary64, prec, emax, low, up, down, size, units, round, sum, add, of_int, inf, nan}
use lib.Ieee.Digits.{size-lt, size-le}
use lib.Ieee.Fits.{nearest-le, round_is, round-fits, two}
use lib.Ieee.Exact.{HasValue, units_val}
use lib.Ieee.Nearest.{closest, closest_same, nearest-ge}
use lib.Ieee.Back.{round_whole, whole_unique}
use borrow.Author.Tests.{eqb-false}
use Rattle.rounding.proofs.Quotients.{Next}
use Rattle.rounding.proofs.Values.{add-value}

-- ±a + ±b, for floats of these values
pub add-whole : (f : Format) (x y : Float) (s t : Bool) (a b : ℕ) → HasValue x s a 1 → HasValue y t b 1 → add f x y ≡ sum f s a t b 1
add-whole f x y s t a b p q = add-value f x y s t a b 1 (zero-lt-suc 0) p q

-- b - a, for an a that is not above b
difference : (f : Format) (a b : ℕ) → a ≤ b → cond (ltb a b) (round f false (b - a) 1) (round f false (a - b) 1) ≡ round f false (b - a) 1
difference f a b h = go (ltb a b) refl
  where
    go : (t : Bool) → ltb a b ≡ t → cond t (round f false (b - a) 1) (round f false (a - b) 1) ≡ round f false (b - a) 1
    go true e = refl
    go false e = let l : b ≤ a = ltb-false a b e in ap (λ (k : ℕ). round f false k 1) (omega arith)

-- the sum of two whole numbers that the format holds is theirs, rounded
pub whole_sum : (f : Format) (a b : ℤ) → nat_abs a ≤ 2 ^ prec f → nat_abs b ≤ 2 ^ prec f → add f (of_int f a) (of_int f b) ≡ of_int f (a +ℤ b)
unfolding of_int sum
whole_sum f (pos a) (pos b) ha hb = add-whole f (round f false a 1) (round f false b 1) false false a b (round_whole f false a ha) (round_whole f false b hb)
whole_sum f (negsuc a) (negsuc b) ha hb =
    add-whole f (round f true (suc a) 1) (round f true (suc b) 1) true true (suc a) (suc b) (round_whole f true (suc a) ha) (round_whole f true (suc b) hb)
    ∙ ap (λ (k : ℕ). round f true k 1) (omega arith)
whole_sum f (pos a) (negsuc b) ha hb =
    add-whole f (round f false a 1) (round f true (suc b) 1) false true a (suc b) (round_whole f false a ha) (round_whole f true (suc b) hb) ∙ go (ltb a (suc b)) refl
  where
    go : (t : Bool) → ltb a (suc b) ≡ t → cond t (round f true (suc b - a) 1) (round f false (a - suc b) 1) ≡ of_int f (cond t (negsuc (suc b - suc a)) (pos (a - suc b)))
    go true h = let l : a < suc b = ltb-true a (suc b) h in ap (λ (k : ℕ). round f true k 1) (omega arith)
    go false h = refl
whole_sum f (negsuc a) (pos b) ha hb =
    add-whole f (round f true (suc a) 1) (round f false b 1) true false (suc a) b (round_whole f true (suc a) ha) (round_whole f false b hb) ∙ go (ltb b (suc a)) refl
  where
    go : (t : Bool) → ltb b (suc a) ≡ t → cond (ltb (suc a) b) (round f false (b - suc a) 1) (round f t (suc a - b) 1) ≡ of_int f (cond t (negsuc (suc a - suc b)) (pos (b - suc a)))
    go true h =
        let l : b < suc a = ltb-true b (suc a) h in
        rw (le-ltb (suc a) b (omega arith)) (ap (λ (k : ℕ). round f true k 1) (omega arith))
    go false h = difference f (suc a) b (ltb-false b (suc a) h)

-- ---- a fraction n / d from 2 ^ (p - 1) to 2 ^ p, p being the format's digits: its digits past the point are those that are dropped
size_gt : (n j : ℕ) → 2 ^ j ≤ n → j < size n
size_gt n j h = lt_of_not-le (λ (g : size n ≤ j). not-le_of_lt (lt_of_lt_of_le (size-lt n) (pow_mono g)) h)

raised : (d j l : ℕ) → 2 ^ (j + l) * d ≡ 2 ^ j * d * 2 ^ l
raised d j l = ap (λ (x : ℕ). x * d) (pow-add 2 j l) ∙ mul_right_comm (2 ^ j) (2 ^ l) d

exactly : (z p l : ℕ) → 2 ≤ p → z ≤ p + l → p - 1 + l < z → z - p ≡ l
exactly z p l t a b = omega arith

room : (f : Format) → prec f + low f < low f + suc (emax f)
room binary32 = lit< tt
room binary64 = lit< tt

-- from units to ones
pub ones : (x : Float) (s : Bool) (q c : ℕ) → 0 < c → HasValue x s (q * c) c → HasValue x s q 1
ones nan s q c p v = elim v [ ]
ones (inf _) s q c p v = elim v [ ]
ones (fin u m e) s q c p v = (v.0, mul-one (m * up e) ∙ eq_of_mul-eq-mul_right c p (m * up e) (q * down e) (v.1 ∙ mul_right_comm q c (down e)))

module _ (f : Format) (n d : ℕ) (pd : 0 < d) (lo : 2 ^ (prec f - 1) * d ≤ n) (hi : n < 2 ^ prec f * d) where
  dropped : size (n * 2 ^ low f / d) - prec f ≡ low f
  dropped =
      let l = low f in
      let p = prec f in
      let a : n * 2 ^ l < 2 ^ (p + l) * d = lt_of_lt_of_le (mul-lt-mul_of_pos_right hi (pow_pos l)) (le_of_eq (sym (raised d p l))) in
      let b : 2 ^ (p - 1 + l) * d ≤ n * 2 ^ l = le_trans (le_of_eq (raised d (p - 1) l)) (mul-le-mul_right (2 ^ l) lo) in
      exactly (size (n * 2 ^ l / d)) p l (two f)
      (size-le (n * 2 ^ l / d) (p + l) ((div-lt_iff_lt-mul pd).1 a))
      (size_gt (n * 2 ^ l / d) (p - 1 + l) ((le-div_iff_mul-le pd).1 b))

  in_units : (s : Bool) → round f s n d ≡ units f s (closest n d) (low f)
  in_units s =
      let l = low f in
      round_is f s n d
      ∙ ap (λ (k : ℕ). units f s (closest (n * 2 ^ l) (d * 2 ^ k)) k) dropped
      ∙ ap (λ (q : ℕ). units f s q l) (closest_same (n * 2 ^ l) (d * 2 ^ l) n d (mul-pos pd (pow_pos l)) pd (mul_right_comm n (2 ^ l) d ∙ mul_assoc n d (2 ^ l)))

  closest_le : closest n d ≤ 2 ^ prec f
  closest_le = le_trans (nearest-le (n / d) (compare (n % d * 2) d)) ((div-lt_iff_lt-mul pd).1 hi)

  units_small : closest n d * 2 ^ low f < 2 ^ (low f + suc (emax f))
  units_small = lt_of_le_of_lt (le_trans (mul-le-mul_right (2 ^ low f) closest_le) (le_of_eq (sym (pow-add 2 (prec f) (low f))))) (pow-lt (room f))

  pub landed : (s : Bool) → round f s n d ≡ round f s (closest n d) 1
  landed s =
      let q = closest n d in
      let v : HasValue (round f s n d) s q 1 = ones (round f s n d) s q (2 ^ low f) (pow_pos (low f)) (subst (λ (x : Float). HasValue x s (q * 2 ^ low f) (2 ^ low f)) (sym (in_units s)) (units_val f s q (low f) units_small)) in
      whole_unique f (round f s n d) (round f s q 1) s q (round-fits f s n d) (round-fits f s q 1) v (round_whole f s q closest_le)

  none_left : n % d ≡ 0 → closest n d ≡ n / d
  none_left h = rw (h, none d pd)
    where
      none : (d : ℕ) → 0 < d → compare 0 d ≡ Ordering.lt
      none zero p = absurd (lt_irrefl 0 p)
      none (suc c) p = compare.zero-suc c

  pub landed_next : Next n d (closest n d)
  landed_next = go (eqb (n % d) 0) refl
    where
      go : (b : Bool) → eqb (n % d) 0 ≡ b → Next n d (closest n d)
      go true e =
          let z = eqb-true (n % d) 0 e in
          rw (none_left z) (lt-div-mul-add pd, omega (arith, div-add-mod' n d))
      go false e =
          let z : 0 < n % d = pos_of_ne-zero (eqb-false (n % d) 0 e) in
          let a : n / d * d ≤ closest n d * d = mul-le-mul_right d (nearest-ge (n / d) (compare (n % d * 2) d)) in
          let b : closest n d * d ≤ suc (n / d) * d = mul-le-mul_right d (nearest-le (n / d) (compare (n % d * 2) d)) in
          let u : n < n / d * d + d = lt-div-mul-add pd in
          (omega arith, omega (arith, div-add-mod' n d, suc-mul (n / d) d))

  pub landed_ge : 2 ^ (prec f - 1) ≤ closest n d
  landed_ge = le_trans ((le-div_iff_mul-le pd).1 lo) (nearest-ge (n / d) (compare (n % d * 2) d))
