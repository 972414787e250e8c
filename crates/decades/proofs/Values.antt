-- The double with the bits b is `value b` ÷ 2 ^ 1074; and each power of the table is the double nearest to its power of ten. Assumes nothing.
use mathlib.Core.Path.{◌≡◌, refl, sym, subst}
use mathlib.Core.Bool.{Bool, true, false, cond, true≢false}
use Prim.Native.Nat.{ℕ, zero, suc, ◌+◌, ◌-◌, ◌/◌, ◌%◌, ◌^◌, ◌≤◌, ◌<◌}
use native.Mathlib.Nat.{mul-one, mod-eq_of_lt, one-le-pow}
use native.Mathlib.Omega.{arith}
use borrow.Author.Tests.{lt-leb, le-leb, ne_eqb, ltb-true, ltb-false}
use lib.Dec.{T, ltb, eqb}
use lib.IntN.{ℤ}
use lib.Ieee.{Float, nan, inf, fin, binary64, odd, of_fields, of_bits, to_bits, fits}
use lib.Ieee.Bits.{of_bits-to_bits}
use lib.Ieee.Exact.{HasValue, odd_sign}
use Rattle.decades.specs.Powers.{power, over, under}
use Rattle.decades.specs.Nearest.{scaled, value, Nearest}
use Rattle.decades.proofs.Table.{infinite, nearest, bits_finite, power_fits}
use Rattle.decades.proofs.Near.{nearest_of_all}

fields_value : (x t : ℕ) → x < 2047 → HasValue (of_fields binary64 false x t) false (scaled x t) (2 ^ 1074)
unfolding of_fields
fields_value zero t h = subst (λ (q : ℕ). HasValue (odd 53 false t 0 1074) false q (2 ^ 1074)) (mul-one t) (odd_sign 53 false t 0 1074)
fields_value (suc x) t h = rw (ne_eqb (suc x) 2047 (λ e. omega (arith, e, h))) (odd_sign 53 false (2 ^ 52 + t) x 1074)

pub bits-value : (b : ℕ) → b < infinite → HasValue (of_bits binary64 b) false (value b) (2 ^ 1074)
unfolding of_bits value
bits-value b h =
    let l : b < 0x8000_0000_0000_0000 = omega arith in
    rw (lt-leb 0x8000_0000_0000_0000 b l, mod-eq_of_lt l) (fields_value (b / 2 ^ 52) (b % 2 ^ 52) (omega arith))

-- ---- every double that is finite and not negative has such bits, so that `value` speaks of all of them
abbrev NotFinite : Float → Type 0
NotFinite nan = Unit {0}
NotFinite (inf s) = Unit {0}
NotFinite (fin s m e) = ⊥

abbrev Negative : Float → Type 0
Negative nan = Unit {0}
Negative (inf s) = Unit {0}
Negative (fin s m e) = s ≡ true

top_field : (t : ℕ) → NotFinite (of_fields binary64 false 2047 t)
unfolding of_fields
top_field t = go (eqb t 0)
  where
    go : (b : Bool) → NotFinite (cond b (inf false) nan)
    go true = tt
    go false = tt

odd_negative : (q k : ℕ) → Negative (odd 53 true q k 1074)
unfolding odd
odd_negative zero k = refl
odd_negative (suc q) k = refl

signed_negative : (x t : ℕ) → Negative (of_fields binary64 true x t)
unfolding of_fields
signed_negative zero t = odd_negative t 0
signed_negative (suc x) t = go (eqb (suc x) 2047) (eqb t 0)
  where
    go : (b d : Bool) → Negative (cond b (cond d (inf true) nan) (odd 53 true (2 ^ 52 + t) x 1074))
    go true true = tt
    go true false = tt
    go false d = odd_negative (2 ^ 52 + t) x

from_infinity : (c : ℕ) → infinite ≤ c → c < 0x8000_0000_0000_0000 → NotFinite (of_bits binary64 c)
unfolding of_bits
from_infinity c h l =
    let q : c / 2 ^ 52 ≡ 2047 = omega arith in
    rw (lt-leb 0x8000_0000_0000_0000 c l, mod-eq_of_lt l, q) (top_field (c % 2 ^ 52))

with_sign : (c : ℕ) → 0x8000_0000_0000_0000 ≤ c → Negative (of_bits binary64 c)
unfolding of_bits
with_sign c h = rw (le-leb 0x8000_0000_0000_0000 c h) (signed_negative (c % 0x8000_0000_0000_0000 / 2 ^ 52) (c % 2 ^ 52))

module _ (m : ℕ) (e : ℤ) (f : T (fits binary64 (fin false m e))) where
  abbrev bits : ℕ
  bits = to_bits binary64 (fin false m e)

  back : of_bits binary64 bits ≡ fin false m e
  back = of_bits-to_bits binary64 (fin false m e) f

  bits_below : bits < infinite
  bits_below = go (ltb bits infinite) refl (ltb bits 0x8000_0000_0000_0000) refl
    where
      go : (s : Bool) → ltb bits infinite ≡ s → (t : Bool) → ltb bits 0x8000_0000_0000_0000 ≡ t → bits < infinite
      go true h t k = ltb-true bits infinite h
      go false h true k = absurd (subst NotFinite back (from_infinity bits (ltb-false bits infinite h) (ltb-true bits 0x8000_0000_0000_0000 k)))
      go false h false k = absurd (true≢false (sym (subst Negative back (with_sign bits (ltb-false bits 0x8000_0000_0000_0000 k)))))

  pub double-value : HasValue (fin false m e) false (value bits) (2 ^ 1074)
  double-value = subst (λ (x : Float). HasValue x false (value bits) (2 ^ 1074)) back (bits-value bits bits_below)

-- ---- 02 (d): entry k is the double nearest to 10 ^ (k − 307), ties to even
pub power-nearest : (k : ℕ) → k < 616 → Nearest (to_bits binary64 (power k)) (over k) (under k)
power-nearest k h = nearest_of_all (to_bits binary64 (power k)) (over k) (under k) (one-le-pow (307 - k) 10 (omega arith)) (nearest k h)

-- and this is its value, by which `Nearest` measures
pub power-value : (k : ℕ) → k < 616 → HasValue (power k) false (value (to_bits binary64 (power k))) (2 ^ 1074)
power-value k h =
    subst (λ (x : Float). HasValue x false (value (to_bits binary64 (power k))) (2 ^ 1074)) (of_bits-to_bits binary64 (power k) (power_fits k))
    (bits-value (to_bits binary64 (power k)) (bits_finite k h))
