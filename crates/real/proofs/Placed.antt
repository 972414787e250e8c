-- What a caller needs of places: how far from 0 they are; that a whole place is the real one behind the refusal 1; and that 5 is not met
-- where the value lies within eleven times the axis's length of its first end. Assumes nothing.
use Rattle.std.specs.Prelude.{Option, Some, None}
use mathlib.Core.Path.{◌≡◌, refl, ap}
use mathlib.Core.Bool.{Bool, true, false, not, cond, ◌&&◌}
use mathlib.Core.List.{[], ◌∷◌}
use Prim.Native.Nat.{zero, suc, ◌*◌, ◌≤◌, zero-le}
use native.Mathlib.Omega.{arith}
use lib.Dec.{lit≤}
use lib.IntN.{ℤ, pos, negsuc, nat_abs, ◌+ℤ◌, ◌-ℤ◌}
use lib.Signed.{quot_z}
use lib.Ieee.{Float, inf, binary64, neg, add, sub, eq, of_int, of_bits}
use lib.Ieee.Back.{round_whole}
use borrow.Author.Tests.{leb-true}
use Rattle.ranged1d.specs.Answer.{Answer, given, ◌when◌, lowest}
use Rattle.ranged1d.specs.Admitted.{whole_admitted, limit_admitted, ends_admitted}
use Rattle.ranged1d.specs.declared.Limit.{Limit}
use Rattle.ranged1d.proofs.Whole.{add-far, minus-far, quotient-far, length-near, some_size, no_difference}
use Rattle.rounding.specs.Within.{AtMost}
use Rattle.rounding.specs.Integral.{Way, floors, ceils}
use Rattle.rounding.proofs.Value.{Told}
use Rattle.rounding.proofs.Small.{small_neg, add_small, mul_small}
use Rattle.real.specs.Place.{farthest, milli, share, product, rising, falling, plus, or_end, along, spot, number, real_place, whole_spot, whole_place, spot_answer}
use Rattle.real.proofs.Cases.{near-limits, steps, steps_near}
use Rattle.real.proofs.Exact.{differ, whole-share}
use Rattle.real.proofs.Sizes.{small_int, small_quotient, small_told}

-- ---- a fact of the place, from what it is in each case: a whole number near 0, or p and a number of steps
thousandth : AtMost 1 milli
unfolding of_bits
thousandth = lit≤ tt

module _ (P : Option ℤ → Type 0) (limit : Limit) (h : limit_admitted limit ≡ true) (near_zero : (z : ℤ) → nat_abs z ≤ 2_000_000 → P (Some z)) where
  abbrev p : ℤ
  p = limit.0

  abbrev q : ℤ
  q = limit.1

  end_by : (t : Float) (w : Option ℤ) → P w → P (or_end p q t w)
  end_by t w x = go (eq t (inf false)) (eq t (inf true))
    where
      go : (b c : Bool) → P (cond b (Some q) (cond c (Some p) w))
      go true c = near_zero q (let n = (near-limits limit h).1 in omega arith)
      go false true = near_zero p (let n = (near-limits limit h).0 in omega arith)
      go false false = x

  along_by : (l : ℤ) (t : Float) → ((w : Way) (d : Float) → AtMost 1 d → P (plus p (steps w farthest d l t))) → P (along p q l t)
  unfolding along rising falling sub
  along_by (pos zero) t x = near_zero q (let n = (near-limits limit h).1 in omega arith)
  along_by (pos (suc n)) t x = end_by t (plus p (steps floors farthest milli (pos (suc n)) t)) (x floors milli thousandth)
  along_by (negsuc n) t x = end_by t (plus p (steps ceils farthest (neg milli) (negsuc n) t)) (x ceils (neg milli) (small_neg 1 milli thousandth))

  spot_by : (a b v : Float) → (eq a b ≡ false → (w : Way) (d : Float) → AtMost 1 d → P (plus p (steps w farthest d (q -ℤ p) (share a b v)))) → P (spot a b v limit)
  unfolding spot
  spot_by a b v x = go (eq a b) refl
    where
      go : (e : Bool) → eq a b ≡ e → P (cond e (Some (quot_z (q -ℤ p) (pos 2))) (along p q (q -ℤ p) (share a b v)))
      go true e = near_zero (quot_z (q -ℤ p) (pos 2)) (omega (arith, quotient-far (q -ℤ p) (pos 2), length-near limit h))
      go false e = along_by (q -ℤ p) (share a b v) (x e)

-- ---- how far from 0 a place can be
plus-near : (p : ℤ) (w : Option ℤ) → nat_abs p ≤ 1_000_000 → nat_abs (number w) ≤ 1_000_000_000 → nat_abs (number (plus p w)) ≤ 1_001_000_000
plus-near p (Some n) hp hn = omega (arith, add-far p n)
plus-near p None hp hn = zero-le

pub spot-near : (a b v : Float) (limit : Limit) → limit_admitted limit ≡ true → nat_abs (number (spot a b v limit)) ≤ 1_001_000_000
spot-near a b v limit h =
    spot_by (λ (w : Option ℤ). nat_abs (number w) ≤ 1_001_000_000) limit h (λ z n. omega arith) a b v
    (λ e w d s. plus-near limit.0 (steps w farthest d _ _) (near-limits limit h).0 (steps_near w farthest _ (lit≤ tt)))

-- ---- a whole place is the real place of the three numbers as floats
pub whole_is_real : (a b v : ℤ) (limit : Limit)
    → whole_place a b v limit ≡ lowest (1 when not (ends_admitted a b && whole_admitted v) ∷ []) (real_place (of_int binary64 a) (of_int binary64 b) (of_int binary64 v) limit)
unfolding whole_place real_place
whole_is_real a b v limit = refl

-- a place that the rule has is answered
pub real_answered : (a b v : Float) (limit : Limit) {z : ℤ} → limit_admitted limit ≡ true → spot a b v limit ≡ Some z → real_place a b v limit ≡ given z
unfolding real_place
real_answered a b v limit h e = rw (h, e)

pub whole_answered : (a b v : ℤ) (limit : Limit) {z : ℤ} → ends_admitted a b ≡ true → whole_admitted v ≡ true → limit_admitted limit ≡ true → whole_spot a b v limit ≡ Some z → whole_place a b v limit ≡ given z
whole_answered a b v limit ab ok h e = rw (whole_is_real a b v limit, ab, ok) (real_answered _ _ _ limit h e)

-- ---- where 5 is not met: the place is answered
pub record Placed (r : Answer ℤ) : Type 0 where
  pub at : ℤ
  pub is : r ≡ given at
  pub near : nat_abs at ≤ 23_000_001

-- a share of at most 11 leads to a whole number of at most 22,000,001
module _ (l : ℤ) (t : Float) (hl : nat_abs l ≤ 2_000_000) (ht : AtMost 11 t) where
  product_small : AtMost 22_000_000 (product l t)
  product_small =
      mul_small binary64 22_000_000 (round_whole binary64 false 22_000_000 (lit≤ tt)) 2_000_000 11 (of_int binary64 l) t (lit≤ tt) (small_int binary64 2_000_000 (lit≤ tt) l hl) ht

  steps_told : (w : Way) (d : Float) → AtMost 1 d → Told (steps w farthest d l t) 22_000_001
  steps_told w d h =
      small_told w farthest 22_000_001 (add binary64 (product l t) d) (lit≤ tt)
      (add_small binary64 22_000_001 (round_whole binary64 false 22_000_001 (lit≤ tt)) 22_000_000 1 (product l t) d (lit≤ tt) product_small h)

plus_told : (p : ℤ) (w : Option ℤ) → nat_abs p ≤ 1_000_000 → Told w 22_000_001 → Told (plus p w) 23_000_001
plus_told p w hp n = (p +ℤ n.0, ap (plus p) n.1, omega (arith, add-far p n.0, n.2))

answered_at : (w : Option ℤ) → Told w 23_000_001 → Placed (spot_answer w)
answered_at w n = record { at = n.0; is = ap spot_answer n.1; near = n.2 }

-- whole ends, which may be equal; if they are not, the value is at most eleven times their distance from the first
pub placed : (a b v : ℤ) (limit : Limit) → limit_admitted limit ≡ true → nat_abs a ≤ 1_000_000_000 → nat_abs b ≤ 1_000_000_000 → nat_abs v ≤ 2_000_000_000
    → ((a ≡ b → ⊥) → nat_abs (v -ℤ a) ≤ 11 * nat_abs (b -ℤ a)) → Placed (real_place (of_int binary64 a) (of_int binary64 b) (of_int binary64 v) limit)
unfolding real_place
placed a b v limit h ha hb hv far =
    rw h (answered_at (spot fa fb fv limit) (spot_by (λ (w : Option ℤ). Told w 23_000_001) limit h (λ z n. (z, refl, omega arith)) fa fb fv step))
  where
    fa : Float
    fa = of_int binary64 a

    fb : Float
    fb = of_int binary64 b

    fv : Float
    fv = of_int binary64 v

    share_small : eq fa fb ≡ false → AtMost 11 (share fa fb fv)
    share_small e =
        let n : a ≡ b → ⊥ = differ a b (omega arith) e in
        rw (whole-share a b v (omega arith) (omega arith) (omega arith))
        (small_quotient binary64 11 (lit≤ tt) (v -ℤ a) (b -ℤ a) (omega (arith, minus-far v a)) (omega (arith, minus-far b a)) (some_size (b -ℤ a) (λ z. n (no_difference a b z))) (far n))

    step : eq fa fb ≡ false → (w : Way) (d : Float) → AtMost 1 d → Told (plus limit.0 (steps w farthest d (limit.1 -ℤ limit.0) (share fa fb fv))) 23_000_001
    step e w d s =
        let n = near-limits limit h in
        plus_told limit.0 _ n.0 (steps_told (limit.1 -ℤ limit.0) (share fa fb fv) (omega (arith, minus-far limit.1 limit.0, n.0, n.1)) (share_small e) w d s)

-- the same on a whole axis that admits the value
pub whole-placed : (a b v : ℤ) (limit : Limit) → limit_admitted limit ≡ true → whole_admitted a ≡ true → whole_admitted b ≡ true → whole_admitted v ≡ true
    → ((a ≡ b → ⊥) → nat_abs (v -ℤ a) ≤ 11 * nat_abs (b -ℤ a)) → Placed (whole_place a b v limit)
whole-placed a b v limit h ha hb hv far =
    rw (whole_is_real a b v limit, ha, hb, hv) (placed a b v limit h (leb-true _ _ ha) (leb-true _ _ hb) (omega (arith, leb-true (nat_abs v) 1_000_000_000 hv)) far)

-- ends that are equal: the place is half of L, whatever the value
pub placed-level : (a b v : Float) (limit : Limit) → limit_admitted limit ≡ true → eq a b ≡ true → real_place a b v limit ≡ given (quot_z (limit.1 -ℤ limit.0) (pos 2))
unfolding real_place spot
placed-level a b v limit h e = rw (h, e)
