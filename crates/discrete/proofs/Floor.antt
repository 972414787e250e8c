-- `floor_div` is the floor of the exact quotient: where w is above 0, z is `floor_div z w` times w, and a rest from 0 on and below w;
-- where w is below 0, the floor is that of −z by −w. Raised to 0, it is the quotient cut toward zero. Assumes nothing.
use mathlib.Core.Path.{◌≡◌, refl, sym, ap}
use Prim.Native.Nat.{ℕ, zero, suc, ◌+◌, ◌-◌, ◌*◌, ◌/◌, ◌%◌, ◌<◌}
use native.Mathlib.Nat.{zero-div, suc-mul, div-add-mod', mod-lt}
use native.Mathlib.Omega.{arith}
use lib.IntN.{ℤ, pos, negsuc, neg_ℤ, ◌+ℤ◌, ◌*ℤ◌}
use lib.Signed.{quot_z}
use Rattle.ranged1d.specs.Numbers.{raised}
use Rattle.ranged1d.proofs.Whole.{sub_cases}
use Rattle.discrete.specs.Index.{floor_div}

less-rest : (m r a : ℕ) → m ≡ suc a + r → negsuc a ≡ neg_ℤ (pos m) +ℤ pos r
less-rest zero r a e = absurd (omega arith)
less-rest (suc m) r a e = sub_cases r (suc m) (λ z. negsuc a ≡ z) (λ h. ap negsuc (omega arith)) (λ h. absurd (omega arith))

pub floor-rest : (z : ℤ) (w : ℕ) → 0 < w → (r : ℕ) × (r < w) × (z ≡ floor_div z (pos w) *ℤ pos w +ℤ pos r)
unfolding floor_div
floor-rest (pos a) w h = (a % w, mod-lt a h, ap pos (sym (div-add-mod' a w)))
floor-rest (negsuc a) w h =
    let below = mod-lt a h in
    (w - suc (a % w), omega arith, less-rest (suc (a / w) * w) (w - suc (a % w)) a (omega (arith, suc-mul (a / w) w, div-add-mod' a w)))

pub floor-negated : (z : ℤ) (w : ℕ) → floor_div z (negsuc w) ≡ floor_div (neg_ℤ z) (pos (suc w))
unfolding floor_div
floor-negated (pos zero) w = ap pos (sym (zero-div (suc w)))
floor-negated (pos (suc a)) w = refl
floor-negated (negsuc a) w = refl

raised-neg : (n : ℕ) → raised (neg_ℤ (pos n)) ≡ 0
raised-neg zero = refl
raised-neg (suc n) = refl

pub cut-raised : (z w : ℤ) → raised (quot_z z w) ≡ raised (floor_div z w)
unfolding floor_div
cut-raised (pos a) (pos b) = refl
cut-raised (negsuc a) (pos b) = raised-neg (suc a / b)
cut-raised (pos zero) (negsuc b) = raised-neg (0 / suc b)
cut-raised (pos (suc a)) (negsuc b) = raised-neg (suc a / suc b)
cut-raised (negsuc a) (negsuc b) = refl
