-- The ceiling within a bound, by the floor of the negated number: what fits, and what the code gives. Assumes nothing.
use Rattle.std.specs.Prelude.{Some, None}
use Rattle.std.proofs.Common.{◌≡◌, ◌^◌, ◌≤◌, ◌<◌, ℕ, ℤ, pos, ◌-ℤ◌, neg_ℤ, nat_abs, sym, ap, ◌∙◌, subst, arith, lit<, to_z-of_z, w64, SFits, to_z, of_z}
use lib.IntN.{+ℤ_idl}
use lib.Ieee.{Float, neg}
use Rattle.ranged1d.proofs.Whole.{fits_abs, zero_minus_far}
use Rattle.rounding.specs.Integral.{floors, ceils}
use Rattle.rounding.specs.Within.{within}
use Rattle.rounding.proofs.Bounds.{Held, within_held}
use Rattle.rounding.proofs.Signs.{negated, within-turned}

near : (b : ℕ) (y : Float) (z : ℤ) → b < 2 ^ 32 → Some z ≡ within floors b y → nat_abs z < 2 ^ 32
near b y z h e =
    let held : nat_abs z ≤ b = subst (Held b) (sym e) (within_held floors b y) in
    omega (arith, held)

fits : (b : ℕ) (y : Float) (z : ℤ) → b < 2 ^ 32 → Some z ≡ within floors b y → SFits w64 z
fits b y z h e = fits_abs w64 z (2 ^ 32) (omega (arith, near b y z h e)) (lit< tt)

fits_minus : (b : ℕ) (y : Float) (z : ℤ) → b < 2 ^ 32 → Some z ≡ within floors b y → SFits w64 (pos 0 -ℤ z)
fits_minus b y z h e = fits_abs w64 (pos 0 -ℤ z) (2 ^ 32) (rw (zero_minus_far z) (omega (arith, near b y z h e))) (lit< tt)

pub minus_fits : (b : ℕ) (y : Float) (z : ℤ) → b < 2 ^ 32 → Some z ≡ within floors b y → SFits w64 (pos 0 -ℤ to_z w64 (of_z w64 z))
minus_fits b y z h e = rw (to_z-of_z (fits b y z h e)) (fits_minus b y z h e)

pub turned_none : (b : ℕ) (x : Float) → None ≡ within floors b (neg x) → None ≡ within ceils b x
turned_none b x e = ap negated e ∙ sym (within-turned floors b x)

pub turned_some : (b : ℕ) (x : Float) (z : ℤ) → b < 2 ^ 32 → Some z ≡ within floors b (neg x) → Some (to_z w64 (of_z w64 (pos 0 -ℤ to_z w64 (of_z w64 z)))) ≡ within ceils b x
turned_some b x z h e = rw (to_z-of_z (fits b _ z h e), to_z-of_z (fits_minus b _ z h e), within-turned floors b x, sym e, +ℤ_idl (neg_ℤ z))
