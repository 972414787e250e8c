-- A whole number within a bound: what the code's two tests say. Assumes nothing.
use Rattle.std.specs.Prelude.{Option, Some, None}
use Rattle.std.proofs.Common.{◌≡◌, ℕ, ◌≤◌, Bool, true, false, cond, leb, ℤ, nat_abs, refl, zero-le, le-leb, leb-true}
use lib.Ieee.{Float, nan, inf, fin}
use Rattle.rounding.specs.Integral.{Way}
use Rattle.rounding.specs.Within.{kept, whole_of, within}

-- ---- `kept`
pub kept_in : (b : ℕ) (z : ℤ) → nat_abs z ≤ b → kept b z ≡ Some z
kept_in b z h = rw (le-leb (nat_abs z) b h)

-- a number that was kept is within the bound
abbrev pub Held : ℕ → Option ℤ → Type 0
Held b (Some z) = nat_abs z ≤ b
Held b None = Unit {0}

pub kept_held : (b : ℕ) (z : ℤ) → Held b (kept b z)
kept_held b z = go (leb (nat_abs z) b) refl
  where
    go : (t : Bool) → leb (nat_abs z) b ≡ t → Held b (cond t (Some z) None)
    go true h = leb-true (nat_abs z) b h
    go false h = tt

pub within_held : (w : Way) (b : ℕ) (x : Float) → Held b (within w b x)
unfolding within
within_held w b nan = zero-le
within_held w b (inf s) = tt
within_held w b (fin s m e) = kept_held b (whole_of w (fin s m e))
