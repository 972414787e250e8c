-- `real::as_f64` what the search leaves: with 2^31 added, d is not negative and fits a u32.
use mathlib.Core.Path.{ap, ◌∙◌}
use Prim.Native.Nat.{suc}
use native.Mathlib.Omega.{arith}
use lib.Dec.{T}
use lib.IntN.{ℤ, pos, negsuc, nat_abs, ◌+ℤ◌, ◌-ℤ◌, +ℤ-neg_ℤ_cancel}
use lib.Signed.{non_neg, pos-nat_abs}
use lib.Ieee.{binary64, of_int}
use mir.Syntax.{w32, w64}
use mir.Val.{SFits}
use mir.Facts.{to_z-of_z, sfits_widen}
use Rattle.ranged1d.proofs.Whole.{sub_cases, fits64}
use Rattle.real.proofs.Exact.{Low, low-less}
use Rattle.real.proofs.as_f64.Lts as lts
use Rattle.real.proofs.as_f64.Reads as reads
use Rattle.real.proofs.as_f64.Tie as tie
use Rattle.real.proofs.as_f64.Goals as goal

abbrev at-Start : Type 0
at-Start = lts.Start tie.the-claims reads.Pre reads.Post

raised : (d : ℤ) → SFits w32 d → T (non_neg (d +ℤ pos 2147483648)) × Low (nat_abs (d +ℤ pos 2147483648))
raised (pos n) f = (tt, omega (arith, f.sfits))
raised (negsuc n) f = sub_cases 2147483648 (suc n) (λ z. T (non_neg z) × Low (nat_abs z)) (λ h. absurd (omega (arith, f.sfits))) (λ h. (tt, omega arith))

module _ (s : at-Start) where
  abbrev d : ℤ
  d = s.args.d

  d64 : SFits w64 d
  d64 = sfits_widen tt s.ranges.d

  sum64 : SFits w64 (d +ℤ pos 2147483648)
  sum64 = fits64 (d +ℤ pos 2147483648) (omega (arith, (raised d s.ranges.d).1))

pub returns : goal.returns
returns c =
    let s = c.before in
    let r = raised (d s) s.ranges.d in
    rw (rw (to_z-of_z s.ranges.d, to_z-of_z (d64 s), to_z-of_z (sum64 s)) at c.above_2_52.ensures)
    (low-less (nat_abs (d s +ℤ pos 2147483648)) 2147483648 r.1 (omega arith)
    ∙ ap (λ (z : ℤ). of_int binary64 (z -ℤ pos 2147483648)) (pos-nat_abs (d s +ℤ pos 2147483648) r.0)
    ∙ ap (of_int binary64) (+ℤ-neg_ℤ_cancel (d s) (pos 2147483648)))
