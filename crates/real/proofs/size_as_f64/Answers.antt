-- `real::size_as_f64` what the search leaves.
use mathlib.Core.Path.{ap, ◌∙◌}
use native.Mathlib.Omega.{arith}
use lib.IntN.{pos, +ℤ_idr}
use lib.Ieee.{binary64, of_int}
use Rattle.real.proofs.Exact.{low-less}
use Rattle.real.proofs.size_as_f64.Goals as goal

pub returns : goal.returns
returns c =
    let k = c.args.k in
    rw c.above_2_52.ensures (low-less k 0 (omega arith) (omega arith) ∙ ap (of_int binary64) (+ℤ_idr (pos k)))
