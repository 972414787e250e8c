-- `real::above_2_52` what the search leaves.
use native.Mathlib.Omega.{arith}
use Rattle.real.proofs.Exact.{low_bits, low_no_nan}
use Rattle.real.proofs.above_2_52.Goals as goal

pub float_from_bits-result : goal.float_from_bits-result
float_from_bits-result c = low_no_nan c.args.k (omega arith)

pub returns : goal.returns
returns c = low_bits c.args.k (omega arith)
