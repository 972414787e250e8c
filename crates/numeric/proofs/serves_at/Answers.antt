-- `numeric::serves_at` what the search leaves.
use native.Mathlib.Omega.{arith}
use Rattle.numeric.proofs.Steps.{step_pos, step_top}
use Rattle.numeric.proofs.serves_at.Goals as goal

pub overflow_sub-n : goal.overflow_sub-n
overflow_sub-n c = omega (arith, step_pos c.args.k c.requires.k_bound)

pub overflow_add-n : goal.overflow_add-n
overflow_add-n c = omega (arith, step_top c.args.k c.requires.k_bound)

pub nonzero_div-n : goal.nonzero_div-n
nonzero_div-n c = omega (arith, step_pos c.args.k c.requires.k_bound)
