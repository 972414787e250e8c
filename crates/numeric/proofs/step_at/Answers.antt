use Rattle.std.proofs.Common.{◌<◌, ◌≤◌, ℕ, sym, subst}
use Rattle.numeric.proofs.Steps.{entry, step_pos, step_top}
use Rattle.numeric.proofs.step_at.Goals as goal

pub invariant_of-result-clause-some : goal.invariant_of-result-clause-some
invariant_of-result-clause-some c = subst (λ (n : ℕ). 0 < n) (sym (entry c.args.k c.requires)) (step_pos c.args.k c.requires)

pub invariant_of-result-clause-most : goal.invariant_of-result-clause-most
invariant_of-result-clause-most c = subst (λ (n : ℕ). n ≤ 1000000000) (sym (entry c.args.k c.requires)) (step_top c.args.k c.requires)

pub returns : goal.returns
returns c = entry c.args.k c.requires
