use Rattle.linspace.proofs.WholeRules.{count_sizes, count_none, count-some, step_some}
use Rattle.linspace.proofs.wholes.count.Goals as goal

pub returns-then-span-step : goal.returns-then-span-step
returns-then-span-step c =
    let s = c.args.s in
    let z = count_sizes s.a s.b s.d s.admitted c.abs_diff-span.ensures c.unsigned_abs-step.ensures.value in
    count_none s.a s.b s.d _ _ z.0 z.1 c.if-span-step.true

pub nonzero_div-result : goal.nonzero_div-result
nonzero_div-result c =
    let s = c.args.s in
    let z = count_sizes s.a s.b s.d s.admitted c.abs_diff-span.ensures c.unsigned_abs-step.ensures.value in
    step_some s.a s.b s.d c.requires _ _ z.0 z.1 c.if-span-step.false

pub returns : goal.returns
returns c =
    let s = c.args.s in
    let z = count_sizes s.a s.b s.d s.admitted c.abs_diff-span.ensures c.unsigned_abs-step.ensures.value in
    count-some s.a s.b s.d _ _ z.0 z.1 c.if-span-step.false
