use Rattle.std.proofs.Common.{refl, sym, ap, ◌∙◌, List, ◌++◌, drop}
use lib.Ieee.{Float}
use lib.Seq.{length-take-le}
use Rattle.ranged1d.specs.Answer.{given}
use Rattle.linspace.specs.List.{real}
use Rattle.linspace.specs.RealSteps.{plus_step, sums_by}
use Rattle.linspace.proofs.Rules.{values-short}
use Rattle.linspace.proofs.Counts.{values-written}
use Rattle.linspace.proofs.reals.put_values.Goals as goal

pub returns-then-out-n : goal.returns-then-out-n
returns-then-out-n c =
    let s = c.args.sums.s in
    values-short real s.a s.b s.d refl c.args.out.now c.requires c.if-out-n.true

pub returns : goal.returns
returns c =
    let s = c.args.sums.s in
    ap (λ (l : List Float). (given c.args.n, l ++ drop c.args.n c.args.out.now)) (c.put_all.ensures ∙ ap (sums_by (plus_step s.d) 1 s.a) (length-take-le c.args.n c.args.out.now c.if-out-n.false))
    ∙ sym (values-written s.a s.b s.d c.args.out.now c.requires c.if-out-n.false)
