use Rattle.std.proofs.Common.{sym, ◌∙◌, arith}
use Rattle.float.proofs.Cases.{trim_none, trim_more, trim_last, tenth_less}
use Rattle.float.proofs.trim.Goals as goal

pub returns-then-decimals-ne0 : goal.returns-then-decimals-ne0
returns-then-decimals-ne0 c =
    let o = c.loop-places in
    sym (trim_last c.args.minus c.args.whole o.places o.decimals (λ z. omega arith) c.if-decimals-ne0.true) ∙ o.invariant.1

pub loop-places-preserved : goal.loop-places-preserved
loop-places-preserved c =
    let o = c.loop-places in (
      tenth_less o.places o.decimals (λ z. omega arith) o.invariant.0,
      sym (trim_more c.args.minus c.args.whole o.places o.decimals (λ z. omega arith) c.if-decimals-ne0.false) ∙ o.invariant.1,
    )

pub returns : goal.returns
returns c =
    let o = c.loop-places in
    c.whole.ensures ∙ sym (trim_none c.args.minus c.args.whole o.places o.decimals (omega arith)) ∙ o.invariant.1
