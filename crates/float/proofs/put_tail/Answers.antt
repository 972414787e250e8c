use Rattle.std.proofs.Common.{length, sym, ◌∙◌}
use borrow.Author.Tests.{eqb-true, eqb-false}
use Rattle.float.proofs.Lists.{tail_none, tail_put}
use Rattle.float.proofs.put_tail.Goals as goal

pub returns-then-is_empty : goal.returns-then-is_empty
returns-then-is_empty c =
    tail_none c.args.t.places c.args.t.decimals c.args.tail.now (eqb-true (length c.args.tail.now) 0 (sym c.is_empty.ensures ∙ c.if-is_empty.true)) c.requires

pub returns : goal.returns
returns c =
    let t = c.t.inside in
    rw (← c.t.view_is) (tail_put t.places t.decimals c.args.tail.now c.put_last_digits.new.out c.fill.new.self (eqb-false (length c.args.tail.now) 0 (sym c.is_empty.ensures ∙ c.if-is_empty.false)) (rw (← c.t.view_is) at c.requires) c.t.invariant.1 c.put_last_digits.ensures.digits (c.fill.ensures.after (λ y h. h)))
