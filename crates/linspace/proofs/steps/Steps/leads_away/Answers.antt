use Rattle.std.proofs.Common.{sym, ◌∙◌}
use Rattle.linspace.proofs.Ways.{ordered_by, against-up, against-down, against-level}
use Rattle.linspace.proofs.steps.Steps.leads_away.Goals as goal

pub returns-then-is_less : goal.returns-then-is_less
returns-then-is_less g c =
    let s = c.args.self in
    let k = g.T.Number.kind in
    let e = g.met.T.Number.compared in
    rw (c.zero.ensures, ← e) at c.at_most.ensures
    ∙ against-up k (ordered_by k e g.met.T.Entry.ordered) s.a s.b s.d (sym (rw (← e) at c.is_less.ensures) ∙ c.if-is_less.true)

pub returns-then-is_less-2 : goal.returns-then-is_less-2
returns-then-is_less-2 g c =
    let s = c.args.self in
    let k = g.T.Number.kind in
    let e = g.met.T.Number.compared in
    rw (c.zero-then-is_less-2.ensures, ← e) at c.at_most-then-is_less-2.ensures
    ∙ against-down k (ordered_by k e g.met.T.Entry.ordered) s.a s.b s.d (sym (rw (← e) at c.is_less.ensures) ∙ c.if-is_less.false) (sym (rw (← e) at c.is_less-2.ensures) ∙ c.if-is_less-2.true)

pub returns : goal.returns
returns g c =
    let s = c.args.self in
    let k = g.T.Number.kind in
    let e = g.met.T.Number.compared in
    against-level k (ordered_by k e g.met.T.Entry.ordered) s.a s.b s.d (sym (rw (← e) at c.is_less.ensures) ∙ c.if-is_less.false) (sym (rw (← e) at c.is_less-2.ensures) ∙ c.if-is_less-2.false)
