use Rattle.std.proofs.Common.{sym, ◌∙◌}
use Rattle.linspace.proofs.Ways.{ordered_by, has_up, has_down, has_level}
use Rattle.linspace.proofs.steps.Steps.has_entries.Goals as goal

pub returns-then-is_less : goal.returns-then-is_less
returns-then-is_less g c =
    let s = c.args.self in
    let k = g.T.Number.kind in
    let e = g.met.T.Number.compared in
    rw (c.plus-c.ensures, ← e) at c.is_less-then-is_less.ensures
    ∙ has_up k (ordered_by k e g.met.T.Entry.ordered) s.a s.b s.d (sym (rw (← e) at c.is_less.ensures) ∙ c.if-is_less.true)

pub returns-then-is_less-2 : goal.returns-then-is_less-2
returns-then-is_less-2 g c =
    let s = c.args.self in
    let k = g.T.Number.kind in
    let e = g.met.T.Number.compared in
    rw (c.plus-c.ensures, ← e) at c.is_less-then-is_less-2.ensures
    ∙ has_down k (ordered_by k e g.met.T.Entry.ordered) s.a s.b s.d (sym (rw (← e) at c.is_less.ensures) ∙ c.if-is_less.false) (sym (rw (← e) at c.is_less-2.ensures) ∙ c.if-is_less-2.true)

pub returns : goal.returns
returns g c =
    let s = c.args.self in
    let k = g.T.Number.kind in
    let e = g.met.T.Number.compared in
    has_level k (ordered_by k e g.met.T.Entry.ordered) s.a s.b s.d (sym (rw (← e) at c.is_less.ensures) ∙ c.if-is_less.false) (sym (rw (← e) at c.is_less-2.ensures) ∙ c.if-is_less-2.false)
