-- `ruler::Draft::plan` what the search leaves.
use Rattle.std.proofs.Common.{sym, ◌∙◌, rules, to_z-of_z, w32, SFits}
use Rattle.numeric.proofs.Inside.{plan_by_lem}
use Rattle.ruler.specs.Rule.{ruler_plan_by}
use Rattle.ruler.proofs.Draft.plan.Goals as goal

pub returns-then-not-admitted : goal.returns-then-not-admitted
unfolding ruler_plan_by
returns-then-not-admitted c =
    let a : SFits w32 c.args.self.a = search rules in
    let b : SFits w32 c.args.self.b = search rules in
    rw (sym (rw (to_z-of_z a, to_z-of_z b) at c.admitted.ensures) ∙ c.if-not-admitted.true)

pub returns-then-not-admitted-2 : goal.returns-then-not-admitted-2
unfolding ruler_plan_by
returns-then-not-admitted-2 c =
    let a : SFits w32 c.args.self.a = search rules in
    let b : SFits w32 c.args.self.b = search rules in
    let ends = sym (rw (to_z-of_z a, to_z-of_z b) at c.admitted.ensures) ∙ c.if-not-admitted.false in
    let film = sym c.admitted-2.ensures ∙ c.if-not-admitted-2.true in
    rw (ends, film)

pub returns : goal.returns
unfolding ruler_plan_by
returns c =
    let d = c.args.self in
    let a : SFits w32 d.a = search rules in
    let b : SFits w32 d.b = search rules in
    let ends = sym (rw (to_z-of_z a, to_z-of_z b) at c.admitted.ensures) ∙ c.if-not-admitted.false in
    let film = sym c.admitted-2.ensures ∙ c.if-not-admitted-2.false in
    let told = (rw (to_z-of_z a, to_z-of_z b) at c.plan_by.ensures) ∙ plan_by_lem d.choice d.a d.b d.m in
    rw (ends, film) (rw ends at told)
