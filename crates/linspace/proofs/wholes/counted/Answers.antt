use Rattle.std.proofs.Common.{sym, ◌∙◌}
use Rattle.linspace.proofs.WholeList.{list_is}
use Rattle.linspace.proofs.WholeRules.{count-against, count_long, count-given}
use Rattle.linspace.proofs.wholes.counted.Goals as goal

pub returns-then-leads_away : goal.returns-then-leads_away
returns-then-leads_away c = let s = c.args.s in count-against s.a s.b s.d s.admitted (sym c.leads_away.ensures ∙ c.if-leads_away.true)

pub returns-then-n-gt65536 : goal.returns-then-n-gt65536
returns-then-n-gt65536 c =
    let s = c.args.s in
    count_long s.a s.b s.d s.admitted (sym c.leads_away.ensures ∙ c.if-leads_away.false) c.count-n.result c.count-n.ensures c.if-n-gt65536.true

pub returns : goal.returns
returns c =
    let s = c.args.s in
    let on = sym c.leads_away.ensures ∙ c.if-leads_away.false in
    (count-given s.a s.b s.d s.admitted on c.count-n.result c.count-n.ensures c.if-n-gt65536.false, list_is (record { admitted = s.admitted; onward = on; count = c.count-n.ensures; few = c.if-n-gt65536.false }))
