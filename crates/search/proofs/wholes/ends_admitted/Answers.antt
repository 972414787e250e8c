use Rattle.std.proofs.Common.{◌≡◌, ◌&&◌, ◌-◌, get_or, length, pos, rules}
use Rattle.ranged1d.specs.Admitted.{whole_admitted}
use Rattle.std.proofs.Common.{sym, ◌∙◌}
use Rattle.search.proofs.Rules.{whole-ends}
use Rattle.search.proofs.wholes.ends_admitted.Goals as goal

pub returns-else-n-eq0 : goal.returns-else-n-eq0
returns-else-n-eq0 c =
    let l = c.args.list.now in
    let e : (c.whole_admitted.result && c.whole_admitted-else-n-eq0.result) ≡ (whole_admitted (get_or l 0 (pos 0)) && whole_admitted (get_or l (length l - 1) (pos 0))) = search rules in
    e ∙ sym (whole-ends l c.if-n-eq0.false c.requires)
