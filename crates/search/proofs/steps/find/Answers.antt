use Rattle.std.proofs.Common.{◌∙◌}
use Rattle.search.proofs.Rules.{found, searched_ascends}
use Rattle.search.proofs.steps.find.Goals as goal

pub position-i-requires : goal.position-i-requires
position-i-requires g c = searched_ascends g.T.Entry.numbers g.met.T.Entry.ordered c.args.list.now c.args.rises c.requires.rises_value c.requires.list_value

pub returns : goal.returns
returns g c =
    let n = g.T.Entry.numbers in
    let o = g.met.T.Entry.ordered in
    let l = c.args.list.now in
    c.settle.ensures
    ∙ found n o c.args.rises l c.args.t c.args.method c.position-i.result c.entry_before-x.result c.entry_or-y.result c.requires.rises_value c.requires.list_value c.requires.t_value c.position-i.ensures c.entry_before-x.ensures c.entry_or-y.ensures
