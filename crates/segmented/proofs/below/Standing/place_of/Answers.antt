-- `segmented::below::Standing::place_of` what the search leaves.
use Rattle.std.proofs.Common.{sym, ap, ◌∙◌, rules, w32, SFits, to_z-of_z}
use Rattle.segmented.specs.Steps.{placed_answer}
use Rattle.segmented.proofs.Rules.{placed-exact, placed_center, placed-last}
use Rattle.segmented.proofs.below.Standing.place_of.Goals as goal

pub returns-in-Exact : goal.returns-in-Exact
returns-in-Exact g c =
    let s = c.args.self in
    let limit = c.args.film.limit in
    let axis = g.A.Axis.axis s.axis in
    let find = g.A.Axis.finder s.axis c.args.way in
    c.start.ensures
    ∙ placed-exact axis find limit s.stands c.narrow-films.ensures.within_is c.in-Exact.v
    ∙ ap (λ v. placed_answer axis find v limit) (sym c.in-Exact.is)

pub returns-in-CenterOf : goal.returns-in-CenterOf
returns-in-CenterOf g c =
    let s = c.args.self in
    let limit = c.args.film.limit in
    let axis = g.A.Axis.axis s.axis in
    let find = g.A.Axis.finder s.axis c.args.way in
    (rw c.narrow-films.ensures.film_is at c.middle.ensures)
    ∙ placed_center axis find limit s.stands c.narrow-films.ensures.within_is c.in-CenterOf.v
    ∙ ap (λ v. placed_answer axis find v limit) (sym c.in-CenterOf.is)

pub returns-in-Last : goal.returns-in-Last
returns-in-Last g c =
    let s = c.args.self in
    let limit = c.args.film.limit in
    let axis = g.A.Axis.axis s.axis in
    let find = g.A.Axis.finder s.axis c.args.way in
    let fits : SFits w32 limit.1 = search rules in
    rw (to_z-of_z fits) (placed-last axis find limit ∙ ap (λ v. placed_answer axis find v limit) (sym c.in-Last.is))
