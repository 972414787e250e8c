-- `segmented::below::Segment::middle` what the search leaves.
use Rattle.std.proofs.Common.{sym, ap, ◌∙◌, refl, rules, w32, SFits, to_z-of_z}
use Rattle.ranged1d.proofs.Handed.{handed}
use Rattle.segmented.proofs.Rules.{after_is, after_next, middle_of}
use Rattle.segmented.proofs.below.Segment.middle.Goals as goal

pub returns-in_err-left : goal.returns-in_err-left
returns-in_err-left g c =
    let s = c.args.self in
    let films = c.args.films.now in
    handed c.from_residual.result c.in_err-left.field-0.0 c.from_residual.ensures
    ∙ middle_of (g.A.Axis.axis s.all.axis) (g.A.Axis.finder s.all.axis c.args.way) s.v films.film.limit films.within.limit c.in_err-left.ensures refl

pub returns-in_err-next : goal.returns-in_err-next
returns-in_err-next g c =
    let s = c.args.self in
    let films = c.args.films.now in
    let axis = g.A.Axis.axis s.all.axis in
    let find = g.A.Axis.finder s.all.axis c.args.way in
    handed c.from_residual-in_err-next.result c.in_err-next.field-0.0 c.from_residual-in_err-next.ensures
    ∙ middle_of axis find s.v films.film.limit films.within.limit c.in_ok-left.ensures (after_is axis find s.v films.within.limit c.in_err-next.ensures.value_is)

pub returns-in_default : goal.returns-in_default
returns-in_default g c =
    let s = c.args.self in
    let films = c.args.films.now in
    let axis = g.A.Axis.axis s.all.axis in
    let find = g.A.Axis.finder s.all.axis c.args.way in
    let left-fits : SFits w32 c.in_ok-left.left = search rules in
    let fits : SFits w32 c.beside.result = search rules in
    rw (to_z-of_z fits, c.beside.ensures, to_z-of_z left-fits)
    (middle_of axis find s.v films.film.limit films.within.limit c.in_ok-left.ensures (after_is axis find s.v films.within.limit (rw c.in_default.is at c.in_ok-next.ensures.value_is)))

pub returns-in_err-right : goal.returns-in_err-right
returns-in_err-right g c =
    let s = c.args.self in
    let films = c.args.films.now in
    let axis = g.A.Axis.axis s.all.axis in
    let find = g.A.Axis.finder s.all.axis c.args.way in
    let next = rw c.in-Some.is at c.in_ok-next.ensures in
    handed c.from_residual-in_err-right.result c.in_err-right.field-0.0 c.from_residual-in_err-right.ensures
    ∙ middle_of axis find s.v films.film.limit films.within.limit c.in_ok-left.ensures (after_next axis find s.v films.within.limit next.value_is (ap (λ x. g.A.Axis.axis x) next.axis_is) c.in_err-right.ensures)

pub between-requires-clause-left_bound : goal.between-requires-clause-left_bound
between-requires-clause-left_bound g c =
    let s = c.args.self in
    let within = c.args.films.now.within in
    let fits : SFits w32 c.in_ok-left.left = search rules in
    rw (to_z-of_z fits) ((g.met.A.Axis.regular s.all.axis).near s.v within.limit within.admitted c.in_ok-left.left (sym c.in_ok-left.ensures))

pub between-requires-clause-right_bound : goal.between-requires-clause-right_bound
between-requires-clause-right_bound g c =
    let s = c.in-Some.next in
    let within = c.args.films.now.within in
    let fits : SFits w32 c.in_ok-right.right = search rules in
    rw (to_z-of_z fits) ((g.met.A.Axis.regular s.all.axis).near s.v within.limit within.admitted c.in_ok-right.right (sym c.in_ok-right.ensures))

pub returns : goal.returns
returns g c =
    let s = c.args.self in
    let films = c.args.films.now in
    let axis = g.A.Axis.axis s.all.axis in
    let find = g.A.Axis.finder s.all.axis c.args.way in
    let next = rw c.in-Some.is at c.in_ok-next.ensures in
    let left-fits : SFits w32 c.in_ok-left.left = search rules in
    let right-fits : SFits w32 c.in_ok-right.right = search rules in
    let fits : SFits w32 c.between.result = search rules in
    rw (to_z-of_z fits, c.between.ensures, to_z-of_z left-fits, to_z-of_z right-fits)
    (middle_of axis find s.v films.film.limit films.within.limit c.in_ok-left.ensures (after_next axis find s.v films.within.limit next.value_is (ap (λ x. g.A.Axis.axis x) next.axis_is) c.in_ok-right.ensures))
