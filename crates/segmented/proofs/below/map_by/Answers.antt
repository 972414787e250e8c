-- `segmented::below::map_by` what the search leaves.
use Rattle.std.proofs.Common.{sym, ap, ◌∙◌}
use Rattle.ranged1d.specs.Answer.{refused}
use Rattle.ranged1d.proofs.Bools.{both_true}
use Rattle.segmented.specs.Segments.{fit_in}
use Rattle.ranged1d.proofs.Handed.{handed}
use Rattle.segmented.proofs.Rules.{place_unfit, place_unlimited, place-stopped, place_is}
use Rattle.segmented.proofs.below.map_by.Goals as goal

pub returns-then-not-fits : goal.returns-then-not-fits
returns-then-not-fits g c =
    place_unfit (g.A.Axis.axis c.args.axis) (g.A.Axis.finder c.args.axis c.args.way) c.args.value c.args.limit (sym c.fits.ensures ∙ c.if-not-fits.true)

pub returns-in_err-film : goal.returns-in_err-film
returns-in_err-film g c =
    let e = c.in_err-film.ensures.refused in
    handed c.from_residual.result c.in_err-film.field-0.0 c.from_residual.ensures
    ∙ ap refused e.0
    ∙ place_unlimited (g.A.Axis.axis c.args.axis) (g.A.Axis.finder c.args.axis c.args.way) c.args.value c.args.limit (sym c.fits.ensures ∙ c.if-not-fits.false) e.1

pub returns-in_err-stand : goal.returns-in_err-stand
returns-in_err-stand g c =
    let axis = g.A.Axis.axis c.args.axis in
    let fit = sym c.fits.ensures ∙ c.if-not-fits.false in
    handed c.from_residual-in_err-stand.result c.in_err-stand.field-0.0 c.from_residual-in_err-stand.ensures
    ∙ place-stopped axis (g.A.Axis.finder c.args.axis c.args.way) c.args.value c.args.limit fit (rw c.in_ok-film.ensures.limit_is at c.in_ok-film.film.admitted) (both_true axis.admitted (fit_in axis c.args.value) fit).0 c.in_err-stand.ensures.n_is

pub returns : goal.returns
returns g c =
    let axis = g.A.Axis.axis c.args.axis in
    rw (c.in_ok-stand.ensures.axis_is, c.in_ok-film.ensures.limit_is) at c.place_of.ensures
    ∙ place_is axis (g.A.Axis.finder c.args.axis c.args.way) c.args.value c.args.limit (sym c.fits.ensures ∙ c.if-not-fits.false) (rw c.in_ok-film.ensures.limit_is at c.in_ok-film.film.admitted) (rw c.in_ok-stand.ensures.axis_is at c.in_ok-stand.field-0.stands)
