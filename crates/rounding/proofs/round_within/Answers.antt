-- `rounding::round_within` what the search leaves: what was rounded is its own floor.
use Rattle.std.proofs.Common.{T, sym, ap, ◌∙◌, subst}
use lib.Ieee.{binary64, fits}
use lib.Ieee.Bits.{is_true}
use lib.Ieee.Fits.{fits_widens}
use Rattle.rounding.specs.Integral.{floors, halves, round_of}
use Rattle.rounding.specs.Within.{floor_within}
use Rattle.rounding.proofs.Value.{within-integral}
use Rattle.rounding.proofs.round_within.Goals as goal

pub returns : goal.returns
returns c =
    let s = c.before.before.before in
    let x = s.args.x in
    let b = s.args.bound in
    c.floor_within.ensures
    ∙ ap (floor_within b) (c.round.ensures ∙ ap round_of c.f32_to_f64_with_nan.ensures)
    ∙ within-integral binary64 floors halves b x (is_true (fits binary64 x) (fits_widens x (subst T (sym s.well_formed.0.1) tt)))
