-- `rounding::round_f32` what the search leaves: the f64 of x's value has the same answer.
use Rattle.std.proofs.Common.{◌≡◌, not, ◌&&◌, T, sym, ◌∙◌, subst}
use lib.Ieee.{Float, binary32, binary64, fits, is_nan}
use lib.Ieee.Fits.{and_i, fits_widens}
use Rattle.rounding.specs.Integral.{halves, round_of32}
use Rattle.rounding.proofs.Value.{stays_nan, number, integral-number, integral_fits, both_widths}
use Rattle.rounding.proofs.round_f32.Lts as lts
use Rattle.rounding.proofs.round_f32.Reads as reads
use Rattle.rounding.proofs.round_f32.Tie as tie
use Rattle.rounding.proofs.round_f32.Goals as goal

abbrev at-After-round : Type 0
at-After-round = lts.After-round tie.the-claims reads.Pre reads.Post

abbrev at-Start : Type 0
at-Start = lts.Start tie.the-claims reads.Pre reads.Post

held : (c : at-Start) → T (fits binary32 c.args.x)
held c = subst T (sym c.well_formed.0.1) tt

is : (c : at-After-round) → c.round.result ≡ round_of32 c.args.x
is c = let s = c.before.before.before in c.round.ensures ∙ both_widths halves s.args.x (held s)

pub returns-then-x : goal.returns-then-x
returns-then-x c = sym (stays_nan binary32 halves c.args.x c.if-x.true)

pub float_to_float-x : goal.float_to_float-x
float_to_float-x c =
    let x = c.args.x in
    and_i (fits binary64 x) (not (is_nan x)) (fits_widens x (held c.before.before.before)) (number x c.if-x.false)

pub float_to_float-result : goal.float_to_float-result
float_to_float-result c =
    let k = c.before in
    let s = k.before.before.before in
    let x = s.args.x in
    subst (λ (y : Float). T (fits binary32 y && not (is_nan y))) (sym (is k))
    (and_i (fits binary32 (round_of32 x)) (not (is_nan (round_of32 x))) (integral_fits binary32 halves x (held s)) (integral-number binary32 halves x s.well_formed.0.1 (number x k.if-x.false)))

pub returns : goal.returns
returns c = is c.before
