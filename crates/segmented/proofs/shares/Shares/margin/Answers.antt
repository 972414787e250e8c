-- `segmented::shares::Shares::margin` what the search leaves.
use Rattle.std.proofs.Common.{◌-ℤ◌, ◌∙◌, arith, rules, to_z-of_z, w32, SFits}
use Rattle.ranged1d.proofs.Whole.{fits32, length-near}
use Rattle.segmented.specs.Segments.{margin}
use Rattle.segmented.proofs.shares.Shares.margin.Goals as goal

pub returns : goal.returns
unfolding margin
returns c =
    let l = c.args.film.limit in
    let p : SFits w32 l.0 = search rules in
    let q : SFits w32 l.1 = search rules in
    let k : SFits w32 c.share.result = search rules in
    let d : SFits w32 (l.1 -ℤ l.0) = fits32 (l.1 -ℤ l.0) (omega (arith, length-near l c.args.film.admitted)) in
    to_z-of_z k ∙ rw (to_z-of_z q, to_z-of_z p, to_z-of_z d) at c.share.ensures
