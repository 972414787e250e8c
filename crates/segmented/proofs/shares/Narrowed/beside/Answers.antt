-- `segmented::shares::Narrowed::beside` what the search leaves.
use Rattle.std.proofs.Common.{◌≤◌, pos, ◌+ℤ◌, ◌-ℤ◌, nat_abs, arith, rules, to_z-of_z, w32, SFits}
use Rattle.ranged1d.proofs.Whole.{minus-far, quotient-far, fits32}
use Rattle.real.proofs.Cases.{near-limits}
use Rattle.segmented.specs.Segments.{half}
use Rattle.segmented.proofs.Margin.{sum_fits, half_fits}
use Rattle.segmented.proofs.shares.Narrowed.beside.Goals as goal

pub returns : goal.returns
returns c =
    let s = c.args.self.now in
    let q = s.film.limit.1 in
    let e = s.within.limit.1 in
    let near : nat_abs (q -ℤ e) ≤ 2_000_000 = omega (arith, minus-far q e, (near-limits s.film.limit s.film.admitted).1, (near-limits s.within.limit s.within.admitted).1) in
    let q-fits : SFits w32 q = search rules in
    let e-fits : SFits w32 e = search rules in
    let moved : SFits w32 (q -ℤ e) = fits32 (q -ℤ e) (omega (arith, near)) in
    let size : SFits w32 (half (q -ℤ e)) = half_fits (q -ℤ e) (omega (arith, near)) in
    let end : SFits w32 (c.args.left +ℤ half (q -ℤ e)) = sum_fits c.args.left (half (q -ℤ e)) c.requires (omega (arith, quotient-far (q -ℤ e) (pos 2), near)) in
    rw (to_z-of_z c.ranges.left, to_z-of_z q-fits, to_z-of_z e-fits, to_z-of_z moved, to_z-of_z size, to_z-of_z end)
