-- `segmented::shares::Shares::narrow` what the search leaves.
use Rattle.std.proofs.Common.{◌-ℤ◌, arith, rules, to_z-of_z, w32, SFits}
use Rattle.ranged1d.proofs.Whole.{fits32}
use Rattle.real.proofs.Cases.{near-limits}
use Rattle.segmented.specs.Segments.{margin, narrowed}
use Rattle.segmented.proofs.Margin.{narrowed-admitted}
use Rattle.segmented.proofs.shares.Shares.narrow.Goals as goal

pub overflow_sub-limit : goal.overflow_sub-limit
overflow_sub-limit c =
    let l = c.args.film.limit in
    let s = c.args.self in
    let h = near-limits (narrowed s.n l) (narrowed-admitted s.n l c.args.film.admitted s.some s.most) in
    let q : SFits w32 l.1 = search rules in
    let k : SFits w32 c.margin.result = search rules in
    rw (to_z-of_z q, to_z-of_z k, c.margin.ensures) (fits32 (l.1 -ℤ margin s.n l) (omega (arith, h.1)))

pub invariant_of-within : goal.invariant_of-within
invariant_of-within c =
    let l = c.args.film.limit in
    let s = c.args.self in
    let ok = narrowed-admitted s.n l c.args.film.admitted s.some s.most in
    let p : SFits w32 l.0 = search rules in
    let q : SFits w32 l.1 = search rules in
    let k : SFits w32 c.margin.result = search rules in
    let e : SFits w32 (l.1 -ℤ margin s.n l) = fits32 (l.1 -ℤ margin s.n l) (omega (arith, (near-limits (narrowed s.n l) ok).1)) in
    record { admitted = rw (to_z-of_z p, to_z-of_z q, to_z-of_z k, c.margin.ensures, to_z-of_z e) ok }
