use Rattle.std.proofs.Common.{◌≡◌, sym, ◌∙◌, length, rules, arith, to_z-of_z}
use lib.IntN.{◌-ℤ◌}
use mir.Syntax.{w32}
use mir.Val.{SFits}
use Rattle.ranged1d.proofs.Whole.{fits32}
use Rattle.discrete.proofs.Within.{distances}
use Rattle.linspace.specs.List.{real, stepped}
use Rattle.linspace.specs.RealSteps.{Shares}
use Rattle.linspace.proofs.Axis.{stepped-total}
use Rattle.linspace.proofs.Counts.{reading_told}
use Rattle.linspace.proofs.reals.Walk.reading.Goals as goal

pub returns : goal.returns
returns c =
    let s = c.args.self.s in
    let x = c.args.x in
    let p = c.args.limit.0 in
    let q = c.args.limit.1 in
    let far = distances x c.args.limit c.requires in
    let p_fits : SFits w32 p = search rules in
    let q_fits : SFits w32 q = search rules in
    let d_fits : SFits w32 (x -ℤ p) = fits32 _ (omega (arith, far.0)) in
    let w_fits : SFits w32 (q -ℤ p) = fits32 _ (omega (arith, far.1)) in
    let shared : Shares (x -ℤ p) (q -ℤ p) c.share.result = rw (to_z-of_z c.ranges.x, to_z-of_z p_fits, to_z-of_z q_fits, to_z-of_z d_fits, to_z-of_z w_fits) at c.share.ensures in
    let r = c.walk_both-both.ensures in
    let count : c.walk_both-both.result.n ≡ length (stepped real s.a s.b s.d) = r.counted ∙ sym (stepped-total s.a s.b s.d c.args.self.some) in
    c.told.ensures ∙ reading_told s.a s.b s.d x c.args.limit c.requires c.args.self.onward count (λ h. r.at) r.shared shared
