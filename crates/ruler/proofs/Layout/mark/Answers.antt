-- `ruler::Layout::mark` what the search leaves: the numbers on the way fit, as those of a plan do.
use Rattle.std.proofs.Common.{◌≡◌, pos, ◌*ℤ◌, arith, rules, to_z-of_z, w32, SFits, to_z}
use mir.Facts.{to_z_pos}
use Rattle.ranged1d.proofs.Whole.{fits32}
use Rattle.numeric.specs.Calls.{element}
use Rattle.ruler.proofs.Drawn.{is_drawn}
use Rattle.ruler.proofs.Layout.mark.Goals as goal

-- what is known of mark k, and how the numbers stand there
pub overflow_cast-result : goal.overflow_cast-result
overflow_cast-result c =
    let r = (is_drawn _ _ _ _ _ c.args.self.planned).reachable c.args.k c.requires in
    fits32 (pos c.args.k) (omega (arith, r.few))

pub overflow_mul-result : goal.overflow_mul-result
overflow_mul-result c =
    let p = c.args.self.points in
    let r = (is_drawn _ _ _ _ _ c.args.self.planned).reachable c.args.k c.requires in
    let k_is : to_z w32 c.args.k ≡ pos c.args.k = to_z_pos w32 (omega (arith, r.few)) in
    let step : SFits w32 p.step = search rules in
    let product : SFits w32 (pos c.args.k *ℤ p.step) = fits32 _ r.product in
    rw (k_is, to_z-of_z step) product

pub overflow_add-result : goal.overflow_add-result
overflow_add-result c =
    let p = c.args.self.points in
    let r = (is_drawn _ _ _ _ _ c.args.self.planned).reachable c.args.k c.requires in
    let k_is : to_z w32 c.args.k ≡ pos c.args.k = to_z_pos w32 (omega (arith, r.few)) in
    let first : SFits w32 p.first = search rules in
    let step : SFits w32 p.step = search rules in
    let product : SFits w32 (pos c.args.k *ℤ p.step) = fits32 _ r.product in
    let sum : SFits w32 (element p.first p.step c.args.k) = fits32 _ r.sum in
    rw (to_z-of_z first, k_is, to_z-of_z step, to_z-of_z product) sum

pub returns : goal.returns
returns c =
    let p = c.args.self.points in
    let r = (is_drawn _ _ _ _ _ c.args.self.planned).reachable c.args.k c.requires in
    let k_is : to_z w32 c.args.k ≡ pos c.args.k = to_z_pos w32 (omega (arith, r.few)) in
    let first : SFits w32 p.first = search rules in
    let step : SFits w32 p.step = search rules in
    let product : SFits w32 (pos c.args.k *ℤ p.step) = fits32 _ r.product in
    let sum : SFits w32 (element p.first p.step c.args.k) = fits32 _ r.sum in
    rw (to_z-of_z first, k_is, to_z-of_z step, to_z-of_z product, to_z-of_z sum)
