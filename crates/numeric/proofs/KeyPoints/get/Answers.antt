use Rattle.std.proofs.Common.{◌≡◌, ◌*◌, ◌<◌, ◌≤◌, nat_abs, rules, w32, w64, to_z, pos, ◌*ℤ◌, ◌∙◌, ap, arith}
use native.Mathlib.Nat.{mul-le-mul_right}
use mir.Facts.{to_z-of_z, to_z_pos}
use mir.Val.{SFits}
use Rattle.ranged1d.proofs.Whole.{fits64, wide, far32, add-far, pos_times_far}
use Rattle.ranged1d.specs.Told.{tell_option}
use Rattle.numeric.specs.Calls.{element}
use Rattle.numeric.proofs.Points.{point_told}
use Rattle.numeric.proofs.KeyPoints.get.Goals as goal

pub returns : goal.returns
returns c =
    let p = c.args.self in
    let i = c.args.i in
    let one : SFits w32 p.first = search rules in
    let two : SFits w32 p.step = search rules in
    let most : p.count < 4294967296 = search rules in
    let place : to_z w64 i ≡ pos i = to_z_pos w64 (omega arith) in
    let few : i ≤ 4294967294 = omega (arith, c.if-self-i.false, most) in
    let far : nat_abs (pos i *ℤ p.step) ≤ 4294967294 * 2147483648 = omega (arith, pos_times_far i p.step, mul-le-mul_right (nat_abs p.step) few, far32 p.step two) in
    let product = to_z-of_z (fits64 (pos i *ℤ p.step) (omega (arith, far))) in
    let sum = to_z-of_z (fits64 (element p.first p.step i) (omega (arith, far, add-far p.first (pos i *ℤ p.step), far32 p.first one))) in
    ap tell_option c.ok.ensures.value ∙ point_told p i c.try_from.result c.if-self-i.false (rw (wide p.first one, wide p.step two, place, product, sum) at c.try_from.ensures)
