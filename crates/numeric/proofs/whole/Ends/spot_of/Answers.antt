use Rattle.std.proofs.Common.{◌≡◌, ◌≤◌, nat_abs, ◌-ℤ◌, w32, to_z, of_z, to_z-of_z, rules, sym, ap, ◌∙◌, arith, leb-true}
use Rattle.ranged1d.proofs.Whole.{fits32, minus-far}
use Rattle.real.proofs.Wraps.{p_is, q_is, length_is, half_is, half_wide}
use Rattle.numeric.proofs.Readings.{ends-near}
use Rattle.numeric.proofs.Places.{level-spot, sloped_spot}
use Rattle.numeric.proofs.whole.Ends.spot_of.Goals as goal

pub returns-then-a-b : goal.returns-then-a-b
returns-then-a-b c =
    let a = c.args in
    let l = a.limit in
    let h = c.requires.limit_value in
    let same : a.self.a ≡ a.self.b = search rules in
    rw (q_is l h, p_is l h, length_is l h, half_is l h, half_wide l h) (sym (level-spot a.self.a a.self.b a.v l (ends-near a.self.a a.self.b a.self.admitted).0 same))

pub returns : goal.returns
returns c =
    let a = c.args in
    let l = a.limit in
    let h = c.requires.limit_value in
    let ends = ends-near a.self.a a.self.b a.self.admitted in
    let v : nat_abs a.v ≤ 1000000000 = leb-true _ 1000000000 c.requires.v_value in
    let first : to_z w32 (of_z w32 a.self.a) ≡ a.self.a = search rules in
    let second : to_z w32 (of_z w32 a.self.b) ≡ a.self.b = search rules in
    let value : to_z w32 (of_z w32 a.v) ≡ a.v = to_z-of_z c.ranges.v in
    let far = to_z-of_z (fits32 (a.v -ℤ a.self.a) (omega (arith, minus-far a.v a.self.a, ends.0, v))) in
    let long = to_z-of_z (fits32 (a.self.b -ℤ a.self.a) (omega (arith, minus-far a.self.b a.self.a, ends.0, ends.1))) in
    rw (c.as_f64.ensures, c.as_f64-2.ensures, p_is l h, q_is l h, length_is l h, value, first, second, far, long) at c.place_along.ensures
    ∙ sym (sloped_spot a.self.a a.self.b a.v l ends.0 ends.1 v (λ e. c.if-a-b.false (ap (of_z w32) e)))
