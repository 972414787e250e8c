-- An i64 holds every difference of two i32.
use Rattle.std.proofs.Common.{ℤ, ◌-ℤ◌, w32, w64, refl, arith}
use mir.Facts.{to_z-of_z}
use mir.Val.{SFits}
use Rattle.ranged1d.proofs.Whole.{fits64, far32, minus-far, wide}
use Rattle.search.proofs.entry.I32Entry.is_closer.Goals as goal

less_fits : (x y : ℤ) → SFits w32 x → SFits w32 y → SFits w64 (x -ℤ y)
less_fits x y f g = fits64 (x -ℤ y) (omega (arith, minus-far x y, far32 x f, far32 y g))

pub returns-then-rises : goal.returns-then-rises
returns-then-rises c =
    let a = c.args in
    let r = c.ranges in
    rw (wide a.self r.self, wide a.x r.x, wide a.y r.y, to_z-of_z (less_fits a.self a.x r.self r.x), to_z-of_z (less_fits a.y a.self r.y r.self), c.if-rises.true) refl

pub returns : goal.returns
returns c =
    let a = c.args in
    let r = c.ranges in
    rw (wide a.self r.self, wide a.x r.x, wide a.y r.y, to_z-of_z (less_fits a.x a.self r.x r.self), to_z-of_z (less_fits a.self a.y r.self r.y), c.if-rises.false) refl
