-- A mark of a plan that is not written: it is there where it is below the count and an i32. Assumes nothing.
use Rattle.std.specs.Prelude.{◌≡◌, refl, ◌<◌, ℕ, ℤ, Result, Ok, Err, OkIff}
use Rattle.std.specs.Result.{result_ok}
use borrow.Author.Tests.{lt-ltb}
use Rattle.ranged1d.proofs.Fits.{fits-i32, not-i32}
use mir.Syntax.{w32}
use mir.Val.{SFits}
use Rattle.ranged1d.specs.Told.{tell_option}
use Rattle.numeric.specs.declared.KeyPoints.{KeyPoints}
use Rattle.numeric.specs.Calls.{element, point_at}

pub point_told : {E : Type 0} (p : KeyPoints) (i : ℕ) (r : Result ℤ E) → i < p.count → OkIff r (SFits w32 (element p.first p.step i)) (element p.first p.step i) → tell_option (result_ok r) ≡ point_at p i
unfolding point_at
point_told p i (Ok z) h e = rw (lt-ltb i p.count h, fits-i32 (element p.first p.step i) e.0, e.1) refl
point_told p i (Err x) h e = rw (lt-ltb i p.count h, not-i32 (element p.first p.step i) e) refl
