-- Whether a whole number fits an i32, as a test. Assumes nothing.
use Rattle.std.specs.Prelude.{◌≡◌, true, false, ◌≤◌, ℕ, ℤ, pos, negsuc, leb}
use Rattle.std.proofs.Common.{arith}
use borrow.Author.Tests.{lt-leb, le-leb}
use mir.Syntax.{w32}
use mir.Val.{SFits}
use Rattle.ranged1d.specs.Numbers.{is_i32}

pub fits-i32 : (z : ℤ) → SFits w32 z → is_i32 z ≡ true
fits-i32 (pos n) f = le-leb n 2147483647 (omega (arith, f.sfits))
fits-i32 (negsuc n) f = rw (le-leb n 2147483647 (omega (arith, f.sfits)))

above : (n : ℕ) → (n ≤ 2147483647 → ⊥) → leb n 2147483647 ≡ false
above n h = lt-leb n 2147483647 (omega (arith, h))

pub not-i32 : (z : ℤ) → (SFits w32 z → ⊥) → is_i32 z ≡ false
not-i32 (pos n) f = above n (λ h. f (record { sfits = omega arith }))
not-i32 (negsuc n) f = rw (above n (λ h. f (record { sfits = omega arith })))
