-- `discrete::index_within` what the search leaves.
use mathlib.Core.Path.{◌≡◌, sym, ap, ◌∙◌}
use mathlib.Core.Bool.{true}
use Prim.Native.Nat.{ℕ, ◌*◌, ◌/◌, ◌<◌}
use borrow.Author.Tests.{lt-ltb, le-ltb}
use lib.IntN.{ℤ, nat_abs}
use mir.Facts.{to_z-of_z}
use mir.Syntax.{w32}
use mir.Val.{SFits, of_z}
use Rattle.ranged1d.specs.Answer.{given}
use Rattle.ranged1d.proofs.Bools.{apart, alike}
use Rattle.ranged1d.proofs.Whole.{some_size}
use Rattle.discrete.specs.Index.{is_zero}
use Rattle.discrete.proofs.Theorems.{index_divided, index-behind}
use Rattle.discrete.proofs.Within.{zero_is, zero_bits, past-limits, at-limits}
use Rattle.discrete.proofs.index_within.Goals as goal
use Rattle.discrete.proofs.index_within.Goals.{else-d-gt0-via-then-d-gt0+else-n-gt0, else-d-gt0-via-else-d-gt0}

w-zero : (w : ℤ) → SFits w32 w → of_z w32 w ≡ 0 → is_zero w ≡ true
w-zero w f e = zero_is w (zero_bits w32 w f e)

pub returns-then-n-gt0 : goal.returns-then-n-gt0
returns-then-n-gt0 c =
    let s = c.args in
    sym (past-limits s.d s.w s.n (w-zero _ c.ranges.w c.if-w-eq0.true) (rw (to_z-of_z c.ranges.d) at c.if-d-gt0.true) (lt-ltb 0 _ c.if-n-gt0.true))

pub returns-then-w-eq0 : goal.returns-then-w-eq0
returns-then-w-eq0 c =
    let s = c.args in
    sym (at-limits s.d s.w s.n (w-zero _ c.ranges.w c.if-w-eq0.true) (elim c.else-d-gt0.branch [
      | else-d-gt0-via-then-d-gt0+else-n-gt0 w ↦ let above = rw (to_z-of_z c.ranges.d) at w.if-d-gt0.true in rw above (le-ltb 0 _ w.if-n-gt0.false)
      | else-d-gt0-via-else-d-gt0 w ↦ let not_above = rw (to_z-of_z c.ranges.d) at w.if-d-gt0.false in rw not_above
    ]))

pub returns-then-d-w : goal.returns-then-d-w
returns-then-d-w c =
    let s = c.args in
    sym (index-behind s.d s.w s.n (apart _ _ (rw (to_z-of_z c.ranges.d, to_z-of_z c.ranges.w) at c.if-d-w.true)))

pub returns : goal.returns
returns c =
    let s = c.args in
    let d_far : c.unsigned_abs-far.result ≡ nat_abs s.d = rw (to_z-of_z c.ranges.d) at c.unsigned_abs-far.ensures.value in
    let w_far : c.unsigned_abs-length.result ≡ nat_abs s.w = rw (to_z-of_z c.ranges.w) at c.unsigned_abs-length.ensures.value in
    let some : 0 < nat_abs s.w = some_size s.w (λ e. c.if-w-eq0.false (ap (of_z w32) e)) in
    ap (λ (k : ℕ). given (k * s.n / c.unsigned_abs-length.result)) d_far
    ∙ ap (λ (k : ℕ). given (nat_abs s.d * s.n / k)) w_far
    ∙ sym (index_divided s.d s.w s.n (alike _ _ (rw (to_z-of_z c.ranges.d, to_z-of_z c.ranges.w) at c.if-d-w.false)) some)
