-- The first k elements are the first k marks, and the others are as they were.
use Rattle.std.proofs.Common.{◌≡◌, List, pos, ◌+ℤ◌, ◌*ℤ◌, w32, to_z, of_z, set, refl, ap, ap₂, ◌∙◌, arith}
use mir.Facts.{to_z-of_z, to_z_pos}
use Rattle.ranged1d.proofs.Whole.{fits32}
use Rattle.numeric.specs.Calls.{element}
use Rattle.numeric.proofs.Lists.{write_more, write_all}
use Rattle.numeric.proofs.fill_marks.Goals as goal

pub overflow_cast-k : goal.overflow_cast-k
overflow_cast-k g c = fits32 _ (omega arith)

pub overflow_mul-k : goal.overflow_mul-k
overflow_mul-k g c =
    let k : to_z w32 c.loop-k.k ≡ pos c.loop-k.k = to_z_pos w32 (omega arith) in
    rw (k, to_z-of_z c.ranges.step) (fits32 _ (c.requires.by_index c.loop-k.k c.loop-k-test.true).0)

pub loop-k-preserved : goal.loop-k-preserved
loop-k-preserved g c = λ f h.
    let a = c.args in
    let k = c.loop-k.k in
    let near = c.requires.by_index k c.loop-k-test.true in
    let first : to_z w32 (of_z w32 a.first) ≡ a.first = to_z-of_z c.ranges.first in
    let step : to_z w32 (of_z w32 a.step) ≡ a.step = to_z-of_z c.ranges.step in
    let place : to_z w32 k ≡ pos k = to_z_pos w32 (omega arith) in
    let arg : to_z w32 (of_z w32 (to_z w32 (of_z w32 a.first) +ℤ to_z w32 (of_z w32 (to_z w32 k *ℤ to_z w32 (of_z w32 a.step))))) ≡ element (to_z w32 (of_z w32 a.first)) (to_z w32 (of_z w32 a.step)) k =
    rw (first, place, step, to_z-of_z (fits32 (pos k *ℤ a.step) near.0), to_z-of_z (fits32 (element a.first a.step k) near.1)) refl in
    ap₂ (λ (l : List _) (z : _). set l k z) (c.loop-k.invariant f h) (h _ _ c.mark.ensures ∙ ap f arg)
    ∙ write_more (λ j. f (element (to_z w32 (of_z w32 a.first)) (to_z w32 (of_z w32 a.step)) j)) c.mark.result k a.out.now c.loop-k-test.true

pub returns : goal.returns
returns g c = λ f h.
    let a = c.args in
    let first : to_z w32 (of_z w32 a.first) ≡ a.first = to_z-of_z c.ranges.first in
    let step : to_z w32 (of_z w32 a.step) ≡ a.step = to_z-of_z c.ranges.step in
    (rw (first, step) at (c.loop-k.invariant f h)) ∙ write_all (λ k. f (element a.first a.step k)) c.loop-k.k a.out.now c.loop-k.auto.k-end c.loop-k-test.false
