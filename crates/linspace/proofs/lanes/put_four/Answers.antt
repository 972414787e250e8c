use Rattle.std.proofs.Common.{ℕ, ◌≡◌, ◌*◌, ap, subst, ◌∙◌, arith}
use lib.Ieee.{Float, nan}
use Rattle.linspace.specs.RealSteps.{plus_step, after}
use Rattle.linspace.proofs.Walks.{after_none, after_turn}
use Rattle.linspace.proofs.Runs.{Four, four_starts, four_turn, four-whole}
use Rattle.linspace.proofs.lanes.put_four.Goals as goal

abbrev run : Float → ℕ → Float → ℕ → Float
run d by x k = after (plus_step d) (k * by) x

pub loop-k-init : goal.loop-k-init
loop-k-init c =
    let s = c.args in
    let none = after_none (plus_step s.d) s.by in
    (c.requires, four_starts nan s.out.now s.g c.requires _ _ _ _, none s.q.x0, none s.q.x1, none s.q.x2, none s.q.x3)

pub loop-k-preserved : goal.loop-k-preserved
loop-k-preserved c =
    let at = c.loop-k in
    let s = c.args in
    let i = at.invariant in
    let e = c.advance_four-y.ensures in
    let next = plus_step s.d in (
      i.0,
      four_turn nan s.out.now s.g i.0 _ _ _ _ i.1 c.loop-k-test.true _ _ _ _ i.2 i.3 i.4 i.5,
      after_turn next s.by at.k s.q.x0 e.0 i.2,
      after_turn next s.by at.k s.q.x1 e.1 i.3,
      after_turn next s.by at.k s.q.x2 e.2 i.4,
      after_turn next s.by at.k s.q.x3 e.3 i.5,
    )

pub returns : goal.returns
returns c =
    let at = c.loop-k in
    let s = c.args in
    let run = run s.d s.by in
    let end : at.k ≡ s.g = omega arith in
    let room = at.invariant.0 in (
      four-whole nan s.out.now s.g room _ _ _ _ (subst (λ (k : ℕ). Four nan s.out.now s.g room (run s.q.x0) (run s.q.x1) (run s.q.x2) (run s.q.x3) k at.out) end at.invariant.1),
      at.invariant.5 ∙ ap (run s.q.x3) end,
    )
