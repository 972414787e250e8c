use Rattle.std.proofs.Common.{ℕ, ◌≡◌, ◌+◌, ◌-◌, ◌*◌, length, ap, ◌∙◌, arith}
use lib.Ieee.{nan}
use Rattle.linspace.specs.RealSteps.{plus_step, after}
use Rattle.linspace.proofs.Walks.{after_turn, after_none}
use Rattle.linspace.proofs.Runs.{kept_at}
use Rattle.linspace.proofs.lanes.Sums.next.Goals as goal

pub returns-in-Some : goal.returns-in-Some
returns-in-Some c =
    let s = c.args.self in
    let next = plus_step s.s.d in
    let g = length s.kept.now in
    let last = c.in-Some.ensures.item.3 in
    let one : g - 1 + 1 ≡ g = omega (arith, last.0) in
    after_turn next s.h (g - 1) s.s.a c.advance.ensures (last.1 nan ∙ kept_at nan s.are (g - 1) (omega (arith, last.0))) ∙ ap (λ (k : ℕ). after next (k * s.h) s.s.a) one

pub returns-in-None : goal.returns-in-None
returns-in-None c =
    let s = c.args.self in
    let next = plus_step s.s.d in
    let nothing : 0 ≡ length s.kept.now = omega (arith, c.in-None.ensures.item.3) in
    after_none next s.h s.s.a ∙ ap (λ (k : ℕ). after next (k * s.h) s.s.a) nothing
