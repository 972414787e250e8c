use Rattle.std.proofs.Common.{ℕ, ◌≡◌, ◌<◌, subst, ◌∙◌, length}
use Rattle.std.specs.Float.Ieee.{lt}
use Rattle.linspace.specs.List.{real, stepped, toward}
use Rattle.linspace.specs.RealSteps.{plus_step, after}
use Rattle.linspace.proofs.Axis.{walked-count}
use Rattle.linspace.proofs.Walks.{reached-at}
use Rattle.linspace.proofs.Counts.{entry_told}
use Rattle.linspace.proofs.reals.Walk.entry.Goals as goal

pub returns : goal.returns
returns c =
    let s = c.args.self.s in
    let k = c.args.k in
    let at = c.reach-at in
    let count : c.count_on.result ≡ length (stepped real s.a s.b s.d) = c.count_on.ensures ∙ walked-count s.a s.b s.d at.result.n at.result.x c.args.self.some at.ensures.walked in
    let stands : k < c.count_on.result → at.result.x ≡ after (plus_step s.d) k s.a = λ h. reached-at (toward real (lt s.a s.b) s.b) (plus_step s.d) 65537 s.a k at.result.n at.result.x at.ensures (subst (λ (n : ℕ). k < n) c.count_on.ensures h) in
    c.told.ensures ∙ entry_told s.a s.b s.d c.args.self.onward count stands
