use Rattle.std.proofs.Common.{◌≡◌, ℕ, ◌*◌, length}
use lib.Ieee.{Float, nan}
use Rattle.linspace.specs.RealSteps.{plus_step, after}
use Rattle.linspace.proofs.Runs.{Four}
use Rattle.linspace.proofs.lanes.put_four.Given as goal

abbrev run : Float → ℕ → Float → ℕ → Float
run d by x k = after (plus_step d) (k * by) x

abbrev pub invariant-loop-k : goal.invariant-loop-k
invariant-loop-k l =
    let q = l.initial.y in
    let at = run l.d l.by in
    (room : length l.initial.out ≡ 4 * l.g)
    × Four nan l.initial.out l.g room (at q.x0) (at q.x1) (at q.x2) (at q.x3) l.k l.out
    × (l.y.x0 ≡ at q.x0 l.k)
    × (l.y.x1 ≡ at q.x1 l.k)
    × (l.y.x2 ≡ at q.x2 l.k)
    × (l.y.x3 ≡ at q.x3 l.k)
