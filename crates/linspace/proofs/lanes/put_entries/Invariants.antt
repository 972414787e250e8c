use Rattle.std.proofs.Common.{ℕ, ◌≡◌, ◌*◌, ◌++◌, suc, drop}
use lib.Ieee.{Float}
use Rattle.numeric.specs.Marks.{list_of}
use Rattle.linspace.specs.RealSteps.{plus_step, after}
use Rattle.linspace.proofs.lanes.put_entries.Given as goal

abbrev sums : Float → ℕ → Float → ℕ → Float
sums d by x k = after (plus_step d) (k * by) x

abbrev pub invariant-loop-z : goal.invariant-loop-z
invariant-loop-z l = record {
  written : l.rest ≡ list_of (λ k. sums l.d l.by l.x (suc k)) l.z-index ++ drop l.z-index l.initial.rest;
  last : l.y ≡ sums l.d l.by l.x l.z-index;
}
