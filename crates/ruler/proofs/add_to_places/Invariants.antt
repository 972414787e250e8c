use Rattle.std.proofs.Common.{◌≡◌}
use Rattle.ruler.specs.Steps.{added_to_places}
use Rattle.ruler.proofs.add_to_places.Given as goal

abbrev pub invariant-loop-k : goal.invariant-loop-k
invariant-loop-k l = l.l ≡ added_to_places l.n l.head l.k l.initial.l
