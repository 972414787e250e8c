use Rattle.std.proofs.Common.{◌≡◌, ◌^◌, ◌<◌}
use Rattle.float.specs.Steps.{trimmed}
use Rattle.float.proofs.trim.Given as goal

abbrev pub invariant-loop-places : goal.invariant-loop-places
invariant-loop-places l = (l.decimals < 10 ^ l.places) × (trimmed l.minus l.whole l.places l.decimals ≡ trimmed l.minus l.whole l.fn.p.number l.d)
