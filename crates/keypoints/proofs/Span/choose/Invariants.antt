use Rattle.std.proofs.Common.{◌≡◌, ◌-◌}
use Rattle.keypoints.specs.Scale.{chosen}
use Rattle.keypoints.proofs.Span.choose.Given as goal

abbrev pub invariant-loop : goal.invariant-loop
invariant-loop l = chosen l.self.lo l.self.hi l.m 20 l.fn.first.step l.fn.first.grain ≡ chosen l.self.lo l.self.hi l.m (20 - l.counter) l.s.step l.s.grain
