use Rattle.std.proofs.Common.{◌≡◌, ◌-◌, length, take}
use Rattle.float.specs.Shorten.{shorten}
use Rattle.float.specs.Steps.{back}
use Rattle.float.proofs.descend.Given as goal

abbrev pub invariant-loop-levels : goal.invariant-loop-levels
invariant-loop-levels l = back (take l.levels l.floors) (shorten (length l.fn.floors - l.levels) l.x l.t) ≡ shorten (length l.fn.floors) l.n l.eps
