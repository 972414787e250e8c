-- `week::carried` what the search leaves.
use Rattle.std.proofs.Common.{◌+◌, ◌<◌, ◌≤◌, arith}
use borrow.Author.Tests.{le-leb, lt-leb, lt-ltb, le-ltb}
use Rattle.week.specs.Steps.{carried_to}
use Rattle.week.proofs.carried.Goals.{else-from-x-via-then-from-x+else-x-from, else-from-x-via-else-from-x}
use Rattle.week.proofs.carried.Goals as goal

pub returns-then-x-from : goal.returns-then-x-from
unfolding carried_to
returns-then-x-from c = let a = c.args in
    let h : a.x < a.from + a.n = omega (arith, c.if-x-from.true, c.if-from-x.true) in
    rw (le-leb _ _ c.if-from-x.true, lt-ltb _ _ h)

pub returns : goal.returns
unfolding carried_to
returns c = let a = c.args in
    elim c.else-from-x.branch [
      | else-from-x-via-then-from-x+else-x-from w ↦
          let h : a.from + a.n ≤ a.x = omega (arith, w.if-x-from.false, w.if-from-x.true) in
          rw (le-leb _ _ w.if-from-x.true, le-ltb _ _ h)
      | else-from-x-via-else-from-x w ↦ rw (lt-leb _ _ w.if-from-x.false)
    ]
