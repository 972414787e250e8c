-- `decimal::put_digits` what the search leaves: the text is blank up to the place i, and the digits of what is left come before those that stand
-- there.
use Rattle.std.proofs.Common.{◌≤◌, arith}
use Rattle.decimal.proofs.Digits.{spelt_more, spelt_last, spelt_count}
use Rattle.decimal.proofs.put_digits.Goals as goal

pub loop-n-preserved : goal.loop-n-preserved
loop-n-preserved c = (c.loop-n.invariant.0, spelt_more c.loop-n.invariant.1 c.loop-n-test.true)

pub returns-clause-digits : goal.returns-clause-digits
returns-clause-digits c =
    let small : c.loop-n.n ≤ 9 = omega (arith, c.loop-n-test.false) in
    spelt_last c.loop-n.invariant.1 small

pub returns-clause-whole : goal.returns-clause-whole
returns-clause-whole c =
    let small : c.loop-n.n ≤ 9 = omega (arith, c.loop-n-test.false) in
    omega (arith, spelt_count c.loop-n.invariant.1 small, c.loop-n.invariant.0)

pub returns-clause-some : goal.returns-clause-some
returns-clause-some c = c.loop-n.invariant.1.some
