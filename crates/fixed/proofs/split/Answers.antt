-- `fixed::split` what the search leaves.
use Rattle.std.proofs.Common.{arith}
use Rattle.fixed.proofs.Fractions.{put-none, put-point, no-fraction, fraction-length}
use Rattle.fixed.proofs.split.Goals as goal

pub returns-then-f-eq0-clause-written : goal.returns-then-f-eq0-clause-written
returns-then-f-eq0-clause-written c = (put-none c.args.bytes.now c.args.f.number c.args.n (omega arith) c.if-f-eq0.true)

pub returns-then-f-eq0-clause-end : goal.returns-then-f-eq0-clause-end
returns-then-f-eq0-clause-end c = (omega (arith, no-fraction c.args.f.number c.args.n c.if-f-eq0.true))

pub returns-clause-written : goal.returns-clause-written
returns-clause-written c = (put-point c.args.bytes.now c.put_last_digits-rest.new.out c.args.f.number c.args.n (omega arith) c.if-f-eq0.false c.args.f.few c.put_last_digits-rest.ensures.digits)

pub returns-clause-end : goal.returns-clause-end
returns-clause-end c = (omega (arith, fraction-length c.args.f.number c.args.n c.if-f-eq0.false, c.args.f.few))
