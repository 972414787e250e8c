-- `decimal::put_last_digits` what the search leaves.
use Rattle.std.proofs.Common.{arith}
use Rattle.decimal.proofs.LastDigits.{put-start, put-more}
use Rattle.decimal.proofs.put_last_digits.Goals as goal

pub loop-i-init : goal.loop-i-init
loop-i-init c = put-start c.args.out.now c.args.n

pub loop-i-preserved : goal.loop-i-preserved
loop-i-preserved c =
    let l = c.loop-i in
    put-more c.args.out.now c.args.n l.i l.rest l.out c.loop-i-test.true (omega arith) l.invariant
