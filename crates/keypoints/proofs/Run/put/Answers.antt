-- `keypoints::Run::put` what the search leaves: the first marks are written, and those still to come are the rest of the list.
use Rattle.std.proofs.Common.{◌<◌, ◌∙◌, length, arith, length-set}
use Rattle.keypoints.specs.Marks.{marks_from}
use Rattle.keypoints.proofs.Lists.{few, rest_again, front_more}
use Rattle.keypoints.proofs.Run.put.Goals as goal

pub loop-mark-preserved : goal.loop-mark-preserved
loop-mark-preserved c =
    let r = c.args.self in
    let l = marks_from r 2001 c.args.x in
    let k = c.loop-mark.mark-index in
    let y = c.loop-mark.y in
    let o = c.loop-mark.mark-items in
    let inv = c.loop-mark.invariant in
    let f = few r 2001 c.args.x in
    let inside : k < length l = omega (arith, c.requires.n_value, inv.long, c.loop-mark-test.true) in
    let left : k < 2001 = omega arith in
    rw c.shift-z.ensures (record {
      long = length-set o k _ ∙ inv.long;
      written = front_more r l k y inside left inv.left o (omega (arith, inv.long, c.requires.n_value)) inv.written;
      left = rest_again r l k y inside left inv.left;
    })
