use Rattle.std.proofs.Common.{◌≡◌, ◌+◌, length, ap, refl, arith}
use Rattle.ranged1d.proofs.Answers.{too_short}
use Rattle.float.specs.Text.{front}
use Rattle.float.specs.Steps.{parts, bytes_of}
use Rattle.float.proofs.Lists.{text_kept, front_long, bytes-length, bytes_put, text_held}
use Rattle.float.proofs.float_to_string.Goals as goal

pub returns-then-out-need : goal.returns-then-out-need
returns-then-out-need c =
    let i = c.t.inside in
    let t = parts i.minus i.whole i.places i.decimals in
    let e = text_kept 21 (front t.minus t.whole) (front_long t.minus t.whole) c.long_label-text.result c.long_label-text.ensures c.as_slice-front.result.now c.as_slice-front.ensures in
    rw (← c.t.view_is)
    (too_short (bytes_of t c.args.e) c.args.out.now (length (bytes_of t c.args.e)) refl (omega (arith, c.if-out-need.true, ap length e, c.tail_length.ensures, bytes-length t c.args.e c.t.invariant.1)))

pub returns : goal.returns
returns c =
    let i = c.t.inside in
    let t = parts i.minus i.whole i.places i.decimals in
    let o = c.args.out.now in
    let e = text_kept 21 (front t.minus t.whole) (front_long t.minus t.whole) c.long_label-text.result c.long_label-text.ensures c.as_slice-front.result.now c.as_slice-front.ensures in
    let b = bytes-length t c.args.e c.t.invariant.1 in
    let k = c.tail_length.ensures in
    let n : length c.as_slice-front.result.now + c.tail_length.result ≡ length (bytes_of t c.args.e) = omega (arith, ap length e, k, b) in
    let q = rw (← c.t.view_is, c.copy_from_slice.ensures.after) at c.put_tail.ensures in
    rw (← c.t.view_is, c.copy_from_slice.ensures.after)
    (text_held _ (bytes_of t c.args.e) o _ n (omega (arith, n, c.if-out-need.false)) (bytes_put t c.args.e o c.as_slice-front.result.now c.put_tail.new.tail _ c.tail_length.result c.t.invariant.1 e refl k (omega (arith, c.if-out-need.false)) q))
