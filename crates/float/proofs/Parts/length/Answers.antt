use Rattle.std.proofs.Common.{length, ap, arith}
use Rattle.float.specs.Text.{front}
use Rattle.float.specs.Steps.{Taken, parts, bytes_of}
use Rattle.float.proofs.Lists.{text_kept, front_long, bytes-length}
use Rattle.float.proofs.Parts.length.Goals as goal

pub returns-clause-bytes : goal.returns-clause-bytes
returns-clause-bytes c =
    let t = c.self.inside in
    let e = text_kept 21 (front t.minus t.whole) (front_long t.minus t.whole) c.long_label-front.result c.long_label-front.ensures c.as_slice.result.now c.as_slice.ensures in
    let b = ap (λ (u : Taken). length (bytes_of u c.args.e)) c.self.view_is in
    omega (arith, b, ap length e, c.tail_length.ensures, bytes-length (parts t.minus t.whole t.places t.decimals) c.args.e c.self.invariant.1)
