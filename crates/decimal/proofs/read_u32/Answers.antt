-- `decimal::read_u32` what the search leaves.
use Rattle.std.proofs.Common.{◌∙◌, sym}
use Rattle.decimal.specs.Print.{natural}
use Rattle.decimal.proofs.Digits.{natural-most, text_told}
use Rattle.decimal.proofs.Reader.{no_u32, missed, held, same-tested, u32-missed, u32-read}
use Rattle.decimal.proofs.read_u32.Goals as goal

pub returns-then-s-gt11 : goal.returns-then-s-gt11
returns-then-s-gt11 c = sym (no_u32 _ c.if-s-gt11.true)

pub returns-in_err-n : goal.returns-in_err-n
returns-in_err-n c = rw c.from_residual.ensures (sym (u32-missed c.args.s.now _ c.value.ensures.value (missed _ _ _ c.try_from.ensures c.in_err-n.ensures.value)))

pub returns : goal.returns
returns c =
    let n = c.in_ok-n.n in
    let is = held _ _ _ n c.try_from.ensures c.in_ok-n.ensures.value in
    let text = text_told (natural n) (natural-most n) c.natural_label.ensures in
    let same = same-tested c.eq.result c.args.s.now (natural n) c.as_slice.result.now c.eq.ensures (c.as_slice.ensures ∙ text.text) in
    rw c.then_some.ensures (u32-read c.args.s.now _ c.value.ensures.value n c.eq.result is.0 is.1 same)
