-- `decimal::read_i32` what the search leaves.
use Rattle.std.proofs.Common.{◌∙◌, sym, ap, subst, ◌≡◌}
use lib.IntN.{ℤ}
use mir.Facts.{to_z-of_z}
use mir.Syntax.{w32, w64}
use mir.Val.{SFits, to_z, of_z}
use Rattle.decimal.specs.Print.{decimal, text_of}
use Rattle.decimal.proofs.Digits.{decimal-most, text_told}
use Rattle.decimal.proofs.Reader.{no_i32, missed, held, same-tested, i32-missed, i32-read}
use Rattle.decimal.proofs.read_i32.Goals as goal

pub returns-then-s-gt11 : goal.returns-then-s-gt11
returns-then-s-gt11 c = sym (no_i32 _ c.if-s-gt11.true)

pub returns-in_err-v : goal.returns-in_err-v
returns-in_err-v c = rw c.from_residual.ensures (sym (i32-missed c.args.s.now _ (sym (to_z-of_z {w = w64} (record { sfits = c.signed_value.type_inv }) ∙ c.signed_value.ensures)) (missed _ _ _ c.try_from.ensures c.in_err-v.ensures.value)))

pub returns : goal.returns
returns c =
    let v = c.in_ok-v.v in
    let is = held _ _ _ v c.try_from.ensures c.in_ok-v.ensures.value in
    let kept : to_z w32 (of_z w32 v) ≡ v = to_z-of_z (subst (λ (z : ℤ). SFits w32 z) (sym is.1) is.0) in
    let text = text_told (decimal v) (decimal-most v) (c.label.ensures ∙ ap (λ (z : ℤ). text_of (decimal z)) kept) in
    let same = same-tested c.eq.result c.args.s.now (decimal v) c.as_slice.result.now c.eq.ensures (c.as_slice.ensures ∙ text.text) in
    rw (c.then_some.ensures, kept) (i32-read c.args.s.now _ (sym (to_z-of_z {w = w64} (record { sfits = c.signed_value.type_inv }) ∙ c.signed_value.ensures)) v c.eq.result is.0 is.1 same)
