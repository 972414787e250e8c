-- `fixed::print` what the search leaves.
use Rattle.std.proofs.Common.{arith, rules, ℕ, List, ◌≡◌, ◌≤◌, ◌∙◌, true, ap, sym}
use Rattle.std.specs.Prelude.{Err}
use mir.Facts.{to_z-of_z}
use Rattle.ranged1d.specs.Answer.{refused, list_written}
use borrow.Author.Tests.{leb-true}
use Rattle.ranged1d.specs.Admitted.{whole_admitted}
use Rattle.decimal.specs.Print.{padded}
use Rattle.decimal.proofs.Digits.{padded_told}
use Rattle.fixed.specs.Fixed.{fixed_text}
use Rattle.fixed.proofs.Texts.{fixed_most}
use Rattle.fixed.proofs.Calls.{print_1, print_24, print-text}
use Rattle.fixed.proofs.print.Goals as goal

pub returns-then-not-whole_admitted : goal.returns-then-not-whole_admitted
returns-then-not-whole_admitted c = print_1 c.args.x c.args.f c.args.out.now (sym (rw (to_z-of_z c.ranges.x) at c.if-not-whole_admitted.ensures))

pub returns-in_err-f : goal.returns-in_err-f
returns-in_err-f c =
    let a : c.from_residual.result ≡ Err c.in_err-f.field-0.0 = search rules in
    let m = c.in_err-f.ensures in
    rw a (ap (λ (n : ℕ). (refused n, c.args.out.now)) m.0 ∙ print_24 c.args.x c.args.f c.args.out.now (sym (rw (to_z-of_z c.ranges.x) at c.if-not-whole_admitted.ensures)) m.1)

pub returns : goal.returns
returns c =
    let x = c.args.x in
    let out = c.args.out.now in
    let admitted : whole_admitted x ≡ true = sym (rw (to_z-of_z c.ranges.x) at c.if-not-whole_admitted.ensures) in
    let same = c.in_ok-f.ensures in
    let few : c.args.f ≤ 6 = omega (arith, same, c.in_ok-f.f.few) in
    let printed : c.spell.result ≡ padded 12 (fixed_text c.args.f x) = rw (to_z-of_z c.ranges.x, same) at c.spell.ensures in
    let told = padded_told 12 (fixed_text c.args.f x) (fixed_most c.args.f x few (leb-true _ _ admitted)) printed in
    c.put_text.ensures ∙ ap (λ (l : List ℕ). list_written l out) (c.as_slice.ensures ∙ told.text) ∙ print-text x c.args.f out admitted few
