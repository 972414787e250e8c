-- `fixed::printed` what the search leaves.
use Rattle.std.proofs.Common.{◌≡◌, ◌∙◌, ◌&&◌, true, false, subst, sym, refl}
use borrow.Author.Tests.{leb-true}
use lib.IntN.{ℤ}
use mir.Facts.{to_z-of_z}
use mir.Syntax.{w32, w64}
use mir.Val.{SFits, to_z, of_z}
use Rattle.ranged1d.specs.Admitted.{whole_admitted}
use Rattle.decimal.specs.Print.{padded}
use Rattle.decimal.specs.Read.{same_bytes}
use Rattle.decimal.proofs.Digits.{padded_told}
use Rattle.decimal.proofs.Reader.{held, same-tested}
use Rattle.fixed.specs.Fixed.{fixed_text, number_in}
use Rattle.fixed.proofs.Texts.{fixed_most}
use Rattle.fixed.proofs.Calls.{not-printed, printed-by}
use Rattle.fixed.proofs.printed.Goals as goal
use Rattle.fixed.proofs.printed.Goals.{then-whole_admitted, else-whole_admitted}

pub returns-then-s-gt12 : goal.returns-then-s-gt12
returns-then-s-gt12 c =
    rw (not-printed c.args.s.now c.args.f.number c.args.f.few c.if-s-gt12.true) refl

pub returns : goal.returns
returns c =
    let s = c.args.s.now in
    let f = c.args.f.number in
    let x = c.in_ok-x.x in
    let is = held _ _ _ x c.try_from.ensures c.in_ok-x.ensures.value in
    let kept : to_z w32 (of_z w32 x) ≡ x = to_z-of_z (subst (λ (z : ℤ). SFits w32 z) (sym is.1) is.0) in
    let found : x ≡ number_in s = is.1 ∙ to_z-of_z {w = w64} (record { sfits = c.number_in.type_inv }) ∙ c.number_in.ensures in
    let admitted : c.whole_admitted.result ≡ whole_admitted x = rw kept at c.whole_admitted.ensures in
    let tested : c.if-whole_admitted.then_some ≡ (whole_admitted x && same_bytes s (fixed_text f x)) = elim c.if-whole_admitted.branch [
      | then-whole_admitted w ↦
          let yes : whole_admitted x ≡ true = sym admitted ∙ w.if-whole_admitted.true in
          let spelt : w.spell.result ≡ padded 12 (fixed_text f x) = rw kept at w.spell.ensures in
          let told = padded_told 12 (fixed_text f x) (fixed_most f x c.args.f.few (leb-true _ _ yes)) spelt in
          w.then_some-is ∙ same-tested w.eq.result s (fixed_text f x) w.as_slice.result.now w.eq.ensures (w.as_slice.ensures ∙ told.text) ∙ rw yes refl
      | else-whole_admitted w ↦ let no : whole_admitted x ≡ false = sym admitted ∙ w.if-whole_admitted.false in w.then_some-is ∙ w.if-whole_admitted.false ∙ rw no refl
    ] in
    rw (c.then_some.ensures, kept) (printed-by s f x c.if-whole_admitted.then_some found tested)
