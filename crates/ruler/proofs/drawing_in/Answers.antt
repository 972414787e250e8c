-- `ruler::drawing_in` what the search leaves.
use Rattle.std.proofs.Common.{refl, ◌≡◌, ℕ, get_or, ap, ◌∙◌, arith, rules, to_z-of_z, w32, SFits, to_z}
use Rattle.std.specs.Prelude.{Option}
use Rattle.std.specs.Option.{unwrap_or}
use Rattle.ruler.specs.Bytes.{form_for}
use Rattle.ruler.proofs.drawing_in.Goals as goal

pub returns : goal.returns
returns c =
    let a : SFits w32 c.cast_signed.result = search rules in
    let b : SFits w32 c.cast_signed-2.result = search rules in
    let p : SFits w32 c.cast_signed-3.result = search rules in
    let q : SFits w32 c.cast_signed-4.result = search rules in
    let a_is = to_z-of_z a ∙ c.cast_signed.ensures ∙ ap (to_z w32) c.word_at.ensures in
    let b_is = to_z-of_z b ∙ c.cast_signed-2.ensures ∙ ap (to_z w32) c.word_at-2.ensures in
    let p_is = to_z-of_z p ∙ c.cast_signed-3.ensures ∙ ap (to_z w32) c.word_at-3.ensures in
    let q_is = to_z-of_z q ∙ c.cast_signed-4.ensures ∙ ap (to_z w32) c.word_at-4.ensures in
    let last : c.unwrap_or.result ≡ get_or c.args.l.now 25 0 = c.unwrap_or.ensures ∙ ap (λ (o : Option ℕ). unwrap_or o 0) c.copied.ensures ∙ c.get.ensures.lookup.4 (omega arith) 0 in
    let form_is : c.form_of-form.result ≡ form_for (get_or c.args.l.now 0 0) (get_or c.args.l.now 25 0) = c.form_of-form.ensures ∙ ap (form_for (get_or c.args.l.now 0 0)) last in
    c.drawing.ensures ∙ rw (a_is, b_is, p_is, q_is, c.word_at-5.ensures, form_is) refl
