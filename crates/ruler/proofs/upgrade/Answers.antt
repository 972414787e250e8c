-- `ruler::upgrade` what the search leaves.
use Rattle.std.proofs.Common.{refl, ℕ, List, [], ◌∷◌, sym, ap, ◌∙◌, arith}
use Rattle.std.proofs.lemmas.Result.{err_from_is_err_and}
use Rattle.ranged1d.specs.Answer.{list_written}
use Rattle.ruler.specs.Bytes.{kind_byte}
use Rattle.ruler.specs.Steps.{form_of}
use Rattle.ruler.proofs.Reader.{known_layout, known_none, no_ruler_14}
use Rattle.ruler.proofs.Moving.{not_plain, moved, old_is, long_old, upgraded_is, not_old, upgrade_14, upgrade_moves}
use Rattle.ruler.proofs.upgrade.Goals as goal

pub returns-in_err-drawing : goal.returns-in_err-drawing
returns-in_err-drawing c =
    let r = err_from_is_err_and c.from_residual.result c.from_residual.ensures.1 in
    let none = c.in_err-drawing.ensures.ok_part in
    let l = c.args.bytes.now in
    let old = c.args.out.now in
    rw (r.1, r.2, no_ruler_14 c.in_err-drawing.ensures.value none) (sym (upgrade_14 l old (not_old l old (known_none l c.examine.ensures none))))

pub put_moved-requires-clause-in_bounds : goal.put_moved-requires-clause-in_bounds
put_moved-requires-clause-in_bounds c = let known = known_layout c.examine.ensures c.in_ok-drawing.ensures.ok_part in (omega arith, long_old known)

pub returns-in-Plain : goal.returns-in-Plain
returns-in-Plain c =
    let known = known_layout c.examine.ensures c.in_ok-drawing.ensures.ok_part in
    let l = c.args.bytes.now in
    let old = c.args.out.now in
    c.put_moved.ensures
    ∙ ap (λ (k : ℕ). list_written (moved k l (0 ∷ []) 25) old) (c.kind.ensures ∙ ap kind_byte (c.form-over.ensures ∙ ap form_of c.drawing.ensures))
    ∙ ap (λ (x : List ℕ). list_written x old) (upgraded_is known)
    ∙ sym (upgrade_moves l old (old_is known c.in-Plain.is))

pub returns-in-S : goal.returns-in-S
returns-in-S c = let known = known_layout c.examine.ensures c.in_ok-drawing.ensures.ok_part in sym (upgrade_14 c.args.bytes.now c.args.out.now (old_is known refl ∙ not_plain c.in-S.is))
