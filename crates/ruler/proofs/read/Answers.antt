-- `ruler::read` what the search leaves.
use Rattle.std.proofs.Common.{sym, rules, to_z-of_z, w32, SFits}
use Rattle.std.proofs.lemmas.Result.{err_from_is_err_and}
use Rattle.ruler.proofs.Reader.{known_layout, known_none, no_ruler_14, read_known, read_nothing}
use Rattle.ruler.proofs.read.Goals as goal

pub returns-in_err-layout : goal.returns-in_err-layout
returns-in_err-layout c =
    let r = err_from_is_err_and c.from_residual.result c.from_residual.ensures.1 in
    let none = c.in_err-layout.ensures.ok_part in
    rw (r.1, r.2, no_ruler_14 c.in_err-layout.ensures.value none) (sym (read_nothing _ (known_none c.args.bytes.now c.examine.ensures none)))

pub returns : goal.returns
returns c =
    let d = c.in_ok-layout.layout.drawing in
    let p = c.in_ok-layout.layout.points in
    let known = known_layout c.examine.ensures c.in_ok-layout.ensures.ok_part in
    let a : SFits w32 d.draft.a = search rules in
    let b : SFits w32 d.draft.b = search rules in
    let s : SFits w32 p.step = search rules in
    rw (to_z-of_z a, to_z-of_z b, to_z-of_z s, c.form.ensures) (sym (read_known known))
