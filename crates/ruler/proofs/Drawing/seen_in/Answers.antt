-- `ruler::Drawing::seen_in` what the search leaves, by what is known of a plan.
use Rattle.std.proofs.Common.{◌≡◌, true, T, length, take, drop, sym, ap, ◌∙◌, subst, rules, to_z-of_z, w32, SFits}
use Rattle.std.specs.Prelude.{Some}
use native.Mathlib.Nat.{sub-zero}
use Rattle.decimal.proofs.Texts.{same-equal, same_yes}
use Rattle.ranged1d.proofs.Pieces.{rest_is}
use Rattle.ruler.specs.declared.Drawing.{Drawing}
use Rattle.ruler.specs.Bytes.{head_long}
use Rattle.ruler.proofs.Drawn.{ruler_long_lem, ruler_head, ruler_rest, ruler_whole}
use Rattle.ruler.proofs.Reader.{bytes_of, layout_given, layout_refused, laid_out, long_out, seen_none, seen_same, seen_other}
use Rattle.ruler.proofs.Drawing.seen_in.Goals as goal
use Rattle.ruler.specs.Steps.{form_of}

pub returns-in_err-layout : goal.returns-in_err-layout
returns-in_err-layout c = rw c.from_residual.ensures (let r = layout_refused c.args.self c.layout.result c.in_err-layout.ensures.value c.layout.ensures in sym (seen_none c.args.l.now c.args.self r.1))

pub returns-then-l-size : goal.returns-then-l-size
returns-then-l-size c =
    let x = c.in_ok-layout.layout in
    let e = layout_given c.layout.result c.in_ok-layout.ensures.value c.layout.ensures in
    let plan = laid_out e x.planned in
    let size = c.size.ensures ∙ long_out e x.points in
    sym (seen_other _ c.args.self plan (λ f. c.if-l-size.true (ap length f ∙ ruler_long_lem _ _ _ _ _ plan ∙ sym size)))

pub returns-then-not-is_head : goal.returns-then-not-is_head
returns-then-not-is_head c =
    let d = c.args.self in
    let l = c.args.l.now in
    let x = c.in_ok-layout.layout in
    let e = layout_given c.layout.result c.in_ok-layout.ensures.value c.layout.ensures in
    let plan = laid_out e x.planned in
    let step : SFits w32 x.points.step = search rules in
    let told = (rw (sub-zero c.head-head.result, c.head-head.ensures.0, to_z-of_z step) at c.is_head.ensures) in
    let agree : l ≡ bytes_of d → c.is_head.result ≡ true = λ f. told ∙ same_yes _ _ (ap (take (head_long (form_of d))) f ∙ ruler_head _ _ _ _ _ plan) in
    sym (seen_other _ d plan (λ f. subst T (sym (agree f) ∙ c.if-not-is_head.true) tt))

pub returns-then-not-has_marks : goal.returns-then-not-has_marks
returns-then-not-has_marks c =
    let d = c.args.self in
    let l = c.args.l.now in
    let x = c.in_ok-layout.layout in
    let e = layout_given c.layout.result c.in_ok-layout.ensures.value c.layout.ensures in
    let plan = laid_out e x.planned in
    let told = (rw (rest_is c.head-head.result l, c.head-head.ensures.0, e) at c.has_marks.ensures) in
    let agree : l ≡ bytes_of d → c.has_marks.result ≡ true = λ f. told ∙ same_yes _ _ (ap (drop (head_long (form_of d))) f ∙ ruler_rest _ _ _ _ _ plan) in
    sym (seen_other _ d plan (λ f. subst T (sym (agree f) ∙ c.if-not-has_marks.true) tt))

pub returns : goal.returns
returns c =
    let d = c.args.self in
    let l = c.args.l.now in
    let x = c.in_ok-layout.layout in
    let e = layout_given c.layout.result c.in_ok-layout.ensures.value c.layout.ensures in
    let plan = laid_out e x.planned in
    let step : SFits w32 x.points.step = search rules in
    let first = (rw (sub-zero c.head-head.result, c.head-head.ensures.0, to_z-of_z step) at c.is_head.ensures) in
    let others = (rw (rest_is c.head-head.result l, c.head-head.ensures.0, e) at c.has_marks.ensures) in
    let one = same-equal _ _ (sym first ∙ c.if-not-is_head.false) in
    let rest = same-equal _ _ (sym others ∙ c.if-not-has_marks.false) in
    ap (λ (y : Drawing). Some (y, x.points)) e ∙ sym (seen_same l d plan (ruler_whole _ _ _ _ _ plan l one rest))
