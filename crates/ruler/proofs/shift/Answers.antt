-- `ruler::shift` what the search leaves.
use Rattle.std.proofs.Common.{◌≡◌, ℕ, true, List, sym, ap, ◌∙◌, arith, to_z-of_z, w32, of_z}
use Rattle.std.proofs.lemmas.Result.{err_from_is_err_and}
use Rattle.ranged1d.specs.Answer.{given}
use Rattle.ranged1d.specs.Admitted.{limit_admitted}
use Rattle.real.specs.Shifting.{shifted_limit}
use Rattle.ruler.specs.declared.Drawing.{Drawing}
use Rattle.ruler.specs.Rule.{bytes_by, limit_in}
use Rattle.ruler.specs.Steps.{form_of, added_to_film}
use Rattle.ruler.proofs.Reader.{known_layout, known_none, no_ruler_14, known_drawn, known_long}
use Rattle.ruler.proofs.Places.{film}
use Rattle.ruler.proofs.MovedFilm.{film_added, shift_2, shift_14, shifted}
use Rattle.ruler.proofs.shift.Goals as goal

pub returns-in_err-layout : goal.returns-in_err-layout
returns-in_err-layout c =
    let r = err_from_is_err_and c.from_residual.result c.from_residual.ensures.1 in
    let none = c.in_err-layout.ensures.ok_part in
    let l = c.args.bytes.now in
    rw (r.1, r.2, no_ruler_14 c.in_err-layout.ensures.value none) (sym (shift_14 l c.args.c (known_none l c.examine.ensures none)))

pub returns-then-not-limits_admitted_on : goal.returns-then-not-limits_admitted_on
returns-then-not-limits_admitted_on c =
    let l = c.args.bytes.now in
    let known = known_layout c.examine.ensures c.in_ok-layout.ensures.ok_part in
    let tested = rw (to_z-of_z c.ranges.c, ← known.draft) at c.limits_admitted_on.ensures in
    sym (shift_2 l c.args.c known.ruler (sym tested ∙ c.if-not-limits_admitted_on.true))

pub add_to_film-requires : goal.add_to_film-requires
add_to_film-requires c = let known = known_layout c.examine.ensures c.in_ok-layout.ensures.ok_part in omega (arith, known_long known)

pub returns : goal.returns
returns c =
    let l = c.args.bytes.now in
    let d = c.in_ok-layout.layout.drawing in
    let p = c.in_ok-layout.layout.points in
    let z = c.args.c in
    let k = known_layout c.examine.ensures c.in_ok-layout.ensures.ok_part in
    let ok-d : limit_admitted (shifted_limit z d.draft.limit) ≡ true = sym (rw (to_z-of_z c.ranges.c) at c.limits_admitted_on.ensures) ∙ c.if-not-limits_admitted_on.false in
    let ok : limit_admitted (shifted_limit z (limit_in l)) ≡ true = ap (λ (x : Drawing). limit_admitted (shifted_limit z x.draft.limit)) k.draft ∙ ok-d in
    let drawn : Drawing → List ℕ = λ x. bytes_by (form_of x) x.draft.a x.draft.b (shifted_limit z x.draft.limit) x.draft.m in
    let put : c.add_to_film.new.l ≡ drawn d =
    c.add_to_film.ensures
    ∙ ap (λ (n : ℕ). added_to_film d p.count n l) (c.cast_unsigned.ensures ∙ ap (of_z w32) (to_z-of_z c.ranges.c))
    ∙ ap (added_to_film d p.count (of_z w32 z)) k.bytes
    ∙ film_added (form_of d) d.draft.a d.draft.b d.draft.limit d.draft.m z (film d.draft.a d.draft.b d.draft.limit d.draft.m (known_drawn k).has) ok-d k.plan c.ranges.c in
    ap (λ (x : List ℕ). (given tt, x)) (put ∙ ap drawn (sym k.draft)) ∙ sym (shifted l z k.ruler ok)
