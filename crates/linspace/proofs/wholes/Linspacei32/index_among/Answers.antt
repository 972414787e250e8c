use Rattle.std.proofs.Common.{ℕ, ◌≡◌, refl, sym, ap, ◌∙◌, true, rules, to_z-of_z}
use Rattle.ranged1d.specs.Answer.{given, and_then}
use Rattle.ranged1d.specs.Told.{tell_option}
use Rattle.ranged1d.specs.Admitted.{whole_admitted}
use Rattle.ranged1d.proofs.Whole.{same_yes}
use Rattle.search.specs.Search.{wholes}
use Rattle.search.specs.Search as rule
use Rattle.linspace.specs.List.{whole, stepped}
use Rattle.linspace.specs.Calls.{among}
use Rattle.linspace.proofs.Rules.{handed_found, told_map, stops, counts_admitted, once_listed, counted_by, index-refused, index_value_refused, index_is}
use Rattle.linspace.proofs.wholes.Linspacei32.index_among.Goals as goal

pub returns-then-not-whole_admitted : goal.returns-then-not-whole_admitted
returns-then-not-whole_admitted c =
    let i = c.args.self in
    ap (among whole i.inner.0 i.inner.1 i.step) (index_value_refused whole i.inner.0 i.inner.1 i.step c.args.v c.args.method (sym (rw (to_z-of_z c.ranges.v) at c.whole_admitted.ensures) ∙ c.if-not-whole_admitted.true))

pub returns-in_err-l : goal.returns-in_err-l
returns-in_err-l c =
    let i = c.args.self in
    let e = c.in_err-l.ensures in
    let v = c.args.v in
    let wanted : whole_admitted v ≡ true = sym (rw (to_z-of_z c.ranges.v) at c.whole_admitted.ensures) ∙ c.if-not-whole_admitted.false in
    let beside = among whole i.inner.0 i.inner.1 i.step in
    handed_found c.from_residual.result c.in_err-l.field-0.0 c.from_residual.ensures
    ∙ stops whole i.inner.0 i.inner.1 i.step (λ r. beside (once_listed r (rule.search wholes v c.args.method (stepped whole i.inner.0 i.inner.1 i.step)))) e (λ h. ap beside (index_is whole i.inner.0 i.inner.1 i.step h e v c.args.method wanted (same_yes v v refl))) (λ h. ap beside (index-refused whole i.inner.0 i.inner.1 i.step h v c.args.method))

pub returns : goal.returns
returns c =
    let i = c.args.self in
    let e = c.in_ok-l.ensures in
    let h = counts_admitted whole i.inner.0 i.inner.1 i.step e.0 in
    let v = c.args.v in
    let wanted : whole_admitted v ≡ true = sym (rw (to_z-of_z c.ranges.v) at c.whole_admitted.ensures) ∙ c.if-not-whole_admitted.false in
    let told : tell_option c.map.result ≡ and_then (tell_option c.find.result) (λ k. given (k, c.from-n.result)) = search (rules, told_map) in
    told
    ∙ ap (λ (n : ℕ). and_then (tell_option c.find.result) (λ k. given (k, n))) (c.from-n.ensures ∙ (counted_by whole i.inner.0 i.inner.1 i.step h e.0).all)
    ∙ ap (among whole i.inner.0 i.inner.1 i.step) (rw (to_z-of_z c.ranges.v) at c.find.ensures ∙ ap (rule.search wholes v c.args.method) (sym e.1) ∙ index_is whole i.inner.0 i.inner.1 i.step h e.0 v c.args.method wanted (same_yes v v refl))
