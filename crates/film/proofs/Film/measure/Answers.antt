use Rattle.std.proofs.Common.{ℕ, ◌-◌, length, get_or, map, [], ap₂, sym, ◌∙◌, arith}
use Rattle.std.proofs.lemmas.List.{length-map}
use Rattle.std.proofs.lemmas.Result.{err_from_is_err_and}
use Rattle.film.specs.declared.Border.{Border}
use Rattle.film.specs.Film.{share}
use Rattle.film.specs.Steps.{border_from, settled}
use Rattle.film.proofs.Borders.{at_border}
use Rattle.film.proofs.Settled.{taken}
use Rattle.film.proofs.Walk.{next_taken, next-refused, no_more}
use Rattle.film.proofs.Film.measure.Goals as goal

pub returns-in_err-size : goal.returns-in_err-size
returns-in_err-size c =
    let p = err_from_is_err_and c.from_residual.result c.from_residual.ensures.1 in
    let l = c.loop-i in
    let b = c.args.self.borders.now in
    let told = c.in_err-size.ensures ∙ ap₂ (λ (x : Border) (m : ℕ). settled x m (c.args.room - l.at)) c.of.ensures c.share_of-share.ensures in
    rw (p.1, p.2)
    (sym (l.invariant.2 ∙ next-refused c.args.self.m (length b) (map border_from b) l.i (at_border b l.i c.loop-i-test.true) c.args.room l.at l.marks (sym told)))

pub overflow_add-at : goal.overflow_add-at
overflow_add-at c =
    let told = c.in_ok-size.ensures ∙ ap₂ (λ (x : Border) (m : ℕ). settled x m (c.args.room - c.loop-i.at)) c.of.ensures c.share_of-share.ensures in
    let t = (taken (border_from (get_or c.args.self.borders.now c.loop-i.i [])) (share c.args.self.m (length c.args.self.borders.now) c.loop-i.i) (sym told)).enough in
    record { fits = omega (arith, t, c.loop-i.invariant.0) }

pub overflow_add-marks : goal.overflow_add-marks
overflow_add-marks c =
    let told = c.in_ok-size.ensures ∙ ap₂ (λ (x : Border) (m : ℕ). settled x m (c.args.room - c.loop-i.at)) c.of.ensures c.share_of-share.ensures in
    let t = taken (border_from (get_or c.args.self.borders.now c.loop-i.i [])) (share c.args.self.m (length c.args.self.borders.now) c.loop-i.i) (sym told) in
    record { fits = omega (arith, t.enough, t.fewer, c.loop-i.invariant.0, c.loop-i.invariant.1) }

pub loop-i-preserved : goal.loop-i-preserved
loop-i-preserved c =
    let l = c.loop-i in
    let b = c.args.self.borders.now in
    let told = c.in_ok-size.ensures ∙ ap₂ (λ (x : Border) (m : ℕ). settled x m (c.args.room - l.at)) c.of.ensures c.share_of-share.ensures in
    let t = taken (border_from (get_or b l.i [])) (share c.args.self.m (length b) l.i) (sym told) in (
      omega (arith, t.enough, l.invariant.0),
      omega (arith, t.fewer, l.invariant.1),
      l.invariant.2 ∙ next_taken c.args.self.m (length b) (map border_from b) l.i (at_border b l.i c.loop-i-test.true) c.args.room l.at l.marks (sym told),
    )

pub returns : goal.returns
returns c =
    let l = c.loop-i in
    let b = c.args.self.borders.now in
    sym (l.invariant.2 ∙ no_more c.args.self.m (length b) (map border_from b) l.i (omega (arith, length-map b border_from, c.loop-i-test.false)) c.args.room l.at l.marks)
