use Rattle.std.proofs.Common.{◌≡◌, false, length, sym, ◌∙◌, arith}
use Rattle.std.proofs.lemmas.Result.{err_from_is_err_and}
use borrow.Author.Tests.{eqb-true, eqb-false}
use Rattle.film.specs.Film.{no_film}
use Rattle.film.proofs.Borders.{none-there, too_many, left_over, a_film}
use Rattle.film.proofs.Calls.{no_film_lem, fives-refused, fives_written}
use Rattle.film.proofs.write.Goals as goal
use Rattle.film.proofs.write.Goals.{then-is_empty-via-then-is_empty, then-is_empty-via-else-is_empty+then-fives-gt16, then-is_empty-via-else-is_empty+else-fives-gt16+then-not-is_empty}

pub returns-then-is_empty : goal.returns-then-is_empty
returns-then-is_empty c =
    let l = c.args.borders.now in
    let n = c.as_chunks.ensures.front_len in
    let r = c.as_chunks.ensures.back_len in
    elim c.then-is_empty.branch [
      | then-is_empty-via-then-is_empty w ↦ no_film_lem l c.args.m c.args.out.now (none-there l (sym n ∙ eqb-true (length c.as_chunks.result.0.now) 0 (sym c.is_empty.ensures ∙ w.if-is_empty.true)))
      | then-is_empty-via-else-is_empty+then-fives-gt16 w ↦ no_film_lem l c.args.m c.args.out.now (too_many l (omega (arith, n, w.if-fives-gt16.true)))
      | then-is_empty-via-else-is_empty+else-fives-gt16+then-not-is_empty w ↦ no_film_lem l c.args.m c.args.out.now (left_over l (λ z. eqb-false (length c.as_chunks.result.1.now) 0 (sym w.is_empty-else-fives-gt16.ensures ∙ w.if-not-is_empty.true) (r ∙ z)))
    ]

pub returns-in_err-size : goal.returns-in_err-size
returns-in_err-size c =
    let p = err_from_is_err_and c.from_residual.result c.from_residual.ensures.1 in
    let l = c.args.borders.now in
    let a = c.as_chunks in
    let e : no_film l ≡ false =
    a_film l (λ z. eqb-false (length a.result.0.now) 0 (sym c.is_empty.ensures ∙ c.if-is_empty.false) (a.ensures.front_len ∙ z)) (omega (arith, a.ensures.front_len, c.if-fives-gt16.false))
    (sym a.ensures.back_len ∙ eqb-true (length a.result.1.now) 0 (sym c.is_empty-else-fives-gt16.ensures ∙ c.if-not-is_empty.false)) in
    rw (p.1, p.2) (fives-refused l c.args.m c.args.out.now e a.result.0.now a.ensures.front a.ensures.front_len c.in_err-size.ensures)

pub returns : goal.returns
returns c =
    let l = c.args.borders.now in
    let a = c.as_chunks in
    let e : no_film l ≡ false =
    a_film l (λ z. eqb-false (length a.result.0.now) 0 (sym c.is_empty.ensures ∙ c.if-is_empty.false) (a.ensures.front_len ∙ z)) (omega (arith, a.ensures.front_len, c.if-fives-gt16.false))
    (sym a.ensures.back_len ∙ eqb-true (length a.result.1.now) 0 (sym c.is_empty-else-fives-gt16.ensures ∙ c.if-not-is_empty.false)) in
    fives_written l c.args.m c.args.out.now e a.result.0.now a.ensures.front a.ensures.front_len c.in_ok-size.ensures c.put.ensures
