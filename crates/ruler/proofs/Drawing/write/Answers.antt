-- `ruler::Drawing::write` what the search leaves, by what is known of a plan.
use Rattle.std.proofs.Common.{ℕ, ◌+◌, List, ◌++◌, length, drop, sym, ap, ◌∙◌, ap₂, arith}
use Rattle.std.proofs.lemmas.Result.{err_from_is_err_and}
use Rattle.ranged1d.specs.Answer.{given}
use Rattle.ruler.specs.declared.Drawing.{Drawing}
use Rattle.ruler.specs.Bytes.{joined}
use Rattle.ruler.specs.Steps.{first_of}
use Rattle.ruler.proofs.Drawn.{write_refused, write_short, write_fits, all_put}
use Rattle.ruler.proofs.Reader.{laid_out, long_out}
use Rattle.ruler.proofs.Drawing.write.Goals as goal

pub returns-in_err-layout : goal.returns-in_err-layout
returns-in_err-layout c =
    let r = err_from_is_err_and c.from_residual.result c.from_residual.ensures.1 in
    rw (r.1, r.2) (sym (write_refused _ _ _ _ _ c.args.out.now c.in_err-layout.ensures))

pub returns-then-out-size : goal.returns-then-out-size
returns-then-out-size c =
    let x = c.in_ok-layout.layout in
    let e = c.in_ok-layout.ensures in
    let size = c.size-size.ensures ∙ long_out e x.points in
    sym (write_short _ _ _ _ _ (laid_out e x.planned) c.args.out.now (omega (arith, c.if-out-size.true, size)))

pub returns : goal.returns
returns c =
    let x = c.in_ok-layout.layout in
    let e = c.in_ok-layout.ensures in
    let p = x.points in
    let old = c.args.out.now in
    let plan = laid_out e x.planned in
    let size = c.size-size.ensures ∙ long_out e p in
    let put = c.put_records.ensures ∙ ap (λ (d : Drawing). joined (first_of d p (p.count + 1)) ++ drop (length (joined (first_of d p (p.count + 1)))) old) e in
    ap₂ (λ (n : ℕ) (l : List ℕ). (given (n, p.count), l)) size (all_put c.args.self plan old put)
    ∙ sym (write_fits _ _ _ _ _ plan old (omega (arith, c.if-out-size.false, size)))
