use Rattle.std.proofs.Common.{ℕ, List, ap, sym, ◌∙◌, arith}
use Rattle.std.proofs.lemmas.Result.{err_from_is_err_and}
use Rattle.ranged1d.specs.Answer.{list_written}
use Rattle.float.specs.Text.{label_of, plotters_text}
use Rattle.float.proofs.Cases.{admitted_from}
use Rattle.float.proofs.Bounds.{printable_at_most}
use Rattle.float.proofs.Printed.{print_stops, print-some}
use Rattle.float.proofs.Shown.{levels_few, value-near, unsigned_bytes}
use Rattle.float.proofs.FloatPrettyPrinter.print.Goals as goal

pub returns-in_err-decimals_for : goal.returns-in_err-decimals_for
returns-in_err-decimals_for c =
    let p = err_from_is_err_and c.from_residual.result c.from_residual.ensures.1 in
    rw (p.1, p.2) (print_stops c.args.n c.args.self.max_decimal c.args.self.min_decimal _ c.args.out.now c.in_err-decimals_for.ensures)

pub take_apart-requires-clause-few : goal.take_apart-requires-clause-few
take_apart-requires-clause-few c =
    let x = c.in_ok-decimals_for.field-0.number in
    let w = admitted_from c.args.n c.args.self.max_decimal c.args.self.min_decimal x c.in_ok-decimals_for.ensures in
    levels_few c.args.n x c.well_formed.1.0.1 (printable_at_most c.args.n w.has_label) (omega (arith, w.same, w.most)) c.find_minimal_repr-r.result c.find_minimal_repr-r.ensures

pub take_apart-requires-clause-near : goal.take_apart-requires-clause-near
take_apart-requires-clause-near c =
    let x = c.in_ok-decimals_for.field-0.number in
    let w = admitted_from c.args.n c.args.self.max_decimal c.args.self.min_decimal x c.in_ok-decimals_for.ensures in
    value-near c.args.n x c.well_formed.1.0.1 (printable_at_most c.args.n w.has_label) (omega (arith, w.same, w.most)) c.find_minimal_repr-r.result c.find_minimal_repr-r.ensures

pub returns : goal.returns
unfolding label_of plotters_text
returns c =
    let a = c.args in
    let x = c.in_ok-decimals_for.field-0.number in
    let w = admitted_from a.n a.self.max_decimal a.self.min_decimal x c.in_ok-decimals_for.ensures in
    c.put_plain.ensures
    ∙ ap (λ (r : List ℕ). list_written r a.out.now) (unsigned_bytes a.n x c.well_formed.1.0.1 (printable_at_most a.n w.has_label) (omega (arith, w.same, w.most)) c.find_minimal_repr-r.result c.find_minimal_repr-r.ensures c.take_apart.result c.take_apart.ensures a.self.min_decimal)
    ∙ ap (λ (h : ℕ). list_written (label_of a.n h a.self.min_decimal) a.out.now) w.same
    ∙ sym (print-some a.n a.self.max_decimal a.self.min_decimal a.out.now w.has_label w.most w.least)
