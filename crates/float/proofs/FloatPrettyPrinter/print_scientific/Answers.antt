use Rattle.std.proofs.Common.{◌≡◌, ℕ, List, false, ap, sym, ◌∙◌, arith}
use Rattle.std.proofs.lemmas.Result.{err_from_is_err_and}
use lib.Ieee as Ieee
use lib.Ieee.{Float, lt}
use Rattle.ranged1d.specs.Answer.{list_written}
use Rattle.float.specs.Scientific.{zero_float, scientific_of}
use Rattle.float.specs.Text.{size_of}
use Rattle.float.specs.Calls.{too_small}
use Rattle.std.specs.Float.{float_with_sign}
use Rattle.float.proofs.Cases.{admitted_from}
use Rattle.float.proofs.Signs.{size_is}
use Rattle.float.proofs.Notation.{scientific_stops, stops_28, goes_on_lem, zero_large, small_is, first-power, text_zero}
use Rattle.float.proofs.FloatPrettyPrinter.print_scientific.Goals as goal

-- whether n is too small is what the code compares
small : (n x : Float) → Ieee.eq n zero_float ≡ false → x ≡ float_with_sign false n → too_small n ≡ lt x (Ieee.of_bits Ieee.binary64 14067255587423757)
small n x z e = small_is n z ∙ ap (lt (size_of n)) (sym first-power) ∙ ap (λ (y : Float). lt y (Ieee.of_bits Ieee.binary64 14067255587423757)) (sym (size_is n) ∙ sym e)

pub returns-in_err-most : goal.returns-in_err-most
returns-in_err-most c =
    let p = err_from_is_err_and c.from_residual.result c.from_residual.ensures.1 in
    rw (p.1, p.2) (scientific_stops c.args.n c.args.self.max_decimal c.args.self.min_decimal c.args.out.now _ c.in_err-most.ensures)

pub returns-then-n : goal.returns-then-n
returns-then-n c =
    let a = c.args in
    let w = admitted_from a.n a.self.max_decimal a.self.min_decimal c.in_ok-most.most.number c.in_ok-most.ensures in
    c.put_text.ensures
    ∙ ap (λ (r : List ℕ). list_written r a.out.now) (sym (text_zero a.n a.self.max_decimal a.self.min_decimal c.if-n.true))
    ∙ sym (goes_on_lem a.n a.self.max_decimal a.self.min_decimal a.out.now w.has_label w.most w.least (zero_large a.n c.if-n.true))

pub returns-then-abs : goal.returns-then-abs
returns-then-abs c =
    let a = c.args in
    let w = admitted_from a.n a.self.max_decimal a.self.min_decimal c.in_ok-most.most.number c.in_ok-most.ensures in
    stops_28 a.n a.self.max_decimal a.self.min_decimal a.out.now w.has_label w.most w.least (small a.n c.abs.result c.if-n.false c.abs.ensures.value ∙ c.if-abs.true)

pub put_either-requires-clause-has_label : goal.put_either-requires-clause-has_label
put_either-requires-clause-has_label c = (admitted_from c.args.n c.args.self.max_decimal c.args.self.min_decimal c.in_ok-most.most.number c.in_ok-most.ensures).has_label

pub put_either-requires-clause-large : goal.put_either-requires-clause-large
put_either-requires-clause-large c = small c.args.n c.abs.result c.if-n.false c.abs.ensures.value ∙ c.if-abs.false

pub returns : goal.returns
returns c =
    let a = c.args in
    let w = admitted_from a.n a.self.max_decimal a.self.min_decimal c.in_ok-most.most.number c.in_ok-most.ensures in
    c.put_either.ensures
    ∙ ap (λ (h : ℕ). list_written (scientific_of a.n h a.self.min_decimal) a.out.now) w.same
    ∙ sym (goes_on_lem a.n a.self.max_decimal a.self.min_decimal a.out.now w.has_label w.most w.least (small a.n c.abs.result c.if-n.false c.abs.ensures.value ∙ c.if-abs.false))
