use Rattle.std.proofs.Common.{◌≡◌, ◌||◌, false, rules, nat_abs, ◌-ℤ◌, ◌&&◌, sym, ap, ◌∙◌, arith}
use Rattle.ranged1d.specs.Numbers.{same}
use Rattle.real.specs.Reading.{outside}
use Rattle.ranged1d.specs.Answer.{refused}
use Rattle.ranged1d.specs.Admitted.{ends_admitted, whole_admitted}
use Rattle.ranged1d.proofs.Handed.{handed}
use Rattle.numeric.proofs.Places.{exact_off, exact_sizes}
use Rattle.numeric.proofs.RangedCoordi32.map_exact.Goals as goal

pub returns-in_err-ends : goal.returns-in_err-ends
returns-in_err-ends c =
    let a = c.args in
    let off : (ends_admitted a.self.0 a.self.1 && whole_admitted a.v) ≡ false = search rules in
    handed c.from_residual.result c.in_err-ends.field-0.0 c.from_residual.ensures ∙ ap refused c.in_err-ends.ensures.0 ∙ sym (exact_off a.self.0 a.self.1 a.v a.limit off)

pub exact_of-requires : goal.exact_of-requires
exact_of-requires c =
    let a = c.args in
    let on : (same a.self.0 a.self.1 || outside a.v a.self.0 a.self.1) ≡ false = search rules in
    let s = exact_sizes a.self.0 a.self.1 a.v a.limit (sym c.admitted.ensures ∙ c.if-not-admitted.false) on in
    let n : c.abs_diff.result ≡ nat_abs (a.limit.1 -ℤ a.limit.0) = search rules in
    let w : c.abs_diff-2.result ≡ nat_abs (a.v -ℤ a.self.0) = search rules in
    let d : c.abs_diff-3.result ≡ nat_abs (a.self.1 -ℤ a.self.0) = search rules in
    record { n_bound = omega (arith, n, s.0); w_le_d = omega (arith, w, d, s.1); d_nonzero = omega (arith, d, s.2) }
