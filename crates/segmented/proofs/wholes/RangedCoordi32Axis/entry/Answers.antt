-- `segmented::wholes::RangedCoordi32Axis::entry` what the search leaves.
use Rattle.std.proofs.Common.{Bool, cond, sym, ap, ◌∙◌, pos, ◌+ℤ◌, arith, rules, lt-ltb, le-ltb, w32, SFits, to_z-of_z}
use mir.Facts.{to_z_pos}
use Rattle.ranged1d.specs.Answer.{given, none}
use Rattle.ranged1d.proofs.Whole.{fits32}
use Rattle.ranged1d.proofs.Handed.{handed_found}
use Rattle.segmented.proofs.WholeRules.{entry_by, entry-near}
use Rattle.segmented.proofs.wholes.RangedCoordi32Axis.entry.Goals as goal

pub returns-in_err-size : goal.returns-in_err-size
returns-in_err-size c =
    handed_found c.from_residual.result c.in_err-size.field-0.0 c.from_residual.ensures
    ∙ entry_by c.args.self.0 c.args.self.1 c.args.k c.in_err-size.ensures

pub overflow_cast-result : goal.overflow_cast-result
overflow_cast-result c = omega (arith, (entry-near c.args.self.0 c.args.self.1 c.args.k c.in_ok-size.field-0 c.in_ok-size.ensures c.if-branch.true).0)

pub overflow_add-result : goal.overflow_add-result
overflow_add-result c =
    let a = c.args.self.0 in
    let k = c.args.k in
    let near = entry-near a c.args.self.1 k c.in_ok-size.field-0 c.in_ok-size.ensures c.if-branch.true in
    let a-fits : SFits w32 a = search rules in
    rw (to_z-of_z a-fits, to_z_pos w32 {n = k} (omega (arith, near.0))) (fits32 (a +ℤ pos k) (omega (arith, near.1)))

pub returns-then-branch : goal.returns-then-branch
returns-then-branch c =
    let a = c.args.self.0 in
    let k = c.args.k in
    let n = c.in_ok-size.field-0 in
    let near = entry-near a c.args.self.1 k n c.in_ok-size.ensures c.if-branch.true in
    let a-fits : SFits w32 a = search rules in
    rw (to_z-of_z a-fits, to_z_pos w32 {n = k} (omega (arith, near.0)), to_z-of_z (fits32 (a +ℤ pos k) (omega (arith, near.1))))
    (ap (λ (t : Bool). cond t (given (a +ℤ pos k)) none) (sym (lt-ltb k n c.if-branch.true)) ∙ entry_by a c.args.self.1 k c.in_ok-size.ensures)

pub returns : goal.returns
returns c =
    ap (λ (t : Bool). cond t (given (c.args.self.0 +ℤ pos c.args.k)) none) (sym (le-ltb c.args.k c.in_ok-size.field-0 (omega (arith, c.if-branch.false))))
    ∙ entry_by c.args.self.0 c.args.self.1 c.args.k c.in_ok-size.ensures
