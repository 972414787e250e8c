-- `segmented::below::Segment::next` what the search leaves.
use Rattle.std.proofs.Common.{◌≡◌, true, sym, ap, ◌∙◌}
use Rattle.ranged1d.specs.Answer.{given, and_then}
use Rattle.ranged1d.proofs.Handed.{handed_found}
use Rattle.segmented.proofs.Rules.{next_is, next_entry, next_of}
use Rattle.segmented.proofs.below.Segment.next.Goals as goal

pub returns-in_err-k-clause-value_is : goal.returns-in_err-k-clause-value_is
returns-in_err-k-clause-value_is g c =
    let s = c.args.self in
    let x = s.all.axis in
    ap (λ r. and_then r (λ w. given w.v)) (handed_found c.from_residual.result c.in_err-k.field-0.0 c.from_residual.ensures)
    ∙ next_is (g.A.Axis.axis x) (g.A.Axis.finder x c.args.way) s.v s.all.stands s.fit c.in_err-k.ensures

pub returns-in_default-clause-value_is : goal.returns-in_default-clause-value_is
returns-in_default-clause-value_is g c =
    let s = c.args.self in
    let x = s.all.axis in
    next_is (g.A.Axis.axis x) (g.A.Axis.finder x c.args.way) s.v s.all.stands s.fit (rw c.in_default.is at c.in_ok-k.ensures)

pub returns-then-all-k-clause-value_is : goal.returns-then-all-k-clause-value_is
returns-then-all-k-clause-value_is g c =
    let s = c.args.self in
    let x = s.all.axis in
    sym ((g.met.A.Axis.regular x).past s.all.stands c.in-Some.k c.if-all-k.true)
    ∙ next_is (g.A.Axis.axis x) (g.A.Axis.finder x c.args.way) s.v s.all.stands s.fit (rw c.in-Some.is at c.in_ok-k.ensures)

pub returns-in_err-v-clause-value_is : goal.returns-in_err-v-clause-value_is
returns-in_err-v-clause-value_is g c =
    let s = c.args.self in
    let x = s.all.axis in
    ap (λ r. and_then r (λ w. given w.v)) (handed_found c.from_residual-in_err-v.result c.in_err-v.field-0.0 c.from_residual-in_err-v.ensures)
    ∙ next_entry (g.A.Axis.axis x) (g.A.Axis.finder x c.args.way) s.v s.all.stands s.fit (rw c.in-Some.is at c.in_ok-k.ensures) c.in_err-v.ensures

pub returns-in_default-2-clause-value_is : goal.returns-in_default-2-clause-value_is
returns-in_default-2-clause-value_is g c =
    let s = c.args.self in
    let x = s.all.axis in
    next_entry (g.A.Axis.axis x) (g.A.Axis.finder x c.args.way) s.v s.all.stands s.fit (rw c.in-Some.is at c.in_ok-k.ensures) (rw c.in_default-2.is at c.in_ok-v.ensures)

pub invariant_of-result : goal.invariant_of-result
invariant_of-result g c =
    let s = c.args.self in
    let x = s.all.axis in
    let axis = g.A.Axis.axis x in
    let find = g.A.Axis.finder x c.args.way in
    record { fit = next_of axis find s.v (λ w. axis.fit w ≡ true) (λ k. (g.met.A.Axis.regular x).fit s.all.stands k) (next_entry axis find s.v s.all.stands s.fit (rw c.in-Some.is at c.in_ok-k.ensures) (rw c.in-Some-2.is at c.in_ok-v.ensures)) }

pub returns-clause-value_is : goal.returns-clause-value_is
returns-clause-value_is g c =
    let s = c.args.self in
    let x = s.all.axis in
    next_entry (g.A.Axis.axis x) (g.A.Axis.finder x c.args.way) s.v s.all.stands s.fit (rw c.in-Some.is at c.in_ok-k.ensures) (rw c.in-Some-2.is at c.in_ok-v.ensures)
