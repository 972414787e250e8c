use Rattle.std.proofs.Common.{◌≡◌, ◌++◌, length, take, drop, map, w32, to_z, of_z, rules, sym, ap, ap₂, ◌∙◌, arith}
use lib.ListN.{length-map}
use Rattle.std.proofs.lemmas.List.{length-take-le}
use Rattle.ranged1d.specs.Answer.{given, refused}
use Rattle.ranged1d.specs.Refusals.{number_of}
use Rattle.ranged1d.specs.Told.{tell}
use Rattle.numeric.specs.Marks.{marks}
use Rattle.numeric.specs.Calls.{whole_plan}
use Rattle.numeric.proofs.Plans.{planned_good, plan-refused, plan-short, plan-written, marks_as}
use Rattle.numeric.proofs.RangedCoordi32.write_marks.Goals as goal

pub returns-in_err-p : goal.returns-in_err-p
returns-in_err-p g c = λ f h.
    let a = c.args in
    let l = marks a.self.0 a.self.1 a.m in
    let e : tell c.from_residual.result ≡ refused (number_of c.in_err-p.field-0.0) = search rules in
    let plan : whole_plan a.self.0 a.self.1 a.m ≡ refused (number_of c.in_err-p.field-0.0) = search rules in
    ap (λ r. (r, a.out.now)) e ∙ sym (plan-refused f a.self.0 a.self.1 a.m (map f l) a.out.now (length-map l f) plan)

pub returns-then-out-n : goal.returns-then-out-n
returns-then-out-n g c = λ f h.
    let a = c.args in
    let l = marks a.self.0 a.self.1 a.m in
    let plan : whole_plan a.self.0 a.self.1 a.m ≡ given c.in_ok-p.p = search rules in
    sym (plan-short f a.self.0 a.self.1 a.m (map f l) a.out.now (length-map l f) plan c.if-out-n.true)

pub fill_marks-requires : goal.fill_marks-requires
fill_marks-requires g c =
    let a = c.args in
    let p = c.in_ok-p.p in
    let plan : whole_plan a.self.0 a.self.1 a.m ≡ given p = search rules in
    let good = planned_good a.self.0 a.self.1 a.m plan in
    let n : length (take p.count a.out.now) ≡ p.count = length-take-le p.count a.out.now c.if-out-n.false in
    let first : to_z w32 (of_z w32 p.first) ≡ p.first = search rules in
    let step : to_z w32 (of_z w32 p.step) ≡ p.step = search rules in
    rw (n, first, step) record { callable = c.requires; few = omega (arith, good.few); by_index = λ k h. (omega (arith, (good.near k h).0), omega (arith, (good.near k h).1)) }

pub returns : goal.returns
returns g c = λ f h.
    let a = c.args in
    let p = c.in_ok-p.p in
    let l = marks a.self.0 a.self.1 a.m in
    let plan : whole_plan a.self.0 a.self.1 a.m ≡ given p = search rules in
    let n : length (take p.count a.out.now) ≡ p.count = length-take-le p.count a.out.now c.if-out-n.false in
    let first : to_z w32 (of_z w32 p.first) ≡ p.first = search rules in
    let step : to_z w32 (of_z w32 p.step) ≡ p.step = search rules in
    let filled : c.fill_marks.new.out ≡ map f l = rw (first, step, n) at (c.fill_marks.ensures f h) ∙ sym (marks_as f a.self.0 a.self.1 a.m plan) in
    ap₂ (λ x y. (given (x, p.count), y ++ drop p.count a.out.now)) (h _ _ c.mark-step.ensures ∙ ap f step) filled
    ∙ sym (plan-written f a.self.0 a.self.1 a.m (map f l) a.out.now (length-map l f) plan c.if-out-n.false)
