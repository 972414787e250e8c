-- `ruler::Layout::put_records` what the search leaves.
use Rattle.std.proofs.Common.{ℕ, ◌+◌, ◌-◌, ◌*◌, ◌++◌, drop, sym, ap, ◌∙◌, arith, rules, to_z-of_z, w32, SFits}
use Rattle.ranged1d.proofs.Pieces.{put_more}
use Rattle.ruler.proofs.Records.{head, marks_of, axis_long, first-none, first_put}
use Rattle.ruler.proofs.Layout.put_records.Goals as goal
use Rattle.ruler.specs.Steps.{form_of}

pub returns-then-n-eq0 : goal.returns-then-n-eq0
returns-then-n-eq0 c = first-none c.args.self.drawing c.args.self.points c.args.out.now c.if-n-eq0.true

pub returns : goal.returns
returns c =
    let d = c.args.self.drawing in
    let p = c.args.self.points in
    let k = c.args.n - 1 in
    let old = c.args.out.now in
    let h = c.head-head.result in
    let h-is = c.head-head.ensures.0 in
    let step : SFits w32 p.step = search rules in
    let first = (rw (to_z-of_z step) at c.put_head.ensures) ∙ ap (λ (n : ℕ). head d p ++ drop n old) (sym h-is) in
    first_put d p k old (omega (arith, c.if-n-eq0.false))
    (put_more h (20 * k) (head d p) (marks_of d p k) old c.put_head.new.out c.put_marks.new.out (axis_long (form_of d) d.draft.a d.draft.b d.draft.limit d.draft.m p.step ∙ sym h-is) first c.put_marks.ensures
    ∙ ap (λ (n : ℕ). (head d p ++ marks_of d p k) ++ drop (n + 20 * k) old) h-is)
