use Rattle.std.proofs.Common.{ℕ, ◌≡◌, sym, ap, ap₂, ◌∙◌, List, ◌++◌, ◌*◌, length, arith}
use borrow.Rule.Slice.PartMut.{Post-is}
use lib.IntN.{ℤ, pos}
use Rattle.ranged1d.specs.Answer.{Answer, given, refused}
use Rattle.ranged1d.proofs.Answers.{too_short, all-written}
use Rattle.numeric.specs.Marks.{list_of}
use Rattle.numeric.specs.Calls.{element}
use Rattle.numeric.proofs.Lists.{length_of}
use Rattle.linspace.specs.Calls.{marks_of}
use Rattle.linspace.proofs.Rules.{handed}
use Rattle.linspace.proofs.Marks.{marks-none, marks_long, marks_by, nothing_written}
use Rattle.linspace.proofs.wholes.Entries.put_marks.Goals as goal

pub returns-in_err-p : goal.returns-in_err-p
returns-in_err-p c =
    let l = c.args.self in
    let f = element l.s.a l.s.d in
    let e = c.in_err-p.ensures in
    ap (λ (r : Answer ℕ). (r, c.args.out.now)) (handed c.from_residual.result c.in_err-p.field-0.0 c.from_residual.ensures ∙ ap refused e.0)
    ∙ too_short (marks_of (pos 0) (list_of f l.n) c.args.m) c.args.out.now _ (marks_long (pos 0) (list_of f l.n) c.args.m (length_of f l.n) e.1) e.2

pub returns-in_default : goal.returns-in_default
returns-in_default c =
    let l = c.args.self in
    let f = element l.s.a l.s.d in
    let none : l.n ≡ 0 = rw c.in_default.is at c.in_ok-p.ensures in
    nothing_written (marks_of (pos 0) (list_of f l.n) c.args.m) c.args.out.now (marks-none (pos 0) (list_of f l.n) c.args.m (length_of f l.n ∙ none))

pub returns : goal.returns
returns c =
    let l = c.args.self in
    let f = element l.s.a l.s.d in
    let n = c.in-Some.p.count in
    let s = rw c.in-Some.is at c.in_ok-p.ensures in
    let marks = marks_by (pos 0) f s.0 in
    ap (λ (z : List ℤ). (given n, z)) (ap₂ (λ (y z : List ℤ). y ++ z) (c.put_spaced.ensures ∙ sym marks) (Post-is 0 n c.args.out.now (omega arith)))
    ∙ all-written (marks_of (pos 0) (list_of f l.n) c.args.m) c.args.out.now n (ap length marks ∙ length_of (λ k. f (k * c.in-Some.p.by)) n) s.1
