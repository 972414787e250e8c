use Rattle.std.proofs.Common.{ℕ, ◌≡◌, ◌*◌, ◌≤◌, refl, sym, ap, ◌∙◌, List, ◌++◌, drop, length, arith}
use lib.Ieee.{Float}
use lib.Seq.{length-take-le}
use Rattle.ranged1d.specs.Answer.{Answer, given, refused}
use Rattle.ranged1d.proofs.Answers.{too_short, all-written}
use Rattle.numeric.proofs.Lists.{length_of}
use Rattle.linspace.specs.List.{real, stepped}
use Rattle.linspace.specs.Calls.{step_marks}
use Rattle.linspace.specs.RealSteps.{plus_step, after, sums_by}
use Rattle.linspace.proofs.Rules.{handed, points_is}
use Rattle.linspace.proofs.Counts.{sized}
use Rattle.linspace.proofs.Marks.{some-marks, marks-none, marks_long, nothing_written}
use Rattle.linspace.proofs.RealMarks.{marks-are}
use Rattle.linspace.proofs.reals.put_marks.Goals as goal

pub overflow_cast-n : goal.overflow_cast-n
overflow_cast-n c = let s = c.args.sums.s in let few : c.args.n ≤ 65536 = (sized s.a s.b s.d c.requires.d_value).few in record { fits = omega (arith, few) }

pub space_marks-requires : goal.space_marks-requires
space_marks-requires c =
    let s = c.args.sums.s in
    let l = sized s.a s.b s.d c.requires.d_value in
    record { n_bound = l.few; m_nonzero = some-marks (stepped real s.a s.b s.d) c.args.m c.args.n c.requires.m_value (sym l.all) }

pub returns-in_err-p : goal.returns-in_err-p
returns-in_err-p c =
    let s = c.args.sums.s in
    let l = sized s.a s.b s.d c.requires.d_value in
    let e = c.in_err-p.ensures in
    ap (λ (r : Answer ℕ). (r, c.args.out.now)) (handed c.from_residual.result c.in_err-p.field-0.0 c.from_residual.ensures ∙ ap refused e.0)
    ∙ too_short (step_marks real s.a s.b s.d c.args.m) c.args.out.now _ (marks_long real.nil (stepped real s.a s.b s.d) c.args.m (sym l.all) e.1) e.2
    ∙ points_is real s.a s.b s.d refl c.args.m c.args.out.now c.requires.m_value c.requires.d_value

pub returns-in_default : goal.returns-in_default
returns-in_default c =
    let s = c.args.sums.s in
    let l = sized s.a s.b s.d c.requires.d_value in
    let none : c.args.n ≡ 0 = rw c.in_default.is at c.in_ok-p.ensures in
    nothing_written (step_marks real s.a s.b s.d c.args.m) c.args.out.now (marks-none real.nil (stepped real s.a s.b s.d) c.args.m (sym l.all ∙ none))
    ∙ points_is real s.a s.b s.d refl c.args.m c.args.out.now c.requires.m_value c.requires.d_value

pub returns : goal.returns
returns c =
    let s = c.args.sums.s in
    let n = c.in-Some.p.count in
    let p = rw c.in-Some.is at c.in_ok-p.ensures in
    let marks = marks-are s.a s.b s.d c.args.m (sized s.a s.b s.d c.requires.d_value).all p.0 in
    ap (λ (z : List Float). (given n, z)) (ap (λ (l : List Float). l ++ drop n c.args.out.now) (c.put_spaced.ensures ∙ ap (sums_by (plus_step s.d) c.in-Some.p.by s.a) (length-take-le n c.args.out.now p.1) ∙ sym marks))
    ∙ all-written (step_marks real s.a s.b s.d c.args.m) c.args.out.now n (ap length marks ∙ length_of (λ k. after (plus_step s.d) (k * c.in-Some.p.by) s.a) n) p.1
    ∙ points_is real s.a s.b s.d refl c.args.m c.args.out.now c.requires.m_value c.requires.d_value
