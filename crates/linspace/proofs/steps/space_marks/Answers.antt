use Rattle.std.proofs.Common.{ℕ, ◌≡◌, ◌-◌, ◌*◌, sym, ap, refl, length, arith, rules, to_z-of_z}
use lib.IntN.{pos, nat_abs}
use mir.Syntax.{w32}
use mir.Val.{SFits, to_z}
use mir.Facts.{to_z_pos}
use Rattle.numeric.proofs.Lists.{length_of}
use Rattle.linspace.proofs.Marks.{plan-given, spaced}
use Rattle.linspace.proofs.steps.space_marks.Goals as goal

pub returns-in_err-p : goal.returns-in_err-p
returns-in_err-p c =
    let n_is : to_z w32 (c.args.n - 1) ≡ pos (c.args.n - 1) = to_z_pos w32 (omega (arith, c.requires.n_bound)) in
    absurd (plan-given (c.args.n - 1) c.args.m (omega (arith, c.requires.n_bound)) (c.requires.m_nonzero (omega (arith, c.if-n-eq0.false))) (sym (rw n_is at c.in_err-p.ensures)))

pub returns-then-room-count : goal.returns-then-room-count
returns-then-room-count c =
    let n_is : to_z w32 (c.args.n - 1) ≡ pos (c.args.n - 1) = to_z_pos w32 (omega (arith, c.requires.n_bound)) in
    let s = spaced c.args.n c.args.m (omega (arith, c.if-n-eq0.false)) c.requires.n_bound (sym (rw n_is at c.in_ok-p.ensures)) in
    (refl, omega (arith, c.if-n-eq0.false), omega (arith, c.if-room-count.true, ap length s.marks, length_of (λ (k : ℕ). k * nat_abs c.in_ok-p.p.step) c.in_ok-p.p.count))

pub returns : goal.returns
returns c =
    let n_is : to_z w32 (c.args.n - 1) ≡ pos (c.args.n - 1) = to_z_pos w32 (omega (arith, c.requires.n_bound)) in
    let fits : SFits w32 c.in_ok-p.p.step = search rules in
    rw (c.unsigned_abs.ensures.value, to_z-of_z fits) (spaced c.args.n c.args.m (omega (arith, c.if-n-eq0.false)) c.requires.n_bound (sym (rw n_is at c.in_ok-p.ensures)), c.if-room-count.false)
