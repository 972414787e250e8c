-- Each value on the way is the definition's.
use Rattle.std.proofs.Common.{◌≡◌, refl, true, false, rules, w32, to_z, of_z, pos, ◌*ℤ◌, sym, ◌∙◌, arith}
use Rattle.std.proofs.lemmas.Result.{err_from_is_err_and}
use mir.Facts.{to_z-of_z}
use Rattle.ranged1d.proofs.Whole.{fits32}
use Rattle.numeric.specs.Marks.{distance, first_index, last_by, how_many, no_step_for}
use Rattle.numeric.proofs.Bounds.{first-near}
use Rattle.numeric.proofs.Planned.{not_served, served, step_is, planned, refused_step}
use Rattle.numeric.proofs.Sorted.plan.Goals as goal

pub returns-in_err-k : goal.returns-in_err-k
returns-in_err-k c =
    let far : c.abs_diff.result ≡ distance c.args.self.lo c.args.self.hi = search rules in
    let none : no_step_for c.args.self.lo c.args.self.hi c.args.m ≡ true = not_served c.args.self.lo c.args.self.hi c.args.m far (rw c.in_err-k.ensures.ok_part at c.choose.ensures) in
    let p = err_from_is_err_and c.from_residual.result c.from_residual.ensures.1 in
    rw (p.1, p.2, none, refused_step c.in_err-k.field-0.0 (rw c.in_err-k.ensures.ok_part at c.in_err-k.ensures.value))

pub overflow_mul-first : goal.overflow_mul-first
overflow_mul-first c =
    let l = c.args.self in
    let s = c.step_at-s.result in
    let near = first-near l.lo l.hi s.by l.lo_near l.hi_near s.some s.most in
    let i : to_z w32 (of_z w32 c.first_from-i.result) ≡ first_index l.lo s.by = search rules in
    let t : to_z w32 s.by ≡ pos s.by = search rules in
    rw (i, t) (fits32 _ (omega (arith, near)))

pub returns : goal.returns
returns c =
    let l = c.args.self in
    let m = c.args.m in
    let found = rw c.in_ok-k.ensures.ok_part at c.choose.ensures in
    let s = c.step_at-s.result in
    let far : c.abs_diff.result ≡ distance l.lo l.hi = search rules in
    let some : no_step_for l.lo l.hi m ≡ false = served l.lo l.hi m far found.0 in
    let plan = planned c.args.choice l.lo l.hi m l.rises (step_is l.lo l.hi m far found.1 ∙ sym c.step_at-s.ensures) in
    let n : c.how_many-n.result ≡ how_many (first_index l.lo s.by) (last_by c.args.choice l.hi s.by) = search rules in
    let i : to_z w32 (of_z w32 c.first_from-i.result) ≡ first_index l.lo s.by = search rules in
    let t : to_z w32 s.by ≡ pos s.by = search rules in
    let near = first-near l.lo l.hi s.by l.lo_near l.hi_near s.some s.most in
    let mark = to_z-of_z (fits32 (first_index l.lo s.by *ℤ pos s.by) (omega (arith, near))) in
    rw (i, t, mark, n, some, plan) refl
