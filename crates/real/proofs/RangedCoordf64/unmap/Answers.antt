-- `real::RangedCoordf64::unmap` what the search leaves.
use Rattle.std.proofs.Common.{◌≡◌, ◌∙◌, true, sym, ap, to_z, of_z, to_z-of_z, w32}
use Rattle.ranged1d.specs.Admitted.{limit_admitted}
use Rattle.real.proofs.Wraps.{p_is, q_is, length_fits, length_is}
use Rattle.real.proofs.Calls.{not_read, no_pixel, off_film, no_length, at_pixel, from_first}
use Rattle.real.proofs.RangedCoordf64.unmap.Goals as goal

pub returns-then-not-admitted : goal.returns-then-not-admitted
returns-then-not-admitted c = sym (not_read c.args.self.0 c.args.self.1 c.args.x c.args.limit (sym c.admitted.ensures ∙ c.if-not-admitted.true))

pub returns-then-pixel_admitted : goal.returns-then-pixel_admitted
returns-then-pixel_admitted c =
    let l = c.args.limit in
    let h : limit_admitted l ≡ true = sym c.admitted.ensures ∙ c.if-not-admitted.false in
    let x = to_z-of_z c.ranges.x in
    sym (off_film c.args.self.0 c.args.self.1 c.args.x l h (sym (rw x at c.pixel_admitted.ensures) ∙ c.if-pixel_admitted.true) (sym (rw (x, p_is l h, q_is l h) at c.outside_limit.ensures) ∙ c.if-outside_limit.true))

pub returns-then-outside_limit : goal.returns-then-outside_limit
returns-then-outside_limit c =
    sym (no_pixel c.args.self.0 c.args.self.1 c.args.x c.args.limit (sym (rw (to_z-of_z c.ranges.x) at c.pixel_admitted.ensures) ∙ c.if-pixel_admitted.false))

pub returns-then-p-q : goal.returns-then-p-q
returns-then-p-q c =
    let l = c.args.limit in
    let h : limit_admitted l ≡ true = sym c.admitted.ensures ∙ c.if-not-admitted.false in
    let x = to_z-of_z c.ranges.x in
    let o = sym (rw (x, p_is l h, q_is l h) at c.outside_limit.ensures) ∙ c.if-outside_limit.false in
    sym (no_length c.args.self.0 c.args.self.1 c.args.x l h o (sym (p_is l h) ∙ ap (to_z w32) c.if-p-q.true ∙ q_is l h))

pub overflow_sub-q : goal.overflow_sub-q
overflow_sub-q c =
    let l = c.args.limit in
    let h : limit_admitted l ≡ true = sym c.admitted.ensures ∙ c.if-not-admitted.false in
    rw (q_is l h, p_is l h) (length_fits l h)

pub returns : goal.returns
returns c =
    let l = c.args.limit in
    let h : limit_admitted l ≡ true = sym c.admitted.ensures ∙ c.if-not-admitted.false in
    let x = to_z-of_z c.ranges.x in
    let o = sym (rw (x, p_is l h, q_is l h) at c.outside_limit.ensures) ∙ c.if-outside_limit.false in
    let from_p = to_z-of_z (from_first c.args.self.0 c.args.self.1 c.args.x l h o) in
    rw (c.as_f64.ensures, c.as_f64-2.ensures, x, p_is l h, q_is l h, from_p, length_is l h)
    (sym (at_pixel c.args.self.0 c.args.self.1 c.args.x l h o (λ e. c.if-p-q.false (ap (of_z w32) e))))
