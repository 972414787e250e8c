-- `line::read_numbers` what the search leaves.
use Rattle.std.proofs.Common.{rules, refl}
use mir.Val.{SFits}
use mir.Syntax.{w32}
use mir.Facts.{to_z-of_z}
use Rattle.line.specs.Line.{whole_fields, parse_numbers}
use Rattle.line.proofs.read_numbers.Goals as goal

pub returns-in_err-a : goal.returns-in_err-a
unfolding whole_fields parse_numbers
returns-in_err-a c = rw (c.from_residual.ensures, c.in_err-a.ensures) refl

pub returns-in_err-b : goal.returns-in_err-b
unfolding whole_fields parse_numbers
returns-in_err-b c = rw (c.from_residual-in_err-b.ensures, c.in_ok-a.ensures, c.in_err-b.ensures) refl

pub returns-in_err-p : goal.returns-in_err-p
unfolding whole_fields parse_numbers
returns-in_err-p c = rw (c.from_residual-in_err-p.ensures, c.in_ok-a.ensures, c.in_ok-b.ensures, c.in_err-p.ensures) refl

pub returns-in_err-q : goal.returns-in_err-q
unfolding whole_fields parse_numbers
returns-in_err-q c = rw (c.from_residual-in_err-q.ensures, c.in_ok-a.ensures, c.in_ok-b.ensures, c.in_ok-p.ensures, c.in_err-q.ensures) refl

pub returns-in_err-m : goal.returns-in_err-m
unfolding whole_fields parse_numbers
returns-in_err-m c = rw (c.from_residual-in_err-m.ensures, c.in_ok-a.ensures, c.in_ok-b.ensures, c.in_ok-p.ensures, c.in_ok-q.ensures, ← c.in_err-m.ensures) refl

pub returns : goal.returns
unfolding whole_fields parse_numbers
returns c =
    let a : SFits w32 c.in_ok-a.a = search rules in
    let b : SFits w32 c.in_ok-b.b = search rules in
    let p : SFits w32 c.in_ok-p.p = search rules in
    let q : SFits w32 c.in_ok-q.q = search rules in
    rw (c.in_ok-a.ensures, c.in_ok-b.ensures, c.in_ok-p.ensures, c.in_ok-q.ensures, ← c.in_ok-m.ensures, to_z-of_z a, to_z-of_z b, to_z-of_z p, to_z-of_z q) refl
