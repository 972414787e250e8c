use Rattle.std.proofs.Common.{◌≡◌, ◌∙◌, to_z-of_z}
use mir.Syntax.{w32}
use mir.Val.{to_z, of_z}
use Rattle.linspace.proofs.WholeRules.{bits_of}
use Rattle.linspace.proofs.WholeFind.{position_behind, position_still, position_inside}
use Rattle.linspace.proofs.wholes.Entries.position.Goals as goal

pub returns-then-along-le0 : goal.returns-then-along-le0
returns-then-along-le0 c =
    let s = c.args.self.s in
    let along = c.past-along in
    let same : to_z w32 (of_z w32 along.result) ≡ along.result = to_z-of_z {w = w32} (record { sfits = along.type_inv }) in
    position_behind s.a s.b s.d c.args.v c.args.self.n (rw (same, along.ensures, to_z-of_z c.ranges.v) at c.if-along-le0.true)

pub returns-then-step-eq0 : goal.returns-then-step-eq0
returns-then-step-eq0 c =
    let s = c.args.self.s in
    let along = c.past-along in
    let same : to_z w32 (of_z w32 along.result) ≡ along.result = to_z-of_z {w = w32} (record { sfits = along.type_inv }) in
    let bits = bits_of {a = s.a} {b = s.b} {d = s.d} s.admitted in
    position_still s.a s.b s.d c.args.v c.args.self.n (rw (same, along.ensures, to_z-of_z c.ranges.v) at c.if-along-le0.false) c.unsigned_abs-step.result (rw bits.d_is at c.unsigned_abs-step.ensures.value) c.if-step-eq0.true

pub returns : goal.returns
returns c =
    let s = c.args.self.s in
    let along = c.past-along in
    let same : to_z w32 (of_z w32 along.result) ≡ along.result = to_z-of_z {w = w32} (record { sfits = along.type_inv }) in
    let bits = bits_of {a = s.a} {b = s.b} {d = s.d} s.admitted in
    c.min.ensures
    ∙ position_inside s.a s.b s.d c.args.v c.args.self.n (rw (same, along.ensures, to_z-of_z c.ranges.v) at c.if-along-le0.false) c.unsigned_abs.result c.unsigned_abs-step.result
    (rw (same, along.ensures, to_z-of_z c.ranges.v) at c.unsigned_abs.ensures.value) (rw bits.d_is at c.unsigned_abs-step.ensures.value) c.if-step-eq0.false
