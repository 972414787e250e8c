-- `fixed::spell` what the search leaves.
use Rattle.std.proofs.Common.{◌≡◌, arith}
use lib.IntN.{nat_abs}
use mir.Facts.{to_z-of_z}
use Rattle.fixed.proofs.Texts.{digits-room, spelt-plain, spelt-minus}
use Rattle.fixed.proofs.spell.Goals as goal

pub write_digits-blanks-requires : goal.write_digits-blanks-requires
write_digits-blanks-requires c =
    let size : c.unsigned_abs.result ≡ nat_abs c.args.x = rw (to_z-of_z c.ranges.x) at c.unsigned_abs.ensures.value in
    let e = c.split-rest.ensures in
    let room = digits-room c.args.f.number c.unsigned_abs.result c.split-rest.result.0 c.split-rest.result.1 c.args.f.few (omega arith) e.rest e.end in
    (omega arith, omega (arith, e.end))

pub overflow_sub-blanks : goal.overflow_sub-blanks
overflow_sub-blanks c =
    let size : c.unsigned_abs.result ≡ nat_abs c.args.x = rw (to_z-of_z c.ranges.x) at c.unsigned_abs.ensures.value in
    let e = c.split-rest.ensures in
    let room = digits-room c.args.f.number c.unsigned_abs.result c.split-rest.result.0 c.split-rest.result.1 c.args.f.few (omega arith) e.rest e.end in
    omega (arith, c.write_digits-blanks.ensures.start)

pub returns-then-negative : goal.returns-then-negative
returns-then-negative c =
    let size : c.unsigned_abs.result ≡ nat_abs c.args.x = rw (to_z-of_z c.ranges.x) at c.unsigned_abs.ensures.value in
    let e = c.split-rest.ensures in
    let d = c.write_digits-blanks in
    spelt-minus c.args.f.number c.unsigned_abs.result c.split-rest.result.0 c.split-rest.result.1 c.args.f.few (omega arith) e.rest e.end c.split-rest.new.bytes d.new.buf d.result e.written d.ensures.start d.ensures.written d.ensures.before c.args.x size (rw (to_z-of_z c.ranges.x) at c.if-negative.true)

pub returns-else-negative : goal.returns-else-negative
returns-else-negative c =
    let size : c.unsigned_abs.result ≡ nat_abs c.args.x = rw (to_z-of_z c.ranges.x) at c.unsigned_abs.ensures.value in
    let e = c.split-rest.ensures in
    let d = c.write_digits-blanks in
    spelt-plain c.args.f.number c.unsigned_abs.result c.split-rest.result.0 c.split-rest.result.1 c.args.f.few (omega arith) e.rest e.end c.split-rest.new.bytes d.new.buf d.result e.written d.ensures.start d.ensures.written d.ensures.before c.args.x size (rw (to_z-of_z c.ranges.x) at c.if-negative.false)
