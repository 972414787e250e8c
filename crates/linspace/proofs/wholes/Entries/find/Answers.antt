use Rattle.std.proofs.Common.{◌≡◌, ◌∙◌, to_z-of_z}
use mir.Syntax.{w32}
use mir.Val.{to_z, of_z}
use Rattle.linspace.proofs.WholeFind.{found}
use Rattle.linspace.proofs.wholes.Entries.find.Goals as goal

pub returns : goal.returns
returns c =
    let s = c.args.self.s in
    let v_is : to_z w32 (of_z w32 c.args.v) ≡ c.args.v = to_z-of_z c.ranges.v in
    let back = c.entry_before-x in
    let next = c.entry_or-y in
    let x_is : to_z w32 (of_z w32 back.result) ≡ back.result = to_z-of_z {w = w32} (record { sfits = back.type_inv }) in
    let y_is : to_z w32 (of_z w32 next.result) ≡ next.result = to_z-of_z {w = w32} (record { sfits = next.type_inv }) in
    rw (c.rises.ensures, x_is, v_is, y_is) at c.settle.ensures
    ∙ found c.args.v c.args.method c.position-i.result back.result next.result c.args.self.known (rw v_is at c.position-i.ensures) (rw v_is at back.ensures) (rw v_is at next.ensures)
