use Rattle.std.proofs.Common.{◌≡◌, ◌*◌, ap₂, ◌∙◌, List, set, to_z-of_z}
use lib.IntN.{ℤ, pos}
use mir.Syntax.{w32}
use mir.Val.{to_z, of_z}
use Rattle.numeric.specs.Calls.{element}
use Rattle.numeric.proofs.Lists.{write_more}
use Rattle.linspace.proofs.wholes.Entries.put_spaced.Goals as goal

pub loop-k-preserved : goal.loop-k-preserved
loop-k-preserved c =
    let s = c.args.self.s in
    let at = c.loop-k in
    let same : to_z w32 (of_z w32 c.entry.result) ≡ c.entry.result = to_z-of_z {w = w32} (record { sfits = c.entry.type_inv }) in
    ap₂ (λ (l : List ℤ) (z : ℤ). set l at.k z) at.invariant (same ∙ c.entry.ensures) ∙ write_more (λ k. element s.a s.d (k * c.args.p.by)) (pos 0) at.k c.args.out.now c.loop-k-test.true
