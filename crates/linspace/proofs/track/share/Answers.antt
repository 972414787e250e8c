use Rattle.std.proofs.Common.{to_z-of_z}
use Rattle.ranged1d.proofs.Bools.{apart, alike}
use Rattle.linspace.proofs.Shares.{share-sizes, share-behind}
use Rattle.linspace.proofs.track.share.Goals as goal

pub returns-then-d-w : goal.returns-then-d-w
returns-then-d-w c = share-behind c.args.d c.args.w (apart _ _ (rw (to_z-of_z c.ranges.d, to_z-of_z c.ranges.w) at c.if-d-w.true))

pub returns : goal.returns
returns c =
    share-sizes c.args.d c.args.w (alike _ _ (rw (to_z-of_z c.ranges.d, to_z-of_z c.ranges.w) at c.if-d-w.false))
    (rw (c.unsigned_abs.ensures.value, c.unsigned_abs-2.ensures.value, to_z-of_z c.ranges.d, to_z-of_z c.ranges.w) at c.part_of.ensures)
