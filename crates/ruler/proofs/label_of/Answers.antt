-- `ruler::label_of` what the search leaves.
use Rattle.std.proofs.Common.{sym, subst, to_z-of_z}
use Rattle.ruler.specs.Steps.{Inside}
use Rattle.ruler.proofs.Lookups.{label_inside, label_holds, cut_is}
use Rattle.ruler.proofs.label_of.Goals as goal

pub cut-requires : goal.cut-requires
cut-requires c = let found = rw (to_z-of_z c.ranges.v) at c.find_label.ensures in subst (Inside c.args.bytes.now) (sym found) (label_inside _ _)

pub returns : goal.returns
returns c =
    let l = c.args.bytes in
    let found = rw (to_z-of_z c.ranges.v) at c.find_label.ensures in
    cut_is l.now l.ref_ptr found (label_holds l.now _) c.cut.ensures
