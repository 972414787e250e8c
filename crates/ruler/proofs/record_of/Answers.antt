-- `ruler::record_of` what the search leaves.
use Rattle.std.proofs.Common.{sym, subst, to_z-of_z}
use Rattle.ruler.specs.Steps.{Inside}
use Rattle.ruler.proofs.Lookups.{record_inside, record_holds, cut_is}
use Rattle.ruler.proofs.record_of.Goals as goal

pub cut-requires : goal.cut-requires
cut-requires c = let found = rw (to_z-of_z c.ranges.v) at c.find_record.ensures in subst (Inside c.args.bytes.now) (sym found) (record_inside _ _)

pub returns : goal.returns
returns c =
    let l = c.args.bytes in
    let found = rw (to_z-of_z c.ranges.v) at c.find_record.ensures in
    cut_is l.now l.ref_ptr found (record_holds l.now _) c.cut.ensures
