-- `decades::find` what the search leaves: the entry before the partition point is the decade.
use Rattle.std.proofs.Common.{◌-◌, arith, rules}
use Rattle.std.proofs.lemmas.List.Sorted.{IsPartitionPoint-from_clause}
use lib.Ieee.{le}
use Rattle.decades.proofs.Decades.{parted, decade_before, decade_by}
use Rattle.decades.proofs.find.Goals as goal

pub returns : goal.returns
returns c =
    let l = c.args.t.now in
    let n = c.partition_point.result in
    let point = IsPartitionPoint-from_clause (λ y. le y c.args.x) l n c.partition_point.ensures.partitioned (parted l c.args.i c.args.x c.requires) (λ a r q k. search rules) in
    let e = decade_before l c.args.i c.args.x c.requires n c.partition_point.ensures.bound point in
    rw c.saturating_sub-k.ensures (decade_by c.args.x _ _ e (c.requires.entries (n - 1) (omega (arith, c.requires.some, c.partition_point.ensures.bound))))
