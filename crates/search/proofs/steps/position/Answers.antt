use Rattle.std.proofs.Common.{rules}
use Rattle.std.proofs.lemmas.List.Sorted.{IsPartitionPoint-from_clause}
use Rattle.search.specs.Lists.{toward}
use Rattle.search.proofs.Lists.{parted, place_of}
use Rattle.search.proofs.Orders.{way}
use Rattle.search.proofs.steps.position.Goals as goal

pub returns : goal.returns
returns g c =
    let lt = toward c.args.rises g.T.Entry.numbers.less in
    place_of lt c.args.list.now c.args.t c.partition_point.result c.partition_point.ensures.bound
    (IsPartitionPoint-from_clause (λ x. lt x c.args.t) _ _ c.partition_point.ensures.partitioned (parted (way g.met.T.Entry.ordered c.args.rises) c.args.list.now c.args.t c.requires) (λ a r q k. search rules))
