-- `culvraod::culv_ruler_pair`: what the search leaves.
use Rattle.ruler.proofs.Lookups.{record_inside}
use Rattle.culvraod.proofs.culv_ruler_pair.Goals as goal

pub give_part-requires : goal.give_part-requires
give_part-requires c = rw c.find_record.ensures (record_inside _ _).0
