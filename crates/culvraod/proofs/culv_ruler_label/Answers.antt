-- `culvraod::culv_ruler_label`: what the search leaves.
use Rattle.ruler.proofs.Lookups.{label_inside}
use Rattle.culvraod.proofs.culv_ruler_label.Goals as goal

pub give_part-requires : goal.give_part-requires
give_part-requires c = rw c.find_label.ensures (label_inside c.args.bytes.now _).0
