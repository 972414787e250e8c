-- `decades::find_in_all` what the search leaves: the table has the powers.
use Rattle.decades.proofs.Decades.{in_all}
use Rattle.decades.proofs.find_in_all.Goals as goal

pub find-requires : goal.find-requires
find-requires c = in_all _
