-- `decades::decade` what the search leaves: where it looks at the middle of the table, the decade is there.
use Rattle.decades.proofs.Decades.{in_middle}
use Rattle.decades.proofs.decade.Goals as goal

pub find-requires : goal.find-requires
find-requires c = in_middle _ c.if-x-2.true c.if-x.false
