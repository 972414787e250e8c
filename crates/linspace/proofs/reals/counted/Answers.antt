use Rattle.std.proofs.Common.{refl}
use Rattle.linspace.specs.RealSteps.{after}
use Rattle.linspace.proofs.reals.counted.Goals as goal

pub counted_from-requires-clause-x_value : goal.counted_from-requires-clause-x_value
unfolding after
counted_from-requires-clause-x_value c = refl
