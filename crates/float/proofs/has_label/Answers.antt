use Rattle.float.proofs.Signs.{admitted}
use Rattle.float.proofs.has_label.Goals as goal

pub returns : goal.returns
returns c = rw c.abs.ensures.value (admitted c.args.n)
