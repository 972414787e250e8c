-- `ruler::examine` what the search leaves.
use Rattle.std.proofs.Common.{sym}
use Rattle.ruler.proofs.Reader.{seen_short}
use Rattle.ruler.proofs.examine.Goals as goal

pub returns-then-l-lt25 : goal.returns-then-l-lt25
returns-then-l-lt25 c = sym (seen_short _ _ c.if-l-lt25.true)
