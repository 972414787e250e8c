-- `decimal::signed_value` what the search leaves.
use Rattle.std.proofs.Common.{◌∙◌, sym, ap}
use lib.IntN.{pos}
use mir.Facts.{to_z_pos}
use mir.Syntax.{w64}
use Rattle.decimal.proofs.Reader.{value-plain}
use Rattle.decimal.proofs.signed_value.Goals as goal

pub returns-in-None : goal.returns-in-None
returns-in-None c = to_z_pos w64 c.value-in-None.ensures.small ∙ ap pos c.value-in-None.ensures.value ∙ sym (value-plain c.args.s.now c.in-None.ensures.cases)
