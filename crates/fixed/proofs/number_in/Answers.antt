-- `fixed::number_in` what the search leaves.
use Rattle.std.proofs.Common.{◌∙◌, sym, ap}
use lib.IntN.{pos}
use mir.Facts.{to_z_pos}
use mir.Syntax.{w64}
use Rattle.decimal.specs.Read.{value_of}
use Rattle.decimal.proofs.Reader.{bits-minus}
use Rattle.fixed.specs.Fixed.{unpointed}
use Rattle.fixed.proofs.Texts.{number-minus, number-plain}
use Rattle.fixed.proofs.number_in.Goals as goal

pub returns-in-Some : goal.returns-in-Some
returns-in-Some c =
    bits-minus c.value.result _ c.value.ensures.small (c.value.ensures.value ∙ ap (λ s. value_of 0 (unpointed s)) c.in-Some.ensures.cases.1)
    ∙ sym (number-minus c.args.s.now c.in-Some.ensures.cases.0)

pub returns-in-None : goal.returns-in-None
returns-in-None c = to_z_pos w64 c.value-in-None.ensures.small ∙ ap pos c.value-in-None.ensures.value ∙ sym (number-plain c.args.s.now c.in-None.ensures.cases)
