use Rattle.std.proofs.Common.{sym, ◌∙◌}
use Rattle.linspace.proofs.Rules.{handed}
use Rattle.linspace.proofs.wholes.Linspacei32.size.Goals as goal

pub returns-in_err-l : goal.returns-in_err-l
returns-in_err-l c = handed c.from_residual.result c.in_err-l.field-0.0 c.from_residual.ensures ∙ sym c.in_err-l.ensures
