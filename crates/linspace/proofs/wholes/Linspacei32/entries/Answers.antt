use Rattle.std.proofs.Common.{◌≡◌, sym, ap, ◌∙◌}
use Rattle.ranged1d.specs.Answer.{refused}
use Rattle.ranged1d.specs.Refusals.{number_of}
use Rattle.linspace.specs.List.{whole}
use Rattle.linspace.specs.Calls.{step_size}
use Rattle.linspace.proofs.Rules.{handed_on, size-refused}
use Rattle.linspace.proofs.wholes.Linspacei32.entries.Goals as goal

pub returns-in_err-s : goal.returns-in_err-s
returns-in_err-s c =
    let i = c.args.self in
    let e = c.in_err-s.ensures in
    handed_on _ (λ r. step_size whole i.inner.0 i.inner.1 i.step ≡ refused (number_of r)) c.from_residual.result c.in_err-s.field-0.0 c.from_residual.ensures (sym (size-refused whole i.inner.0 i.inner.1 i.step e.1) ∙ ap refused (sym e.0))

pub returns : goal.returns
returns c = let e = c.in_ok-s.ensures in rw (e.0, e.1, e.2) at c.counted.ensures
