-- `week::running` what the search leaves.
use Rattle.std.proofs.Common.{rules, ◌≡◌, ◌∙◌}
use Rattle.std.specs.Prelude.{Err}
use Rattle.week.specs.Steps.{running_in}
use Rattle.week.proofs.Rules.{running_is, running_27, running_refused}
use Rattle.week.proofs.running.Goals as goal

pub returns-in_err-found : goal.returns-in_err-found
returns-in_err-found c =
    let a : c.from_residual.result ≡ Err c.in_err-found.field-0.0 = search rules in
    rw a (running_refused c.args.windows.now c.args.clock _ (c.in_err-found.ensures (running_in c.args.clock) (λ w r o p. search rules)))

pub returns-then-clock-gt10079 : goal.returns-then-clock-gt10079
returns-then-clock-gt10079 c = running_27 c.args.windows.now c.args.clock c.if-clock-gt10079.true c.in_ok-found.found (c.in_ok-found.ensures (running_in c.args.clock) (λ w r o p. search rules))

pub returns : goal.returns
returns c = c.in_ok-found.ensures (running_in c.args.clock) (λ w r o p. search rules) ∙ running_is c.args.windows.now c.args.clock c.if-clock-gt10079.false
