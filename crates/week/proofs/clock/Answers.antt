-- `week::clock` what the search leaves.
use Rattle.std.proofs.Common.{rules, ◌∙◌}
use Rattle.week.specs.Steps.{clock_in}
use Rattle.week.proofs.Rules.{clock_is}
use Rattle.week.proofs.clock.Goals as goal

pub returns : goal.returns
returns c = c.survey.ensures (clock_in c.args.running) (λ w r o p. search rules) ∙ clock_is c.args.windows.now c.args.running
