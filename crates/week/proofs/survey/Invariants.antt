use Rattle.std.proofs.Common.{ℕ, ◌≡◌, ◌*◌, ◌≤◌, drop}
use Rattle.ranged1d.specs.Answer.{Answer, none}
use Rattle.ranged1d.specs.Told.{tell_option}
use Rattle.week.specs.declared.Counted.{Counted}
use Rattle.week.specs.Steps.{Carries, walked}
use Rattle.week.proofs.survey.Given as goal

-- what is left to walk gives what the whole walk does
abbrev pub invariant-loop-first : goal.invariant-loop-first
invariant-loop-first g l =
    (l.seen ≤ l.next) × (l.next ≤ 10081)
    × ((f : Counted → Answer ℕ) → Carries (goal.F-post g l.carry) f → walked f 0 0 none l.windows ≡ walked f l.next l.seen (tell_option l.found) (drop (l.first-index * 2) l.windows))
