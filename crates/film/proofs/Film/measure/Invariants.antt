use Rattle.std.proofs.Common.{◌≡◌, ◌-◌, ◌≤◌, length, map, drop}
use Rattle.film.specs.Steps.{border_from, walked}
use Rattle.film.proofs.Walk.{counted}
use Rattle.film.proofs.Film.measure.Given as goal

abbrev pub invariant-loop-i : goal.invariant-loop-i
invariant-loop-i l =
    (l.at ≤ l.room) × (l.marks ≤ l.at)
    × (walked l.self.m (length l.self.borders.now) 0 (map border_from l.self.borders.now) l.room ≡ counted (l.at, l.marks) (walked l.self.m (length l.self.borders.now) l.i (drop l.i (map border_from l.self.borders.now)) (l.room - l.at)))
