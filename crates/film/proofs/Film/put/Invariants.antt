use Rattle.std.proofs.Common.{length, map}
use Rattle.film.specs.Steps.{border_from}
use Rattle.film.proofs.Puts.{Standing}
use Rattle.film.proofs.Film.put.Given as goal

abbrev pub invariant-loop-k : goal.invariant-loop-k
invariant-loop-k l = Standing l.self.m (length l.self.borders.now) (map border_from l.self.borders.now) l.initial.out l.out l.at l.k
