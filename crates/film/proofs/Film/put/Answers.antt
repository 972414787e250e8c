use Rattle.std.proofs.Common.{length, map, arith}
use Rattle.std.proofs.lemmas.List.{length-map}
use Rattle.film.specs.Steps.{border_from}
use Rattle.film.proofs.Borders.{at_border}
use Rattle.film.proofs.Puts.{next-accepted, next_put, all_put}
use Rattle.film.proofs.Film.put.Goals as goal

pub put_border-at-requires : goal.put_border-at-requires
put_border-at-requires c =
    let b = c.args.self.borders.now in
    next-accepted c.args.self.m (length b) (map border_from b) c.args.out.now c.loop-k.invariant (at_border b c.loop-k.k c.loop-k-test.true) c.of-x.ensures c.share_of-share.ensures

pub loop-k-preserved : goal.loop-k-preserved
loop-k-preserved c =
    let b = c.args.self.borders.now in
    next_put c.args.self.m (length b) (map border_from b) c.args.out.now c.loop-k.invariant (at_border b c.loop-k.k c.loop-k-test.true) c.of-x.ensures c.share_of-share.ensures c.put_border-at.ensures.0 c.put_border-at.ensures.1

pub returns : goal.returns
returns c =
    let b = c.args.self.borders.now in
    all_put c.args.self.m (length b) (map border_from b) c.args.out.now c.loop-k.invariant (omega (arith, length-map b border_from, c.loop-k-test.false))
