use Rattle.film.proofs.Settled.{alone_put, not_refused}
use Rattle.film.proofs.put_border.Goals as goal

pub returns-in-Ok : goal.returns-in-Ok
returns-in-Ok c = alone_put c.args.m c.args.x c.args.out.now (rw c.draft.ensures at c.in-Ok.ensures)

pub returns-in-Err : goal.returns-in-Err
returns-in-Err c = absurd (not_refused c.args.m c.args.x c.args.out.now c.requires (rw c.draft.ensures at c.in-Err.ensures))
