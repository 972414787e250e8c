use Rattle.std.proofs.Common.{sym}
use Rattle.std.proofs.lemmas.Result.{err_from_is_err_and}
use Rattle.film.proofs.Settled.{settled-refused, settled-short, settled_unknown, settled_fits}
use Rattle.film.proofs.Border.settle.Goals as goal

pub returns-in_err-count : goal.returns-in_err-count
returns-in_err-count c =
    let p = err_from_is_err_and c.from_residual.result c.from_residual.ensures.1 in
    rw (p.1, p.2) (sym (settled-refused c.args.self c.args.m c.args.room (sym (rw c.draft.ensures at c.in_err-count.ensures))))

pub returns-then-room-size : goal.returns-then-room-size
returns-then-room-size c = sym (settled-short c.args.self c.args.m {p = c.in_ok-count.field-0} (sym (rw c.draft.ensures at c.in_ok-count.ensures)) c.args.room c.if-room-size.true)

pub returns-then-self-gt1 : goal.returns-then-self-gt1
returns-then-self-gt1 c = sym (settled_unknown c.args.self c.args.m {p = c.in_ok-count.field-0} (sym (rw c.draft.ensures at c.in_ok-count.ensures)) c.args.room c.if-room-size.false c.if-self-gt1.true)

pub returns : goal.returns
returns c = sym (settled_fits c.args.self c.args.m {p = c.in_ok-count.field-0} (sym (rw c.draft.ensures at c.in_ok-count.ensures)) c.args.room c.if-room-size.false c.if-self-gt1.false)
