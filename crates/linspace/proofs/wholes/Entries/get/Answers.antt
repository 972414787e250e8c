use Rattle.std.proofs.Common.{ap, ◌∙◌, arith, to_z-of_z}
use mir.Syntax.{w32}
use Rattle.ranged1d.specs.Answer.{given}
use Rattle.numeric.specs.Calls.{element}
use Rattle.linspace.proofs.Entries.{nth_list, nth_beyond}
use Rattle.linspace.proofs.wholes.Entries.get.Goals as goal

pub returns-then-k-from : goal.returns-then-k-from
returns-then-k-from c =
    let l = c.args.self in
    rw (to_z-of_z {w = w32} (record { sfits = c.entry.type_inv })) (ap given c.entry.ensures ∙ nth_list (element l.s.a l.s.d) l.n c.args.k (omega arith))

pub returns : goal.returns
returns c = let l = c.args.self in nth_beyond (element l.s.a l.s.d) l.n c.args.k (omega arith)
