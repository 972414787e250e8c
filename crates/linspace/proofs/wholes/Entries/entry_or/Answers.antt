use Rattle.std.proofs.Common.{sym, ◌∙◌, to_z-of_z}
use mir.Syntax.{w32}
use Rattle.numeric.specs.Calls.{element}
use Rattle.numeric.proofs.Lists.{entry}
use Rattle.linspace.proofs.Entries.{past_list}
use Rattle.linspace.proofs.wholes.Entries.entry_or.Goals as goal

pub returns-then-i-self : goal.returns-then-i-self
returns-then-i-self c =
    let l = c.args.self in
    rw (to_z-of_z {w = w32} (record { sfits = c.entry.type_inv })) (c.entry.ensures ∙ sym (entry (element l.s.a l.s.d) c.args.v l.n c.args.i c.if-i-self.true))

pub returns : goal.returns
returns c = let l = c.args.self in to_z-of_z c.ranges.v ∙ past_list (element l.s.a l.s.d) l.n c.args.i c.args.v c.if-i-self.false
