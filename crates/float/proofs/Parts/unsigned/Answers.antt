use Rattle.std.proofs.Common.{ap, sym, ◌∙◌}
use Rattle.float.specs.Steps.{parts, unsigned_parts}
use Rattle.float.proofs.Zeros.{parts_zero, parts_whole, parts-places}
use Rattle.float.proofs.Parts.unsigned.Goals as goal
use Rattle.float.proofs.Parts.unsigned.Goals.{else-self-eq0-via-then-self-eq0+else-self-eq0-2, else-self-eq0-via-else-self-eq0}

pub returns-then-self-eq0-2 : goal.returns-then-self-eq0-2
returns-then-self-eq0-2 c =
    let t = c.self.inside in
    c.whole.ensures ∙ sym (parts_zero (parts t.minus t.whole t.places t.decimals) c.if-self-eq0.true c.if-self-eq0-2.true) ∙ ap unsigned_parts c.self.view_is

pub returns : goal.returns
returns c =
    let t = c.self.inside in
    elim c.else-self-eq0.branch [
      | else-self-eq0-via-then-self-eq0+else-self-eq0-2 w ↦ sym c.self.view_is ∙ sym (parts-places (parts t.minus t.whole t.places t.decimals) w.if-self-eq0-2.false) ∙ ap unsigned_parts c.self.view_is
      | else-self-eq0-via-else-self-eq0 w ↦ sym c.self.view_is ∙ sym (parts_whole (parts t.minus t.whole t.places t.decimals) w.if-self-eq0.false) ∙ ap unsigned_parts c.self.view_is
    ]
