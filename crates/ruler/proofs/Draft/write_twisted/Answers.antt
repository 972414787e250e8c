-- `ruler::Draft::write_twisted` what the search leaves.
use Rattle.std.proofs.Common.{ℕ, length, sym, ap, ◌∙◌, rules}
use Rattle.ranged1d.specs.Answer.{Answer}
use Rattle.ruler.specs.declared.Drawing.{Drawing}
use Rattle.ruler.specs.Rule.{write_by}
use Rattle.ruler.specs.Steps.{form_of, no_twist}
use Rattle.ruler.proofs.Moving.{twisted_s, twisted_z, twisted_unknown}
use Rattle.ruler.proofs.Draft.write_twisted.Goals as goal

pub returns-in-0 : goal.returns-in-0
returns-in-0 c =
    c.write.ensures
    ∙ ap (λ (d : Drawing). write_by (form_of d) d.draft.a d.draft.b d.draft.limit d.draft.m c.args.out.now) c.drawing.ensures
    ∙ sym (twisted_s _ _ _ _ _ _ c.in-0.is)

pub returns-in-1 : goal.returns-in-1
returns-in-1 c =
    c.write-in-1.ensures
    ∙ ap (λ (d : Drawing). write_by (form_of d) d.draft.a d.draft.b d.draft.limit d.draft.m c.args.out.now) c.drawing-in-1.ensures
    ∙ sym (twisted_z _ _ _ _ _ _ c.in-1.is)

pub returns-in_default : goal.returns-in_default
returns-in_default c =
    let told = c.unknown_twist.ensures ∙ ap (λ (d : Drawing). no_twist (form_of d) d.draft.a d.draft.b d.draft.limit d.draft.m (length c.args.out.now)) c.drawing-in_default.ensures in
    ap (λ (r : Answer (ℕ × ℕ)). (r, c.args.out.now)) told ∙ sym (twisted_unknown _ _ _ _ _ _ _ (search rules) (search rules))
