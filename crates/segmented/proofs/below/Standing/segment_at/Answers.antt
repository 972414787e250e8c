-- `segmented::below::Standing::segment_at` what the search leaves.
use Rattle.std.proofs.Common.{◌≡◌, ◌∙◌, rules}
use Rattle.ranged1d.specs.Told.{tell_option}
use Rattle.linspace.proofs.Rules.{told_map}
use Rattle.segmented.specs.Segments.{exactly}
use Rattle.ranged1d.proofs.Handed.{handed_found}
use Rattle.segmented.proofs.Rules.{last-at, exact-at, entry_is}
use Rattle.segmented.proofs.below.Standing.segment_at.Goals as goal

pub returns-then-k-self : goal.returns-then-k-self
returns-then-k-self g c = let s = c.args.self.now in last-at (g.A.Axis.axis s.axis) s.stands c.args.k c.if-k-self.true

pub returns-in_err-entry : goal.returns-in_err-entry
returns-in_err-entry g c =
    let s = c.args.self.now in
    handed_found c.from_residual.result c.in_err-entry.field-0.0 c.from_residual.ensures
    ∙ exact-at (g.A.Axis.axis s.axis) s.stands c.args.k c.if-k-self.false (c.in_err-entry.ensures ∙ entry_is (g.A.Axis.axis s.axis) s.stands c.args.k)

pub returns : goal.returns
returns g c =
    let s = c.args.self.now in
    let told : tell_option c.map.result ≡ exactly (g.A.Axis.axis s.axis) (tell_option c.in_ok-entry.field-0) = search (rules, told_map) in
    told ∙ exact-at (g.A.Axis.axis s.axis) s.stands c.args.k c.if-k-self.false (c.in_ok-entry.ensures ∙ entry_is (g.A.Axis.axis s.axis) s.stands c.args.k)
