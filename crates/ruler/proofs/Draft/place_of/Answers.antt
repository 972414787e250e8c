-- `ruler::Draft::place_of` what the search leaves.
use Rattle.std.proofs.Common.{sym, ap, ◌∙◌, rules, to_z-of_z, w32, SFits}
use Rattle.ruler.specs.Place.{place_in, place_of}
use Rattle.ruler.proofs.Places.{answered}
use Rattle.ruler.proofs.Draft.place_of.Goals as goal

pub returns : goal.returns
unfolding place_of
returns c =
    let a : SFits w32 c.args.self.a = search rules in
    let b : SFits w32 c.args.self.b = search rules in
    let x : SFits w32 c.unwrap_or.result = search rules in
    let told = rw (to_z-of_z a, to_z-of_z b, to_z-of_z c.ranges.v) at c.map.ensures in
    to_z-of_z x ∙ c.unwrap_or.ensures ∙ sym (answered c.map.result) ∙ ap place_in told
