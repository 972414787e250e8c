use Rattle.std.proofs.Common.{◌≡◌, true, false, rules, sym, ap, ◌∙◌}
use lib.Signed.{lt_z}
use Rattle.ranged1d.specs.Answer.{given, refused, and_then}
use Rattle.ranged1d.specs.Refusals.{number_of}
use Rattle.ranged1d.specs.Told.{tell_found}
use Rattle.ranged1d.proofs.Handed.{handed_found}
use Rattle.discrete.specs.Index.{pixel_index}
use Rattle.numeric.specs.Whole.{ends_admitted, whole_reading}
use Rattle.numeric.specs.Directed.{directed_count, directed_from}
use Rattle.numeric.proofs.Directed.{ascending, by_index}
use Rattle.numeric.proofs.RangedCoordi32.unmap_directed.Goals as goal

pub returns-then-self : goal.returns-then-self
returns-then-self c =
    let a = c.args in
    let up : lt_z a.self.1 a.self.0 ≡ false = search rules in
    let read : tell_found c.unmap.result ≡ whole_reading a.self.0 a.self.1 a.x a.limit = search rules in
    read ∙ sym (ascending a.self.0 a.self.1 a.x a.limit up)

pub returns-in_err-k : goal.returns-in_err-k
returns-in_err-k c =
    let a = c.args in
    let ok : ends_admitted a.self.0 a.self.1 ≡ true = search rules in
    let index : pixel_index a.x a.limit (directed_count a.self.0 a.self.1) ≡ refused (number_of c.in_err-k.field-0.0) = search rules in
    handed_found c.from_residual-in_err-k.result c.in_err-k.field-0.0 c.from_residual-in_err-k.ensures
    ∙ sym (by_index a.self.0 a.self.1 a.x a.limit ok ∙ ap (λ r. and_then r (directed_from a.self.0 a.self.1)) index)

pub returns : goal.returns
returns c =
    let a = c.args in
    let ok : ends_admitted a.self.0 a.self.1 ≡ true = search rules in
    let index : pixel_index a.x a.limit (directed_count a.self.0 a.self.1) ≡ given c.in-Some.k = search rules in
    let value : tell_found c.value_below.result ≡ directed_from a.self.0 a.self.1 c.in-Some.k = search rules in
    value ∙ sym (by_index a.self.0 a.self.1 a.x a.limit ok ∙ ap (λ r. and_then r (directed_from a.self.0 a.self.1)) index)
