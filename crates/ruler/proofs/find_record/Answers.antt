-- `ruler::find_record` what the search leaves.
use Rattle.std.proofs.Common.{sym, ap, ◌∙◌, to_z-of_z}
use Rattle.std.specs.Prelude.{Option}
use Rattle.std.specs.Option.{unwrap_or}
use Rattle.ruler.specs.declared.Part.{Part}
use Rattle.ruler.specs.Rule.{nowhere}
use Rattle.ruler.proofs.Lookups.{record_by}
use Rattle.ruler.proofs.find_record.Goals as goal

pub returns : goal.returns
returns c =
    let found = rw (to_z-of_z c.ranges.v) at c.record_place.ensures in
    c.unwrap_or.ensures ∙ ap (λ (r : Option Part). unwrap_or r nowhere) found ∙ sym (record_by c.args.bytes.now c.args.v)
