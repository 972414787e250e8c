use Rattle.std.proofs.Common.{Bool, length, ap, sym, ◌≡◌, ◌∙◌, rules, tests}
use Rattle.search.specs.Lists.{toward, ascends}
use Rattle.search.proofs.Lists.{searchable-one, searchable_is}
use Rattle.search.proofs.steps.can_search.Goals as goal
use Rattle.search.proofs.steps.can_search.Goals.{in_default-via-then-list-lt1, in_default-via-else-list-lt1+else-list-lt2}

pub returns-in-len1 : goal.returns-in-len1
returns-in-len1 g c =
    c.is_equal.ensures ∙ searchable-one g.T.Entry.numbers g.met.T.Entry.ordered c.args.list.now c.x-item.result c.in-len1.len_at_least c.in-len1.len_below c.x-item.is

pub returns-in_default : goal.returns-in_default
returns-in_default g c =
    let n = g.T.Entry.numbers in
    let l = c.args.list.now in
    let two : length l ≡ 1 → ⊥ = elim c.in_default.branch [ in_default-via-then-list-lt1 w ↦ λ e. absurd (search (rules, tests)) | in_default-via-else-list-lt1+else-list-lt2 w ↦ λ e. absurd (search (rules, tests)) ] in
    c.ordered.ensures ∙ ap (λ (r : Bool). ascends (toward r n.less) l) c.requires ∙ sym (searchable_is n g.met.T.Entry.ordered l two)
