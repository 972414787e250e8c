-- `ruler::record_place` what the search leaves.
use Rattle.std.proofs.Common.{◌≡◌, ℕ, ◌+◌, ◌*◌, sym, ap, ◌∙◌, ap₂, arith, rules, to_z-of_z}
use Rattle.std.specs.Prelude.{Some}
use Rattle.ruler.specs.declared.Part.{Part}
use Rattle.ruler.specs.Rule.{record_at}
use Rattle.ruler.proofs.Reader.{seen_known, seen_nothing, known_long}
use Rattle.ruler.proofs.Lookups.{place, found_some, found_none, no_record, within_some, within_none}
use Rattle.ruler.proofs.record_place.Goals as goal

pub returns-in_err-layout : goal.returns-in_err-layout
returns-in_err-layout c = rw c.from_residual.ensures (sym (no_record c.args.bytes.now c.args.v (seen_nothing _ (sym c.in_err-layout.ensures))))

pub returns-in_err-k : goal.returns-in_err-k
returns-in_err-k c =
    let known = seen_known (sym c.in_ok-layout.ensures) in
    let told = rw (to_z-of_z c.ranges.v) at c.in_err-k.ensures in
    rw c.from_residual-in_err-k.ensures (sym (found_none c.args.v known (within_none _ (place c.args.v known) told)))

pub overflow_add-start : goal.overflow_add-start
overflow_add-start c =
    let known = seen_known (sym c.in_ok-layout.ensures) in
    let told = within_some _ _ c.in_ok-k.ensures in
    search (rules, known_long known, told.1, told.0, c.head.ensures.0)

pub overflow_add-result : goal.overflow_add-result
overflow_add-result c =
    let known = seen_known (sym c.in_ok-layout.ensures) in
    let told = within_some _ _ c.in_ok-k.ensures in
    search (rules, known_long known, told.1, told.0, c.head.ensures.0)

pub returns : goal.returns
returns c =
    let known = seen_known (sym c.in_ok-layout.ensures) in
    let told = within_some _ (place c.args.v known) (rw (to_z-of_z c.ranges.v) at c.in_ok-k.ensures) in
    let h = c.head.result in
    let k = c.in_ok-k.k in
    let end : h + 20 * k + 20 ≡ h + 20 + 20 * k = omega arith in
    let from : ℕ → Part = λ n. record { start = h + 20 * k; end = n } in
    ap (λ (n : ℕ). Some (from n)) end
    ∙ ap₂ (λ (n i : ℕ). Some (record_at n i)) c.head.ensures.0 told.0
    ∙ sym (found_some c.args.v known (rw (← told.0) (rw told.0 told.1)))
