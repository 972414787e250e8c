-- `ruler::find_label` what the search leaves.
use Rattle.std.proofs.Common.{◌≡◌, ℕ, ◌-◌, ℤ, length, sym, ap, ◌∙◌, arith, to_z-of_z}
use Rattle.decimal.specs.Print.{decimal, text_of}
use Rattle.decimal.proofs.Digits.{decimal-most, text_told}
use Rattle.ruler.proofs.Lookups.{label_some, label_none}
use Rattle.ruler.proofs.find_label.Goals as goal
use Rattle.ruler.proofs.find_label.Goals.{After-as_slice}

-- as long as the number that is printed
as-printed : (c : After-as_slice) → length c.as_slice.result.now ≡ length (decimal c.args.v)
as-printed c =
    let text = text_told (decimal c.args.v) (decimal-most c.args.v) (c.label-t.ensures ∙ ap (λ (z : ℤ). text_of (decimal z)) (to_z-of_z c.ranges.v)) in
    ap length (c.as_slice.ensures ∙ text.text)

pub returns-in_default : goal.returns-in_default
returns-in_default c =
    let told = sym c.in_default.is ∙ rw (to_z-of_z c.ranges.v) at c.record_place.ensures in
    sym (label_none c.args.bytes.now c.args.v (sym told))

pub overflow_sub-result : goal.overflow_sub-result
overflow_sub-result c =
    let told = rw (to_z-of_z c.ranges.v) at c.record_place.ensures in
    let found = label_some c.args.bytes.now c.args.v c.in-Some.r (sym told ∙ c.in-Some.is) in
    omega (arith, found.1, as-printed c, decimal-most c.args.v)

pub returns : goal.returns
returns c =
    let v = c.args.v in
    let r = c.in-Some.r in
    let told = rw (to_z-of_z c.ranges.v) at c.record_place.ensures in
    ap (λ (n : ℕ). record { start = r.end - n; end = r.end }) (as-printed c) ∙ sym (label_some c.args.bytes.now v r (sym told ∙ c.in-Some.is)).0
