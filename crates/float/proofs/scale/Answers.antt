use Rattle.std.proofs.Common.{◌≡◌, ◌+◌, ℕ, arith, ap, sym, ◌∙◌}
use lib.Ieee.{Float, binary64, mul}
use Rattle.decades.specs.declared.Power.{Power}
use Rattle.decades.specs.Powers.{power}
use Rattle.decades.specs.Decade.{decade_index, decade_of}
use Rattle.decades.proofs.Decades.{decade_inside}
use Rattle.float.specs.Shorten.{ten}
use Rattle.float.specs.Scientific.{comes_to_ten}
use Rattle.float.proofs.Notation.{scale_more, scale_same}
use Rattle.float.proofs.scale.Goals as goal

index_is : (x : Float) (d : Power) → d ≡ decade_of x → d.index ≡ decade_index x
unfolding decade_of
index_is x d e = ap (λ (p : Power). p.index) e

value_is : (x : Float) (d : Power) → d ≡ decade_of x → d.value ≡ power (decade_index x)
unfolding decade_of
value_is x d e = ap (λ (p : Power). p.value) e

pub overflow_add-result : goal.overflow_add-result
unfolding decade_of
overflow_add-result c = record { fits = omega (arith, index_is c.args.x c.decade-d.result c.decade-d.ensures, decade_inside c.args.x) }

pub returns-then-x-d-clause-index : goal.returns-then-x-d-clause-index
unfolding comes_to_ten
returns-then-x-d-clause-index c =
    let x = c.args.x in
    let w = scale_more x (rw (value_is x c.decade-d.result c.decade-d.ensures) at c.if-x-d.true) in
    ap (λ (k : ℕ). k + 1) (index_is x c.decade-d.result c.decade-d.ensures) ∙ sym w.0

pub returns-then-x-d-clause-value : goal.returns-then-x-d-clause-value
unfolding comes_to_ten
returns-then-x-d-clause-value c =
    let x = c.args.x in
    let w = scale_more x (rw (value_is x c.decade-d.result c.decade-d.ensures) at c.if-x-d.true) in
    ap (λ (p : Float). mul binary64 p ten) (value_is x c.decade-d.result c.decade-d.ensures) ∙ sym w.1

pub returns-then-x-d-clause-few : goal.returns-then-x-d-clause-few
unfolding decade_of
returns-then-x-d-clause-few c = omega (arith, index_is c.args.x c.decade-d.result c.decade-d.ensures, decade_inside c.args.x)

pub returns-clause-index : goal.returns-clause-index
unfolding comes_to_ten
returns-clause-index c =
    let x = c.args.x in
    index_is x c.decade-d.result c.decade-d.ensures ∙ sym (scale_same x (rw (value_is x c.decade-d.result c.decade-d.ensures) at c.if-x-d.false)).0

pub returns-clause-value : goal.returns-clause-value
unfolding comes_to_ten
returns-clause-value c =
    let x = c.args.x in
    value_is x c.decade-d.result c.decade-d.ensures ∙ sym (scale_same x (rw (value_is x c.decade-d.result c.decade-d.ensures) at c.if-x-d.false)).1

pub returns-clause-few : goal.returns-clause-few
unfolding decade_of
returns-clause-few c = omega (arith, index_is c.args.x c.decade-d.result c.decade-d.ensures, decade_inside c.args.x)
