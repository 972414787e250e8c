use Rattle.std.proofs.Common.{◌≡◌, sym, ap, ◌∙◌}
use lib.Ieee.{Float, nan}
use Rattle.search.specs.Lists.{real_search}
use Rattle.search.proofs.Rules.{equals_itself, is_the_nan, real_order_refused, real_answered, nan_answered}
use Rattle.search.proofs.reals.search_real.Goals as goal

pub returns-then-not-can_search : goal.returns-then-not-can_search
returns-then-not-can_search c = real_order_refused c.args.list.now c.args.method c.args.target (sym c.can_search.ensures ∙ c.if-not-can_search.true)

pub returns-then-is_nan : goal.returns-then-is_nan
returns-then-is_nan c =
    let e : c.args.target ≡ nan = is_the_nan c.args.target (sym c.is_nan.ensures.value ∙ c.if-is_nan.true) in
    c.settle_nan.ensures
    ∙ nan_answered c.args.method c.args.list.now (sym c.can_search.ensures ∙ c.if-not-can_search.false)
    ∙ ap (λ (t : Float). real_search c.args.list.now t c.args.method) (sym e)

pub find-requires-clause-t_value : goal.find-requires-clause-t_value
find-requires-clause-t_value c = equals_itself c.args.target (sym c.is_nan.ensures.value ∙ c.if-is_nan.false)

pub returns : goal.returns
returns c =
    c.find.ensures
    ∙ real_answered c.args.list.now c.args.method c.args.target (sym c.can_search.ensures ∙ c.if-not-can_search.false) (equals_itself c.args.target (sym c.is_nan.ensures.value ∙ c.if-is_nan.false))
