use Rattle.std.proofs.Common.{ℕ, ◌≡◌, ◌<◌, ◌≤◌, sym, ap, subst, ◌∙◌, length, rules}
use lib.Ieee.{Float, lt}
use Rattle.search.specs.Search.{reals}
use Rattle.search.specs.Settled.{settled}
use Rattle.search.proofs.Rules.{equals_itself, is_the_nan}
use Rattle.linspace.specs.List.{real, stepped}
use Rattle.linspace.specs.Calls.{step_index_of}
use Rattle.linspace.proofs.Axis.{walked-count}
use Rattle.linspace.proofs.Indices.{end-number, index_long, index_found}
use Rattle.linspace.proofs.reals.Walk.index_of.Goals as goal

pub returns-then-is_nan : goal.returns-then-is_nan
returns-then-is_nan c =
    let s = c.args.self.s in
    c.index_of_nan.ensures ∙ ap (λ (v : Float). step_index_of real s.a s.b s.d v c.args.method) (sym (is_the_nan c.args.v (sym c.is_nan.ensures.value ∙ c.if-is_nan.true)))

pub approach-at-requires : goal.approach-at-requires
approach-at-requires c = let s = c.args.self.s in record { b_value = end-number s.a s.b s.d c.args.self.some; t_value = equals_itself c.args.v (sym c.is_nan.ensures.value ∙ c.if-is_nan.false) }

pub returns-then-n-gt65536 : goal.returns-then-n-gt65536
returns-then-n-gt65536 c =
    let s = c.args.self.s in
    let at = c.approach-at in
    let count : c.count_on-n.result ≡ length (stepped real s.a s.b s.d) = c.count_on-n.ensures ∙ walked-count s.a s.b s.d at.result.n at.result.right c.args.self.some at.ensures.going.walked in
    index_long s.a s.b s.d c.args.v c.args.method c.args.self.onward (subst (λ (n : ℕ). 65536 < n) count c.if-n-gt65536.true)

pub returns : goal.returns
returns c =
    let s = c.args.self.s in
    let at = c.approach-at in
    let count : c.count_on-n.result ≡ length (stepped real s.a s.b s.d) = c.count_on-n.ensures ∙ walked-count s.a s.b s.d at.result.n at.result.right c.args.self.some at.ensures.going.walked in
    let few : length (stepped real s.a s.b s.d) ≤ 65536 = subst (λ (n : ℕ). n ≤ 65536) count c.if-n-gt65536.false in
    rw c.rises.ensures at c.settle.ensures
    ∙ ap (λ (n : ℕ). settled reals c.args.method (lt s.a s.b) n at.result.n at.result.left c.args.v at.result.right) count
    ∙ index_found s.a s.b s.d (search rules) c.args.self.onward c.args.self.some few c.args.v (equals_itself c.args.v (sym c.is_nan.ensures.value ∙ c.if-is_nan.false)) c.args.method at.result.n at.result.left at.result.right at.ensures
