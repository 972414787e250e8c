-- 1 and 8 are told apart where the list is out of order.
use Rattle.std.proofs.Common.{◌≡◌, true, false, sym, ◌∙◌, rules}
use Rattle.ranged1d.specs.Told.{tell_option}
use Rattle.ranged1d.specs.Admitted.{whole_admitted}
use Rattle.search.specs.Search.{wholes}
use Rattle.search.specs.Search as rule
use Rattle.search.proofs.Rules.{whole_entry_refused, whole_target_refused, whole_order_refused, whole_answered}
use Rattle.search.proofs.wholes.search_whole.Goals as goal

pub returns-then-not-whole_admitted : goal.returns-then-not-whole_admitted
returns-then-not-whole_admitted c =
    let t : whole_admitted c.args.target ≡ false = search rules in
    whole_target_refused c.args.list.now c.args.target c.args.method t

pub returns-then-not-admitted : goal.returns-then-not-admitted
returns-then-not-admitted c = whole_entry_refused c.args.list.now c.args.target c.args.method (sym c.admitted.ensures ∙ c.if-not-admitted.true)

pub returns-then-not-can_search : goal.returns-then-not-can_search
returns-then-not-can_search c =
    let t : whole_admitted c.args.target ≡ true = search rules in
    whole_order_refused c.args.list.now c.args.target c.args.method (sym c.admitted.ensures ∙ c.if-not-admitted.false) t (sym c.can_search.ensures ∙ c.if-not-can_search.true)

pub returns-then-not-ends_admitted : goal.returns-then-not-ends_admitted
returns-then-not-ends_admitted c = whole_entry_refused c.args.list.now c.args.target c.args.method (sym c.ends_admitted.ensures ∙ c.if-not-ends_admitted.true)

pub returns : goal.returns
returns c =
    let t : whole_admitted c.args.target ≡ true = search rules in
    let f : tell_option c.find.result ≡ rule.search wholes c.args.target c.args.method c.args.list.now = search rules in
    f ∙ whole_answered c.args.list.now c.args.target c.args.method (sym c.ends_admitted.ensures ∙ c.if-not-ends_admitted.false) t (sym c.can_search.ensures ∙ c.if-not-can_search.false)
