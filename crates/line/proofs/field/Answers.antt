-- `line::field` what the search leaves.
use Rattle.std.proofs.Common.{rules}
use borrow.Author.Tests.{tests}
use Rattle.std.proofs.lemmas.Iterator.{YieldsList-from_slice}
use Rattle.std.proofs.lemmas.Iterator.Search.{position_from_yields_List}
use Rattle.line.proofs.Words.{is_blank, no-field, some-field}
use Rattle.line.proofs.field.Goals as goal

pub returns-in_err-n : goal.returns-in_err-n
returns-in_err-n c =
    let found = position_from_yields_List is_blank _ _ c.position.result c.position.ensures.ran (YieldsList-from_slice c.args.s.now cc) (λ x b q k. search (rules, tests)) in
    rw c.from_residual.ensures (no-field c.args.s.now c.position.result found c.in_err-n.was)

pub returns : goal.returns
returns c =
    let found = position_from_yields_List is_blank _ _ c.position.result c.position.ensures.ran (YieldsList-from_slice c.args.s.now cc) (λ x b q k. search (rules, tests)) in
    some-field c.args.s.now c.position.result found c.in_ok-n.n c.in_ok-n.was
