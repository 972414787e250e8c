-- `ruler::Layout::index_of` what the search leaves.
use Rattle.std.proofs.Common.{◌≡◌, refl, rules}
use native.Mathlib.Nat.{sub-zero}
use borrow.Author.Tests.{tests}
use Rattle.std.proofs.lemmas.Iterator.{IsFirst-from_position, YieldsList-from_range}
use Rattle.numeric.specs.Calls.{element}
use Rattle.ruler.proofs.Index.{index_first}
use Rattle.ruler.proofs.Layout.index_of.Goals as goal

pub returns : goal.returns
returns c =
    let p = c.args.self.points in
    let f = element p.first p.step in
    let v = c.args.v in
    index_first v f p.count c.position.result
    (IsFirst-from_position _ _ c.position.result (λ k. f k ≡ v) (λ k. f k ≡ v → ⊥) c.position.ensures.ran (YieldsList-from_range 0 p.count p.count refl (sub-zero p.count)) (λ x q k. search (rules, tests)) (λ x q k. search (rules, tests)))
