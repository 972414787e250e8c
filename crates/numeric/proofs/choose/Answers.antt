use Rattle.std.proofs.Common.{◌≡◌, true, false, rules}
use Rattle.std.proofs.lemmas.Iterator.{first_from_Range}
use Rattle.numeric.specs.Marks.{serves, chosen}
use Rattle.numeric.proofs.First.{first_found}
use Rattle.numeric.proofs.choose.Goals as goal

pub returns : goal.returns
unfolding chosen
returns c =
    first_found (serves c.args.d c.args.m) 28 c.find.result
    (first_from_Range _ _ _ _ (λ k. serves c.args.d c.args.m k ≡ true) (λ k. serves c.args.d c.args.m k ≡ false) c.find.ensures.ran (λ x q k. search rules) (λ x q k. search rules))
