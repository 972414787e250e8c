use Rattle.std.proofs.Common.{◌≡◌, true, false, rules, tests}
use Rattle.std.proofs.lemmas.Iterator.{cases_from_all, YieldsList-from_slice}
use Rattle.ranged1d.specs.Admitted.{whole_admitted}
use Rattle.search.proofs.Lists.{every_is}
use Rattle.search.proofs.wholes.admitted.Goals as goal

pub returns : goal.returns
returns c =
    every_is whole_admitted c.args.list.now c.all.result
    (cases_from_all _ _ _ (λ z. whole_admitted z ≡ true) (λ z. whole_admitted z ≡ false) c.all.ensures.ran (YieldsList-from_slice c.args.list.now cc) (λ x q k. search (rules, tests)) (λ x q k. search (rules, tests)))
