-- `decimal::spell` what the search leaves.
use Rattle.std.proofs.Common.{◌≡◌, ◌-◌, ℕ, length, replicate}
use Rattle.std.proofs.lemmas.List.{length-replicate}
use Rattle.decimal.specs.Print.{digits}
use Rattle.decimal.proofs.Digits.{padded-plain, padded-minus}
use Rattle.decimal.proofs.spell.Goals as goal
use Rattle.decimal.proofs.spell.Goals.{then-negative, else-negative}

pub returns : goal.returns
returns g c =
    let n = g.row.N in
    let l = digits (n - 2) c.args.size in
    let p = c.put_digits-blanks in
    let long : length (replicate {A = ℕ} n 32) ≡ n = length-replicate n 32 in
    let begins = rw long at p.ensures.whole in
    let text = rw long at p.ensures.digits in
    elim c.if-negative.branch [
      | then-negative w ↦ padded-minus n p.result l p.new.t begins text c.args.negative _ _ p.ensures.some w.if-negative.true w.bytes-is w.blanks-is
      | else-negative w ↦ padded-plain n p.result l p.new.t begins text c.args.negative _ _ w.if-negative.false w.bytes-is w.blanks-is
    ]
