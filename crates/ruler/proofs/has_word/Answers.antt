-- `ruler::has_word` what the search leaves.
use Rattle.std.proofs.Common.{◌≡◌, length, rules, ℕ, eqb, ap, ◌∙◌, arith}
use Rattle.ruler.proofs.Words.{same_word}
use Rattle.ruler.proofs.has_word.Goals as goal

pub returns : goal.returns
returns c =
    let long : length c.args.l.now ≡ 20 = search rules in
    ap (λ (n : ℕ). eqb n c.args.x) c.word_at.ensures
    ∙ same_word c.args.at c.args.l.now (omega (arith, c.requires, long)) (λ i. search rules) c.args.x (omega arith)
