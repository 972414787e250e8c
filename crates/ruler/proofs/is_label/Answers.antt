-- `ruler::is_label` what the search leaves.
use Rattle.std.proofs.Common.{◌≡◌, ℕ, ◌<◌, true≢false, length, get_or, drop, sym, ap, ◌∙◌, arith, rules}
use Rattle.decimal.proofs.Texts.{same-equal, same_yes, same_is}
use Rattle.ruler.specs.Steps.{four}
use Rattle.ruler.proofs.Words.{told_by, not_told, well_told, piece_other, from_label, label_whole}
use Rattle.ruler.proofs.is_label.Goals as goal
use Rattle.ruler.proofs.is_label.Goals.{then-has_word, else-has_word}

pub returns-then-has_word-2 : goal.returns-then-has_word-2
returns-then-has_word-2 c =
    let l = c.args.l.now in
    let t = c.args.t in
    let long : length t ≡ 11 = search rules in
    let small : (i : ℕ) → get_or t i 0 < 256 = λ i. search rules in
    let first = told_by l t _ 9 0 (omega (arith, long)) small c.has_word.ensures c.word_at.ensures in
    let third = told_by l t _ 16 7 (omega (arith, long)) small c.has_word-then-has_word-2.ensures c.word_at-then-has_word-2.ensures in
    elim c.if-has_word.branch [
      | then-has_word w ↦
          let second = told_by l t _ 13 4 (omega (arith, long)) small w.has_word-then-has_word.ensures w.word_at-then-has_word.ensures in
          same_is _ (drop 9 l) t
          (λ e. label_whole l t (search rules) long (well_told first w.if-has_word.true) (well_told second (sym w.value-is ∙ c.if-has_word-2.true)) (same-equal _ _ (sym third ∙ e)))
          (λ e. third ∙ same_yes _ _ (sym (from_label 7 l) ∙ ap (four 7) e))
      | else-has_word w ↦ absurd (true≢false (sym c.if-has_word-2.true ∙ w.value-is ∙ w.if-has_word.false))
    ]

pub returns-else-has_word-2 : goal.returns-else-has_word-2
returns-else-has_word-2 c =
    let l = c.args.l.now in
    let t = c.args.t in
    let long : length t ≡ 11 = search rules in
    let small : (i : ℕ) → get_or t i 0 < 256 = λ i. search rules in
    let first = told_by l t _ 9 0 (omega (arith, long)) small c.has_word.ensures c.word_at.ensures in
    elim c.if-has_word.branch [
      | then-has_word w ↦
          let second = told_by l t _ 13 4 (omega (arith, long)) small w.has_word-then-has_word.ensures w.word_at-then-has_word.ensures in
          c.if-has_word-2.false ∙ sym (piece_other 4 (drop 9 l) t (λ e. not_told second (sym w.value-is ∙ c.if-has_word-2.false) (sym (from_label 4 l) ∙ e)))
      | else-has_word w ↦ c.if-has_word-2.false ∙ sym (piece_other 0 (drop 9 l) t (not_told first w.if-has_word.false))
    ]
