-- `ruler::Layout::is_mark` what the search leaves.
use Rattle.std.proofs.Common.{◌≡◌, true≢false, eqb-true, get_or, drop, ℤ, sym, ap, ◌∙◌, arith, rules, to_z-of_z, w32, SFits}
use Rattle.decimal.specs.Print.{label_of}
use Rattle.decimal.specs.Read.{same_bytes}
use Rattle.decimal.specs.declared.Text.{Text}
use Rattle.decimal.proofs.Texts.{same-equal, same_yes, same_is}
use Rattle.ruler.specs.Bytes.{whole, mark_body, laid}
use Rattle.ruler.specs.Place.{place_of}
use Rattle.ruler.specs.Steps.{four, mark_of}
use Rattle.ruler.proofs.Words.{by_bits, not_told, well_told, first-other, piece_other, mark-whole}
use Rattle.ruler.proofs.Layout.is_mark.Goals as goal
use Rattle.ruler.proofs.Layout.is_mark.Goals.{then-l-eq-MARK, else-l-eq-MARK, then-has_word, else-has_word}

pub returns-then-has_word-2 : goal.returns-then-has_word-2
unfolding laid mark_body
returns-then-has_word-2 c =
    let d = c.args.self.drawing.draft in
    let v = c.args.v in
    let l = c.args.l.now in
    let label_is : c.label.result.bytes ≡ label_of v = ap (λ (t : Text 11). t.bytes) c.label.ensures ∙ ap label_of (to_z-of_z c.ranges.v) in
    let told : c.is_label.result ≡ same_bytes (drop 9 l) (label_of v) = c.is_label.ensures ∙ ap (same_bytes (drop 9 l)) label_is in
    elim c.if-has_word.branch [
      | then-has_word w ↦
          let x : SFits w32 w.place_at.result = search rules in
          let is = rw (to_z-of_z c.ranges.v) at w.place_at.ensures in
          let place = well_told (by_bits l 5 w.place_at.result x w.has_word-then-has_word.ensures w.cast_unsigned-then-has_word.ensures ∙ ap (λ (z : ℤ). same_bytes (four 5 l) (whole z)) is) (sym w.value-is ∙ c.if-has_word-2.true) in
          elim c.if-l-eq-MARK.branch [
            | then-l-eq-MARK u ↦
                let value = well_told (by_bits l 1 v c.ranges.v u.has_word.ensures u.cast_unsigned.ensures) (sym u.value-is ∙ w.if-has_word.true) in
                same_is _ l (laid (mark_of d v)) (λ e. mark-whole v (place_of d.a d.b d.limit v) l (label_of v) (omega arith) u.if-l-eq-MARK.true value place (same-equal _ _ (sym told ∙ e))) (λ e. told ∙ same_yes _ _ (ap (drop 9) e))
            | else-l-eq-MARK u ↦ absurd (u.if-l-eq-MARK.false (eqb-true (get_or l 0 0) 2 (sym u.value-is ∙ w.if-has_word.true)))
          ]
      | else-has_word w ↦ absurd (true≢false (sym c.if-has_word-2.true ∙ w.value-is ∙ w.if-has_word.false))
    ]

pub returns-else-has_word-2 : goal.returns-else-has_word-2
unfolding laid mark_body
returns-else-has_word-2 c =
    let l = c.args.l.now in
    let v = c.args.v in
    elim c.if-has_word.branch [
      | then-has_word w ↦
          let x : SFits w32 w.place_at.result = search rules in
          let is = rw (to_z-of_z c.ranges.v) at w.place_at.ensures in
          c.if-has_word-2.false
          ∙ sym (piece_other 5 l (laid (mark_of c.args.self.drawing.draft v)) (not_told (by_bits l 5 w.place_at.result x w.has_word-then-has_word.ensures w.cast_unsigned-then-has_word.ensures ∙ ap (λ (z : ℤ). same_bytes (four 5 l) (whole z)) is) (sym w.value-is ∙ c.if-has_word-2.false)))
      | else-has_word w ↦ elim c.if-l-eq-MARK.branch [
        | then-l-eq-MARK u ↦ c.if-has_word-2.false ∙ sym (piece_other 1 l (laid (mark_of c.args.self.drawing.draft v)) (not_told (by_bits l 1 v c.ranges.v u.has_word.ensures u.cast_unsigned.ensures) (sym u.value-is ∙ w.if-has_word.false)))
        | else-l-eq-MARK u ↦ c.if-has_word-2.false ∙ sym (first-other l (laid (mark_of c.args.self.drawing.draft v)) u.if-l-eq-MARK.false)
      ]
    ]
