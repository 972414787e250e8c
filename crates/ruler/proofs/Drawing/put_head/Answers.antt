-- `ruler::Drawing::put_head` what the search leaves.
use Rattle.std.proofs.Common.{◌≡◌, ℕ, List, set, ℤ, ap, ◌∙◌, arith, rules, to_z-of_z, w32, SFits, to_z, of_z}
use Rattle.ruler.specs.Bytes.{kind_byte}
use Rattle.ruler.specs.Steps.{form_of, put_word}
use Rattle.ruler.proofs.Lists.{words_put, head_put}
use Rattle.ruler.proofs.Drawing.put_head.Goals as goal

-- a number that is put by its bits
by_bits : (at : ℕ) (z : ℤ) {x : ℕ} {l m n : List ℕ} → SFits w32 z → n ≡ put_word at x m → x ≡ of_z w32 (to_z w32 (of_z w32 z)) → m ≡ l → n ≡ put_word at (of_z w32 z) l
by_bits at z f e g h = rw (e, g, h, to_z-of_z f)

pub returns : goal.returns
returns c =
    let d = c.args.self in
    let s = c.args.step in
    let a : SFits w32 d.draft.a = search rules in
    let b : SFits w32 d.draft.b = search rules in
    let p : SFits w32 d.draft.limit.0 = search rules in
    let q : SFits w32 d.draft.limit.1 = search rules in
    let kind = ap (set c.args.out.now 0) (c.kind.ensures ∙ ap kind_byte c.form.ensures) in
    let one = by_bits 1 d.draft.a a c.put_word.ensures c.cast_unsigned.ensures kind in
    let two = by_bits 5 d.draft.b b c.put_word-2.ensures c.cast_unsigned-2.ensures one in
    let three = by_bits 9 d.draft.limit.0 p c.put_word-3.ensures c.cast_unsigned-3.ensures two in
    let four = by_bits 13 d.draft.limit.1 q c.put_word-4.ensures c.cast_unsigned-4.ensures three in
    let five = c.put_word-5.ensures ∙ ap (put_word 17 d.draft.m) four in
    let six = by_bits 21 s c.ranges.step c.put_word-6.ensures c.cast_unsigned-5.ensures five in
    head_put (form_of d) d.draft.a d.draft.b d.draft.limit d.draft.m s c.args.out.now (six ∙ words_put _ _ _ _ _ _ _ c.args.out.now (omega arith)) (c.copy_from_slice.ensures.after ∙ c.bytes-twist.ensures.0) (omega arith)
