use Rattle.std.proofs.Common.{◌≡◌, ◌+◌, ℕ, List, Bool, true, false, length, ap, sym, ◌∙◌, arith}
use mathlib.Core.Bool.{◌||◌}
use lib.Dec.{ltb}
use lib.Ieee.{Float, binary64, div}
use lib.Ieee as Ieee
use borrow.Author.Tests.{lt-ltb, le-ltb}
use Rattle.ranged1d.specs.Answer.{list_written}
use Rattle.ranged1d.proofs.Bools.{or_right}
use Rattle.decimal.specs.Print.{decimal}
use Rattle.decimal.proofs.Digits.{decimal-most}
use Rattle.float.specs.declared.Shortened.{Shortened}
use Rattle.float.specs.Scientific.{zero_float, exponent_of}
use Rattle.float.specs.Steps.{bytes_of}
use Rattle.float.proofs.Bounds.{printable_at_most}
use Rattle.float.proofs.Lists.{text_kept}
use Rattle.float.proofs.Shown.{levels_few, value-near}
use Rattle.float.proofs.Notation.{text-short, text_long, text-kept, text_is}
use Rattle.float.proofs.Either.{plain-bytes, label-bytes, exponent_told, short_is, part-fits, part-most, long-bytes, preferred_is}
use Rattle.float.proofs.put_either.Goals as goal
use Rattle.float.proofs.put_either.Goals.{then-length-x-via-then-length-x, then-length-x-via-else-length-x+then-r}

pub take_apart-t-requires-clause-few : goal.take_apart-t-requires-clause-few
take_apart-t-requires-clause-few c = levels_few c.args.n c.args.h.number c.well_formed.0.1 (printable_at_most c.args.n c.requires.has_label) c.args.h.few c.find_minimal_repr-r.result c.find_minimal_repr-r.ensures

pub take_apart-t-requires-clause-near : goal.take_apart-t-requires-clause-near
take_apart-t-requires-clause-near c = value-near c.args.n c.args.h.number c.well_formed.0.1 (printable_at_most c.args.n c.requires.has_label) c.args.h.few c.find_minimal_repr-r.result c.find_minimal_repr-r.ensures

pub returns-then-unsigned_abs-lt3 : goal.returns-then-unsigned_abs-lt3
returns-then-unsigned_abs-lt3 c =
    let n = c.args.n in
    let h = c.args.h.number in
    let e = c.args.e in
    let short = short_is n c.abs.result c.abs.ensures.value c.scale-p.result.index c.scale-p.ensures.index c.scale-p.ensures.few c.unsigned_abs.result c.unsigned_abs.ensures.value in
    c.put_plain.ensures
    ∙ ap (λ (r : List ℕ). list_written r c.args.out.now)
    (label-bytes n c.well_formed.0.1 c.requires.has_label h c.args.h.few e c.find_minimal_repr-r.result c.find_minimal_repr-r.ensures c.take_apart-t.result c.take_apart-t.ensures
    ∙ sym (text-short n h e c.requires.nonzero (sym short ∙ lt-ltb c.unsigned_abs.result 3 c.if-unsigned_abs-lt3.true)))

pub take_apart-u-requires-clause-few : goal.take_apart-u-requires-clause-few
take_apart-u-requires-clause-few c =
    let n = c.args.n in
    let p = c.scale-p.result.value in
    levels_few (div binary64 n p) 5 (part-fits n c.abs.result p c.abs.ensures.value c.scale-p.ensures.value c.requires.has_label c.requires.nonzero c.requires.large)
    (part-most n c.abs.result p c.abs.ensures.value c.scale-p.ensures.value c.requires.has_label c.requires.nonzero c.requires.large)
    (omega arith) c.find_minimal_repr.result c.find_minimal_repr.ensures

pub take_apart-u-requires-clause-near : goal.take_apart-u-requires-clause-near
take_apart-u-requires-clause-near c =
    let n = c.args.n in
    let p = c.scale-p.result.value in
    value-near (div binary64 n p) 5 (part-fits n c.abs.result p c.abs.ensures.value c.scale-p.ensures.value c.requires.has_label c.requires.nonzero c.requires.large)
    (part-most n c.abs.result p c.abs.ensures.value c.scale-p.ensures.value c.requires.has_label c.requires.nonzero c.requires.large)
    (omega arith) c.find_minimal_repr.result c.find_minimal_repr.ensures

pub returns-then-length-x : goal.returns-then-length-x
returns-then-length-x c =
    let n = c.args.n in
    let h = c.args.h.number in
    let e = c.args.e in
    let short = short_is n c.abs.result c.abs.ensures.value c.scale-p.result.index c.scale-p.ensures.index c.scale-p.ensures.few c.unsigned_abs.result c.unsigned_abs.ensures.value in
    let told = exponent_told n c.abs.result c.abs.ensures.value c.scale-p.result.index c.scale-p.ensures.index c.scale-p.ensures.few in
    let x = c.as_slice-x.result.now in
    let d : x ≡ decimal (exponent_of n) = text_kept 11 (decimal (exponent_of n)) (decimal-most (exponent_of n)) c.label-text.result (rw told at c.label-text.ensures) x c.as_slice-x.ensures in
    let b = long-bytes n c.abs.result c.scale-p.result.value c.abs.ensures.value c.scale-p.ensures.value c.requires.has_label c.requires.nonzero c.requires.large e c.find_minimal_repr.result c.find_minimal_repr.ensures c.take_apart-u.result c.take_apart-u.ensures in
    let o = plain-bytes n c.well_formed.0.1 c.requires.has_label h c.args.h.few e c.find_minimal_repr-r.result c.find_minimal_repr-r.ensures c.take_apart-t.result c.take_apart-t.ensures in
    let v = c.find_minimal_repr-r.result.value in
    let i = c.length.result in
    let j = c.length-2.result in
    let picked = preferred_is n h e i j (bytes_of c.take_apart-u.result e) x v c.length.ensures.bytes b d (c.length-2.ensures.bytes ∙ ap length o) (ap (λ (r : Shortened). r.value) c.find_minimal_repr-r.ensures) in
    let yes : (ltb (i + 1 + length x + 1) j || Ieee.eq v zero_float) ≡ true =
    elim c.then-length-x.branch [
      | then-length-x-via-then-length-x w ↦ ap (λ (t : Bool). t || Ieee.eq v zero_float) (lt-ltb (i + 1 + length x + 1) j w.if-length-x.true)
      | then-length-x-via-else-length-x+then-r w ↦ or_right (ltb (i + 1 + length x + 1) j) (Ieee.eq v zero_float) w.if-r.true
    ] in
    c.put_scientific.ensures
    ∙ ap (λ (r : List ℕ). list_written r c.args.out.now)
    (text_is n h e _ _ b d ∙ sym (text_long n h e c.requires.nonzero (sym short ∙ le-ltb c.unsigned_abs.result 3 c.if-unsigned_abs-lt3.false) (sym picked ∙ yes)))

pub returns : goal.returns
returns c =
    let n = c.args.n in
    let h = c.args.h.number in
    let e = c.args.e in
    let short = short_is n c.abs.result c.abs.ensures.value c.scale-p.result.index c.scale-p.ensures.index c.scale-p.ensures.few c.unsigned_abs.result c.unsigned_abs.ensures.value in
    let told = exponent_told n c.abs.result c.abs.ensures.value c.scale-p.result.index c.scale-p.ensures.index c.scale-p.ensures.few in
    let x = c.as_slice-x.result.now in
    let d : x ≡ decimal (exponent_of n) = text_kept 11 (decimal (exponent_of n)) (decimal-most (exponent_of n)) c.label-text.result (rw told at c.label-text.ensures) x c.as_slice-x.ensures in
    let b = long-bytes n c.abs.result c.scale-p.result.value c.abs.ensures.value c.scale-p.ensures.value c.requires.has_label c.requires.nonzero c.requires.large e c.find_minimal_repr.result c.find_minimal_repr.ensures c.take_apart-u.result c.take_apart-u.ensures in
    let o = plain-bytes n c.well_formed.0.1 c.requires.has_label h c.args.h.few e c.find_minimal_repr-r.result c.find_minimal_repr-r.ensures c.take_apart-t.result c.take_apart-t.ensures in
    let v = c.find_minimal_repr-r.result.value in
    let i = c.length.result in
    let j = c.length-2.result in
    let picked = preferred_is n h e i j (bytes_of c.take_apart-u.result e) x v c.length.ensures.bytes b d (c.length-2.ensures.bytes ∙ ap length o) (ap (λ (r : Shortened). r.value) c.find_minimal_repr-r.ensures) in
    let no : (ltb (i + 1 + length x + 1) j || Ieee.eq v zero_float) ≡ false = ap (λ (t : Bool). t || Ieee.eq v zero_float) (le-ltb (i + 1 + length x + 1) j c.if-length-x.false) ∙ c.if-r.false in
    c.put_plain-2.ensures
    ∙ ap (λ (r : List ℕ). list_written r c.args.out.now)
    (label-bytes n c.well_formed.0.1 c.requires.has_label h c.args.h.few e c.find_minimal_repr-r.result c.find_minimal_repr-r.ensures c.take_apart-t.result c.take_apart-t.ensures
    ∙ sym (text-kept n h e c.requires.nonzero (sym short ∙ le-ltb c.unsigned_abs.result 3 c.if-unsigned_abs-lt3.false) (sym picked ∙ no)))
