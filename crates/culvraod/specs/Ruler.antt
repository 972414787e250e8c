-- The C calls on rulers: what each returns, and what lies behind its pointers afterwards, in their order. Assumes nothing.
use Rattle.std.specs.Prelude.{ℕ, ◌-◌, ℤ, pos}
use Rattle.ranged1d.specs.Answer.{Answer}
use Rattle.ruler.specs.declared.Ruler.{Ruler}
use Rattle.ruler.specs.declared.Part.{Part}
use Rattle.ruler.specs.Bytes.{kind_byte, twist_number}
use Rattle.ruler.specs.Rule.{side_of}
use Rattle.culvraod.specs.Boundary.{code, out_after}

-- the numbers of a ruler, one behind each pointer
abbrev with_numbers : ℤ → Ruler → ℤ × ℤ × ℤ × ℤ × ℤ × ℕ × ℤ × ℕ
with_numbers c r = (c, r.a, r.b, r.limit.0, r.limit.1, r.m, r.step, r.marks)

-- the reader: the code, and the numbers of the ruler, or those that were there
abbrev pub read_c : Answer Ruler → Ruler → ℤ × ℤ × ℤ × ℤ × ℤ × ℕ × ℤ × ℕ
read_c x old = with_numbers (code x) (out_after (λ r. r) x old)

-- the same with the kind and the twist
abbrev pub read_kind_c : Answer Ruler → Ruler → ℕ → ℕ → ℤ × ℤ × ℤ × ℤ × ℤ × ℕ × ℤ × ℕ × ℕ × ℕ
read_kind_c x old kind twist =
    let r = out_after (λ y. y) x old in
    (code x, r.a, r.b, r.limit.0, r.limit.1, r.m, r.step, r.marks, out_after (λ y. kind_byte y.form) x kind, out_after (λ y. twist_number y.form.twist) x twist)

-- a look-up: always answered, with the part's start and its length
abbrev pub part_c : Part → ℤ × ℕ × ℕ
part_c r = (pos 0, r.start, r.end - r.start)

-- a look-up in a pair: before these the side that was looked at, 0 for the left and 1 for the right
abbrev pub pair_c : ℤ → Part → ℤ × ℕ × ℕ × ℕ
pair_c v r = (pos 0, side_of v 0 1, r.start, r.end - r.start)
