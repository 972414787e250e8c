-- 02 (i): `shift`, which moves the film limits of a ruler in place, on every input. Assumes nothing.
use Rattle.std.specs.Prelude.{ℕ, not, ◌&&◌, List, [], ◌∷◌, ℤ}
use Rattle.ranged1d.specs.Answer.{Answer, given, Reason, ◌when◌, lowest, written}
use Rattle.ranged1d.specs.Admitted.{limit_admitted}
use Rattle.real.specs.Shifting.{shifted_limit}
use Rattle.ruler.specs.Rule.{bytes_by, form_in, a_in, b_in, limit_in, m_in, is_ruler}

-- The very ruler that the writer gives for the form, the ends and the mark limit in the bytes, with the limits in them moved by c
unfoldable pub shifted_bytes : ℤ → List ℕ → List ℕ
shifted_bytes c l = bytes_by (form_in l) (a_in l) (b_in l) (shifted_limit c (limit_in l)) (m_in l)

-- 2 where a moved limit is not admitted; bytes that are no ruler have no limits to move, so that 2 is met on rulers alone. 14 where they are none.
abbrev pub shift_reasons : ℤ → List ℕ → List Reason
shift_reasons c l = 2 when (is_ruler l && not (limit_admitted (shifted_limit c (limit_in l)))) ∷ 14 when not (is_ruler l) ∷ []

-- the bytes are lent, and hold the answer afterwards; a refusal leaves them as they are
unfoldable pub ruler_shift : ℤ → List ℕ → Answer (Unit {0}) × List ℕ
ruler_shift c l = written (lowest (shift_reasons c l) (given tt)) (shifted_bytes c l) l
