-- 02 (i): what moving both film limits by c changes in a ruler, and what it leaves as it is. It is stated of the bytes, over the rules that the writers and
-- `shift` promise. `moved_film` and `shifts` of proofs/MovedFilm prove `MovedFilm` and `Shifts`. Assumes nothing.
use Rattle.std.specs.Prelude.{◌≡◌, ℕ, ◌+◌, ◌<◌, ◌≤◌, true, List, length, take, drop, ℤ, ◌+ℤ◌, neg_ℤ, ◌≢◌, slice_index}
use Rattle.ranged1d.specs.Answer.{Answer, given, refused}
use Rattle.ranged1d.specs.Admitted.{limit_admitted}
use Rattle.ranged1d.specs.declared.Limit.{Limit}
use Rattle.numeric.specs.declared.Choice.{Choice}
use Rattle.real.specs.Place.{whole_place}
use Rattle.real.specs.Shifting.{shifted_limit}
use Rattle.ruler.specs.declared.Form.{Form}
use Rattle.ruler.specs.Bytes.{whole_at, head_long}
use Rattle.ruler.specs.Rule.{bytes_by, write_by, twisted, twisted_write, form_in, a_in, b_in, limit_in, m_in, is_ruler, marks_in, record_at}
use Rattle.ruler.specs.Shifting.{ruler_shift}

-- ---- where the numbers stand, each of four bytes: p and q in the axis's record; in that of mark k, counted from 0, its needle and its place
abbrev pub p_at : ℕ
p_at = 9

abbrev pub q_at : ℕ
q_at = 13

abbrev pub needle_at : Form → ℕ → ℕ
needle_at f k = (record_at (head_long f) k).start + 1

abbrev pub place_at : Form → ℕ → ℕ
place_at f k = (record_at (head_long f) k).start + 5

-- byte i is one of the four of the number at `at`
abbrev pub Within : ℕ → ℕ → Type 0
Within at i = (at ≤ i) × (i < at + 4)

-- ---- The bytes `here` are a ruler of n marks, of the axis from a to b on the film with these limits; in `there` p, q and the marks' places have moved by c,
-- and every other byte is the same.
pub record OnlyMoved (f : Form) (a b : ℤ) (limit : Limit) (c : ℤ) (n : ℕ) (here there : List ℕ) : Type 0 where
  pub as_long : length there ≡ length here
  -- p and q
  pub p_here : whole_at here p_at ≡ limit.0
  pub p_there : whole_at there p_at ≡ limit.0 +ℤ c
  pub q_here : whole_at here q_at ≡ limit.1
  pub q_there : whole_at there q_at ≡ limit.1 +ℤ c
  -- the place of each mark: that of the needle before it; it moves by c where the ends differ, and not at all where they are equal
  pub place_here : (k : ℕ) → k < n → whole_place a b (whole_at here (needle_at f k)) limit ≡ given (whole_at here (place_at f k))
  pub place_moves : (a ≢ b) → (k : ℕ) → k < n → whole_at there (place_at f k) ≡ whole_at here (place_at f k) +ℤ c
  pub place_stays : a ≡ b → (k : ℕ) → k < n → whole_at there (place_at f k) ≡ whole_at here (place_at f k)
  -- and every byte that is none of these numbers'
  pub others : (i : ℕ) → (Within p_at i → ⊥) → (Within q_at i → ⊥) → ((k : ℕ) → k < n → Within (place_at f k) i → ⊥) → slice_index there i ≡ slice_index here i

-- ---- What two calls of a writer do, `here` with the limits and `there` with the moved ones, lent `old` and `old'`
pub record Stays (f : Form) (a b : ℤ) (limit : Limit) (c : ℤ) (old old' : List ℕ) (here there : Answer (ℕ × ℕ) × List ℕ) : Type 0 where
  -- the same refusal, or the same number of bytes and of marks
  pub answer : there.0 ≡ here.0
  -- refused, neither writes
  pub nothing_written : (r : ℕ) → here.0 ≡ refused r → (here.1 ≡ old) × (there.1 ≡ old')
  -- accepted, what they write differs in p, q and the places alone; behind it the memory is as it was
  pub moved : (n k : ℕ) → here.0 ≡ given (n, k) → OnlyMoved f a b limit c k (take n here.1) (take n there.1)
  pub behind : (n k : ℕ) → here.0 ≡ given (n, k) → (drop n here.1 ≡ drop n old) × (drop n there.1 ≡ drop n old')

-- ---- the statement, for every c with all limits admitted before and after, and with the same length lent
pub record MovedFilm : Type 0 where
  -- rulers of every form, so of kinds 1 and 3, and of 5 and 6 with either twist
  pub rulers : (f : Form) (a b : ℤ) (limit : Limit) (m : ℕ) (c : ℤ) → limit_admitted limit ≡ true → limit_admitted (shifted_limit c limit) ≡ true
      → (old old' : List ℕ) → length old' ≡ length old → Stays f a b limit c old old' (write_by f a b limit m old) (write_by f a b (shifted_limit c limit) m old')
  -- the calls that are handed a twist by its number, known or not
  pub twisted_rulers : (choice : Choice) (t : ℕ) (a b : ℤ) (limit : Limit) (m : ℕ) (c : ℤ) → limit_admitted limit ≡ true → limit_admitted (shifted_limit c limit) ≡ true
      → (old old' : List ℕ) → length old' ≡ length old
      → Stays (twisted choice t) a b limit c old old' (twisted_write choice t a b limit m old) (twisted_write choice t a b (shifted_limit c limit) m old')

-- ---- `shift` on a ruler whose moved limits are admitted
pub record Shifts (l : List ℕ) (c : ℤ) : Type 0 where
  -- is accepted, and leaves the very bytes that the writer gives for the moved limits, as many as before
  pub as_written : ruler_shift c l ≡ (given tt, bytes_by (form_in l) (a_in l) (b_in l) (shifted_limit c (limit_in l)) (m_in l))
  -- in which p, q and the places alone have moved
  pub moved : OnlyMoved (form_in l) (a_in l) (b_in l) (limit_in l) c (length (marks_in l)) l (ruler_shift c l).1
  -- they are a ruler again, and moved back by as much they are what they were, byte for byte
  pub still_ruler : is_ruler (ruler_shift c l).1 ≡ true
  pub there_and_back : ruler_shift (neg_ℤ c) (ruler_shift c l).1 ≡ (given tt, l)
