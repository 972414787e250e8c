-- 02 (j): what may be relied on of a film, stated over the rule that the call promises. `shares` of proofs/Shares, and `films`, `first-refused`, `others`,
-- `one_border` and `read_back` of proofs/Theorems prove it. Assumes nothing.
use Rattle.std.specs.Prelude.{ℕ, zero, suc, ◌+◌, ◌*◌, ◌≤◌, ◌<◌, List, [], ◌∷◌, ◌++◌, ◌≡◌, ℤ, pos, length, take, drop}
use Rattle.ranged1d.specs.Answer.{Answer, given, refused}
use Rattle.numeric.specs.declared.Choice.TheVariants.{Inside}
use Rattle.numeric.specs.Marks.{step_of, marks_by}
use Rattle.ruler.specs.declared.Ruler.{Ruler}
use Rattle.ruler.specs.Bytes.{head_long}
use Rattle.ruler.specs.Rule.{form_in, marks_in, read_as, ruler_read, twisted}
use Rattle.film.specs.declared.Border.{Border}
use Rattle.film.specs.Film.{border_of, borders_of, share, alone, ruler_for, film_answer, film_bytes, film_write}

-- ---- the shares of the first k of n borders, added up
abbrev pub shares_of : ℕ → ℕ → ℕ → ℕ
shares_of M n zero = 0
shares_of M n (suc k) = shares_of M n k + share M n k

-- of one border or more
pub record Shares (M n : ℕ) : Type 0 where
  pub add_up : shares_of M n n ≡ M
  pub level : (i j : ℕ) → share M n i ≤ share M n j + 1

-- ---- a border of a film: those before it and those behind it
pub record IsBorder (l : List ℤ) (before : List Border) (x : Border) (after : List Border) : Type 0 where
  pub among : borders_of l ≡ before ++ (x ∷ after)

-- its share, and where its ruler begins
abbrev pub share_in : List ℤ → ℕ → List Border → ℕ
share_in l M before = share M (length (borders_of l)) (length before)

abbrev pub start_in : List ℤ → ℕ → List Border → ℕ
start_in l M before = length (film_bytes M (length (borders_of l)) 0 before)

-- the marks of borders from border i on, of n
abbrev pub film_marks : ℕ → ℕ → ℕ → List Border → ℕ
film_marks M n i [] = 0
film_marks M n i (x ∷ xs) = length (marks_by Inside x.a x.b (share M n i)) + film_marks M n (suc i) xs

-- n bytes from a place on
abbrev pub cut : ℕ → ℕ → List ℕ → List ℕ
cut at n l = take n (drop at l)

-- ---- a film that is written with the answer (n, k)
pub record Written (l : List ℤ) (M : ℕ) (old : List ℕ) (n k : ℕ) : Type 0 where
  -- from one border to 16
  pub borders : (0 < length (borders_of l)) × (length (borders_of l) ≤ 16)
  -- the writer takes each border alone, with its share, lent what is left at its place
  pub taken_alone : (before : List Border) (x : Border) (after : List Border) → IsBorder l before x after
      → (alone (share_in l M before) x (drop (start_in l M before) old)).0
      ≡ given (length (ruler_for (share_in l M before) x), length (marks_by Inside x.a x.b (share_in l M before)))
  -- and whatever bytes it is lent alone, if they are enough: what it writes there is, byte for byte, what stands at the border's place
  pub very_ruler : (before : List Border) (x : Border) (after : List Border) → IsBorder l before x after
      → (other : List ℕ) (s c : ℕ) → (alone (share_in l M before) x other).0 ≡ given (s, c)
      → cut (start_in l M before) s (film_write l M old).1 ≡ take s (alone (share_in l M before) x other).1
  -- all together are the bytes and the marks that are answered, and behind the bytes nothing is written
  pub bytes : n ≡ start_in l M (borders_of l)
  pub marks : k ≡ film_marks M (length (borders_of l)) 0 (borders_of l)
  pub behind : drop n (film_write l M old).1 ≡ drop n old
  -- never more than M + n marks, whatever the axes are
  pub few : k ≤ M + length (borders_of l)

-- ---- a film that is refused: where the borders before one are taken, and that one is refused alone, with its share and lent what they leave, the film is
-- refused with that
-- same number, whatever comes behind, and nothing is written
abbrev pub FirstRefused : List ℤ → ℕ → List ℕ → Type 0
FirstRefused l M old =
    (before : List Border) (x : Border) (after : List Border) → IsBorder l before x after
    → (n k : ℕ) → film_answer M (length (borders_of l)) 0 before old ≡ given (n, k)
    → (c : ℕ) → (alone (share_in l M before) x (drop (start_in l M before) old)).0 ≡ refused c
    → film_write l M old ≡ (refused c, old)

-- ---- two films with as many borders under the same mark limit, and in the same place the same border: another border's axis, limits and twist change no
-- byte of its ruler
pub record SameBorder (l l' : List ℤ) (M : ℕ) (old old' : List ℕ) : Type 0 where
  pub same : (before after before' after' : List Border) (x : Border) → IsBorder l before x after → IsBorder l' before' x after' → length before ≡ length before'
      → cut (start_in l M before) (length (ruler_for (share_in l M before) x)) (film_write l M old).1
      ≡ cut (start_in l' M before') (length (ruler_for (share_in l M before) x)) (film_write l' M old').1

-- ---- a film with one border is that border's ruler: the same answer or refusal, and the same bytes
abbrev pub OneBorder : Type 0
OneBorder = (a b p q t : ℤ) (M : ℕ) (old : List ℕ) → film_write (a ∷ b ∷ p ∷ q ∷ t ∷ []) M old ≡ alone M (border_of a b p q t) old

-- ---- reading: how long the ruler is that begins with these bytes. Its kind, axis, limits, mark limit and twist stand in its first 26 bytes; they give
-- the number
-- of its marks, each of which takes 20 bytes.
unfoldable pub ruler_long : List ℕ → ℕ
ruler_long l = head_long (form_in l) + 20 * length (marks_in l)

-- k rulers one behind another, each cut off where it ends, and read
unfoldable pub read_each : ℕ → List ℕ → List (Answer Ruler)
read_each zero l = []
read_each (suc k) l = ruler_read (take (ruler_long l) l) ∷ read_each k (drop (ruler_long l) l)

-- what the reader gives for a border under the mark limit m, and for borders from border i on, of n
abbrev pub read_border : ℕ → Border → Answer Ruler
read_border m x = given (read_as (twisted Inside x.twist) x.a x.b x.limit m (pos (step_of x.a x.b m)) (length (marks_by Inside x.a x.b m)))

abbrev pub read_borders : ℕ → ℕ → ℕ → List Border → List (Answer Ruler)
read_borders M n i [] = []
read_borders M n i (x ∷ xs) = read_border (share M n i) x ∷ read_borders M n (suc i) xs

-- a written film is read as its borders
abbrev pub ReadBack : List ℤ → ℕ → List ℕ → Type 0
ReadBack l M old = read_each (length (borders_of l)) (film_write l M old).1 ≡ read_borders M (length (borders_of l)) 0 (borders_of l)
