-- What 02 (j) says of films: the records of specs/Films. Assumes nothing.
use mathlib.Core.Path.{◌≡◌, refl, sym, ap, ap₂, ◌∙◌, subst}
use mathlib.Core.Bool.{true, false}
use mathlib.Core.List.{List, [], ◌∷◌, ◌++◌, append_assoc, append-nil}
use Prim.Native.Nat.{ℕ, suc, ◌+◌, ◌-◌, ◌*◌, ◌^◌, ◌≤◌, ◌<◌}
use native.Mathlib.Nat.{div-one, mod-one}
use native.Mathlib.Omega.{arith}
use lib.IntN.{ℤ}
use lib.ListN.{length, get_or, take, drop, length-append, length-drop, get_or-append}
use lib.Seq.{take_at, drop_at}
use Rattle.ranged1d.specs.Answer.{Answer, given, none, refused, ◌when◌, written, held_after, and_then}
use Rattle.ranged1d.proofs.Answers.{given_is}
use Rattle.ranged1d.proofs.Lowest.{given_tests}
use Rattle.numeric.specs.declared.Choice.TheVariants.{Inside}
use Rattle.numeric.specs.Marks.{marks_by}
use Rattle.numeric.proofs.Most.{at_most}
use Rattle.ruler.specs.declared.Ruler.{Ruler}
use Rattle.ruler.specs.Bytes.{word_at, head_long}
use Rattle.ruler.specs.Rule.{ruler_read, twisted, has_ruler}
use Rattle.ruler.proofs.Drawn.{has_plan, ruler_long_lem}
use Rattle.ruler.proofs.Reader.{ruler_in, known_long}
use Rattle.ruler.proofs.Places.{served}
use Rattle.ruler.proofs.Theorems as rulers
use Rattle.film.specs.declared.Border.{Border}
use Rattle.film.specs.Film.{border_of, borders_of, no_film, share, alone, ruler_for, together, film_answer, film_bytes, film_write}
use Rattle.film.specs.Films.{shares_of, IsBorder, share_in, start_in, film_marks, cut, Written, FirstRefused, SameBorder, OneBorder, ruler_long, read_each, read_border, read_borders, ReadBack}
use Rattle.film.specs.Steps.{settled, walked}
use Rattle.film.proofs.Borders.{film_is}
use Rattle.film.proofs.Settled.{alone_is, head_long_lem, taken}
use Rattle.film.proofs.Shares.{share-most, shares}
use Rattle.film.proofs.Walk.{answer_is, begun, bytes_on}

-- ---- an accepted walk
module _ (M n : ℕ) where
  pub walk_bytes : (i : ℕ) (xs : List Border) (room : ℕ) {s k : ℕ} → walked M n i xs room ≡ given (s, k) → (length (film_bytes M n i xs) ≡ s) × (s ≤ room)
  unfolding walked film_bytes
  walk_bytes i [] room {s} {k} e =
      let pair : ◌≡◌ {A = ℕ × ℕ} (0, 0) (s, k) = given_is e in
      let z : 0 ≡ s = ap (λ (r : ℕ × ℕ). r.0) pair in
      (z, omega (arith, z))
  walk_bytes i (x ∷ xs) room {s} {k} e =
      let (b, sum) = begun M n i x xs room e in
      let t = taken x (share M n i) b.first_is in
      let rest = walk_bytes (suc i) xs (room - b.first.0) b.others-are in
      let size : b.first.0 + b.others.0 ≡ s = ap (λ (r : ℕ × ℕ). r.0) sum in
      (length-append (ruler_for (share M n i) x) (film_bytes M n (suc i) xs) ∙ omega (arith, t.bytes, rest.0, size), omega (arith, t.enough, rest.1, size))

  pub walk_marks : (i : ℕ) (xs : List Border) (room : ℕ) {s k : ℕ} → walked M n i xs room ≡ given (s, k) → k ≡ film_marks M n i xs
  unfolding walked
  walk_marks i [] room {s} {k} e =
      let pair : ◌≡◌ {A = ℕ × ℕ} (0, 0) (s, k) = given_is e in
      sym (ap (λ (r : ℕ × ℕ). r.1) pair)
  walk_marks i (x ∷ xs) room {s} {k} e =
      let (b, sum) = begun M n i x xs room e in
      let t = taken x (share M n i) b.first_is in
      let count : b.first.1 + b.others.1 ≡ k = ap (λ (r : ℕ × ℕ). r.1) sum in
      sym count ∙ ap₂ (λ (x y : ℕ). x + y) (sym t.marks) (walk_marks (suc i) xs (room - b.first.0) b.others-are)

  -- no more than one mark above each share
  pub walk_few : (i : ℕ) (xs : List Border) (room : ℕ) {s k : ℕ} → walked M n i xs room ≡ given (s, k) → k + shares_of M n i ≤ shares_of M n (i + length xs) + length xs
  unfolding walked
  walk_few i [] room {s} {k} e =
      let pair : ◌≡◌ {A = ℕ × ℕ} (0, 0) (s, k) = given_is e in
      let z : 0 ≡ k = ap (λ (r : ℕ × ℕ). r.1) pair in
      let same : i + 0 ≡ i = omega arith in
      rw same (omega (arith, z))
  walk_few i (x ∷ xs) room {s} {k} e =
      let (b, sum) = begun M n i x xs room e in
      let t = taken x (share M n i) b.first_is in
      let rest = walk_few (suc i) xs (room - b.first.0) b.others-are in
      let count : b.first.1 + b.others.1 ≡ k = ap (λ (r : ℕ × ℕ). r.1) sum in
      let most = at_most Inside x.a x.b (share M n i) (served x.a x.b x.limit (share M n i) t.has) in
      let same : i + suc (length xs) ≡ suc i + length xs = omega arith in
      rw same (omega (arith, most, t.marks, rest, count))

  -- a border in the middle: what the writer answers there
  pub walk_at : (i : ℕ) (before : List Border) (x : Border) (after : List Border) (room : ℕ) {r : ℕ × ℕ} → walked M n i (before ++ (x ∷ after)) room ≡ given r
      → (s : ℕ × ℕ) × (settled x (share M n (i + length before)) (room - length (film_bytes M n i before)) ≡ given s)
  unfolding film_bytes
  walk_at i [] x after room e =
      let (b, sum) = begun M n i x after room e in
      let same : i + 0 ≡ i = omega arith in
      let all : room - 0 ≡ room = omega arith in
      (b.first, rw (same, all) b.first_is)
  walk_at i (y ∷ before) x after room e =
      let (b, sum) = begun M n i y (before ++ (x ∷ after)) room e in
      let t = taken y (share M n i) b.first_is in
      let rest = walk_at (suc i) before x after (room - b.first.0) b.others-are in
      let same : i + suc (length before) ≡ suc i + length before = omega arith in
      let long = length-append (ruler_for (share M n i) y) (film_bytes M n (suc i) before) in
      let left : room - length (ruler_for (share M n i) y ++ film_bytes M n (suc i) before) ≡ room - b.first.0 - length (film_bytes M n (suc i) before) = omega (arith, long, t.bytes) in
      (rest.0, rw (same, left) rest.1)

  -- a border in the middle that is refused, behind borders that are taken
  pub walk_refused : (i : ℕ) (before : List Border) (x : Border) (after : List Border) (room : ℕ) {s k : ℕ} → walked M n i before room ≡ given (s, k) → {c : ℕ}
      → settled x (share M n (i + length before)) (room - s) ≡ refused c → walked M n i (before ++ (x ∷ after)) room ≡ refused c
  unfolding walked
  walk_refused i [] x after room {s} {k} e f =
      let pair : ◌≡◌ {A = ℕ × ℕ} (0, 0) (s, k) = given_is e in
      let z : 0 ≡ s = ap (λ (r : ℕ × ℕ). r.0) pair in
      let same : i + 0 ≡ i = omega arith in
      let all : room - s ≡ room = omega (arith, z) in
      rw (sym (ap₂ (λ (j r : ℕ). settled x (share M n j) r) same all) ∙ f)
  walk_refused i (y ∷ before) x after room {s} {k} e f =
      let (b, sum) = begun M n i y before room e in
      let size : b.first.0 + b.others.0 ≡ s = ap (λ (r : ℕ × ℕ). r.0) sum in
      let same : i + suc (length before) ≡ suc i + length before = omega arith in
      let left : room - s ≡ room - b.first.0 - b.others.0 = omega (arith, size) in
      let rest = walk_refused (suc i) before x after (room - b.first.0) b.others-are (sym (ap₂ (λ (j r : ℕ). settled x (share M n j) r) same left) ∙ f) in
      rw (b.first_is, rest)

  -- the rulers before, and those behind
  pub bytes-append : (i : ℕ) (xs ys : List Border) → film_bytes M n i (xs ++ ys) ≡ film_bytes M n i xs ++ film_bytes M n (i + length xs) ys
  unfolding film_bytes
  bytes-append i [] ys = let same : i + 0 ≡ i = omega arith in rw same
  bytes-append i (x ∷ xs) ys =
      let same : i + suc (length xs) ≡ suc i + length xs = omega arith in
      rw same (ap (λ (l : List ℕ). ruler_for (share M n i) x ++ l) (bytes-append (suc i) xs ys) ∙ sym (append_assoc (ruler_for (share M n i) x) (film_bytes M n (suc i) xs) (film_bytes M n (suc i + length xs) ys)))

-- ---- an accepted film
module _ (l : List ℤ) (M : ℕ) (old : List ℕ) where
  abbrev xs : List Border
  xs = borders_of l

  abbrev N : ℕ
  N = length (borders_of l)

  abbrev all : List ℕ
  all = film_bytes M (length (borders_of l)) 0 (borders_of l)

  module _ {n k : ℕ} (e : (film_write l M old).0 ≡ given (n, k)) where
    pub tests : (no_film l ≡ false) × (walked M N 0 xs (length old) ≡ given (n, k))
    unfolding film_write
    tests =
        let t = given_tests (23 when no_film l ∷ []) (film_answer M N 0 xs old) e in
        (t.0.0, sym (answer_is M N 0 xs old) ∙ t.1)

    memory : (film_write l M old).1 ≡ all ++ drop (length all) old
    unfolding film_write
    memory = ap (λ (a : Answer (ℕ × ℕ)). held_after a all old) e

    walk : walked M N 0 xs (length old) ≡ given (n, k)
    walk = tests.1

    some : (0 < N) × (N ≤ 16)
    some = let f = film_is l tests.0 in (f.0, f.1)

    module _ (before : List Border) (x : Border) (after : List Border) (w : IsBorder l before x after) where
      own : List ℕ
      own = ruler_for (share_in l M before) x

      settles : (s : ℕ × ℕ) × (settled x (share_in l M before) (length old - start_in l M before) ≡ given s)
      settles =
          let zero_plus : 0 + length before ≡ length before = omega arith in
          subst (λ (i : ℕ). (s : ℕ × ℕ) × (settled x (share M N i) (length old - start_in l M before) ≡ given s)) zero_plus
          (walk_at M N 0 before x after (length old) (ap (λ (ys : List Border). walked M N 0 ys (length old)) (sym w.among) ∙ walk))

      at_place : drop (start_in l M before) (film_write l M old).1 ≡ own ++ (film_bytes M N (suc (length before)) after ++ drop (length all) old)
      unfolding own
      at_place =
          let behind = film_bytes M N (suc (length before)) after in
          let zero_plus : 0 + length before ≡ length before = omega arith in
          let split : all ≡ film_bytes M N 0 before ++ (ruler_for (share_in l M before) x ++ behind) =
          ap (film_bytes M N 0) w.among ∙ bytes-append M N 0 before (x ∷ after) ∙ ap (λ (i : ℕ). film_bytes M N 0 before ++ film_bytes M N i (x ∷ after)) zero_plus ∙ ap (λ (t : List ℕ). film_bytes M N 0 before ++ t) (bytes_on M N (length before) x after)
          in
          ap (drop (start_in l M before)) (memory ∙ ap (λ (t : List ℕ). t ++ drop (length all) old) split ∙ append_assoc (film_bytes M N 0 before) (ruler_for (share_in l M before) x ++ behind) (drop (length all) old))
          ∙ drop_at (film_bytes M N 0 before) ((ruler_for (share_in l M before) x ++ behind) ++ drop (length all) old) (start_in l M before) refl
          ∙ append_assoc (ruler_for (share_in l M before) x) behind (drop (length all) old)

      pub piece : cut (start_in l M before) (length (ruler_for (share_in l M before) x)) (film_write l M old).1 ≡ ruler_for (share_in l M before) x
      unfolding own
      piece = ap (take (length own)) at_place ∙ take_at own (film_bytes M N (suc (length before)) after ++ drop (length all) old) (length own) refl

      taken_alone : (alone (share_in l M before) x (drop (start_in l M before) old)).0 ≡ given (length (ruler_for (share_in l M before) x), length (marks_by Inside x.a x.b (share_in l M before)))
      taken_alone =
          let t = taken x (share_in l M before) settles.1 in
          ap (λ (r : Answer (ℕ × ℕ) × List ℕ). r.0) (alone_is (share_in l M before) x (drop (start_in l M before) old))
          ∙ ap (settled x (share_in l M before)) (length-drop (start_in l M before) old)
          ∙ settles.1
          ∙ ap₂ (λ (s c : ℕ). given (s, c)) (sym t.bytes) (sym t.marks)

      very_ruler : (other : List ℕ) (s c : ℕ) → (alone (share_in l M before) x other).0 ≡ given (s, c)
          → cut (start_in l M before) s (film_write l M old).1 ≡ take s (alone (share_in l M before) x other).1
      very_ruler other s c a =
          let m = share_in l M before in
          let is = alone_is m x other in
          let set : settled x m (length other) ≡ given (s, c) = sym (ap (λ (r : Answer (ℕ × ℕ) × List ℕ). r.0) is) ∙ a in
          let t = taken x m set in
          let wrote : (alone m x other).1 ≡ ruler_for m x ++ drop (length (ruler_for m x)) other = ap (λ (r : Answer (ℕ × ℕ) × List ℕ). r.1) is ∙ ap (λ (r : Answer (ℕ × ℕ)). held_after r (ruler_for m x) other) set in
          ap (λ (n : ℕ). cut (start_in l M before) n (film_write l M old).1) (sym t.bytes)
          ∙ piece
          ∙ sym (ap (take s) wrote ∙ take_at (ruler_for m x) (drop (length (ruler_for m x)) other) s t.bytes)

    pub films : Written l M old n k
    films =
        let w = walk_bytes M N 0 xs (length old) walk in
        let few = walk_few M N 0 xs (length old) walk in
        let zero_plus : 0 + N ≡ N = omega arith in
        let sum : shares_of M N (0 + N) ≡ M = ap (shares_of M N) zero_plus ∙ (shares M N some.0).add_up in
        record {
          borders = some;
          taken_alone = taken_alone;
          very_ruler = very_ruler;
          bytes = sym w.0;
          marks = walk_marks M N 0 xs (length old) walk;
          behind = ap (drop n) memory ∙ drop_at all (drop (length all) old) n w.0 ∙ ap (λ (i : ℕ). drop i old) w.0;
          few = omega (arith, few, sum);
        }

-- ---- the first border that is refused
pub first-refused : (l : List ℤ) (M : ℕ) (old : List ℕ) → no_film l ≡ false → FirstRefused l M old
unfolding film_write
first-refused l M old film before x after w n k taken c stopped =
    let N = length (borders_of l) in
    let walk : walked M N 0 before (length old) ≡ given (n, k) = sym (answer_is M N 0 before old) ∙ taken in
    let start = (walk_bytes M N 0 before (length old) walk).0 in
    let zero_plus : length before ≡ 0 + length before = omega arith in
    let left : length (drop (start_in l M before) old) ≡ length old - n = length-drop (start_in l M before) old ∙ ap (λ (s : ℕ). length old - s) start in
    let settles : settled x (share M N (0 + length before)) (length old - n) ≡ refused c =
    ap₂ (λ (i room : ℕ). settled x (share M N i) room) (sym zero_plus) (sym left)
    ∙ sym (ap (λ (r : Answer (ℕ × ℕ) × List ℕ). r.0) (alone_is (share_in l M before) x (drop (start_in l M before) old)))
    ∙ stopped
    in
    let all : film_answer M N 0 (borders_of l) old ≡ refused c =
    answer_is M N 0 (borders_of l) old ∙ ap (λ (ys : List Border). walked M N 0 ys (length old)) w.among ∙ walk_refused M N 0 before x after (length old) walk settles
    in
    rw (film, all)

-- ---- the same border in two films
pub others : (l l' : List ℤ) (M : ℕ) (old old' : List ℕ) {n k n' k' : ℕ} → (film_write l M old).0 ≡ given (n, k) → (film_write l' M old').0 ≡ given (n', k')
    → length (borders_of l) ≡ length (borders_of l') → SameBorder l l' M old old'
others l l' M old old' e e' many = record {
  same = λ before after before' after' x w w' place.
      let share_is : share_in l' M before' ≡ share_in l M before = ap₂ (λ (n i : ℕ). share M n i) (sym many) (sym place) in
      piece l M old e before x after w ∙ sym (subst (λ (m : ℕ). cut (start_in l' M before') (length (ruler_for m x)) (film_write l' M old').1 ≡ ruler_for m x) share_is (piece l' M old' e' before' x after' w'));
}

-- ---- one border alone
nothing_more : (r : Answer (ℕ × ℕ)) → and_then r (λ s. given (together s (0, 0))) ≡ r
nothing_more (given s) =
    let e : s.0 + 0 ≡ s.0 = omega arith in
    let f : s.1 + 0 ≡ s.1 = omega arith in
    ap₂ (λ (x y : ℕ). given (x, y)) e f
nothing_more none = refl
nothing_more (refused n) = refl

pub one_border : OneBorder
unfolding film_write borders_of film_answer film_bytes
one_border a b p q t M old =
    let x = border_of a b p q t in
    let whole : share M 1 0 ≡ M = rw (mod-one M, div-one M) (omega arith) in
    rw whole
    (ap₂ (λ (r : Answer (ℕ × ℕ)) (new : List ℕ). written r new old) (nothing_more (alone M x old).0) (append-nil (ruler_for M x))
    ∙ sym (rw (alone_is M x old)))

-- ---- reading
-- the numbers at the start of bytes are the same, whatever stands behind
module _ (r more : List ℕ) (h : 26 ≤ length r) where
  byte_same : (k : ℕ) → k < 26 → get_or (r ++ more) k 0 ≡ get_or r k 0
  byte_same k s = get_or-append r more 0 k (omega arith)

  word_same : (k : ℕ) → k < 23 → word_at (r ++ more) k ≡ word_at r k
  word_same k s = rw (byte_same k (omega arith), byte_same (k + 1) (omega arith), byte_same (k + 2) (omega arith), byte_same (k + 3) (omega arith))

  pub long_same : ruler_long (r ++ more) ≡ ruler_long r
  unfolding ruler_long
  long_same =
      rw (byte_same 0 (omega arith), byte_same 25 (omega arith), word_same 1 (omega arith), word_same 5 (omega arith), word_same 17 (omega arith))

module _ (m : ℕ) (x : Border) (fm : m < 2 ^ 32) (h : has_ruler x.a x.b x.limit m ≡ true) where
  size : length (ruler_for m x) ≡ head_long (twisted Inside x.twist) + 20 * length (marks_by Inside x.a x.b m)
  size = ruler_long_lem (twisted Inside x.twist) x.a x.b x.limit m (has_plan (twisted Inside x.twist) x.a x.b x.limit m h)

  -- how long the ruler is that begins with these bytes
  long_is : (more : List ℕ) → ruler_long (ruler_for m x ++ more) ≡ length (ruler_for m x)
  unfolding ruler_long
  long_is more =
      let own = (rulers.known (twisted Inside x.twist) x.a x.b x.limit m fm h).ruler in
      long_same (ruler_for m x) more (omega (arith, size, head_long_lem x.twist)) ∙ sym (known_long (ruler_in (ruler_for m x) own))

  read_first : (more : List ℕ) → ruler_read (take (ruler_long (ruler_for m x ++ more)) (ruler_for m x ++ more)) ≡ read_border m x
  read_first more =
      ap (λ (n : ℕ). ruler_read (take n (ruler_for m x ++ more))) (long_is more)
      ∙ ap ruler_read (take_at (ruler_for m x) more (length (ruler_for m x)) refl)
      ∙ rulers.read_back (twisted Inside x.twist) x.a x.b x.limit m fm h

  read-rest : (more : List ℕ) → drop (ruler_long (ruler_for m x ++ more)) (ruler_for m x ++ more) ≡ more
  read-rest more = ap (λ (n : ℕ). drop n (ruler_for m x ++ more)) (long_is more) ∙ drop_at (ruler_for m x) more (length (ruler_for m x)) refl

each_read : (M n : ℕ) → ((i : ℕ) → share M n i < 2 ^ 32) → (i : ℕ) (xs : List Border) (room : ℕ) (more : List ℕ) {r : ℕ × ℕ} → walked M n i xs room ≡ given r
    → read_each (length xs) (film_bytes M n i xs ++ more) ≡ read_borders M n i xs
unfolding read_each film_bytes
each_read M n fm i [] room more e = refl
each_read M n fm i (x ∷ xs) room more e =
    let (b, sum) = begun M n i x xs room e in
    let t = taken x (share M n i) b.first_is in
    let rest = film_bytes M n (suc i) xs ++ more in
    rw (append_assoc (ruler_for (share M n i) x) (film_bytes M n (suc i) xs) more)
    (ap₂ (λ (r : Answer Ruler) (l : List ℕ). r ∷ read_each (length xs) l) (read_first (share M n i) x (fm i) t.has rest) (read-rest (share M n i) x (fm i) t.has rest)
    ∙ ap (λ (l : List (Answer Ruler)). read_border (share M n i) x ∷ l) (each_read M n fm (suc i) xs (room - b.first.0) more b.others-are))

pub read_back : (l : List ℤ) (M : ℕ) (old : List ℕ) {n k : ℕ} → M < 2 ^ 32 → (film_write l M old).0 ≡ given (n, k) → ReadBack l M old
read_back l M old fm e =
    let N = length (borders_of l) in
    ap (read_each N) (memory l M old e)
    ∙ each_read M N (λ i. omega (arith, share-most M N (some l M old e).0 i)) 0 (borders_of l) (length old) (drop (length (film_bytes M N 0 (borders_of l))) old) (walk l M old e)
