-- Records one behind another: how long they are, one more of them, one taken out. Assumes nothing.
use Rattle.std.proofs.Common.{get_or, take-add, ap₂, drop-drop, ◌≡◌, ℕ, zero, suc, ◌+◌, ◌-◌, ◌*◌, ◌<◌, ◌≤◌, List, [], ◌∷◌, ◌++◌, map, length, take, drop, ℤ, sym, refl, ap, ◌∙◌, append_assoc, append-nil, add-one, arith, length-append, length-drop, take_all, drop_at}
use mathlib.Core.List.{map-append}
use native.Mathlib.Decide.{dec_lt}
use borrow.Rule.Slice.PartMut.{put_mid}
use Rattle.ranged1d.proofs.Pieces.{put_more}
use lib.Seq.{drop-append-le, take-append-le}
use Rattle.ranged1d.specs.declared.Limit.{Limit}
use Rattle.ruler.specs.declared.Form.{Form}
use Rattle.numeric.specs.declared.KeyPoints.{KeyPoints}
use Rattle.numeric.specs.Marks.{list_of}
use Rattle.numeric.specs.Calls.{element}
use Rattle.numeric.proofs.Lists.{length_of}
use Rattle.decimal.specs.Print.{decimal}
use Rattle.decimal.proofs.Digits.{decimal-most, filled_long}
use Rattle.ruler.specs.declared.Drawing.{Drawing}
use Rattle.ruler.specs.Bytes.{head_long, Record, axis, mark, axis_body, mark_body, laid, joined}
use Rattle.ruler.specs.Place.{place_of}
use Rattle.ruler.specs.Rule.{mark_at}
use Rattle.std.specs.Simd.{first_chunks}
use Rattle.ruler.specs.Steps.{form_of, first_of}

part_left : (xs ys : List ℕ) (a n : ℕ) → a + n ≤ length xs → take n (drop a (xs ++ ys)) ≡ take n (drop a xs)
part_left xs ys a n h =
    let u : a ≤ length xs = omega arith in
    rw (drop-append-le a xs ys u)
    (take-append-le n (drop a xs) ys (omega (arith, length-drop a xs)))

pub joined-append : (xs ys : List Record) → joined (xs ++ ys) ≡ joined xs ++ joined ys
joined-append [] ys = refl
joined-append (x ∷ xs) ys = ap (λ (l : List ℕ). laid x ++ l) (joined-append xs ys) ∙ sym (append_assoc (laid x) (joined xs) (joined ys))

pub mark_body_long : (v x : ℤ) → length (mark_body v x) ≡ 19
unfolding mark_body
mark_body_long v x = omega (arith, filled_long 32 11 (decimal v) (decimal-most v))

pub mark_long : (v x : ℤ) → length (laid (mark v x)) ≡ 20
unfolding laid
mark_long v x = omega (arith, mark_body_long v x)

pub axis_long : (f : Form) (a b : ℤ) (limit : Limit) (m : ℕ) (s : ℤ) → length (laid (axis f a b limit m s)) ≡ head_long f
unfolding laid axis_body
axis_long f a b limit m s = omega arith

-- how long the records of a list of marks are; one mark more is one more
pub records_long : (a b : ℤ) (limit : Limit) (l : List ℤ) → length (joined (map (mark_at a b limit) l)) ≡ 20 * length l
records_long a b limit [] = refl
records_long a b limit (v ∷ l) =
    length-append (laid (mark_at a b limit v)) (joined (map (mark_at a b limit) l))
    ∙ omega (arith, mark_long v (place_of a b limit v), records_long a b limit l)

module _ (a b : ℤ) (limit : Limit) (f : ℕ → ℤ) where
  -- the first n, and each
  abbrev pub run : ℕ → List ℕ
  run n = joined (map (mark_at a b limit) (list_of f n))

  abbrev pub one : ℕ → List ℕ
  one k = laid (mark_at a b limit (f k))

  one_long : (k : ℕ) → length (one k) ≡ 20
  one_long k = mark_long (f k) _

  pub run_suc : (n : ℕ) → run (suc n) ≡ run n ++ one n
  run_suc n =
      ap joined (map-append (mark_at a b limit) (list_of f n) (f n ∷ []))
      ∙ joined-append (map (mark_at a b limit) (list_of f n)) (mark_at a b limit (f n) ∷ [])
      ∙ ap (λ (l : List ℕ). run n ++ l) (append-nil (one n))

  pub run_more : (n : ℕ) → run (n + 1) ≡ run n ++ one n
  run_more n = rw add-one (run_suc n)

  pub run_long : (n : ℕ) → length (run n) ≡ 20 * n
  run_long n = records_long a b limit (list_of f n) ∙ ap (λ (k : ℕ). 20 * k) (length_of f n)

  -- record k of them
  pub run_at : (n k : ℕ) → k < n → take 20 (drop (20 * k) (run n)) ≡ one k
  run_at zero k h = absurd (omega arith)
  run_at (suc n) k h = go (dec_lt k n) (run_at n k)
    where
      go : Dec (k < n) → (k < n → take 20 (drop (20 * k) (run n)) ≡ one k) → take 20 (drop (20 * k) (run (suc n))) ≡ one k
      go (yes l) rec = rw (run_suc n) (part_left (run n) (one n) (20 * k) 20 (omega (arith, run_long n)) ∙ rec l)
      go (no g) rec =
          let e : n ≡ k = omega arith in
          rw (run_suc n, e, drop_at (run k) (one k) (20 * k) (run_long k)) (take_all 20 (one k) (omega (arith, one_long k)))

  -- one more of them, put behind the first k
  pub run_put : (k : ℕ) (old out y : List ℕ) → out ≡ run k ++ drop (20 * k) old → y ≡ one k ++ drop 20 (take (length out - 20 * k) (drop (20 * k) out)) → put_mid (20 * k) (length out - 20 * k) out y ≡ run (k + 1) ++ drop (20 * (k + 1)) old
  run_put k old out y e h =
      let more : 20 * k + 20 ≡ 20 * (k + 1) = omega arith in
      put_more (20 * k) 20 (run k) (one k) old out y (run_long k) e h
      ∙ ap (λ (n : ℕ). (run k ++ one k) ++ drop n old) more
      ∙ ap (λ (l : List ℕ). l ++ drop (20 * (k + 1)) old) (sym (run_more k))

  -- whether a list is the first n of them, by its parts of 20 bytes
  pub runs_equal : (n : ℕ) (l : List ℕ) → length l ≡ 20 * n → ((k : ℕ) → k < n → take 20 (drop (20 * k) l) ≡ one k) → l ≡ run n
  runs_equal n l h each = sym (take_all (20 * n) l (omega (arith, h))) ∙ go n (omega arith)
    where
      go : (k : ℕ) → k ≤ n → take (20 * k) l ≡ run k
      go zero u = refl
      go (suc k) u =
          let e : 20 * suc k ≡ 20 * k + 20 = omega arith in
          rw e (take-add (20 * k) 20 l) ∙ ap₂ (λ (x y : List ℕ). x ++ y) (go k (omega arith)) (each k (omega arith)) ∙ sym (run_suc k)

-- part k of a list that is cut into parts of 20 bytes
pub part_is : (n k : ℕ) (l : List ℕ) → k < n → get_or (first_chunks 20 n l) k [] ≡ take 20 (drop (20 * k) l)
part_is zero k l h = absurd (omega arith)
part_is (suc n) zero l h = refl
part_is (suc n) (suc k) l h =
    let e : 20 + 20 * k ≡ 20 * suc k = omega arith in
    part_is n k (drop 20 l) (omega arith) ∙ ap (take 20) (drop-drop (20 * k) 20 l ∙ ap (λ (i : ℕ). drop i l) e)

-- the first records of a ruler, at the start of a list
module _ (d : Drawing) (p : KeyPoints) where
  abbrev pub head : List ℕ
  head = laid (axis (form_of d) d.draft.a d.draft.b d.draft.limit d.draft.m p.step)

  abbrev pub marks_of : ℕ → List ℕ
  marks_of n = run d.draft.a d.draft.b d.draft.limit (element p.first p.step) n

  pub first_long : (n : ℕ) → length (head ++ marks_of n) ≡ head_long (form_of d) + 20 * n
  first_long n =
      length-append head (marks_of n)
      ∙ omega (arith, axis_long (form_of d) d.draft.a d.draft.b d.draft.limit d.draft.m p.step, run_long d.draft.a d.draft.b d.draft.limit (element p.first p.step) n)

  pub first_more : (n : ℕ) → joined (first_of d p (n + 1)) ≡ head ++ marks_of n
  unfolding first_of
  first_more n = rw add-one

  pub first-none : {n : ℕ} (old : List ℕ) → n ≡ 0 → old ≡ joined (first_of d p n) ++ drop (length (joined (first_of d p n))) old
  unfolding first_of
  first-none old e = rw e

  pub first_put : (k : ℕ) {n : ℕ} {x : List ℕ} (old : List ℕ) → n ≡ k + 1 → x ≡ (head ++ marks_of k) ++ drop (head_long (form_of d) + 20 * k) old → x ≡ joined (first_of d p n) ++ drop (length (joined (first_of d p n))) old
  first_put k old e f = f ∙ rw (e, first_more k, first_long k)
