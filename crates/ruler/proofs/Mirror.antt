-- The bytes of a ruler and of its mirror, from the mirror of the marks and that of places. Assumes nothing.
use Rattle.std.proofs.Common.{◌≡◌, ℕ, ◌+◌, ◌%◌, ◌<◌, ◌≤◌, Bool, true, false, ◌&&◌, eqb, ltb, ◌⊎◌, List, [], ◌∷◌, ◌++◌, map, reverse, length, get_or, ℤ, pos, neg_ℤ, nat_abs, ◌<ℤ◌, sym, refl, ap, ◌∙◌, subst, ap₂, inl, inr, arith, length-append, ltb-false, le-ltb, ne_eqb, eqb-true}
use mathlib.Core.List.{reverse-cons, map-append}
use native.Mathlib.Decide.{dec_le}
use lib.IntN.{neg_ℤ-neg_ℤ}
use borrow.Author.Tests.{eqb-false}
use Rattle.ranged1d.specs.Answer.{Answer, given, none, refused, Reason, ◌when◌, lowest, and_then, BothLong}
use Rattle.ranged1d.specs.Admitted.{ends_admitted}
use Rattle.ranged1d.specs.declared.Limit.{Limit}
use Rattle.ranged1d.proofs.Lowest.{lowest_then, next-same, last-same}
use Rattle.ranged1d.proofs.Whole.{admitted-neg}
use Rattle.numeric.specs.declared.Choice.{Choice}
use Rattle.ruler.specs.declared.Form.{Form}
use Rattle.ruler.specs.declared.Twist.{Twist}
use Rattle.ruler.specs.declared.Twist.TheVariants.{Plain, S, Z}
use Rattle.numeric.specs.declared.Choice.TheVariants.{Cut, Inside}
use Rattle.numeric.specs.Marks.{low, high, step_of, marks_by}
use Rattle.numeric.specs.Mirror.{mirrored, nearest_zero, Divides}
use Rattle.numeric.specs.Mirror as marks-are
use Rattle.numeric.proofs.Mirror as marks
use Rattle.real.specs.Place.{whole_place}
use Rattle.real.specs.Mirror as film
use Rattle.real.proofs.Mirror as places
use Rattle.real.proofs.Readings.{limit-neg}
use Rattle.ruler.specs.Bytes.{twist_bytes, Record, axis, mark, laid, joined}
use Rattle.ruler.specs.Place.{place_in, place_of}
use Rattle.ruler.specs.Rule.{no_ruler, write_reasons_by, mark_at, records_by, bytes_by, write_by, has_ruler, twisted, twisted_reasons, twisted_write}
use Rattle.ruler.specs.Mirror.{Matches, other_twist, turned_form, negated, turned, verdict, MirrorOf, OneMore, Mirrored, other_number, TwistMirrored}
use Rattle.ruler.proofs.Moving.{twisted_s, twisted_z}
use Rattle.ruler.proofs.Records.{axis_long, mark_long, joined-append}
use Rattle.ruler.proofs.Places.{served, every-placed}
use Rattle.ruler.proofs.Drawn.{has_plan, ruler_long_lem}

-- ---- the place of the mirror is the negated place
place-turned : (r : Answer ℤ) → place_in (film.negated r) ≡ neg_ℤ (place_in r)
place-turned (given x) = refl
place-turned none = refl
place-turned (refused n) = refl

place_odd : (a b : ℤ) (limit : Limit) (v : ℤ) → place_of (neg_ℤ a) (neg_ℤ b) (film.mirrored limit) (neg_ℤ v) ≡ neg_ℤ (place_of a b limit v)
unfolding place_of
place_odd a b limit v = ap place_in ((places.mirror limit).whole_places a b v) ∙ place-turned (whole_place a b v limit)

-- ---- the twist turned twice is the twist; it is as long
twist_twice : (t : Twist) → other_twist (other_twist t) ≡ t
twist_twice Plain = refl
twist_twice S = refl
twist_twice Z = refl

form_twice : (f : Form) → turned_form (turned_form f) ≡ f
form_twice f = ap {B = Form} (λ (t : Twist). record { choice = f.choice; twist = t }) (twist_twice f.twist)

as_long : (t : Twist) → length (twist_bytes (other_twist t)) ≡ length (twist_bytes t)
as_long Plain = refl
as_long S = refl
as_long Z = refl

-- ---- the records of mirrored marks are the turned records
module _ (a b : ℤ) (limit : Limit) where
  abbrev here : ℤ → Record
  here = mark_at a b limit

  abbrev there : ℤ → Record
  there = mark_at (neg_ℤ a) (neg_ℤ b) (film.mirrored limit)

  marks-turned : (l : List ℤ) → map there (mirrored l) ≡ reverse (map negated (map here l))
  marks-turned [] = refl
  marks-turned (v ∷ l) =
      ap (map there) (reverse-cons (neg_ℤ v) (map neg_ℤ l))
      ∙ map-append there (mirrored l) (neg_ℤ v ∷ [])
      ∙ ap₂ (λ (x : List Record) (y : Record). x ++ (y ∷ [])) (marks-turned l) (ap (mark (neg_ℤ v)) (place_odd a b limit v))
      ∙ sym (reverse-cons (negated (here v)) (map negated (map here l)))

  -- from what is known of the marks to the records: all match, or all and one more
  module _ (f : Form) (m : ℕ) where
    step_same : pos (step_of (neg_ℤ a) (neg_ℤ b) m) ≡ pos (step_of a b m)
    step_same = ap pos (marks.mirror a b m).same_step

    abbrev with_marks : ℤ → List Record → List Record
    with_marks s l = axis (turned_form f) (neg_ℤ a) (neg_ℤ b) (film.mirrored limit) m s ∷ l

    records_turned : marks_by f.choice (neg_ℤ a) (neg_ℤ b) m ≡ mirrored (marks_by f.choice a b m) → records_by (turned_form f) (neg_ℤ a) (neg_ℤ b) (film.mirrored limit) m ≡ turned (records_by f a b limit m)
    records_turned e = ap₂ with_marks step_same (ap (map there) e ∙ marks-turned (marks_by f.choice a b m))

    records_more : (z : ℤ) → marks_by f.choice (neg_ℤ a) (neg_ℤ b) m ≡ mirrored (marks_by f.choice a b m) ++ (z ∷ []) → records_by (turned_form f) (neg_ℤ a) (neg_ℤ b) (film.mirrored limit) m ≡ turned (records_by f a b limit m) ++ (there z ∷ [])
    records_more z e =
        ap₂ with_marks step_same
        (ap (map there) e
        ∙ map-append there (mirrored (marks_by f.choice a b m)) (z ∷ [])
        ∙ ap (λ (l : List Record). l ++ (there z ∷ [])) (marks-turned (marks_by f.choice a b m)))

-- the same the other way round: the mirror of the mirror is the axis itself
records_back : (f : Form) (a b : ℤ) (limit : Limit) (m : ℕ) (z : ℤ) → marks_by f.choice a b m ≡ mirrored (marks_by f.choice (neg_ℤ a) (neg_ℤ b) m) ++ (z ∷ []) → records_by f a b limit m ≡ turned (records_by (turned_form f) (neg_ℤ a) (neg_ℤ b) (film.mirrored limit) m) ++ (mark_at a b limit z ∷ [])
records_back f a b limit m z e =
    let back : marks_by f.choice (neg_ℤ (neg_ℤ a)) (neg_ℤ (neg_ℤ b)) m ≡ mirrored (marks_by f.choice (neg_ℤ a) (neg_ℤ b) m) ++ (z ∷ []) = rw (neg_ℤ-neg_ℤ a, neg_ℤ-neg_ℤ b) e in
    let more = subst (λ (g : Form). records_by g (neg_ℤ (neg_ℤ a)) (neg_ℤ (neg_ℤ b)) (film.mirrored (film.mirrored limit)) m ≡ turned (records_by (turned_form f) (neg_ℤ a) (neg_ℤ b) (film.mirrored limit) m) ++ (mark_at (neg_ℤ (neg_ℤ a)) (neg_ℤ (neg_ℤ b)) (film.mirrored (film.mirrored limit)) z ∷ [])) (form_twice f) (records_more (neg_ℤ a) (neg_ℤ b) (film.mirrored limit) (turned_form f) m z back) in
    rw (neg_ℤ-neg_ℤ a, neg_ℤ-neg_ℤ b, neg_ℤ-neg_ℤ limit.0, neg_ℤ-neg_ℤ limit.1) (rw (neg_ℤ-neg_ℤ a, neg_ℤ-neg_ℤ b, neg_ℤ-neg_ℤ limit.0, neg_ℤ-neg_ℤ limit.1) at more)

-- turned records are as long
negated_long : (r : Record) → length (laid (negated r)) ≡ length (laid r)
negated_long (axis f a b limit m s) = axis_long (turned_form f) (neg_ℤ a) (neg_ℤ b) (film.mirrored limit) m s ∙ ap (λ (n : ℕ). 25 + n) (as_long f.twist) ∙ sym (axis_long f a b limit m s)
negated_long (mark v x) = mark_long (neg_ℤ v) (neg_ℤ x) ∙ sym (mark_long v x)

reversed_long : (rs : List Record) → length (joined (reverse (map negated rs))) ≡ length (joined rs)
reversed_long [] = refl
reversed_long (r ∷ rs) =
    ap (λ (l : List Record). length (joined l)) (reverse-cons (negated r) (map negated rs))
    ∙ ap length (joined-append (reverse (map negated rs)) (negated r ∷ []))
    ∙ omega (arith, length-append (joined (reverse (map negated rs))) (joined (negated r ∷ [])), length-append (laid (negated r)) [], length-append (laid r) (joined rs), negated_long r, reversed_long rs)

turned_long : (rs : List Record) → length (joined (turned rs)) ≡ length (joined rs)
turned_long [] = refl
turned_long (r ∷ rs) =
    omega (arith, length-append (laid (negated r)) (joined (reverse (map negated rs))), length-append (laid r) (joined rs), negated_long r, reversed_long rs)

-- one record more is 20 bytes more
pub one_record_longer : {a b : ℤ} {limit : Limit} {m : ℕ} {z : ℤ} {more fewer : List ℕ} → OneMore a b limit m z more fewer → length more ≡ length fewer + 20
one_record_longer o =
    let last : List Record = mark o.extra o.place ∷ [] in
    omega (arith, ap length o.others_match, ap length o.fewer_are, ap length (joined-append (turned o.others) last), length-append (joined (turned o.others)) (joined last), turned_long o.others, length-append (laid (mark o.extra o.place)) [], mark_long o.extra o.place)

-- the last entry of a list
get_d_last : (l : List ℤ) (z : ℤ) → get_or (l ++ (z ∷ [])) (length l) (pos 0) ≡ z
get_d_last [] z = refl
get_d_last (x ∷ l) z = get_d_last l z

-- ---- refusals
-- a verdict does not see the numbers of an answer: it is the same of what is made of them
pub verdict_then : {A B : Type 0} (r : Answer A) (f : A → B) → verdict r ≡ verdict (and_then r (λ x. given (f x)))
verdict_then (given x) f = refl
verdict_then none f = refl
verdict_then (refused n) f = refl

verdict_of : {A B : Type 0} (x : A) (y : B) (rs : List Reason) → verdict (lowest rs (given x)) ≡ verdict (lowest rs (given y))
verdict_of x y rs = verdict_then (lowest rs (given x)) (λ z. y) ∙ ap verdict (lowest_then rs (given x) (λ z. given y))

module _ (f : Form) (a b : ℤ) (limit : Limit) (m : ℕ) where
  abbrev −limit : Limit
  −limit = film.mirrored limit

  ends_same : ends_admitted (neg_ℤ a) (neg_ℤ b) ≡ ends_admitted a b
  ends_same = ap₂ ◌&&◌ (admitted-neg a) (admitted-neg b)

  ruler_same : has_ruler (neg_ℤ a) (neg_ℤ b) −limit m ≡ has_ruler a b limit m
  unfolding has_ruler
  ruler_same = rw (ends_same, limit-neg limit, (marks.mirror a b m).same_refusal)

  abbrev numbers : ℕ × ℕ
  numbers = (length (bytes_by f a b limit m), length (marks_by f.choice a b m))

  verdict-same : (old old' : List ℕ) → BothLong (no_ruler a b limit m) (length (bytes_by f a b limit m)) old (length (bytes_by (turned_form f) (neg_ℤ a) (neg_ℤ b) −limit m)) old' → verdict (write_by (turned_form f) (neg_ℤ a) (neg_ℤ b) −limit m old').0 ≡ verdict (write_by f a b limit m old).0
  unfolding write_by
  verdict-same old old' e =
      verdict_of _ numbers (write_reasons_by (turned_form f) (neg_ℤ a) (neg_ℤ b) −limit m old')
      ∙ rw (ends_same, limit-neg limit, (marks.mirror a b m).same_refusal)
      (ap verdict (last-same (no_ruler a b limit m) 13 (ltb (length old') (length (bytes_by (turned_form f) (neg_ℤ a) (neg_ℤ b) −limit m))) (ltb (length old) (length (bytes_by f a b limit m))) (given numbers) (λ h. sym (e h))))

  -- ---- where there is a ruler
  module _ (h : has_ruler a b limit m ≡ true) where
    -- of either choice: the marks match, or this half or the other has one more
    matches_marks : (k : Choice) → Matches k a b m → marks_by k (neg_ℤ a) (neg_ℤ b) m ≡ mirrored (marks_by k a b m)
    matches_marks Cut e = ((marks.mirror a b m).match_exactly (served a b limit m h)).1 e
    matches_marks Inside e = marks.inside-mirrored a b m

    below_marks : (k : Choice) → (Matches k a b m → ⊥) → high a b <ℤ pos 0 → marks-are.OneMore (step_of a b m) (high a b) (marks_by k a b m) (marks_by k (neg_ℤ a) (neg_ℤ b) m)
    below_marks Cut f l = (marks.mirror a b m).one_more_below (served a b limit m h) f l
    below_marks Inside f l = absurd (f tt)

    above-marks : (k : Choice) → (Matches k a b m → ⊥) → pos 0 <ℤ low a b → marks-are.OneMore (step_of a b m) (neg_ℤ (low a b)) (marks_by k (neg_ℤ a) (neg_ℤ b) m) (marks_by k a b m)
    above-marks Cut f l = (marks.mirror a b m).one_more_above (served a b limit m h) f l
    above-marks Inside f l = absurd (f tt)

    -- the last mark of a list has its place
    last-placed : (l : List ℤ) (z : ℤ) → marks_by f.choice a b m ≡ l ++ (z ∷ []) → whole_place a b z limit ≡ given (place_of a b limit z)
    last-placed l z e =
        let at : get_or (marks_by f.choice a b m) (length l) (pos 0) ≡ z = ap (λ (x : List ℤ). get_or x (length l) (pos 0)) e ∙ get_d_last l z in
        let below : length l < length (marks_by f.choice a b m) = omega (arith, ap length e, length-append l (z ∷ [])) in
        rw at at (every-placed a b limit m h f.choice (length l) below)

    matching : Matches f.choice a b m → MirrorOf (bytes_by (turned_form f) (neg_ℤ a) (neg_ℤ b) −limit m) (bytes_by f a b limit m)
    unfolding bytes_by
    matching e = (records_by f a b limit m, refl, ap joined (records_turned a b limit f m (matches_marks f.choice e)))

    -- bytes that match are as many, and with one mark more they are not
    lengths : MirrorOf (bytes_by (turned_form f) (neg_ℤ a) (neg_ℤ b) −limit m) (bytes_by f a b limit m) → length (marks_by f.choice (neg_ℤ a) (neg_ℤ b) m) ≡ length (marks_by f.choice a b m)
    lengths (rs, e, g) =
        omega (arith, ap length e, ap length g, turned_long rs, as_long f.twist, ruler_long_lem f a b limit m (has_plan f a b limit m h), ruler_long_lem (turned_form f) (neg_ℤ a) (neg_ℤ b) −limit m (has_plan (turned_form f) (neg_ℤ a) (neg_ℤ b) −limit m (ruler_same ∙ h)))

    as_many : (k : Choice) → length (marks_by k (neg_ℤ a) (neg_ℤ b) m) ≡ length (marks_by k a b m) → Matches k a b m
    as_many Inside e = tt
    as_many Cut e = go (eqb (nat_abs (nearest_zero a b) % step_of a b m) 0) refl
      where
        no_half : (Divides (step_of a b m) (nearest_zero a b) → ⊥) → (high a b <ℤ pos 0) ⊎ (pos 0 <ℤ low a b) → ⊥
        no_half f (inl l) = let n = marks.one_longer (below_marks Cut f l) in omega (arith, e)
        no_half f (inr l) = let n = marks.one_longer (above-marks Cut f l) in omega (arith, e)

        go : (t : Bool) → eqb (nat_abs (nearest_zero a b) % step_of a b m) 0 ≡ t → Divides (step_of a b m) (nearest_zero a b)
        go true q = eqb-true _ _ q
        go false q = absurd (no_half (eqb-false _ _ q) ((marks.mirror a b m).one_half (eqb-false _ _ q)))

  either_half : (k : Choice) → (Matches k a b m → ⊥) → (high a b <ℤ pos 0) ⊎ (pos 0 <ℤ low a b)
  either_half Cut f = (marks.mirror a b m).one_half f
  either_half Inside f = absurd (f tt)

-- one mark more: on this axis, or on its mirror
module _ (f : Form) (a b : ℤ) (limit : Limit) (m : ℕ) (h : has_ruler a b limit m ≡ true) (no : Matches f.choice a b m → ⊥) where
  more_below : high a b <ℤ pos 0 → OneMore a b limit m (high a b) (bytes_by f a b limit m) (bytes_by (turned_form f) (neg_ℤ a) (neg_ℤ b) (film.mirrored limit) m)
  unfolding bytes_by
  more_below l =
      let o = below_marks f a b limit m h f.choice no l in
      record {
        extra = o.extra;
        is_next = o.is_next;
        place = place_of a b limit o.extra;
        placed = last-placed f a b limit m h (mirrored (marks_by f.choice (neg_ℤ a) (neg_ℤ b) m)) o.extra o.others_match;
        others = records_by (turned_form f) (neg_ℤ a) (neg_ℤ b) (film.mirrored limit) m;
        fewer_are = refl;
        others_match = ap joined (records_back f a b limit m o.extra o.others_match);
      }

  more-above : pos 0 <ℤ low a b → OneMore (neg_ℤ a) (neg_ℤ b) (film.mirrored limit) m (neg_ℤ (low a b)) (bytes_by (turned_form f) (neg_ℤ a) (neg_ℤ b) (film.mirrored limit) m) (bytes_by f a b limit m)
  unfolding bytes_by
  more-above l =
      let o = above-marks f a b limit m h f.choice no l in
      record {
        extra = o.extra;
        is_next = rw (marks.mirror a b m).same_step o.is_next;
        place = place_of (neg_ℤ a) (neg_ℤ b) (film.mirrored limit) o.extra;
        placed = last-placed (turned_form f) (neg_ℤ a) (neg_ℤ b) (film.mirrored limit) m (ruler_same f a b limit m ∙ h) (mirrored (marks_by f.choice a b m)) o.extra o.others_match;
        others = records_by f a b limit m;
        fewer_are = refl;
        others_match = ap joined (records_more a b limit f m o.extra o.others_match);
      }

pub mirror : (f : Form) (a b : ℤ) (limit : Limit) (m : ℕ) → Mirrored f a b limit m
mirror f a b limit m =
    record {
      same_verdict = verdict-same f a b limit m;
      same_ruler = ruler_same f a b limit m;
      match_exactly = λ h. (λ e. as_many f a b limit m h f.choice (lengths f a b limit m h e), matching f a b limit m h);
      one_half = either_half f a b limit m f.choice;
      one_more_below = more_below f a b limit m;
      one_more_above = more-above f a b limit m;
    }

-- ---- 02 (c): the calls that are handed a twist
-- the other number is a twist exactly where the number is
other-known : (t : ℕ) → ltb 1 (other_number t) ≡ ltb 1 t
other-known t = go (dec_le t 0) (dec_le t 1)
  where
    go : Dec (t ≤ 0) → Dec (t ≤ 1) → ltb 1 (other_number t) ≡ ltb 1 t
    go (yes u) v = let e : 0 ≡ t = omega arith in subst (λ (n : ℕ). ltb 1 (other_number n) ≡ ltb 1 n) e refl
    go (no u) (yes v) = let e : 1 ≡ t = omega arith in subst (λ (n : ℕ). ltb 1 (other_number n) ≡ ltb 1 n) e refl
    go (no u) (no v) = rw (ne_eqb t 0 (λ e. u (omega arith)), ne_eqb t 1 (λ e. v (omega arith))) refl

pub other_small : (t : ℕ) → t ≤ 1 → other_number t ≤ 1
other_small t h = ltb-false 1 (other_number t) (other-known t ∙ le-ltb 1 t h)

module _ (c : Choice) (t : ℕ) (a b : ℤ) (limit : Limit) (m : ℕ) where
  abbrev back : Limit
  back = film.mirrored limit

  abbrev told : ℕ × ℕ
  told = (length (bytes_by (twisted c t) a b limit m), length (marks_by c a b m))

  twisted-same : (old old' : List ℕ) → BothLong (no_ruler a b limit m) (length (bytes_by (twisted c t) a b limit m)) old (length (bytes_by (twisted c (other_number t)) (neg_ℤ a) (neg_ℤ b) back m)) old'
      → verdict (twisted_write c (other_number t) (neg_ℤ a) (neg_ℤ b) back m old').0 ≡ verdict (twisted_write c t a b limit m old).0
  unfolding twisted_write
  twisted-same old old' e =
      verdict_of _ told (twisted_reasons c (other_number t) (neg_ℤ a) (neg_ℤ b) back m old')
      ∙ rw (ends_same (twisted c t) a b limit m, limit-neg limit, (marks.mirror a b m).same_refusal, other-known t)
      (ap verdict (next-same (no_ruler a b limit m) 13 (ltb (length old') (length (bytes_by (twisted c (other_number t)) (neg_ℤ a) (neg_ℤ b) back m))) (ltb (length old) (length (bytes_by (twisted c t) a b limit m))) (15 when ltb 1 t ∷ []) (given told) (λ h. sym (e h))))

  known_twist : t ≤ 1 → (old : List ℕ) → twisted_write c t a b limit m old ≡ write_by (twisted c t) a b limit m old
  known_twist h old = go (dec_le t 0)
    where
      go : Dec (t ≤ 0) → twisted_write c t a b limit m old ≡ write_by (twisted c t) a b limit m old
      go (yes u) = let e : 0 ≡ t = omega arith in subst (λ (n : ℕ). twisted_write c n a b limit m old ≡ write_by (twisted c n) a b limit m old) e (twisted_s c a b limit m old refl)
      go (no u) = let e : 1 ≡ t = omega arith in subst (λ (n : ℕ). twisted_write c n a b limit m old ≡ write_by (twisted c n) a b limit m old) e (twisted_z c a b limit m old refl)

  other_twist_lem : t ≤ 1 → twisted c (other_number t) ≡ turned_form (twisted c t)
  other_twist_lem h = go (dec_le t 0)
    where
      go : Dec (t ≤ 0) → twisted c (other_number t) ≡ turned_form (twisted c t)
      go (yes u) = let e : 0 ≡ t = omega arith in subst (λ (n : ℕ). twisted c (other_number n) ≡ turned_form (twisted c n)) e refl
      go (no u) = let e : 1 ≡ t = omega arith in subst (λ (n : ℕ). twisted c (other_number n) ≡ turned_form (twisted c n)) e refl

pub twist_mirror : (c : Choice) (t : ℕ) (a b : ℤ) (limit : Limit) (m : ℕ) → TwistMirrored c t a b limit m
twist_mirror c t a b limit m = record { known = known_twist c t a b limit m; other = other_twist_lem c t a b limit m; same_verdict = twisted-same c t a b limit m }
