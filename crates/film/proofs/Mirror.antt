-- The mirror of a film: `FilmMirrored` of specs/Mirror. Assumes nothing.
use mathlib.Core.Path.{◌≡◌, refl, sym, ap, ap₂, ◌∙◌, subst}
use mathlib.Core.Bool.{true}
use mathlib.Core.List.{List, [], ◌∷◌, ◌++◌, map, map-append}
use Prim.Native.Nat.{ℕ, zero, suc, ◌+◌, ◌-◌, ◌≤◌}
use native.Mathlib.Omega.{arith}
use borrow.Author.Tests.{ne_eqb}
use lib.Dec.{ltb}
use lib.IntN.{ℤ, pos, negsuc, neg_ℤ}
use lib.ListN.{length, replicate, length-append, length-map, length-reverse, length-replicate}
use Rattle.ranged1d.specs.Answer.{Answer, given, none, refused, and_then}
use Rattle.numeric.specs.declared.Choice.TheVariants.{Inside}
use Rattle.numeric.specs.Marks.{marks_by}
use Rattle.numeric.proofs.Mirror.{inside-mirrored}
use Rattle.ruler.specs.Mirror.{verdict, MirrorOf, other_number}
use Rattle.ruler.specs.Rule.{has_ruler, twisted}
use Rattle.ruler.proofs.Drawn.{has_plan, ruler_long_lem}
use Rattle.ruler.proofs.Mirror as rulers
use Rattle.film.specs.declared.Border.{Border}
use Rattle.film.specs.Film.{twist_handed, borders_of, share, alone, ruler_for, film_answer, film_bytes, film_write}
use Rattle.film.specs.Films.{IsBorder, share_in, start_in, cut}
use Rattle.film.specs.Steps.{settled, walked}
use Rattle.film.specs.Mirror.{turned_border, other_twist_of, mirrored_numbers, FilmMirrored}
use Rattle.film.proofs.Settled.{alone_is, head_long_lem, taken}
use Rattle.film.proofs.Walk.{counted, answer_is, begun}
use Rattle.film.proofs.Theorems.{walk_at, piece, tests}

-- ---- the numbers
twist_same : (t : ℤ) → twist_handed (other_twist_of t) ≡ other_number (twist_handed t)
twist_same (pos zero) = refl
twist_same (pos (suc zero)) = refl
twist_same (pos (suc (suc n))) = rw (ne_eqb (suc (suc n)) 0 (λ e. omega (arith, e)), ne_eqb (suc (suc n)) 1 (λ e. omega (arith, e)))
twist_same (negsuc n) = refl

borders-turned : (l : List ℤ) → borders_of (mirrored_numbers l) ≡ map turned_border (borders_of l)
unfolding borders_of mirrored_numbers
borders-turned [] = refl
borders-turned (a ∷ []) = refl
borders-turned (a ∷ (b ∷ [])) = refl
borders-turned (a ∷ (b ∷ (p ∷ []))) = refl
borders-turned (a ∷ (b ∷ (p ∷ (q ∷ [])))) = refl
borders-turned (a ∷ (b ∷ (p ∷ (q ∷ (t ∷ l))))) =
    ap₂ (λ (k : ℕ) (xs : List Border). record { a = neg_ℤ a; b = neg_ℤ b; limit = record { 0 = neg_ℤ p; 1 = neg_ℤ q }; twist = k } ∷ xs) (twist_same t) (borders-turned l)

numbers_long : (l : List ℤ) → length (mirrored_numbers l) ≡ length l
unfolding mirrored_numbers
numbers_long [] = refl
numbers_long (a ∷ []) = refl
numbers_long (a ∷ (b ∷ [])) = refl
numbers_long (a ∷ (b ∷ (p ∷ []))) = refl
numbers_long (a ∷ (b ∷ (p ∷ (q ∷ [])))) = refl
numbers_long (a ∷ (b ∷ (p ∷ (q ∷ (t ∷ l))))) = ap (λ (n : ℕ). suc (suc (suc (suc (suc n))))) (numbers_long l)

-- ---- one border
other : {A : Type 0} → ◌≡◌ {A = ℕ} 0 1 → A
other z = absurd (omega (arith, z))

module _ (x : Border) (m : ℕ) where
  abbrev back : Border
  back = turned_border x

  count_same : length (marks_by Inside back.a back.b m) ≡ length (marks_by Inside x.a x.b m)
  count_same = ap length (inside-mirrored x.a x.b m) ∙ length-reverse (map neg_ℤ (marks_by Inside x.a x.b m)) ∙ length-map (marks_by Inside x.a x.b m) neg_ℤ

  has_same : has_ruler back.a back.b back.limit m ≡ has_ruler x.a x.b x.limit m
  has_same = (rulers.mirror (twisted Inside x.twist) x.a x.b x.limit m).same_ruler

  long_same : has_ruler x.a x.b x.limit m ≡ true → length (ruler_for m back) ≡ length (ruler_for m x)
  long_same h =
      let here = ruler_long_lem (twisted Inside x.twist) x.a x.b x.limit m (has_plan (twisted Inside x.twist) x.a x.b x.limit m h) in
      let there = ruler_long_lem (twisted Inside back.twist) back.a back.b back.limit m (has_plan (twisted Inside back.twist) back.a back.b back.limit m (has_same ∙ h)) in
      omega (arith, here, there, head_long_lem x.twist, head_long_lem back.twist, count_same)

  verdict-same : (old old' : List ℕ) → length old' ≡ length old → verdict (alone m back old').0 ≡ verdict (alone m x old).0
  unfolding has_ruler
  verdict-same old old' e =
      (rulers.twist_mirror Inside x.twist x.a x.b x.limit m).same_verdict old old'
      (λ h. ap₂ ltb (sym e) (sym (long_same h)))

  -- the same answer, whatever number of bytes is lent
  settled_same : (room : ℕ) → settled back m room ≡ settled x m room
  settled_same room =
      let old : List ℕ = replicate room 0 in
      let long : length old ≡ room = length-replicate room 0 in
      let as_settled : (y : Border) → (alone m y old).0 ≡ settled y m room = λ y. ap (λ (r : Answer (ℕ × ℕ) × List ℕ). r.0) (alone_is m y old) ∙ ap (settled y m) long in
      go (settled back m room) refl (settled x m room) refl (ap verdict (sym (as_settled back)) ∙ verdict-same old old refl ∙ ap verdict (as_settled x))
    where
      go : (r' : Answer (ℕ × ℕ)) → settled back m room ≡ r' → (r : Answer (ℕ × ℕ)) → settled x m room ≡ r → verdict r' ≡ verdict r → r' ≡ r
      go (given s') e' (given s) e v =
          let t' = taken back m {s = s'.0} {k = s'.1} e' in
          let t = taken x m {s = s.0} {k = s.1} e in
          ap₂ (λ (n k : ℕ). given (n, k)) (sym t'.bytes ∙ long_same t.has ∙ t.bytes) (sym t'.marks ∙ count_same ∙ t.marks)
      go none e' none e v = refl
      go (refused n') e' (refused n) e v = let z : n' ≡ n = cc in ap refused z
      go (given s') e' none e v = other cc
      go (given s') e' (refused n) e v = other cc
      go none e' (given s) e v = other cc
      go none e' (refused n) e v = other cc
      go (refused n') e' (given s) e v = other cc
      go (refused n') e' none e v = other cc

  -- its ruler is the mirrored one
  ruler_turned : has_ruler x.a x.b x.limit m ≡ true → x.twist ≤ 1 → MirrorOf (ruler_for m back) (ruler_for m x)
  ruler_turned h t =
      rw ((rulers.twist_mirror Inside x.twist x.a x.b x.limit m).other t)
      (((rulers.mirror (twisted Inside x.twist) x.a x.b x.limit m).match_exactly h).1 tt)

-- ---- all of them
module _ (M n : ℕ) where
  walk_same : (i : ℕ) (xs : List Border) (room : ℕ) → walked M n i (map turned_border xs) room ≡ walked M n i xs room
  unfolding walked
  walk_same i [] room = refl
  walk_same i (x ∷ xs) room = rw (settled_same x (share M n i) room) (go (settled x (share M n i) room) (walk_same (suc i) xs))
    where
      go : (r : Answer (ℕ × ℕ)) → ((left : ℕ) → walked M n (suc i) (map turned_border xs) left ≡ walked M n (suc i) xs left)
          → and_then r (λ s. counted s (walked M n (suc i) (map turned_border xs) (room - s.0))) ≡ and_then r (λ s. counted s (walked M n (suc i) xs (room - s.0)))
      go (given s) rest = ap (counted s) (rest (room - s.0))
      go none rest = refl
      go (refused k) rest = refl

  -- the rulers before a border are as long
  start-same : (i : ℕ) (before more : List Border) (room : ℕ) {r : ℕ × ℕ} → walked M n i (before ++ more) room ≡ given r → length (film_bytes M n i (map turned_border before)) ≡ length (film_bytes M n i before)
  unfolding film_bytes
  start-same i [] more room e = refl
  start-same i (y ∷ before) more room e =
      let (b, sum) = begun M n i y (before ++ more) room e in
      let t = taken y (share M n i) {s = b.first.0} {k = b.first.1} b.first_is in
      let rest = start-same (suc i) before more (room - b.first.0) b.others-are in
      length-append (ruler_for (share M n i) (turned_border y)) (film_bytes M n (suc i) (map turned_border before))
      ∙ omega (arith, long_same y (share M n i) t.has, rest, length-append (ruler_for (share M n i) y) (film_bytes M n (suc i) before))

module _ (l : List ℤ) (M : ℕ) where
  abbrev N : ℕ
  N = length (borders_of l)

  many_same : length (borders_of (mirrored_numbers l)) ≡ N
  many_same = ap length (borders-turned l) ∙ length-map (borders_of l) turned_border

  same_answer : (old old' : List ℕ) → length old' ≡ length old → (film_write (mirrored_numbers l) M old').0 ≡ (film_write l M old).0
  unfolding film_write
  same_answer old old' e =
      let answers : film_answer M N 0 (map turned_border (borders_of l)) old' ≡ film_answer M N 0 (borders_of l) old =
      answer_is M N 0 (map turned_border (borders_of l)) old' ∙ ap (walked M N 0 (map turned_border (borders_of l))) e ∙ walk_same M N 0 (borders_of l) (length old) ∙ sym (answer_is M N 0 (borders_of l) old)
      in
      rw (numbers_long l, many_same, borders-turned l, answers)

  module _ (old old' : List ℕ) (n k : ℕ) (s : length old' ≡ length old) (e : (film_write l M old).0 ≡ given (n, k)) (before : List Border) (x : Border) (after : List Border) (w : IsBorder l before x after) where
    abbrev m : ℕ
    m = share_in l M before

    w' : IsBorder (mirrored_numbers l) (map turned_border before) (turned_border x) (map turned_border after)
    w' = record { among = borders-turned l ∙ ap (map turned_border) w.among ∙ map-append turned_border before (x ∷ after) }

    walk : walked M N 0 (before ++ (x ∷ after)) (length old) ≡ given (n, k)
    walk = ap (λ (ys : List Border). walked M N 0 ys (length old)) (sym w.among) ∙ (tests l M old e).1

    share_is : share_in (mirrored_numbers l) M (map turned_border before) ≡ m
    share_is = ap₂ (λ (n i : ℕ). share M n i) many_same (length-map before turned_border)

    start_is : start_in (mirrored_numbers l) M (map turned_border before) ≡ start_in l M before
    start_is = ap (λ (n : ℕ). length (film_bytes M n 0 (map turned_border before))) many_same ∙ start-same M N 0 before (x ∷ after) (length old) walk

    taken_here : (has_ruler x.a x.b x.limit m ≡ true) × (x.twist ≤ 1)
    taken_here =
        let zero_plus : 0 + length before ≡ length before = omega arith in
        let at = walk_at M N 0 before x after (length old) walk in
        let t = taken x (share M N (0 + length before)) {s = at.0.0} {k = at.0.1} at.1 in
        (subst (λ (i : ℕ). has_ruler x.a x.b x.limit (share M N i) ≡ true) zero_plus t.has, t.known)

    each_mirrored : MirrorOf (cut (start_in l M before) (length (ruler_for m x)) (film_write (mirrored_numbers l) M old').1) (cut (start_in l M before) (length (ruler_for m x)) (film_write l M old).1)
    each_mirrored =
        let there = piece (mirrored_numbers l) M old' (same_answer old old' s ∙ e) (map turned_border before) (turned_border x) (map turned_border after) w' in
        let there_is : cut (start_in l M before) (length (ruler_for m x)) (film_write (mirrored_numbers l) M old').1 ≡ ruler_for m (turned_border x) =
        ap₂ (λ (at n : ℕ). cut at n (film_write (mirrored_numbers l) M old').1) (sym start_is) (sym (long_same x m taken_here.0) ∙ ap (λ (k : ℕ). length (ruler_for k (turned_border x))) (sym share_is))
        ∙ there
        ∙ ap (λ (k : ℕ). ruler_for k (turned_border x)) share_is
        in
        rw (there_is, piece l M old e before x after w) (ruler_turned x m taken_here.0 taken_here.1)

pub mirror : (l : List ℤ) (M : ℕ) → FilmMirrored l M
mirror l M = record { borders = borders-turned l; same_answer = same_answer l M; each_mirrored = each_mirrored l M }
