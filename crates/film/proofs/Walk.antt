-- The walk over the borders: what it answers, border by border, and what it writes. Assumes nothing.
use mathlib.Core.Path.{◌≡◌, refl, sym, ap, ap₂, ◌∙◌}
use mathlib.Core.List.{List, [], ◌∷◌, ◌++◌}
use Prim.Native.Nat.{ℕ, suc, ◌+◌, ◌-◌, ◌≤◌}
use native.Mathlib.Numerals.{add-one}
use native.Mathlib.Omega.{arith}
use lib.ListN.{length, take, drop, length-append, length-drop, drop_of_length-le}
use lib.Seq.{take_at, drop_at, drop-drop, take-add}
use Rattle.ranged1d.specs.Answer.{Answer, given, none, refused, and_then}
use Rattle.ranged1d.proofs.Answers.{given_is, not-both, not_none}
use Rattle.film.specs.declared.Border.{Border}
use Rattle.film.specs.Film.{share, ruler_for, together, film_answer, film_bytes}
use Rattle.film.specs.Steps.{settled, walked}
use Rattle.film.proofs.Settled.{alone_is}

-- with what was counted before
abbrev pub counted : ℕ × ℕ → Answer (ℕ × ℕ) → Answer (ℕ × ℕ)
counted r w = and_then w (λ s. given (together r s))

twice_counted : (r r' : ℕ × ℕ) (w : Answer (ℕ × ℕ)) → counted r (counted r' w) ≡ counted (together r r') w
twice_counted r r' (given s) =
    let e : r.0 + (r'.0 + s.0) ≡ r.0 + r'.0 + s.0 = omega arith in
    let f : r.1 + (r'.1 + s.1) ≡ r.1 + r'.1 + s.1 = omega arith in
    ap₂ (λ (x y : ℕ). given (x, y)) e f
twice_counted r r' none = refl
twice_counted r r' (refused n) = refl

module _ (M n : ℕ) where
  -- the rule, by the number of bytes lent
  pub answer_is : (i : ℕ) (xs : List Border) (left : List ℕ) → film_answer M n i xs left ≡ walked M n i xs (length left)
  unfolding film_answer walked
  answer_is i [] left = refl
  answer_is i (x ∷ xs) left = rw (alone_is (share M n i) x left) (go (settled x (share M n i) (length left)) (answer_is (suc i) xs))
    where
      go : (r : Answer (ℕ × ℕ)) → ((rest : List ℕ) → film_answer M n (suc i) xs rest ≡ walked M n (suc i) xs (length rest))
          → and_then r (λ s. counted s (film_answer M n (suc i) xs (drop s.0 left))) ≡ and_then r (λ s. counted s (walked M n (suc i) xs (length left - s.0)))
      go (given s) rest = ap (counted s) (rest (drop s.0 left) ∙ ap (walked M n (suc i) xs) (length-drop s.0 left))
      go none rest = refl
      go (refused k) rest = refl

  -- ---- the next border is taken, or refused; or there is none
  module _ (i : ℕ) (x : Border) (xs : List Border) (room : ℕ) where
    walk_given : {s : ℕ × ℕ} → settled x (share M n i) room ≡ given s → walked M n i (x ∷ xs) room ≡ counted s (walked M n (suc i) xs (room - s.0))
    unfolding walked
    walk_given e = rw e

    pub walk_on : (r : ℕ × ℕ) {s : ℕ × ℕ} → settled x (share M n i) room ≡ given s → counted r (walked M n i (x ∷ xs) room) ≡ counted (together r s) (walked M n (suc i) xs (room - s.0))
    walk_on r {s} e = ap (counted r) (walk_given e) ∙ twice_counted r s (walked M n (suc i) xs (room - s.0))

    pub walk_stop : (r : ℕ × ℕ) {k : ℕ} → settled x (share M n i) room ≡ refused k → counted r (walked M n i (x ∷ xs) room) ≡ refused k
    unfolding walked
    walk_stop r e = rw e

    -- an accepted walk: its first border is taken, and the walk over the others is accepted
    pub record Begun : Type 0 where
      pub first : ℕ × ℕ
      pub first_is : settled x (share M n i) room ≡ given first
      pub others : ℕ × ℕ
      pub others-are : walked M n (suc i) xs (room - first.0) ≡ given others

    pub begun : {r : ℕ × ℕ} → walked M n i (x ∷ xs) room ≡ given r → (b : Begun) × (together b.first b.others ≡ r)
    unfolding walked
    begun {r} e = go (settled x (share M n i) room) refl e
      where
        then : (s : ℕ × ℕ) → settled x (share M n i) room ≡ given s → (w : Answer (ℕ × ℕ)) → walked M n (suc i) xs (room - s.0) ≡ w → counted s w ≡ given r → (b : Begun) × (together b.first b.others ≡ r)
        then s f (given t) g e = (record { first = s; first_is = f; others = t; others-are = g }, given_is e)
        then s f none g e = absurd (not_none e)
        then s f (refused k) g e = absurd (not-both (sym e))

        go : (w : Answer (ℕ × ℕ)) → settled x (share M n i) room ≡ w → and_then w (λ s. counted s (walked M n (suc i) xs (room - s.0))) ≡ given r → (b : Begun) × (together b.first b.others ≡ r)
        go (given s) f e = then s f (walked M n (suc i) xs (room - s.0)) refl e
        go none f e = absurd (not_none e)
        go (refused k) f e = absurd (not-both (sym e))

  pub walk_end : (i room a b : ℕ) → counted (a, b) (walked M n i [] room) ≡ given (a, b)
  unfolding walked
  walk_end i room a b =
      let e : a + 0 ≡ a = omega arith in
      let f : b + 0 ≡ b = omega arith in
      ap₂ (λ (x y : ℕ). given (x, y)) e f

  -- ---- the rulers, one behind another
  pub bytes_on : (i : ℕ) (x : Border) (xs : List Border) → film_bytes M n i (x ∷ xs) ≡ ruler_for (share M n i) x ++ film_bytes M n (suc i) xs
  unfolding film_bytes
  bytes_on i x xs = refl

  pub bytes-none : (i : ℕ) → film_bytes M n i [] ≡ []
  unfolding film_bytes
  bytes-none i = refl

-- ---- the borders of a film, by the index of a border
module _ (M n : ℕ) (xs : List Border) where
  module _ (i : ℕ) {x : Border} (h : drop i xs ≡ x ∷ drop (i + 1) xs) where
    module _ (room at marks : ℕ) where
      pub next_taken : {s k : ℕ} → settled x (share M n i) (room - at) ≡ given (s, k)
          → counted (at, marks) (walked M n i (drop i xs) (room - at)) ≡ counted (at + s, marks + k) (walked M n (i + 1) (drop (i + 1) xs) (room - (at + s)))
      next_taken {s} {k} e =
          let less : room - at - s ≡ room - (at + s) = omega arith in
          ap (λ (ys : List Border). counted (at, marks) (walked M n i ys (room - at))) h
          ∙ walk_on M n i x (drop (i + 1) xs) (room - at) (at, marks) e
          ∙ rw (add-one i, less)

      pub next-refused : {k : ℕ} → settled x (share M n i) (room - at) ≡ refused k → counted (at, marks) (walked M n i (drop i xs) (room - at)) ≡ refused k
      next-refused e =
          ap (λ (ys : List Border). counted (at, marks) (walked M n i ys (room - at))) h ∙ walk_stop M n i x (drop (i + 1) xs) (room - at) (at, marks) e

    -- the same of the bytes, and of a walk that is accepted
    pub next-bytes : film_bytes M n i (drop i xs) ≡ ruler_for (share M n i) x ++ film_bytes M n (i + 1) (drop (i + 1) xs)
    next-bytes = ap (film_bytes M n i) h ∙ bytes_on M n i x (drop (i + 1) xs) ∙ rw (add-one i)

    pub next_begun : (room : ℕ) {r : ℕ × ℕ} → walked M n i (drop i xs) room ≡ given r → Begun M n i x (drop (i + 1) xs) room
    next_begun room e = (begun M n i x (drop (i + 1) xs) room (ap (λ (ys : List Border). walked M n i ys room) (sym h) ∙ e)).0

  module _ (i : ℕ) (h : length xs ≤ i) where
    pub no_more : (room at marks : ℕ) → counted (at, marks) (walked M n i (drop i xs) (room - at)) ≡ given (at, marks)
    no_more room at marks = ap (λ (ys : List Border). counted (at, marks) (walked M n i ys (room - at))) (drop_of_length-le xs h) ∙ walk_end M n i (room - at) at marks

    pub no_bytes : film_bytes M n i (drop i xs) ≡ []
    no_bytes = ap (film_bytes M n i) (drop_of_length-le xs h) ∙ bytes-none M n i

-- a list of which the first `at` are written, and then a piece of it that comes next
module _ (at : ℕ) (w r more : List ℕ) (h : at ≤ length w) (e : drop at w ≡ r ++ more) where
  pub piece_taken : take at w ++ r ≡ take (at + length r) w
  piece_taken = sym (take-add at (length r) w ∙ ap (λ (l : List ℕ). take at w ++ l) (ap (take (length r)) e ∙ take_at r more (length r) refl))

  pub piece_dropped : drop (at + length r) w ≡ more
  piece_dropped = sym (drop-drop (length r) at w) ∙ ap (drop (length r)) e ∙ drop_at r more (length r) refl

  pub piece_long : at + length r ≤ length w
  piece_long = let s = ap length e ∙ length-append r more in omega (arith, length-drop at w, s)
