-- The rulers of a film, put one behind another: what lent bytes hold when so many borders are put. Assumes nothing.
use mathlib.Core.Path.{◌≡◌, refl, sym, ap, ap₂, ◌∙◌, subst}
use mathlib.Core.List.{List, [], ◌∷◌, ◌++◌}
use Prim.Native.Nat.{ℕ, ◌+◌, ◌-◌, ◌≤◌}
use native.Mathlib.Numerals.{add-one}
use native.Mathlib.Omega.{arith}
use lib.ListN.{length, take, drop, length-drop}
use lib.Seq.{length-take-le, take_all}
use borrow.Rule.Slice.PartMut.{put_mid}
use Rattle.ranged1d.proofs.Pieces.{rest_is, put_more, more_long}
use Rattle.film.specs.declared.Border.{Border}
use Rattle.film.specs.Film.{share, ruler_for, film_bytes}
use Rattle.film.specs.Steps.{settled, walked, Accepted}
use Rattle.film.proofs.Settled.{Taken, taken}
use Rattle.film.proofs.Walk.{Begun, next_begun, next-bytes, no_bytes, piece_taken, piece_dropped, piece_long}

module _ (M n : ℕ) (xs : List Border) (old : List ℕ) where
  abbrev whole : List ℕ
  whole = film_bytes M n 0 xs

  abbrev rest : ℕ → List Border
  rest i = drop i xs

  -- i borders are put, in `at` bytes, and those left are accepted
  pub record Standing (out : List ℕ) (at i : ℕ) : Type 0 where
    pub inside : at ≤ length whole
    pub room : at ≤ length old
    pub held : out ≡ take at whole ++ drop at old
    pub left : drop at whole ≡ film_bytes M n i (rest i)
    pub accepted : Accepted (walked M n i (rest i) (length old - at))
    pub long : length out ≡ length old

  module _ {out : List ℕ} {at i : ℕ} (p : Standing out at i) {x : Border} (there : drop i xs ≡ x ∷ drop (i + 1) xs) where
    here : Begun M n i x (rest (i + 1)) (length old - at)
    here = next_begun M n xs i there (length old - at) p.accepted.1

    fits : Taken x (share M n i) (length old - at) here.first.0 here.first.1
    fits = taken x (share M n i) here.first_is

    -- the next border is accepted, with the bytes that are left
    pub next-accepted : {y : Border} {m : ℕ} → y ≡ x → m ≡ share M n i → Accepted (settled y m (length (take (length out - at) (drop at out))))
    next-accepted e f =
        let size : length (take (length out - at) (drop at out)) ≡ length old - at = ap length (rest_is at out) ∙ length-drop at out ∙ ap (λ (k : ℕ). k - at) p.long in
        (here.first, ap₂ (λ (y : Border) (m : ℕ). settled y m (length (take (length out - at) (drop at out)))) e f ∙ ap (settled x (share M n i)) size ∙ here.first_is)

    -- and is put
    pub next_put : {y : Border} {m r : ℕ} {z : List ℕ} → y ≡ x → m ≡ share M n i → r ≡ length (ruler_for m y) → z ≡ ruler_for m y ++ drop (length (ruler_for m y)) (take (length out - at) (drop at out))
        → Standing (put_mid at (length out - at) out z) (at + r) (i + 1)
    next_put {y} {m} {r} {z} e f g h =
        let own = ruler_for (share M n i) x in
        let own_is : ruler_for m y ≡ own = ap₂ (λ (k : ℕ) (b : Border). ruler_for k b) f e in
        let size : r ≡ length own = g ∙ ap length own_is in
        let behind = film_bytes M n (i + 1) (rest (i + 1)) in
        let split : drop at whole ≡ own ++ behind = p.left ∙ next-bytes M n xs i there in
        let z_is : z ≡ own ++ drop (length own) (take (length out - at) (drop at out)) = h ∙ ap (λ (t : List ℕ). t ++ drop (length t) (take (length out - at) (drop at out))) own_is in
        let front = length-take-le at whole p.inside in
        let put = put_more at (length own) (take at whole) own old out z front p.held z_is in
        let enough : at + length own ≤ length old = omega (arith, fits.enough, fits.bytes, p.room) in
        let less : length old - at - here.first.0 ≡ length old - (at + length own) = omega (arith, fits.bytes) in
        let done : Standing (put_mid at (length out - at) out z) (at + length own) (i + 1) =
        record {
          inside = piece_long at whole own behind p.inside split;
          room = enough;
          held = put ∙ ap (λ (t : List ℕ). t ++ drop (at + length own) old) (piece_taken at whole own behind p.inside split);
          left = piece_dropped at whole own behind p.inside split;
          accepted = (here.others, rw (add-one i, ← less) (rw (add-one i) at here.others-are));
          long = ap length put ∙ more_long at (length own) (take at whole) own old front refl enough;
        }
        in
        subst (λ (k : ℕ). Standing (put_mid at (length out - at) out z) (at + k) (i + 1)) (sym size) done

  -- all are put
  pub all_put : {out : List ℕ} {at i : ℕ} → Standing out at i → length xs ≤ i → out ≡ whole ++ drop (length whole) old
  all_put {out} {at} {i} p h =
      let none : drop at whole ≡ [] = p.left ∙ no_bytes M n xs i h in
      let size : at ≡ length whole = let z = ap length none in omega (arith, length-drop at whole, p.inside, z) in
      p.held ∙ ap₂ (λ (t : List ℕ) (k : ℕ). t ++ drop k old) (take_all at whole (omega (arith, size))) size
