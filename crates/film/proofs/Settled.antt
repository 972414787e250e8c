-- What the writer answers for one border. Assumes nothing.
use mathlib.Core.Path.{◌≡◌, refl, sym, ap, ◌∙◌}
use mathlib.Core.Bool.{Bool, true, false}
use mathlib.Core.List.{List, [], ◌∷◌, ◌++◌}
use Prim.Native.Nat.{ℕ, ◌+◌, ◌*◌, ◌≤◌, ◌<◌}
use native.Mathlib.Omega.{arith}
use borrow.Author.Tests.{lt-ltb, le-ltb, ltb-false}
use lib.Dec.{ltb, eqb}
use lib.ListN.{length, drop}
use Rattle.ranged1d.specs.Answer.{Answer, given, refused, ◌when◌, written, held_after}
use Rattle.ranged1d.proofs.Answers.{given_is, not-both}
use Rattle.ranged1d.proofs.Lowest.{stops, given_tests}
use Rattle.numeric.specs.declared.Choice.TheVariants.{Inside}
use Rattle.numeric.specs.declared.KeyPoints.{KeyPoints}
use Rattle.numeric.specs.Marks.{marks_by}
use Rattle.numeric.specs.Calls.{plan_with}
use Rattle.ruler.specs.Bytes.{head_long}
use Rattle.ruler.specs.Rule.{no_ruler, has_ruler, ruler_plan_by, ruler_plan_inside, twisted, twisted_write}
use Rattle.ruler.proofs.Drawn.{is_drawn, has_plan, ruler_long_lem, marks_long}
use Rattle.ruler.proofs.Places.{ends, film, served}
use Rattle.film.specs.declared.Border.{Border}
use Rattle.film.specs.Film.{alone, ruler_for}
use Rattle.film.specs.Steps.{settled, Accepted}

-- the writer alone, by the number of bytes lent
pub alone_is : (m : ℕ) (x : Border) (old : List ℕ) → alone m x old ≡ written (settled x m (length old)) (ruler_for m x) old
unfolding twisted_write settled
alone_is m x old = refl

-- the axis's record of a ruler with a twist
pub head_long_lem : (t : ℕ) → head_long (twisted Inside t) ≡ 26
head_long_lem t = go (eqb t 0) refl
  where
    go : (b : Bool) → eqb t 0 ≡ b → head_long (twisted Inside t) ≡ 26
    go true e = rw e
    go false e = rw e

module _ (x : Border) (m : ℕ) where
  -- the plan of kind 3 is that of kind 6
  plan_is : {p : KeyPoints} → ruler_plan_inside x.a x.b x.limit m ≡ given p → ruler_plan_by (twisted Inside x.twist) x.a x.b x.limit m ≡ given p
  unfolding ruler_plan_by
  plan_is e = e

  pub settled-refused : (room : ℕ) {k : ℕ} → ruler_plan_inside x.a x.b x.limit m ≡ refused k → settled x m room ≡ refused k
  unfolding settled ruler_plan_by
  settled-refused room e =
      stops (no_ruler x.a x.b x.limit m) (13 when ltb room (length (ruler_for m x)) ∷ 15 when ltb 1 x.twist ∷ []) (given (length (ruler_for m x), length (marks_by Inside x.a x.b m))) (plan_with Inside x.a x.b m) e

  module _ {p : KeyPoints} (e : ruler_plan_inside x.a x.b x.limit m ≡ given p) where
    has : has_ruler x.a x.b x.limit m ≡ true
    has = (is_drawn _ x.a x.b x.limit m (plan_is e)).has

    long : length (ruler_for m x) ≡ 26 + 20 * p.count
    long = ruler_long_lem (twisted Inside x.twist) x.a x.b x.limit m (plan_is e) ∙ ap (λ (h : ℕ). h + 20 * p.count) (head_long_lem x.twist)

    count : length (marks_by Inside x.a x.b m) ≡ p.count
    count = marks_long (twisted Inside x.twist) x.a x.b x.limit m (plan_is e)

    pub settled-short : (room : ℕ) → room < 26 + 20 * p.count → settled x m room ≡ refused 13
    unfolding settled
    settled-short room h = rw (ends _ _ _ _ has, film _ _ _ _ has, served _ _ _ _ has, long, lt-ltb room (26 + 20 * p.count) h)

    pub settled_unknown : (room : ℕ) → 26 + 20 * p.count ≤ room → 1 < x.twist → settled x m room ≡ refused 15
    unfolding settled
    settled_unknown room h t = rw (ends _ _ _ _ has, film _ _ _ _ has, served _ _ _ _ has, long, le-ltb room (26 + 20 * p.count) h, lt-ltb 1 x.twist t)

    pub settled_fits : (room : ℕ) → 26 + 20 * p.count ≤ room → x.twist ≤ 1 → settled x m room ≡ given (26 + 20 * p.count, p.count)
    unfolding settled
    settled_fits room h t = rw (ends _ _ _ _ has, film _ _ _ _ has, served _ _ _ _ has, long, le-ltb room (26 + 20 * p.count) h, le-ltb 1 x.twist t, count)

  -- ---- what a given answer says
  pub record Taken (room s k : ℕ) : Type 0 where
    pub bytes : length (ruler_for m x) ≡ s
    pub marks : length (marks_by Inside x.a x.b m) ≡ k
    pub enough : s ≤ room
    pub has : has_ruler x.a x.b x.limit m ≡ true
    pub known : x.twist ≤ 1
    pub fewer : 26 + 20 * k ≡ s

  pub taken : {room s k : ℕ} → settled x m room ≡ given (s, k) → Taken room s k
  unfolding settled has_ruler
  taken {room} {s} {k} e =
      let t = given_tests (no_ruler x.a x.b x.limit m ++ (13 when ltb room (length (ruler_for m x)) ∷ 15 when ltb 1 x.twist ∷ [])) (given (length (ruler_for m x), length (marks_by Inside x.a x.b m))) e in
      let pair : ◌≡◌ {A = ℕ × ℕ} (length (ruler_for m x), length (marks_by Inside x.a x.b m)) (s, k) = given_is t.1 in
      let bytes : length (ruler_for m x) ≡ s = ap (λ (r : ℕ × ℕ). r.0) pair in
      let marks : length (marks_by Inside x.a x.b m) ≡ k = ap (λ (r : ℕ × ℕ). r.1) pair in
      let has : has_ruler x.a x.b x.limit m ≡ true = rw (t.0.0, t.0.1.0, t.0.1.1.0) refl in
      let enough = ltb-false room (length (ruler_for m x)) t.0.1.1.1.0 in
      let size = ruler_long_lem (twisted Inside x.twist) x.a x.b x.limit m (has_plan (twisted Inside x.twist) x.a x.b x.limit m has) in
      record { bytes = bytes; marks = marks; enough = omega (arith, enough, bytes); has = has; known = ltb-false 1 x.twist t.0.1.1.1.1.0; fewer = omega (arith, size, head_long_lem x.twist, bytes, marks) }

-- ---- what the writer did
module _ (m : ℕ) (x : Border) (old : List ℕ) {l : List ℕ} where
  pub alone_put : {n k : ℕ} → (given (n, k), l) ≡ alone m x old → (n ≡ length (ruler_for m x)) × (l ≡ ruler_for m x ++ drop (length (ruler_for m x)) old)
  alone_put {n} {k} e =
      let did = e ∙ alone_is m x old in
      let set : settled x m (length old) ≡ given (n, k) = sym (ap (λ (r : Answer (ℕ × ℕ) × List ℕ). r.0) did) in
      (sym (taken x m set).bytes, ap (λ (r : Answer (ℕ × ℕ) × List ℕ). r.1) did ∙ ap (λ (r : Answer (ℕ × ℕ)). held_after r (ruler_for m x) old) set)

  pub not_refused : Accepted (settled x m (length old)) → {n : ℕ} → (refused n, l) ≡ alone m x old → ⊥
  not_refused (s, g) {n} e = not-both (sym g ∙ sym (ap (λ (r : Answer (ℕ × ℕ) × List ℕ). r.0) (e ∙ alone_is m x old)))
