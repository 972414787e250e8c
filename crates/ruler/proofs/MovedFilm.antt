-- 02 (i), as specs/MovedFilm states it: moving both limits by c changes p, q and the marks' places in the bytes of a ruler, and nothing else. Assumes nothing.
use Rattle.std.proofs.Common.{◌≡◌, ℕ, zero, suc, ◌+◌, ◌-◌, ◌*◌, ◌<◌, ◌≤◌, Bool, true, false, cond, ltb, List, [], ◌∷◌, ◌++◌, map, length, get_or, take, drop, ℤ, pos, ◌+ℤ◌, neg_ℤ, nat_abs, sym, refl, ap, ◌∙◌, subst, ap₂, append_assoc, append-nil, le_refl, arith, length-append, take-append-drop, drop_of_length-le, length-take-le, take_at, get_or-append-add, drop_at, w32, SFits, of_z}
use native.Mathlib.Decide.{dec_lt}
use lib.IntN.{+ℤ-neg_ℤ_cancel}
use lib.ListN.{get_or-append}
use Rattle.ranged1d.specs.Answer.{Answer, given, refused, and_then, Reason, ◌when◌, lowest, held_after, written}
use Rattle.ranged1d.specs.Admitted.{limit_of, limit_admitted}
use Rattle.ranged1d.specs.Numbers.{same}
use Rattle.ranged1d.specs.declared.Limit.{Limit}
use Rattle.ranged1d.proofs.Answers.{given_is}
use Rattle.ranged1d.proofs.Lowest.{given_tests}
use Rattle.ranged1d.proofs.Whole.{both_near, fits32, same_yes, same_no}
use Rattle.numeric.specs.declared.KeyPoints.{KeyPoints}
use Rattle.numeric.specs.Marks.{step_of, marks_by}
use Rattle.numeric.specs.Calls.{plan_by, plan_with, element}
use Rattle.numeric.proofs.Places.{mark-placed}
use Rattle.decimal.specs.Print.{label_of}
use Rattle.real.specs.Place.{whole_place}
use Rattle.real.specs.Shifting.{shifted_limit}
use Rattle.real.proofs.Placed.{Placed}
use Rattle.real.proofs.Shifting.{shifted_place, place-shifted}
use Rattle.ruler.specs.declared.Form.{Form}
use Rattle.ruler.specs.declared.Drawing.{Drawing}
use Rattle.ruler.specs.Bytes.{whole, whole_at, head_long, axis, mark, mark_body, laid, joined}
use Rattle.ruler.specs.Place.{place_in, place_of}
use Rattle.ruler.specs.Rule.{mark_at, bytes_by, no_ruler, write_by, has_ruler, ruler_plan_by, twisted, twisted_write, form_in, a_in, b_in, limit_in, m_in, is_ruler, marks_in}
use Rattle.ruler.specs.Shifting.{shifted_bytes, ruler_shift}
use Rattle.ruler.specs.Steps.{form_of, drawing_in, added_at, added_to_places, added_to_film}
use Rattle.ruler.specs.MovedFilm.{p_at, q_at, needle_at, place_at, Within, OnlyMoved, Stays, MovedFilm, Shifts}
use Rattle.ruler.proofs.Records.{axis_long, records_long, run, one, run_suc, run_long, run_at}
use Rattle.ruler.proofs.Drawn.{drawn_for, is_drawn, has_plan, ruler_is, ruler_long_lem}
use Rattle.ruler.proofs.Places.{film, plan}
use Rattle.ruler.proofs.Reader.{Known, ruler_in, known_drawn}
use Rattle.ruler.proofs.Theorems as theorems
use Rattle.ruler.proofs.Moves.{small}
use Rattle.ruler.proofs.Shifting.{whole_in, mark-parts, head_front, head_back, head_parts, limits_added, run-same, places_added}

-- ---- a number that is replaced by another leaves every other byte
other_byte : (p x y r : List ℕ) → length x ≡ length y → (i : ℕ) → ((length p ≤ i) × (i < length p + length x) → ⊥) → get_or (p ++ (x ++ r)) i 0 ≡ get_or (p ++ (y ++ r)) i 0
other_byte p x y r e i n = go (dec_lt i (length p))
  where
    behind : (k : ℕ) → length p + (length x + k) ≡ i → get_or (p ++ (x ++ r)) i 0 ≡ get_or (p ++ (y ++ r)) i 0
    behind k g =
        rw (← g) (get_or-append-add p (x ++ r) (length x + k) 0 ∙ get_or-append-add x r k 0 ∙ sym (get_or-append-add y r k 0) ∙ ap (λ (j : ℕ). get_or (y ++ r) (j + k) 0) (sym e) ∙ sym (get_or-append-add p (y ++ r) (length x + k) 0))

    go : Dec (i < length p) → get_or (p ++ (x ++ r)) i 0 ≡ get_or (p ++ (y ++ r)) i 0
    go (yes l) = get_or-append p (x ++ r) 0 i l ∙ sym (get_or-append p (y ++ r) 0 i l)
    go (no l) = next (dec_lt i (length p + length x))
      where
        next : Dec (i < length p + length x) → get_or (p ++ (x ++ r)) i 0 ≡ get_or (p ++ (y ++ r)) i 0
        next (yes g) = absurd (n (omega arith, g))
        next (no g) = behind (i - length p - length x) (omega arith)

-- ---- marks on the film and on the moved one, p being their plan
module _ (f : Form) (a b : ℤ) (limit : Limit) (m : ℕ) (c : ℤ) (h : limit_admitted limit ≡ true) (h' : limit_admitted (shifted_limit c limit) ≡ true) where
  abbrev on : Limit
  on = shifted_limit c limit

  pub has_on : has_ruler a b on m ≡ has_ruler a b limit m
  unfolding has_ruler
  has_on = rw (h, h')

  plan_on : ruler_plan_by f a b on m ≡ ruler_plan_by f a b limit m
  unfolding ruler_plan_by
  plan_on = rw (h, h')

  module _ {p : KeyPoints} (e : ruler_plan_by f a b limit m ≡ given p) where
    abbrev v : ℕ → ℤ
    v = element p.first p.step

    planned : plan_by f.choice a b m ≡ given p
    planned = let known = is_drawn f a b limit m e in plan a b limit m known.has f.choice ∙ ap given known.good.plan

    placed : (k : ℕ) → k < p.count → Placed (whole_place a b (v k) limit)
    placed k l = mark-placed f.choice a b m planned limit h k l

    placed_on : (k : ℕ) → k < p.count → Placed (whole_place a b (v k) on)
    placed_on k l = mark-placed f.choice a b m planned on h' k l

    -- a mark's place, and what it becomes
    place-given : (k : ℕ) → k < p.count → whole_place a b (v k) limit ≡ given (place_of a b limit (v k))
    unfolding place_of
    place-given k l = let at = placed k l in at.is ∙ sym (ap (λ (r : Answer ℤ). given (place_in r)) at.is)

    place-near : (k : ℕ) → k < p.count → nat_abs (place_of a b limit (v k)) ≤ 23_000_001
    unfolding place_of
    place-near k l = let at = placed k l in rw at.is at.near

    place_near_on : (k : ℕ) → k < p.count → nat_abs (place_of a b on (v k)) ≤ 23_000_001
    unfolding place_of
    place_near_on k l = let at = placed_on k l in rw at.is at.near

    place_on : (k : ℕ) → k < p.count → place_of a b on (v k) ≡ shifted_place c a b (place_of a b limit (v k))
    unfolding place_of
    place_on k l = let at = placed k l in ap place_in (place-shifted c limit a b (v k) h h' ∙ ap (λ (r : Answer ℤ). and_then r (λ x. given (shifted_place c a b x))) at.is) ∙ sym (ap (λ (r : Answer ℤ). shifted_place c a b (place_in r)) at.is)

    place_moves : same a b ≡ false → (k : ℕ) → k < p.count → place_of a b on (v k) ≡ place_of a b limit (v k) +ℤ c
    place_moves s k l = rw s at (place_on k l)

    place_stays : same a b ≡ true → (k : ℕ) → k < p.count → place_of a b on (v k) ≡ place_of a b limit (v k)
    place_stays s k l = rw s at (place_on k l)

    -- ---- the code's way there: numbers that are added to
    abbrev head_of : Limit → List ℕ
    head_of l = laid (axis f a b l m p.step)

    pub film_added : SFits w32 c → added_to_film (drawn_for f a b limit m) p.count (of_z w32 c) (bytes_by f a b limit m) ≡ bytes_by f a b on m
    film_added fc =
        ap (added_to_film (drawn_for f a b limit m) p.count (of_z w32 c)) (ruler_is f a b limit m e)
        ∙ go (same a b) refl
        ∙ sym (ruler_is f a b on m (plan_on ∙ e))
      where
        limit_fits : (l : Limit) → limit_admitted l ≡ true → SFits w32 l.0 × SFits w32 l.1
        limit_fits l g = let near = both_near 1_000_000 l.0 l.1 g in (fits32 l.0 (omega (arith, near.0)), fits32 l.1 (omega (arith, near.1)))

        limits_on : (rest : List ℕ) → added_at (of_z w32 c) 13 (added_at (of_z w32 c) 9 (head_of limit ++ rest)) ≡ head_of on ++ rest
        limits_on rest = limits_added f a b limit m p.step rest c fc (limit_fits limit h) (limit_fits on h')

        fits : same a b ≡ false → (k : ℕ) → k < p.count → SFits w32 (place_of a b limit (v k)) × SFits w32 (place_of a b limit (v k) +ℤ c)
        fits s k l = (fits32 _ (omega (arith, place-near k l)), subst (SFits w32) (place_moves s k l) (fits32 _ (omega (arith, place_near_on k l))))

        go : (t : Bool) → same a b ≡ t
            → cond t (added_at (of_z w32 c) 13 (added_at (of_z w32 c) 9 (head_of limit ++ run a b limit v p.count))) (added_to_places (of_z w32 c) (head_long f) p.count (added_at (of_z w32 c) 13 (added_at (of_z w32 c) 9 (head_of limit ++ run a b limit v p.count))))
            ≡ head_of on ++ run a b on v p.count
        go true s = limits_on (run a b limit v p.count) ∙ ap (λ (l : List ℕ). head_of on ++ l) (sym (run-same a b limit on v p.count (place_stays s) p.count (le_refl p.count)))
        go false s =
            ap (added_to_places (of_z w32 c) (head_long f) p.count) (limits_on (run a b limit v p.count) ∙ ap (λ (l : List ℕ). head_of on ++ l) (sym (append-nil (run a b limit v p.count))))
            ∙ places_added a b limit on v p.count c fc (fits s) (place_moves s) (head_of on) (axis_long f a b on m p.step) p.count (le_refl p.count) []
            ∙ ap (λ (l : List ℕ). head_of on ++ l) (append-nil (run a b on v p.count))

-- ---- where the numbers of a mark stand
module _ (f : Form) (a b : ℤ) (limit : Limit) (m : ℕ) {p : KeyPoints} (e : ruler_plan_by f a b limit m ≡ given p) (k : ℕ) (l : k < p.count) where
  abbrev needle : ℤ
  needle = element p.first p.step k

  abbrev all : List ℕ
  all = run a b limit (element p.first p.step) p.count

  abbrev front : List ℕ
  front = laid (axis f a b limit m p.step) ++ take (20 * k) all

  abbrev behind : List ℕ
  behind = drop 20 (drop (20 * k) all)

  front_long : length front ≡ head_long f + 20 * k
  front_long =
      let long = run_long a b limit (element p.first p.step) p.count in
      length-append (laid (axis f a b limit m p.step)) (take (20 * k) all)
      ∙ ap₂ ◌+◌ (axis_long f a b limit m p.step) (length-take-le (20 * k) all (omega (arith, long)))

  split : bytes_by f a b limit m ≡ front ++ (laid (mark needle (place_of a b limit needle)) ++ behind)
  split =
      let rest : all ≡ take (20 * k) all ++ (laid (mark needle (place_of a b limit needle)) ++ behind) =
      sym (take-append-drop (20 * k) all)
      ∙ ap (λ (t : List ℕ). take (20 * k) all ++ t) (sym (take-append-drop 20 (drop (20 * k) all)) ∙ ap (λ (t : List ℕ). t ++ behind) (run_at a b limit (element p.first p.step) p.count k l)) in
      ruler_is f a b limit m e
      ∙ ap (λ (t : List ℕ). laid (axis f a b limit m p.step) ++ t) rest
      ∙ sym (append_assoc (laid (axis f a b limit m p.step)) (take (20 * k) all) (laid (mark needle (place_of a b limit needle)) ++ behind))

  pub needle_at_lem : SFits w32 needle → whole_at (bytes_by f a b limit m) (needle_at f k) ≡ needle
  unfolding laid mark_body
  needle_at_lem fits =
      let x = place_of a b limit needle in
      let long : length (front ++ (2 ∷ [])) ≡ needle_at f k = omega (arith, length-append front (2 ∷ []), front_long) in
      ap (λ (t : List ℕ). whole_at t (needle_at f k)) (split ∙ sym (append_assoc front (2 ∷ []) (whole needle ++ (whole x ++ (label_of needle ++ behind)))))
      ∙ whole_in (front ++ (2 ∷ [])) (whole x ++ (label_of needle ++ behind)) needle fits long

  pub place_in_lem : SFits w32 (place_of a b limit needle) → whole_at (bytes_by f a b limit m) (place_at f k) ≡ place_of a b limit needle
  place_in_lem fits =
      let x = place_of a b limit needle in
      let long : length (front ++ (2 ∷ whole needle)) ≡ place_at f k = omega (arith, length-append front (2 ∷ whole needle), front_long) in
      ap (λ (t : List ℕ). whole_at t (place_at f k)) (split ∙ mark-parts front behind needle x)
      ∙ whole_in (front ++ (2 ∷ whole needle)) (label_of needle ++ behind) x fits long

-- ---- every other byte: of a mark's record, of those of n marks, and of the axis's
mark-others : (v x y : ℤ) (i : ℕ) → (Within 5 i → ⊥) → get_or (laid (mark v x)) i 0 ≡ get_or (laid (mark v y)) i 0
unfolding laid mark_body
mark-others v x y i n = other_byte (2 ∷ whole v) (whole x) (whole y) (label_of v) refl i n

module _ (a b : ℤ) (limit limit' : Limit) (f : ℕ → ℤ) where
  run-others : (n i : ℕ) → ((k : ℕ) → k < n → Within (20 * k + 5) i → ⊥) → get_or (run a b limit' f n) i 0 ≡ get_or (run a b limit f n) i 0
  run-others zero i apart = refl
  run-others (suc n) i apart = go (dec_lt i (20 * n)) (run-others n i)
    where
      last : (j : ℕ) → 20 * n + j ≡ i → get_or (run a b limit' f (suc n)) i 0 ≡ get_or (run a b limit f (suc n)) i 0
      last j e =
          let at : (l : Limit) → get_or (run a b l f (suc n)) i 0 ≡ get_or (one a b l f n) j 0 = λ l.
          ap (λ (t : List ℕ). get_or t i 0) (run_suc a b l f n)
          ∙ ap (λ (i : ℕ). get_or (run a b l f n ++ one a b l f n) i 0) (sym e ∙ ap (λ (m : ℕ). m + j) (sym (run_long a b l f n)))
          ∙ get_or-append-add (run a b l f n) (one a b l f n) j 0 in
          at limit' ∙ mark-others (f n) (place_of a b limit' (f n)) (place_of a b limit (f n)) j (λ w. apart n (omega arith) (omega (arith, w.0), omega (arith, w.1))) ∙ sym (at limit)

      before : i < 20 * n → (((k : ℕ) → k < n → Within (20 * k + 5) i → ⊥) → get_or (run a b limit' f n) i 0 ≡ get_or (run a b limit f n) i 0) → get_or (run a b limit' f (suc n)) i 0 ≡ get_or (run a b limit f (suc n)) i 0
      before l fewer =
          let at : (l' : Limit) → get_or (run a b l' f (suc n)) i 0 ≡ get_or (run a b l' f n) i 0 = λ l'.
          ap (λ (t : List ℕ). get_or t i 0) (run_suc a b l' f n) ∙ get_or-append (run a b l' f n) (one a b l' f n) 0 i (omega (arith, run_long a b l' f n)) in
          at limit' ∙ fewer (λ k g. apart k (omega arith)) ∙ sym (at limit)

      go : Dec (i < 20 * n) → (((k : ℕ) → k < n → Within (20 * k + 5) i → ⊥) → get_or (run a b limit' f n) i 0 ≡ get_or (run a b limit f n) i 0) → get_or (run a b limit' f (suc n)) i 0 ≡ get_or (run a b limit f (suc n)) i 0
      go (yes l) fewer = before l fewer
      go (no l) fewer = last (i - 20 * n) (omega arith)

head_others : (f : Form) (a b : ℤ) (limit limit' : Limit) (m : ℕ) (s : ℤ) (rest : List ℕ) (i : ℕ) → (Within p_at i → ⊥) → (Within q_at i → ⊥)
    → get_or (laid (axis f a b limit' m s) ++ rest) i 0 ≡ get_or (laid (axis f a b limit m s) ++ rest) i 0
head_others f a b limit limit' m s rest i np nq =
    let front = head_front f a b limit m s rest in
    let back = head_back f a b limit m s rest in
    ap (λ (t : List ℕ). get_or t i 0) (head_parts f a b limit' m s rest)
    ∙ other_byte front (whole limit'.0) (whole limit.0) (whole limit'.1 ++ back) refl i np
    ∙ other_byte (front ++ whole limit.0) (whole limit'.1) (whole limit.1) back refl i nq
    ∙ sym (ap (λ (t : List ℕ). get_or t i 0) (head_parts f a b limit m s rest))

-- ---- where the limits stand
limits-at : (f : Form) (a b : ℤ) (limit : Limit) (m : ℕ) {p : KeyPoints} → ruler_plan_by f a b limit m ≡ given p → limit_admitted limit ≡ true
    → (whole_at (bytes_by f a b limit m) p_at ≡ limit.0) × (whole_at (bytes_by f a b limit m) q_at ≡ limit.1)
limits-at f a b limit m {p} e h =
    let rest = run a b limit (element p.first p.step) p.count in
    let front = head_front f a b limit m p.step rest in
    let back = head_back f a b limit m p.step rest in
    let is = ruler_is f a b limit m e ∙ head_parts f a b limit m p.step rest in
    let near = both_near 1_000_000 limit.0 limit.1 h in (
      ap (λ (t : List ℕ). whole_at t p_at) is ∙ whole_in front (whole limit.1 ++ back) limit.0 (fits32 limit.0 (omega (arith, near.0))) refl,
      ap (λ (t : List ℕ). whole_at t q_at) is ∙ whole_in (front ++ whole limit.0) back limit.1 (fits32 limit.1 (omega (arith, near.1))) refl,
    )

-- ---- the two rulers
module _ (f : Form) (a b : ℤ) (limit : Limit) (m : ℕ) (c : ℤ) (h : limit_admitted limit ≡ true) (h' : limit_admitted (shifted_limit c limit) ≡ true) {p : KeyPoints} (e : ruler_plan_by f a b limit m ≡ given p) where
  abbrev e' : ruler_plan_by f a b (shifted_limit c limit) m ≡ given p
  e' = plan_on f a b limit m c h h' ∙ e

  abbrev here : List ℕ
  here = bytes_by f a b limit m

  abbrev there : List ℕ
  there = bytes_by f a b (shifted_limit c limit) m

  module _ (k : ℕ) (l : k < p.count) where
    needle_is : whole_at here (needle_at f k) ≡ element p.first p.step k
    needle_is = needle_at_lem f a b limit m e k l (fits32 _ (omega (arith, ((is_drawn f a b limit m e).good.near k l).1)))

    here_is : whole_at here (place_at f k) ≡ place_of a b limit (element p.first p.step k)
    here_is = place_in_lem f a b limit m e k l (fits32 _ (omega (arith, place-near f a b limit m c h h' e k l)))

    there_is : whole_at there (place_at f k) ≡ place_of a b (shifted_limit c limit) (element p.first p.step k)
    there_is = place_in_lem f a b (shifted_limit c limit) m e' k l (fits32 _ (omega (arith, place_near_on f a b limit m c h h' e k l)))

  abbrev run_of : Limit → List ℕ
  run_of l = run a b l (element p.first p.step) p.count

  abbrev head : List ℕ
  head = laid (axis f a b limit m p.step)

  -- behind the axis's record
  marks-others : (i : ℕ) → ((k : ℕ) → k < p.count → Within (place_at f k) i → ⊥)
      → get_or (head ++ run_of (shifted_limit c limit)) i 0 ≡ get_or (head ++ run_of limit) i 0
  marks-others i apart = go (dec_lt i (head_long f))
    where
      long : length head ≡ head_long f
      long = axis_long f a b limit m p.step

      further : (j : ℕ) → length head + j ≡ i → get_or (head ++ run_of (shifted_limit c limit)) i 0 ≡ get_or (head ++ run_of limit) i 0
      further j g =
          rw (← g)
          (get_or-append-add head (run_of (shifted_limit c limit)) j 0
          ∙ run-others a b limit (shifted_limit c limit) (element p.first p.step) p.count j (λ k l w. apart k l (omega (arith, w.0, long), omega (arith, w.1, long)))
          ∙ sym (get_or-append-add head (run_of limit) j 0))

      go : Dec (i < head_long f) → get_or (head ++ run_of (shifted_limit c limit)) i 0 ≡ get_or (head ++ run_of limit) i 0
      go (yes l) = get_or-append head (run_of (shifted_limit c limit)) 0 i (omega (arith, long)) ∙ sym (get_or-append head (run_of limit) 0 i (omega (arith, long)))
      go (no l) = further (i - length head) (omega (arith, long))

  pub only_moved : OnlyMoved f a b limit c p.count here there
  only_moved = record {
    as_long = ruler_long_lem f a b (shifted_limit c limit) m e' ∙ sym (ruler_long_lem f a b limit m e);
    p_here = (limits-at f a b limit m e h).0;
    p_there = (limits-at f a b (shifted_limit c limit) m e' h').0;
    q_here = (limits-at f a b limit m e h).1;
    q_there = (limits-at f a b (shifted_limit c limit) m e' h').1;
    place_here = λ k l. rw (needle_is k l, here_is k l) (place-given f a b limit m c h h' e k l);
    place_moves = λ n k l. there_is k l ∙ place_moves f a b limit m c h h' e (same_no a b n) k l ∙ ap (λ (z : ℤ). z +ℤ c) (sym (here_is k l));
    place_stays = λ s k l. there_is k l ∙ place_stays f a b limit m c h h' e (same_yes a b s) k l ∙ sym (here_is k l);
    others = λ i np nq apart.
        ap (λ (t : List ℕ). get_or t i 0) (ruler_is f a b (shifted_limit c limit) m e')
        ∙ head_others f a b limit (shifted_limit c limit) m p.step (run_of (shifted_limit c limit)) i np nq
        ∙ marks-others i apart
        ∙ sym (ap (λ (t : List ℕ). get_or t i 0) (ruler_is f a b limit m e));
  }

-- ---- what a writer does, whatever it is refused for behind 13
marks-same : (f : Form) (a b : ℤ) (limit : Limit) (m : ℕ) → length (bytes_by f a b limit m) ≡ head_long f + 20 * length (marks_by f.choice a b m)
unfolding bytes_by
marks-same f a b limit m =
    length-append (laid (axis f a b limit m (pos (step_of a b m)))) (joined (map (mark_at a b limit) (marks_by f.choice a b m)))
    ∙ ap₂ ◌+◌ (axis_long f a b limit m (pos (step_of a b m))) (records_long a b limit (marks_by f.choice a b m))

module _ (more : List Reason) (f : Form) (a b : ℤ) (m : ℕ) where
  abbrev reasons : Limit → List ℕ → List Reason
  reasons limit old = no_ruler a b limit m ++ (13 when ltb (length old) (length (bytes_by f a b limit m)) ∷ more)

  abbrev told : Limit → ℕ × ℕ
  told limit = (length (bytes_by f a b limit m), length (marks_by f.choice a b m))

  abbrev writing : Limit → List ℕ → Answer (ℕ × ℕ) × List ℕ
  writing limit old = written (lowest (reasons limit old) (given (told limit))) (bytes_by f a b limit m) old

  -- an accepted call: there is a ruler, and this is what was done
  record Wrote (limit : Limit) (old : List ℕ) (n k : ℕ) : Type 0 where
    has : has_ruler a b limit m ≡ true
    size : length (bytes_by f a b limit m) ≡ n
    count : length (marks_by f.choice a b m) ≡ k
    front : take n (writing limit old).1 ≡ bytes_by f a b limit m
    behind : drop n (writing limit old).1 ≡ drop n old

  accepted : (limit : Limit) (old : List ℕ) (n k : ℕ) → (writing limit old).0 ≡ given (n, k) → Wrote limit old n k
  unfolding has_ruler
  accepted limit old n k e =
      let tests = given_tests (reasons limit old) (given (told limit)) e in
      let pair = given_is tests.1 in
      let size : length (bytes_by f a b limit m) ≡ n = ap (λ (x : ℕ × ℕ). x.0) pair in
      let held = ap (λ (r : Answer (ℕ × ℕ)). held_after r (bytes_by f a b limit m) old) e in
      record {
        has = rw (tests.0.0, tests.0.1.0, tests.0.1.1.0);
        size = size;
        count = ap (λ (x : ℕ × ℕ). x.1) pair;
        front = ap (take n) held ∙ take_at (bytes_by f a b limit m) (drop (length (bytes_by f a b limit m)) old) n size;
        behind = ap (drop n) held ∙ drop_at (bytes_by f a b limit m) (drop (length (bytes_by f a b limit m)) old) n size ∙ ap (λ (i : ℕ). drop i old) size;
      }

  module _ (limit : Limit) (c : ℤ) (h : limit_admitted limit ≡ true) (h' : limit_admitted (shifted_limit c limit) ≡ true) (old old' : List ℕ) (long : length old' ≡ length old) where
    answer : (writing (shifted_limit c limit) old').0 ≡ (writing limit old).0
    answer =
        let size : length (bytes_by f a b (shifted_limit c limit) m) ≡ length (bytes_by f a b limit m) = marks-same f a b (shifted_limit c limit) m ∙ sym (marks-same f a b limit m) in
        rw (h, h', size, long)

    stays : Stays f a b limit c old old' (writing limit old) (writing (shifted_limit c limit) old')
    stays = record {
      answer = answer;
      nothing_written = λ r e. (
        ap (λ (x : Answer (ℕ × ℕ)). held_after x (bytes_by f a b limit m) old) e,
        ap (λ (x : Answer (ℕ × ℕ)). held_after x (bytes_by f a b (shifted_limit c limit) m) old') (answer ∙ e),
      );
      moved = λ n k e.
          let here = accepted limit old n k e in
          let there = accepted (shifted_limit c limit) old' n k (answer ∙ e) in
          let known = has_plan f a b limit m here.has in
          rw (here.front, there.front) (subst (λ (i : ℕ). OnlyMoved f a b limit c i (bytes_by f a b limit m) (bytes_by f a b (shifted_limit c limit) m)) here.count (only_moved f a b limit m c h h' known));
      behind = λ n k e. ((accepted limit old n k e).behind, (accepted (shifted_limit c limit) old' n k (answer ∙ e)).behind);
    }

pub moved_film : MovedFilm
unfolding write_by twisted_write
moved_film = record {
  rulers = λ f a b limit m c h h' old old' long. stays [] f a b m limit c h h' old old' long;
  twisted_rulers = λ choice t a b limit m c h h' old old' long. stays (15 when ltb 1 t ∷ []) (twisted choice t) a b m limit c h h' old old' long;
}

-- ---- `shift`
pub shift_2 : (l : List ℕ) (c : ℤ) → is_ruler l ≡ true → limit_admitted (shifted_limit c (limit_in l)) ≡ false → ruler_shift c l ≡ (refused 2, l)
unfolding ruler_shift
shift_2 l c e g = rw (e, g)

pub shift_14 : (l : List ℕ) (c : ℤ) → is_ruler l ≡ false → ruler_shift c l ≡ (refused 14, l)
unfolding ruler_shift
shift_14 l c e = rw e

module _ (l : List ℕ) (c : ℤ) (ruler : is_ruler l ≡ true) (ok : limit_admitted (shifted_limit c (limit_in l)) ≡ true) where
  known : Known l (drawing_in l) (plan_with (form_in l).choice (a_in l) (b_in l) (m_in l))
  known = ruler_in l ruler

  admitted : limit_admitted (limit_in l) ≡ true
  admitted = film (a_in l) (b_in l) (limit_in l) (m_in l) (known_drawn known).has

  abbrev after : List ℕ
  after = bytes_by (form_in l) (a_in l) (b_in l) (shifted_limit c (limit_in l)) (m_in l)

  all_moved : OnlyMoved (form_in l) (a_in l) (b_in l) (limit_in l) c (length (marks_in l)) l after
  all_moved = subst (λ (t : List ℕ). OnlyMoved (form_in l) (a_in l) (b_in l) (limit_in l) c (length (marks_in l)) t after) (sym known.bytes) (only_moved (form_in l) (a_in l) (b_in l) (limit_in l) (m_in l) c admitted ok known.plan)

  pub shifted : ruler_shift c l ≡ (given tt, after)
  unfolding ruler_shift shifted_bytes
  shifted =
      let long : length l ≤ length after = omega (arith, all_moved.as_long) in
      rw (ruler, ok, drop_of_length-le l long, append-nil after)

  -- the bytes are then a ruler, with the moved limits in it
  has : has_ruler (a_in l) (b_in l) (shifted_limit c (limit_in l)) (m_in l) ≡ true
  has = has_on (form_in l) (a_in l) (b_in l) (limit_in l) (m_in l) c admitted ok ∙ (known_drawn known).has

  own : Known after (drawn_for (form_in l) (a_in l) (b_in l) (shifted_limit c (limit_in l)) (m_in l)) (plan_with (form_in l).choice (a_in l) (b_in l) (m_in l))
  own = theorems.known (form_in l) (a_in l) (b_in l) (shifted_limit c (limit_in l)) (m_in l) (small l ruler) has

back_again : (c : ℤ) (limit : Limit) → shifted_limit (neg_ℤ c) (shifted_limit c limit) ≡ limit
back_again c limit = ap₂ (λ (p q : ℤ). limit_of p q) (+ℤ-neg_ℤ_cancel limit.0 c) (+ℤ-neg_ℤ_cancel limit.1 c)

pub shifts : (l : List ℕ) (c : ℤ) → is_ruler l ≡ true → limit_admitted (shifted_limit c (limit_in l)) ≡ true → Shifts l c
shifts l c ruler ok =
    let did = shifted l c ruler ok in
    let held = ap (λ (x : Answer (Unit {0}) × List ℕ). x.1) did in
    let d = own l c ruler ok in
    let limits = ap (λ (x : Drawing). shifted_limit (neg_ℤ c) x.draft.limit) d.draft ∙ back_again c (limit_in l) in
    let drawn : Drawing → Limit → Answer (Unit {0}) × List ℕ = λ x limit. (given tt, bytes_by (form_of x) x.draft.a x.draft.b limit x.draft.m) in
    record {
      as_written = did;
      moved = subst (λ (t : List ℕ). OnlyMoved (form_in l) (a_in l) (b_in l) (limit_in l) c (length (marks_in l)) l t) (sym held) (all_moved l c ruler ok);
      still_ruler = ap is_ruler held ∙ d.ruler;
      there_and_back =
          ap (ruler_shift (neg_ℤ c)) held
          ∙ shifted (after l c ruler ok) (neg_ℤ c) d.ruler (ap limit_admitted limits ∙ admitted l c ruler ok)
          ∙ ap₂ drawn d.draft limits
          ∙ ap (λ (t : List ℕ). (given tt, t)) (sym (known l c ruler ok).bytes);
    }
