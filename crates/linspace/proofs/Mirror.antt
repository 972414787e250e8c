-- The mirror theorem for stepped axes. Assumes nothing.
use mathlib.Core.Path.{◌≡◌, refl, sym, ap, ◌∙◌}
use mathlib.Core.Logic.{inl, inr}
use mathlib.Core.Bool.{Bool, true, false}
use mathlib.Core.List.{List, [], ◌∷◌, map}
use Prim.Native.Nat.{ℕ}
use lib.IntN.{ℤ, neg_ℤ, neg_ℤ-+ℤ}
use lib.Ieee.{Float, binary64, neg, add}
use Rattle.ranged1d.specs.Answer.{Answer, given, none, refused}
use Rattle.ranged1d.specs.declared.Limit.{Limit}
use Rattle.ranged1d.proofs.Whole.{neg-far, admitted-neg}
use Rattle.real.specs.Place.{real_place}
use Rattle.search.specs.Mirror.{Each, end, more}
use Rattle.real.specs.Mirror.{mirrored, negated}
use Rattle.real.proofs.Signs.{add_turns, turns_alike, alike_on}
use Rattle.real.proofs.Readings.{alike_same}
use Rattle.real.proofs.Mirror as places
use Rattle.search.proofs.WholeOrder.{whole-order}
use Rattle.search.proofs.RealOrder.{real-order}
use Rattle.search.proofs.Mirror.{Opposite, Across, whole_turns, real_turns, add-alike}
use Rattle.search.proofs.Turned.{each_map}
use Rattle.linspace.specs.List.{Kind, whole, real, stepped, axis_admitted}
use Rattle.linspace.specs.Calls.{step_size, step_marks, step_place}
use Rattle.linspace.specs.Mirror as mirror
use Rattle.linspace.specs.Mirror.{Mirrored, WholeMirrored, RealMirrored}
use Rattle.linspace.proofs.Turned.{KindTurns, stepped-turned, marks-turned, sizes-turned, values-turned, key_points_turned, searches-turned, admitted-turned}
use Rattle.linspace.proofs.Rules.{ends_place, place_listed, place-refused, place_is}
use Rattle.linspace.proofs.WholeRules.{ends-place}

-- ---- whole numbers
pub whole_kind : KindTurns whole Opposite
whole_kind = record {
  turns = whole_turns;
  plus_turns = λ {x} {x'} {y} {y'} r s. rw (r, s) (sym (neg_ℤ-+ℤ x' y'));
  nil_turns = refl;
  admitted_turns = λ {x} {x'} r. rw (r, neg-far x') refl;
  order = whole-order;
}

opposite : (l l' : List ℤ) → Each Opposite l l' → l ≡ map neg_ℤ l'
opposite [] [] end = refl
opposite [] (y ∷ ys) x'' = elim x'' [ ]
opposite (x ∷ xs) [] x4 = elim x4 [ ]
opposite (x ∷ xs) (y ∷ ys) (more r e) = rw (r, opposite xs ys e) refl

-- ---- floats
add-across : {x y : Float} (x' y' : Float) → Across x x' → Across y y' → Across (add binary64 x y) (add binary64 x' y')
add-across x' y' r s = alike_on (add-alike r s) (turns_alike (add_turns x' y'))

pub real_kind : KindTurns real Across
unfolding neg
real_kind = record {
  turns = real_turns;
  plus_turns = λ {x} {x'} {y} {y'} r s. add-across x' y' r s;
  nil_turns = inr ((false, refl), (true, refl));
  admitted_turns = λ r. refl;
  order = real-order;
}

-- ---- places: by the ends alone, and once the entries are counted
whole-ends : (a b d v : ℤ) (limit : Limit) → axis_admitted whole a b d ≡ true → ends_place whole (neg_ℤ a) (neg_ℤ b) (neg_ℤ d) (neg_ℤ v) (mirrored limit) ≡ negated (ends_place whole a b d v limit)
whole-ends a b d v limit h =
    sym (ends-place (neg_ℤ a) (neg_ℤ b) (neg_ℤ d) (rw (admitted-neg a, admitted-neg b, admitted-neg d) h) (neg_ℤ v) (mirrored limit))
    ∙ (places.mirror limit).whole_places a b v
    ∙ ap negated (ends-place a b d h v limit)

real-ends : (a b d v : Float) (limit : Limit) → axis_admitted real a b d ≡ true → ends_place real (neg a) (neg b) (neg d) (neg v) (mirrored limit) ≡ negated (ends_place real a b d v limit)
unfolding real_place
real-ends a b d v limit h = (places.mirror limit).real_places a b v

listed-neg : (r : Answer ℤ) (s : Answer ℕ) → place_listed (negated r) s ≡ negated (place_listed r s)
listed-neg (given z) (given n) = refl
listed-neg (given z) none = refl
listed-neg (given z) (refused n) = refl
listed-neg none s = refl
listed-neg (refused n) s = refl

-- ---- stepped axes of either kind of numbers, by their places
module _ {A : Type 0} (kind : Kind A) (R : A → A → Type 0) (K : KindTurns kind R) (opposite : A → A) (opp : (x : A) → R (opposite x) x)
    (Turned : List A → List A → Type 0) (turns : (l l' : List A) → Each R l l' → Turned l l')
    (ends : (a b d v : A) (limit : Limit) → axis_admitted kind a b d ≡ true → ends_place kind (opposite a) (opposite b) (opposite d) (opposite v) (mirrored limit) ≡ negated (ends_place kind a b d v limit)) (a b d : A) where
  place-mirrored : (v : A) (limit : Limit) → step_place kind (opposite a) (opposite b) (opposite d) (opposite v) (mirrored limit) ≡ negated (step_place kind a b d v limit)
  place-mirrored v limit = go (axis_admitted kind a b d) refl
    where
      admits : axis_admitted kind (opposite a) (opposite b) (opposite d) ≡ axis_admitted kind a b d
      admits = admitted-turned kind R K (opposite a) (opposite b) (opposite d) a b d (opp a) (opp b) (opp d)

      go : (t : Bool) → axis_admitted kind a b d ≡ t → step_place kind (opposite a) (opposite b) (opposite d) (opposite v) (mirrored limit) ≡ negated (step_place kind a b d v limit)
      go true h =
          sym (place_is kind (opposite a) (opposite b) (opposite d) (admits ∙ h) (sizes-turned kind R K (opposite a) (opposite b) (opposite d) a b d (opp a) (opp b) (opp d)) (opposite v) (mirrored limit) (ends a b d v limit h))
          ∙ listed-neg (ends_place kind a b d v limit) (step_size kind a b d)
          ∙ ap negated (place_is kind a b d h refl v limit refl)
      go false h = sym (place-refused kind (opposite a) (opposite b) (opposite d) (admits ∙ h) (opposite v) (mirrored limit)) ∙ ap negated (place-refused kind a b d h v limit)

  mirrored-axis : Mirrored kind opposite Turned a b d
  mirrored-axis = record {
    lists = turns (stepped kind (opposite a) (opposite b) (opposite d)) (stepped kind a b d) (stepped-turned kind R K (opposite a) (opposite b) (opposite d) a b d (opp a) (opp b) (opp d));
    marks = λ m. turns (step_marks kind (opposite a) (opposite b) (opposite d) m) (step_marks kind a b d m) (marks-turned kind R K (opposite a) (opposite b) (opposite d) a b d (opp a) (opp b) (opp d) m);
    values = λ old old' h. values-turned kind R K (opposite a) (opposite b) (opposite d) a b d (opp a) (opp b) (opp d) old' old h;
    key_points = λ m old old' h. key_points_turned kind R K (opposite a) (opposite b) (opposite d) a b d (opp a) (opp b) (opp d) m old' old h;
    sizes = sizes-turned kind R K (opposite a) (opposite b) (opposite d) a b d (opp a) (opp b) (opp d);
    searches = λ v method. searches-turned kind R K (opposite a) (opposite b) (opposite d) a b d (opp a) (opp b) (opp d) (opposite v) v (opp v) method;
    places = place-mirrored;
  }

-- ---- the theorem
pub whole-mirror : (a b d : ℤ) → WholeMirrored a b d
whole-mirror = mirrored-axis whole Opposite whole_kind neg_ℤ (λ x. refl) (λ new old. new ≡ map neg_ℤ old) opposite whole-ends

pub real-mirror : (a b d : Float) → RealMirrored a b d
real-mirror = mirrored-axis real Across real_kind neg (λ x. inl refl) mirror.Negated (each_map (λ x y r. alike_same r)) real-ends
