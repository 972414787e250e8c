-- The mirror theorem for searches of lent lists. Assumes nothing.
use mathlib.Core.Path.{◌≡◌, refl, sym, ap, subst, ◌∙◌}
use mathlib.Core.Bool.{Bool, true, false, cond, not, and_comm, beq}
use mathlib.Core.Logic.{inl, inr}
use mathlib.Core.List.{List, map}
use Prim.Native.Nat.{ℕ, ◌+◌, ◌-◌, ◌*◌, ◌≤◌, ◌<◌}
use native.Mathlib.Nat.{add_comm, mul_comm, zero-mul}
use native.Mathlib.Omega.{arith}
use native.Mathlib.Decide.{dec_lt}
use borrow.Author.Tests.{lt-ltb, le-ltb}
use lib.Dec.{ltb}
use lib.IntN.{ℤ, neg_ℤ, ◌+ℤ◌, ◌-ℤ◌, neg_ℤ-neg_ℤ, +ℤ_comm}
use lib.Signed.{le_z}
use lib.Ieee.{Float, nan, inf, fin, binary64, up, down, below, round, neg, sum, add, sub, lt}
use Rattle.ranged1d.specs.Admitted.{whole_admitted}
use Rattle.ranged1d.proofs.Whole.{neg_le, neg_lt, admitted-neg}
use Rattle.rounding.proofs.Signs.{neg-neg, lt_neg}
use Rattle.real.proofs.Signs.{Alike, zero_of, eq_neg, eq_alike, alike_through, add_left, alike_both, same_both}
use Rattle.search.specs.Search.{wholes, reals}
use Rattle.search.specs.Lists.{whole_search, real_search}
use Rattle.search.specs.Mirror.{turned, Mirrored, Each}
use Rattle.search.specs.declared.RoundingMethod.{RoundingMethod}
use Rattle.search.proofs.Turned.{Turns, each_mapped, each-length, every-turned, search-turned, searchable-turned, exact_stays}

-- ---- whole numbers: each is the negation of the other
abbrev pub Opposite : ℤ → ℤ → Type 0
Opposite x x' = x ≡ neg_ℤ x'

less_opposite : (x y : ℤ) → neg_ℤ x -ℤ neg_ℤ y ≡ y -ℤ x
less_opposite x y = ap (λ (z : ℤ). neg_ℤ x +ℤ z) (neg_ℤ-neg_ℤ y) ∙ +ℤ_comm (neg_ℤ x) y

pub whole_turns : Turns wholes Opposite
whole_turns = record {
  less_turns = λ {x} {x'} {y} {y'} r s. rw (r, s) (neg_lt x' y');
  equal_turns = λ {x} {x'} {y} {y'} r s. rw (r, s, neg_le x' y', neg_le y' x') (and_comm (le_z y' x') (le_z x' y'));
  apart_turns = λ {x} {x'} {y} {y'} {z} {z'} {w} {w'} r s u v. rw (r, s, u, v, less_opposite x' y', less_opposite z' w') refl;
}

-- ---- floats: negated, up to the sign of a zero
abbrev pub Across : Float → Float → Type 0
Across x x' = Alike x (neg x')

unlike_comm : (a b c : ℕ) → sum binary64 true a false b c ≡ sum binary64 false b true a c
unfolding sum
unlike_comm a b c = go (dec_lt a b) (dec_lt b a)
  where
    go : Dec (a < b) → Dec (b < a) → cond (ltb a b) (round binary64 false (b - a) c) (round binary64 (ltb b a) (a - b) c) ≡ cond (ltb b a) (round binary64 true (a - b) c) (round binary64 false (b - a) c)
    go (yes h) k = rw (lt-ltb a b h, le-ltb b a (omega (arith, h))) refl
    go (no h) (yes k) = rw (le-ltb a b (omega (arith, h)), lt-ltb b a k) refl
    go (no h) (no k) = let e : a - b ≡ b - a = omega (arith, h, k) in rw (le-ltb a b (omega (arith, h)), le-ltb b a (omega (arith, k)), e) refl

sum_comm : (s t : Bool) (a b c : ℕ) → sum binary64 s a t b c ≡ sum binary64 t b s a c
unfolding sum
sum_comm true true a b c = ap (λ (k : ℕ). round binary64 true k c) (add_comm a b)
sum_comm false false a b c = ap (λ (k : ℕ). round binary64 false k c) (add_comm a b)
sum_comm true false a b c = unlike_comm a b c
sum_comm false true a b c = sym (unlike_comm b a c)

beq_same : (s t : Bool) → cond (beq s t) (inf s) nan ≡ cond (beq t s) (inf t) nan
beq_same true true = refl
beq_same true false = refl
beq_same false true = refl
beq_same false false = refl

pub add_comm_float : (x y : Float) → add binary64 x y ≡ add binary64 y x
unfolding add
add_comm_float nan nan = refl
add_comm_float nan (inf t) = refl
add_comm_float nan (fin t n d) = refl
add_comm_float (inf s) nan = refl
add_comm_float (inf s) (inf t) = beq_same s t
add_comm_float (inf s) (fin t n d) = refl
add_comm_float (fin s m e) nan = refl
add_comm_float (fin s m e) (inf t) = refl
add_comm_float (fin s m e) (fin t n d) =
    sum_comm s t (m * up e * down d) (n * up d * down e) (down e * down d)
    ∙ ap (sum binary64 t (n * up d * down e) s (m * up e * down d)) (mul_comm (down e) (down d))

-- the difference of negated numbers is the difference the other way round
sub_opposite : (x y : Float) → sub binary64 (neg x) (neg y) ≡ sub binary64 y x
unfolding sub
sub_opposite x y = ap (add binary64 (neg x)) (neg-neg y) ∙ add_comm_float (neg x) y

add_right : (x : Float) (s t : Bool) → Alike (add binary64 x (zero_of s)) (add binary64 x (zero_of t))
add_right x s t = rw (add_comm_float x (zero_of s), add_comm_float x (zero_of t)) (add_left x s t)

pub add-alike : {x x' y y' : Float} → Alike x x' → Alike y y' → Alike (add binary64 x y) (add binary64 x' y')
add-alike v w = alike_both (add binary64) add_left add_right v w

neg-zeros : (s t : Bool) → Alike (neg (zero_of s)) (neg (zero_of t))
unfolding neg
neg-zeros s t = inr ((not s, refl), (not t, refl))

neg-alike : {x y : Float} → Alike x y → Alike (neg x) (neg y)
neg-alike v = alike_through neg neg-zeros v

-- a zero of either sign compares alike
below_zero : (s u : Bool) (b : ℕ) → below s 0 u b ≡ below false 0 u b
below_zero false u b = refl
below_zero true false b = let e : 0 + b ≡ b = omega arith in ap (ltb 0) e
below_zero true true b = let l : 0 ≤ b = omega arith in le-ltb b 0 l

pub lt_zero : (y : Float) (s t : Bool) → lt (zero_of s) y ≡ lt (zero_of t) y
unfolding lt
lt_zero nan s t = refl
lt_zero (inf u) s t = refl
lt_zero (fin u n d) s t = rw (zero-mul (down d)) (below_zero s u (n * up d * 1) ∙ sym (below_zero t u (n * up d * 1)))

lt_past_zero : (x : Float) (s t : Bool) → lt x (zero_of s) ≡ lt x (zero_of t)
unfolding neg
lt_past_zero x s t = sym (lt_neg (zero_of s) x) ∙ lt_zero (neg x) (not s) (not t) ∙ lt_neg (zero_of t) x

pub lt_alike : {x' x y' y : Float} → Alike x' x → Alike y' y → lt x' y' ≡ lt x y
lt_alike v w = same_both lt lt_zero lt_past_zero v w

sub-across : {x y : Float} (x' y' : Float) → Across x x' → Across y y' → Alike (sub binary64 x y) (sub binary64 y' x')
unfolding sub
sub-across {x} {y} x' y' r s = subst (Alike (sub binary64 x y)) (sub_opposite x' y') (add-alike r (neg-alike s))

pub real_turns : Turns reals Across
real_turns = record {
  less_turns = λ {x} {x'} {y} {y'} r s. lt_alike r s ∙ lt_neg x' y';
  equal_turns = λ {x} {x'} {y} {y'} r s. eq_alike r s ∙ eq_neg x' y';
  apart_turns = λ {x} {x'} {y} {y'} {z} {z'} {w} {w'} r s u v. lt_alike (sub-across x' y' r s) (sub-across z' w' u v);
}

-- ---- the theorem
whole_searches : (l : List ℤ) (t : ℤ) (method : RoundingMethod) → whole_search (map neg_ℤ l) (neg_ℤ t) (turned method) ≡ whole_search l t method
unfolding whole_search
whole_searches l t method =
    let e : Each Opposite (map neg_ℤ l) l = each_mapped neg_ℤ (λ x. refl) l in
    rw (every-turned whole_admitted whole_admitted (λ x x' r. rw r (admitted-neg x')) (map neg_ℤ l) l e, admitted-neg t, searchable-turned wholes Opposite whole_turns (map neg_ℤ l) l e, search-turned wholes Opposite whole_turns (map neg_ℤ l) l e (neg_ℤ t) t refl method) refl

real_searches : (l : List Float) (t : Float) (method : RoundingMethod) → real_search (map neg l) (neg t) (turned method) ≡ real_search l t method
unfolding real_search
real_searches l t method =
    let e : Each Across (map neg l) l = each_mapped neg (λ x. inl refl) l in
    rw (searchable-turned reals Across real_turns (map neg l) l e, eq_neg t t, each-length (map neg l) l e, exact_stays method, search-turned reals Across real_turns (map neg l) l e (neg t) t (inl refl) method) refl

pub mirror : Mirrored
mirror = record { whole_searches = whole_searches; real_searches = real_searches }
