-- The definitions, opened case by case. Assumes nothing.
use mathlib.Core.Path.{◌≡◌, refl, sym, ap, ◌∙◌}
use mathlib.Core.Bool.{Bool, true, false, not, cond, ◌&&◌}
use mathlib.Core.List.{List}
use Prim.Native.Nat.{ℕ, zero, suc, ◌+◌, ◌-◌, ◌*◌, ◌/◌, ◌%◌, ◌^◌, ◌≤◌, ◌<◌}
use native.Mathlib.Nat.{pow-suc, pow-le-pow_right, zero-lt-suc}
use native.Mathlib.Numerals.{add-one, sub-one}
use native.Mathlib.Omega.{arith}
use lib.Dec.{eqb, leb}
use lib.Ieee.{Float, binary64, sub, mul, lt, le}
use borrow.Author.Tests.{eq-eqb, ne_eqb, le-leb, lt-leb, leb-true}
use Rattle.rounding.specs.Integral.{floor_of, ceil_of}
use Rattle.ranged1d.proofs.Bools.{chosen, both_true}
use Rattle.decimal.proofs.Digits.{tenth_small}
use Rattle.float.specs.declared.Shortened.{Shortened}
use Rattle.float.specs.Shorten.{shorten, one, ten, plain, inner, outer}
use Rattle.float.specs.Text.{sign_of, whole_part, decimals_of}
use Rattle.ranged1d.specs.Answer.{Answer, given, refused, written}
use Rattle.ranged1d.proofs.Answers.{given_is}
use Rattle.float.specs.Calls.{printable}
use Rattle.float.specs.Steps.{Taken, trimmed, parts, parts_of, tail_length, decimals_for}

-- ---- powers of ten
pub pow_more : (k : ℕ) → 10 ^ k * 10 ≡ 10 ^ (k + 1)
pow_more k = sym (pow-suc 10 k) ∙ ap (λ (j : ℕ). 10 ^ j) (sym (add-one k))

pub pow_small : (h : ℕ) → h ≤ 10 → 10 ^ h ≤ 10_000_000_000
pow_small h l = pow-le-pow_right {n = 10} (zero-lt-suc 9) {i = h} {j = 10} l

-- ---- shortening
abbrev pub level : Float → Float → Shortened → Shortened
level n eps r =
    cond (le one eps) (plain n)
    (cond (lt (sub binary64 n (floor_of n)) eps) (plain (floor_of n))
    (cond (lt (sub binary64 (ceil_of n) n) eps) (plain (ceil_of n)) (outer n r)))

pub shorten-none : (k : ℕ) (n eps : Float) → k ≡ 0 → shorten k n eps ≡ plain n
unfolding shorten
shorten-none k n eps h = ap (λ (j : ℕ). shorten j n eps) h

pub shorten-some : (k : ℕ) (n eps : Float) → (k ≡ 0 → ⊥) → shorten k n eps ≡ level n eps (shorten (k - 1) (inner n) (mul binary64 eps ten))
unfolding shorten
shorten-some zero n eps h = absurd (h refl)
shorten-some (suc j) n eps h = ap (λ (i : ℕ). level n eps (shorten i (inner n) (mul binary64 eps ten))) (sym (sub-one (suc j)))

-- a label has no more decimals of its own than the counter says, which is H
pub shorten-few : (k : ℕ) (n eps : Float) → (shorten k n eps).levels ≤ k
unfolding shorten
shorten-few zero n eps = omega arith
shorten-few (suc k) n eps =
    let z : 0 ≤ suc k = omega arith in
    let l : (shorten k (inner n) (mul binary64 eps ten)).levels ≤ k = shorten-few k (inner n) (mul binary64 eps ten) in
    chosen few (le one eps) z (chosen few (lt (sub binary64 n (floor_of n)) eps) z (chosen few (lt (sub binary64 (ceil_of n) n) eps) z (omega arith)))
  where
    few : Shortened → Type 0
    few r = r.levels ≤ suc k

-- ---- decimals without the zeros at their end
pub trim_none : (s : Bool) (w p d : ℕ) → p ≡ 0 → trimmed s w p d ≡ parts s w 0 0
unfolding trimmed
trim_none s w p d h = ap (λ (j : ℕ). trimmed s w j d) h

pub trim_more : (s : Bool) (w p d : ℕ) → (p ≡ 0 → ⊥) → d % 10 ≡ 0 → trimmed s w p d ≡ trimmed s w (p - 1) (d / 10)
unfolding trimmed
trim_more s w zero d h e = absurd (h refl)
trim_more s w (suc j) d h e = rw (eq-eqb (d % 10) 0 e) (ap (λ (i : ℕ). trimmed s w i (d / 10)) (sym (sub-one (suc j))))

pub trim_last : (s : Bool) (w p d : ℕ) → (p ≡ 0 → ⊥) → (d % 10 ≡ 0 → ⊥) → trimmed s w p d ≡ parts s w p d
unfolding trimmed
trim_last s w zero d h e = absurd (h refl)
trim_last s w (suc j) d h e = rw (ne_eqb (d % 10) 0 e)

-- one digit fewer
pub tenth_less : (p d : ℕ) → (p ≡ 0 → ⊥) → d < 10 ^ p → d / 10 < 10 ^ (p - 1)
tenth_less zero d h l = absurd (h refl)
tenth_less (suc p) d h l = let e : suc p - 1 ≡ p = omega arith in rw e (tenth_small d p l)

-- at most k places, and a number that has no more digits
abbrev pub Few : ℕ → Taken → Type 0
Few k t = (t.places ≤ k) × (t.decimals < 10 ^ t.places)

few-more : (k : ℕ) (t : Taken) → Few k t → Few (suc k) t
few-more k t f = let l = f.0 in (omega arith, f.1)

pub trim_few : (s : Bool) (w p d : ℕ) → d < 10 ^ p → Few p (trimmed s w p d)
unfolding trimmed
trim_few s w zero d h = (omega arith, omega arith)
trim_few s w (suc p) d h =
    chosen (Few (suc p)) (eqb (d % 10) 0)
    (few-more p (trimmed s w p (d / 10)) (trim_few s w p (d / 10) (tenth_small d p h))) (omega arith, h)

-- ---- the parts
pub parts_none : (n : Float) (p : ℕ) → p ≡ 0 → parts_of n p ≡ parts (sign_of n) (whole_part n) 0 0
unfolding parts_of trimmed
parts_none n p h = ap (parts_of n) h

pub parts_grown : (n : Float) (p : ℕ) → (p ≡ 0 → ⊥) → 10 ^ p ≤ decimals_of n p → parts_of n p ≡ parts (sign_of n) (whole_part n + 1) 0 0
unfolding parts_of
parts_grown n zero h l = absurd (h refl)
parts_grown n (suc p) h l = rw (le-leb (10 ^ suc p) (decimals_of n (suc p)) l)

pub parts_trim : (n : Float) (p : ℕ) → (p ≡ 0 → ⊥) → decimals_of n p < 10 ^ p → parts_of n p ≡ trimmed (sign_of n) (whole_part n) p (decimals_of n p)
unfolding parts_of
parts_trim n zero h l = absurd (h refl)
parts_trim n (suc p) h l = rw (lt-leb (10 ^ suc p) (decimals_of n (suc p)) l)

-- ---- how long the tail is
pub tail_le : (k e : ℕ) → k ≤ 10 → e ≤ 20 → tail_length k e ≤ 21
tail_le k e h l = chosen (λ (n : ℕ). n ≤ 21) (eqb k 0 && eqb e 0) (omega arith) (omega arith)

-- ---- the decimals that are admitted
module _ (n : Float) (h e : ℕ) where
  pub decimals_none : printable n ≡ false → decimals_for n h e ≡ refused 11
  unfolding decimals_for
  decimals_none a = rw a

  module _ (a : printable n ≡ true) where
    pub decimals_h : 10 < h → decimals_for n h e ≡ refused 12
    unfolding decimals_for
    decimals_h l = rw (a, lt-leb h 10 l)

    module _ (l : h ≤ 10) where
      pub decimals_e : 20 < e → decimals_for n h e ≡ refused 12
      unfolding decimals_for
      decimals_e k = rw (a, le-leb h 10 l, lt-leb e 20 k)

      pub decimals-some : e ≤ 20 → decimals_for n h e ≡ given h
      unfolding decimals_for
      decimals-some k = rw (a, le-leb h 10 l, le-leb e 20 k)

-- a call goes no further than they do
module _ (k h : ℕ) (a b : Bool) where
  pub stops : (rest : Answer ℕ) (text old : List ℕ) → ◌≡◌ {A = Answer ℕ} (refused k) (cond (not a) (refused 11) (cond (not b) (refused 12) (given h)))
      → ◌≡◌ {A = Answer ℕ × List ℕ} (refused k, old) (written (cond (not a) (refused 11) (cond (not b) (refused 12) rest)) text old)
  stops rest text old q = go a b q
    where
      go : (x y : Bool) → ◌≡◌ {A = Answer ℕ} (refused k) (cond (not x) (refused 11) (cond (not y) (refused 12) (given h)))
          → ◌≡◌ {A = Answer ℕ × List ℕ} (refused k, old) (written (cond (not x) (refused 11) (cond (not y) (refused 12) rest)) text old)
      go false y e = ap (λ (r : Answer ℕ). written r text old) e
      go true false e = ap (λ (r : Answer ℕ). written r text old) e
      go true true e = cc

  pub passes : ◌≡◌ {A = Answer ℕ} (given k) (cond (not a) (refused 11) (cond (not b) (refused 12) (given h))) → (a ≡ true) × (b ≡ true) × (k ≡ h)
  passes q = go a b q
    where
      go : (x y : Bool) → ◌≡◌ {A = Answer ℕ} (given k) (cond (not x) (refused 11) (cond (not y) (refused 12) (given h))) → (x ≡ true) × (y ≡ true) × (k ≡ h)
      go false y e = cc
      go true false e = cc
      go true true e = (refl, refl, given_is e)

-- or goes on with them
pub record Admitted (n : Float) (h e k : ℕ) : Type 0 where
  pub has_label : printable n ≡ true
  pub most : h ≤ 10
  pub least : e ≤ 20
  pub same : k ≡ h

pub admitted_from : (n : Float) (h e k : ℕ) → ◌≡◌ {A = Answer ℕ} (given k) (decimals_for n h e) → Admitted n h e k
unfolding decimals_for
admitted_from n h e k q =
    let p = passes k h (printable n) (leb h 10 && leb e 20) q in
    let b = both_true (leb h 10) (leb e 20) p.1 in
    record { has_label = p.0; most = leb-true h 10 b.0; least = leb-true e 20 b.1; same = p.2 }
