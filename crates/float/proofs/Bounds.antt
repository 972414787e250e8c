-- A shortened number stays near the number: from a size below 2 ^ 53 it goes no further than 2 ^ 53 + 2, since each level
-- adds at most 2 to a floor. Assumes nothing.
use mathlib.Core.Path.{◌≡◌, refl, sym, ap, ◌∙◌, subst}
use mathlib.Core.Bool.{Bool, true, false, not, cond, true≢false}
use Prim.Native.Nat.{ℕ, zero, suc, ◌+◌, ◌-◌, ◌*◌, ◌^◌, ◌≤◌, ◌<◌}
use native.Mathlib.Nat.{mul-one, mul_right_comm, mul-pos, mul-le-mul_right, le_trans, le_of_eq}
use native.Mathlib.Omega.{arith}
use lib.Dec.{ltb}
use lib.IntN.{ℤ}
use lib.Ieee.{Float, nan, inf, fin, up, down, binary64, lt, le, neg, round, sum, add, sub, mul, div, of_bits, is_nan, fits}
use lib.Ieee.Fits.{down_pos, mul-fits}
use lib.Ieee.Bits.{is_true}
use lib.Ieee.Exact.{HasValue}
use lib.Ieee.Back.{round_whole}
use borrow.Author.Tests.{ltb-true}
use Rattle.ranged1d.proofs.Bools.{chosen}
use Rattle.rounding.specs.Integral.{Way, floors, ceils, sized, integral, floor_of, ceil_of}
use Rattle.rounding.specs.Within.{AtMost}
use Rattle.rounding.proofs.Small as small
use Rattle.rounding.proofs.Small.{rounded, add_small}
use Rattle.rounding.proofs.Quotients.{Is, sized_le, sized_of}
use Rattle.rounding.proofs.Value.{integral-value}
use Rattle.float.specs.declared.Shortened.{Shortened}
use Rattle.float.specs.Shorten.{shorten, one, ten, inner}
use Rattle.float.specs.Text.{sign_of}
use Rattle.float.specs.Calls.{printable}

-- x is finite, at most C in size and of positive sign
abbrev pub Small : ℕ → Float → Type 0
Small C x = (sign_of x ≡ false) × AtMost C x

-- ---- a rounded fraction
pub sign_round : (s : Bool) (a b : ℕ) → sign_of (round binary64 s a b) ≡ s
sign_round s = rounded (λ (x : Float). sign_of x ≡ s) binary64 s (λ m e. refl) refl

round-one : (a b : ℕ) → 0 < b → a ≤ 1 * b → Small 1 (round binary64 false a b)
round-one a b p h = (sign_round false a b, small.round_small binary64 1 (round_whole binary64 false 1 (omega arith)) false a b p h)

pub wider : (C D : ℕ) (x : Float) → C ≤ D → AtMost C x → AtMost D x
wider C D nan l w = elim w [ ]
wider C D (inf _) l w = elim w [ ]
wider C D (fin s m e) l w = le_trans w (mul-le-mul_right (down e) l)

-- ---- the whole numbers next to x
pub value-within : (y : Float) (s : Bool) (k C : ℕ) → HasValue y s k 1 → k ≤ C → AtMost C y
value-within nan s k C v l = elim v [ ]
value-within (inf _) s k C v l = elim v [ ]
value-within (fin t n d) s k C v l = le_trans (le_of_eq (sym (mul-one (n * up d)) ∙ v.1)) (mul-le-mul_right (down d) l)

way_keeps : (w : Way) (C : ℕ) (x : Float) → fits binary64 x ≡ true → AtMost C x → AtMost C (integral binary64 w x)
way_keeps w C nan t a = elim a [ ]
way_keeps w C (inf _) t a = elim a [ ]
way_keeps w C (fin s m e) t a =
    value-within (integral binary64 w (fin s m e)) s (sized w s (m * up e) (down e)) C (integral-value binary64 w s m e t)
    (sized_le w s (m * up e) (down e) C (down_pos e) a)

-- ---- x less its floor is from 0 to 1
-- a - b for fractions over one divisor, at most one apart
minus_small : (s : Bool) (a b c : ℕ) → 0 < c → (s ≡ false → b ≤ a) → (s ≡ true → a ≤ b) → a ≤ b + c → b ≤ a + c → Small 1 (sum binary64 s a (not s) b c)
unfolding sum
minus_small false a b c p f g l r = go (ltb a b) refl
  where
    go : (t : Bool) → ltb a b ≡ t → Small 1 (cond t (round binary64 true (b - a) c) (round binary64 false (a - b) c))
    go true h = absurd (omega (arith, ltb-true a b h, f refl))
    go false h = round-one (a - b) c p (omega arith)
minus_small true a b c p f g l r = go (ltb a b) (ltb b a) refl refl
  where
    go : (t u : Bool) → ltb a b ≡ t → ltb b a ≡ u → Small 1 (cond t (round binary64 false (b - a) c) (round binary64 u (a - b) c))
    go true u h k = round-one (b - a) c p (omega arith)
    go false true h k = absurd (omega (arith, ltb-true b a k, g refl))
    go false false h k = round-one (a - b) c p (omega arith)

-- what the floor k of n / d says
near-floor : (s : Bool) (n d k : ℕ) → Is floors s n d k → (s ≡ false → k * d ≤ n) × (s ≡ true → n ≤ k * d) × (n ≤ k * d + d) × (k * d ≤ n + d)
near-floor false n d k f = ((λ h. f.0), (λ h. absurd (true≢false (sym h))), omega (arith, f.1), omega (arith, f.0))
near-floor true n d k f = ((λ h. absurd (true≢false h)), (λ h. f.0), omega (arith, f.0), omega (arith, f.1))

less-floor : (s : Bool) (m : ℕ) (e : ℤ) (y : Float) (k : ℕ) → HasValue y s k 1 → Is floors s (m * up e) (down e) k → Small 1 (sub binary64 (fin s m e) y)
unfolding sub add neg
less-floor s m e nan k v f = elim v [ ]
less-floor s m e (inf _) k v f = elim v [ ]
less-floor s m e (fin t n d) k v f =
    let w = near-floor s (m * up e) (down e) k f in
    let D = down d in
    let E = down e in
    let N = m * up e in
    let q : n * up d * E ≡ k * E * D = ap (λ (z : ℕ). z * E) (sym (mul-one (n * up d)) ∙ v.1) ∙ mul_right_comm k D E in
    let x1 : (k * E + E) * D ≡ k * E * D + E * D = native.Mathlib.Nat.add-mul (k * E) E D in
    let x2 : (N + E) * D ≡ N * D + E * D = native.Mathlib.Nat.add-mul N E D in
    subst (λ (u : Bool). Small 1 (sum binary64 s (N * D) (not u) (n * up d * E) (E * D))) (sym v.0)
    (subst (λ (z : ℕ). Small 1 (sum binary64 s (N * D) (not s) z (E * D))) (sym q)
    (minus_small s (N * D) (k * E * D) (E * D) (mul-pos (down_pos e) (down_pos d)) (λ h. mul-le-mul_right D (w.0 h)) (λ h. mul-le-mul_right D (w.1 h))
    (le_trans (mul-le-mul_right D w.2) (le_of_eq x1))
    (le_trans (mul-le-mul_right D w.3) (le_of_eq x2))))

pub part_small : (C : ℕ) (x : Float) → fits binary64 x ≡ true → AtMost C x → Small 1 (sub binary64 x (floor_of x))
part_small C nan t w = elim w [ ]
part_small C (inf _) t w = elim w [ ]
part_small C (fin s m e) t w = less-floor s m e (floor_of (fin s m e)) (sized floors s (m * up e) (down e)) (integral-value binary64 floors s m e t) (sized_of floors s (m * up e) (down e) (down_pos e))

-- ---- a tenth
tenth : (x : Float) → AtMost 16 x → AtMost 2 (div binary64 x ten)
unfolding div of_bits
tenth nan w = elim w [ ]
tenth (inf _) w = elim w [ ]
tenth (fin s m e) w = small.round_small binary64 2 (round_whole binary64 false 2 (omega arith)) _ (m * up e * 1) (10 * down e) (omega (arith, down_pos e)) (omega (arith, w))

-- ---- shortening: what is left behind the floor, ten times; and a level, which adds at most 2 to a floor
inner_small : (C : ℕ) (x : Float) → fits binary64 x ≡ true → AtMost C x → AtMost 10 (inner x)
unfolding of_bits
inner_small C x t w = small.mul_small binary64 10 (round_whole binary64 false 10 (omega arith)) 1 10 (sub binary64 x (floor_of x)) ten (omega arith) (part_small C x t w).1 (omega arith)

inner_fits : (x : Float) → fits binary64 (inner x) ≡ true
inner_fits x = is_true (fits binary64 (inner x)) (mul-fits binary64 (sub binary64 x (floor_of x)) ten)

pub stays : (C D : ℕ) → HasValue (round binary64 false D 1) false D 1 → C + 2 ≤ D → (k : ℕ) (x eps : Float) → fits binary64 x ≡ true → AtMost C x → AtMost D (shorten k x eps).value
unfolding shorten
stays C D exact l zero x eps t w = wider C D x (omega (arith, l)) w
stays C D exact l (suc k) x eps t w =
    let f = way_keeps floors C x t w in
    let g = way_keeps ceils C x t w in
    let r = stays 10 16 (round_whole binary64 false 16 (omega arith)) (omega arith) k (inner x) (mul binary64 eps ten) (inner_fits x) (inner_small C x t w) in
    let d = tenth (shorten k (inner x) (mul binary64 eps ten)).value r in
    chosen within (le one eps) (wider C D x (omega (arith, l)) w)
    (chosen within (lt (sub binary64 x (floor_of x)) eps) (wider C D (floor_of x) (omega (arith, l)) f)
    (chosen within (lt (sub binary64 (ceil_of x) x) eps) (wider C D (ceil_of x) (omega (arith, l)) g)
    (add_small binary64 D exact C 2 (floor_of x) _ l f d)))
  where
    within : Shortened → Type 0
    within r = AtMost D r.value

-- the bound, which is a float
abbrev pub near : ℕ
near = 2 ^ 53 + 2

room : HasValue (round binary64 false near 1) false near 1
unfolding round
room = (refl, refl)

pub stays_near : (k : ℕ) (x eps : Float) → fits binary64 x ≡ true → AtMost (2 ^ 53) x → AtMost near (shorten k x eps).value
stays_near = stays (2 ^ 53) near room (omega arith)

-- ---- what `take_apart` asks
pub at_most_number : (C : ℕ) (x : Float) → AtMost C x → is_nan x ≡ false
unfolding is_nan
at_most_number C nan w = elim w [ ]
at_most_number C (inf _) w = elim w [ ]
at_most_number C (fin s m e) w = refl

pub printable_at_most : (x : Float) → printable x ≡ true → AtMost (2 ^ 53) x
unfolding printable
printable_at_most nan h = true≢false (sym h)
printable_at_most (inf s) h = true≢false (sym h)
printable_at_most (fin s m e) h = let l = ltb-true (m * up e) (2 ^ 53 * down e) h in omega arith
