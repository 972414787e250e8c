-- The reader: its rule by steps, and that printing and reading undo each other. Assumes nothing.
use mathlib.Core.Path.{◌≡◌, refl, ap, ◌∙◌, subst}
use mathlib.Core.Bool.{Bool, true, false, true≢false, cond, ◌&&◌}
use mathlib.Core.List.{List, [], ◌∷◌, ◌++◌}
use Prim.Native.Nat.{ℕ, zero, suc, ◌+◌, ◌-◌, ◌*◌, ◌/◌, ◌%◌, ◌^◌, ◌≤◌, ◌<◌}
use native.Mathlib.Nat.{div-add-mod'}
use native.Mathlib.Omega.{arith}
use borrow.Author.Tests.{ne_eqb, le-leb, lt-leb, leb-true}
use lib.Dec.{leb, eqb}
use lib.Pointwise.{pointwise}
use Rattle.std.specs.Prelude.{Some, None, Result, Ok, Err}
use Rattle.std.specs.Bool.{then_some}
use Rattle.std.specs.Result.{OkIff, result_ok}
use Rattle.ranged1d.specs.Told.{tell_option}
use lib.IntN.{ℤ, pos, negsuc, neg_ℤ, ◌-ℤ◌, +ℤ_idl}
use lib.ListN.{length, get_or, take, length-append, get_or-append}
use mir.Facts.{to_z-of_z, to_z_pos}
use mir.Syntax.{w32, w64}
use mir.Val.{SFits, to_z, of_z}
use Rattle.ranged1d.specs.Answer.{given, none}
use Rattle.ranged1d.specs.Numbers.{is_i32}
use Rattle.ranged1d.proofs.Answers.{choice}
use Rattle.ranged1d.proofs.Bools.{both_true}
use Rattle.ranged1d.proofs.Fits.{fits-i32, not-i32}
use Rattle.decimal.specs.Print.{digit, digits, natural, decimal}
use Rattle.decimal.specs.Read.{value_of, signed_value, same_bytes, read_i32, read_u32}
use Rattle.decimal.proofs.Digits.{digits_by, digits-most, decimal-most}
use Rattle.decimal.proofs.Texts.{same_self, same-equal, same_no}

-- ---- a text's own length
-- digits begin with one, not with a minus sign
pub digits_head : (f n : ℕ) → (0 < length (digits f n)) × (48 ≤ get_or (digits f n) 0 0)
digits_head =
    digits_by (λ n l. (0 < length l) × (48 ≤ get_or l 0 0)) (λ n. (omega arith, omega arith))
    (λ n l h. (omega (arith, length-append l (digit (n % 10) ∷ [])), rw (get_or-append l (digit (n % 10) ∷ []) 0 0 h.0) h.1))

-- a test that fails leaves none
fails : {A : Type 0} (t u : Bool) (a : A) → u ≡ false → cond (t && u) (given a) none ≡ none
fails true u a e = rw e
fails false u a e = refl

-- bytes that are too many are printed of no number
pub no_i32 : (s : List ℕ) → 11 < length s → read_i32 s ≡ none
unfolding read_i32
no_i32 s h = fails (is_i32 (signed_value s)) (same_bytes s (decimal (signed_value s))) (signed_value s) (same_no s (decimal (signed_value s)) (λ e. omega (arith, ap length e, decimal-most (signed_value s))))

pub no_u32 : (s : List ℕ) → 11 < length s → read_u32 s ≡ none
unfolding read_u32
no_u32 s h = fails (leb (value_of 0 s) 4294967295) (same_bytes s (natural (value_of 0 s))) (value_of 0 s) (same_no s (natural (value_of 0 s)) (λ e. omega (arith, ap length e, digits-most 9 (value_of 0 s))))

-- ---- the rule by what the code finds: the value without a minus sign
pub value-plain : (s : List ℕ) → pointwise eqb (take 1 s) (45 ∷ []) ≡ false → signed_value s ≡ pos (value_of 0 s)
unfolding value_of
value-plain [] h = refl
value-plain (c ∷ cs) h = go (eqb c 45) refl h
  where
    go : (t : Bool) → eqb c 45 ≡ t → (t && true) ≡ false → cond (eqb c 45) (neg_ℤ (pos (value_of 0 cs))) (pos (value_of (0 * 10 + (c - 48)) cs)) ≡ pos (value_of (0 * 10 + (c - 48)) cs)
    go true e k = absurd (true≢false k)
    go false e k = rw e

-- a small number's negation, from 64 signed bits
pub bits-minus : (n m : ℕ) → n < 2 ^ 63 → n ≡ m → to_z w64 (of_z w64 (pos 0 -ℤ to_z w64 n)) ≡ neg_ℤ (pos m)
bits-minus n m h e = ap (λ (z : ℤ). to_z w64 (of_z w64 (pos 0 -ℤ z))) (to_z_pos w64 h) ∙ ap (λ (z : ℤ). to_z w64 (of_z w64 z)) (+ℤ_idl (neg_ℤ (pos n))) ∙ to_z-of_z (fits n h) ∙ ap (λ (k : ℕ). neg_ℤ (pos k)) e
  where
    fits : (n : ℕ) → n < 2 ^ 63 → SFits w64 (neg_ℤ (pos n))
    fits zero h = record { sfits = omega arith }
    fits (suc n) h = record { sfits = omega arith }

-- whether the number is of the type
pub missed : {A E : Type 0} (r : Result A E) (P : Type 0) (v : A) → OkIff r P v → None ≡ result_ok r → P → ⊥
missed (Ok x) P v h e = cc
missed (Err e) P v h q = h

pub held : {A E : Type 0} (r : Result A E) (P : Type 0) (v x : A) → OkIff r P v → Some x ≡ result_ok r → P × (x ≡ v)
held (Ok y) P v x h e = let s : x ≡ y = cc in (h.0, s ∙ h.1)
held (Err d) P v x h e = cc

-- and whether the text is what is printed of it
pub same-pointwise : (s t : List ℕ) → pointwise eqb s t ≡ same_bytes s t
unfolding same_bytes
same-pointwise [] [] = refl
same-pointwise [] (y ∷ ys) = refl
same-pointwise (x ∷ xs) [] = refl
same-pointwise (x ∷ xs) (y ∷ ys) = ap (λ (b : Bool). eqb x y && b) (same-pointwise xs ys)

pub same-tested : (b : Bool) (s t u : List ℕ) → b ≡ pointwise eqb s u → u ≡ t → b ≡ same_bytes s t
same-tested b s t u e f = e ∙ same-pointwise s u ∙ ap (same_bytes s) f

pub then-told : {A : Type 0} (b : Bool) (x : A) → tell_option (then_some b x) ≡ cond b (given x) none
then-told true x = refl
then-told false x = refl

module _ (s : List ℕ) where
  module _ (z : ℤ) (e : signed_value s ≡ z) where
    pub i32-missed : (SFits w32 z → ⊥) → read_i32 s ≡ none
    unfolding read_i32
    i32-missed f = rw (e, not-i32 z f)

    pub i32-read : (v : ℤ) (b : Bool) → SFits w32 z → v ≡ z → b ≡ same_bytes s (decimal v) → tell_option (then_some b v) ≡ read_i32 s
    unfolding read_i32
    i32-read v b f m q = then-told b v ∙ rw (e, fits-i32 z f, q, m)

  module _ (n : ℕ) (e : n ≡ value_of 0 s) where
    pub u32-missed : (n < 4294967296 → ⊥) → read_u32 s ≡ none
    unfolding read_u32
    u32-missed f = rw (← e, lt-leb n 4294967295 (omega arith))

    pub u32-read : (v : ℕ) (b : Bool) → n < 4294967296 → v ≡ n → b ≡ same_bytes s (natural v) → tell_option (then_some b v) ≡ read_u32 s
    unfolding read_u32
    u32-read v b l m q = then-told b v ∙ rw (← e, le-leb n 4294967295 (omega arith), q, m)

-- ---- the value of what is printed
pub value-append : (n : ℕ) (l k : List ℕ) → value_of n (l ++ k) ≡ value_of (value_of n l) k
unfolding value_of
value-append n [] k = refl
value-append n (c ∷ cs) k = value-append (n * 10 + (c - 48)) cs k

pub value-digits : (f n : ℕ) → value_of 0 (digits f n) ≡ n
unfolding value_of
value-digits =
    digits_by (λ n l. value_of 0 l ≡ n) (λ n. omega arith)
    (λ n l r. value-append 0 l (digit (n % 10) ∷ []) ∙ ap (λ (x : ℕ). x * 10 + (48 + n % 10 - 48)) r ∙ (let e : n / 10 * 10 + (48 + n % 10 - 48) ≡ n = omega (arith, div-add-mod' n 10) in e))

no-minus : (l : List ℕ) → 0 < length l → 48 ≤ get_or l 0 0 → pointwise eqb (take 1 l) (45 ∷ []) ≡ false
no-minus [] h k = absurd (omega arith)
no-minus (c ∷ cs) h k = rw (ne_eqb c 45 (λ e. omega arith))

pub value-decimal : (z : ℤ) → signed_value (decimal z) ≡ z
value-decimal (pos n) = value-plain (natural n) (no-minus (natural n) (digits_head 9 n).0 (digits_head 9 n).1) ∙ ap pos (value-digits 9 n)
value-decimal (negsuc n) = ap (λ (k : ℕ). neg_ℤ (pos k)) (value-digits 9 (suc n))

-- ---- printing and reading undo each other: the reader accepts exactly what is printed of an i32, of a u32
pub reads_i32 : (z : ℤ) → is_i32 z ≡ true → read_i32 (decimal z) ≡ given z
unfolding read_i32
reads_i32 z h = rw (value-decimal z, h, same_self (decimal z))

pub reads_u32 : (n : ℕ) → n ≤ 4294967295 → read_u32 (natural n) ≡ given n
unfolding read_u32
reads_u32 n h = rw (value-digits 9 n, le-leb n 4294967295 h, same_self (natural n))

holds : {A : Type 0} (t u : Bool) (a b : A) → cond (t && u) (given a) none ≡ given b → (t ≡ true) × (u ≡ true) × (a ≡ b)
holds t u a b e = let h = choice (t && u) a b e in let s = both_true t u h.0 in (s.0, s.1, h.1)

pub printed_i32 : (s : List ℕ) (z : ℤ) → read_i32 s ≡ given z → (is_i32 z ≡ true) × (s ≡ decimal z)
unfolding read_i32
printed_i32 s z e =
    let h = holds (is_i32 (signed_value s)) (same_bytes s (decimal (signed_value s))) (signed_value s) z e in
    (subst (λ (x : ℤ). is_i32 x ≡ true) h.2 h.0, same-equal s (decimal (signed_value s)) h.1 ∙ ap decimal h.2)

pub printed_u32 : (s : List ℕ) (n : ℕ) → read_u32 s ≡ given n → (n ≤ 4294967295) × (s ≡ natural n)
unfolding read_u32
printed_u32 s n e =
    let h = holds (leb (value_of 0 s) 4294967295) (same_bytes s (natural (value_of 0 s))) (value_of 0 s) n e in
    (subst (λ (x : ℕ). x ≤ 4294967295) h.2 (leb-true _ _ h.0), same-equal s (natural (value_of 0 s)) h.1 ∙ ap natural h.2)
