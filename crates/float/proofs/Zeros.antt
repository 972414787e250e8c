-- 02 (b): a label whose digits are all zero has no minus sign, and any other is plotters' text; what that asks of the parts. Assumes nothing.
use mathlib.Core.Path.{◌≡◌, refl, sym, ap, ◌∙◌}
use mathlib.Core.Bool.{Bool, true, false, not, cond, ◌&&◌, and-false, true≢false}
use mathlib.Core.List.{List, [], ◌∷◌, ◌++◌, append_assoc}
use Prim.Native.Nat.{ℕ, zero, suc, ◌+◌, ◌-◌, ◌/◌, ◌%◌, ◌^◌, ◌≤◌, ◌<◌}
use native.Mathlib.Omega.{arith}
use lib.Dec.{ltb, eqb}
use lib.ListN.{length, replicate, length-drop}
use lib.Ieee.{Float, binary64, fits}
use borrow.Author.Tests.{eq-eqb, ne_eqb, eqb-true, eqb-false, le-leb, lt-ltb, ltb-true, ltb-false}
use Rattle.ranged1d.proofs.Bools.{chosen}
use Rattle.rounding.specs.Within.{AtMost}
use Rattle.decimal.specs.Print.{digits, digit}
use Rattle.decimal.proofs.Digits.{tenth_small, digits-one}
use Rattle.float.specs.Shorten.{shorten, tolerance}
use Rattle.float.specs.Text.{sign_of, whole_part, decimals_of, fills_up, decimals, filled_up, pointed, front, shown, plotters_text, is_nonzero, all_zero, has_minus, without_minus, zero_unsigned, label_of}
use Rattle.float.specs.Calls.{printable}
use Rattle.float.specs.Steps.{Taken, parts, trimmed, parts_of, unsigned_parts, tail_of, bytes_of}
use Rattle.float.proofs.Cases.{Few}
use Rattle.decimal.specs.Print.{last_digits}
use Rattle.float.proofs.Bounds.{near}
use Rattle.float.proofs.Casts.{whole_le}
use Rattle.float.proofs.Printed.{parts-few, bytes-shown, whole_grows, text-short}

-- ---- the parts, case by case
pub parts_zero : (t : Taken) → t.whole ≡ 0 → t.places ≡ 0 → unsigned_parts t ≡ parts false 0 0 0
unfolding unsigned_parts
parts_zero t h k = rw (eq-eqb t.whole 0 h, eq-eqb t.places 0 k)

pub parts_whole : (t : Taken) → (t.whole ≡ 0 → ⊥) → unsigned_parts t ≡ t
unfolding unsigned_parts
parts_whole t h = rw (ne_eqb t.whole 0 h)

pub parts-places : (t : Taken) → (t.places ≡ 0 → ⊥) → unsigned_parts t ≡ t
unfolding unsigned_parts
parts-places t h = rw (ne_eqb t.places 0 h, and-false (eqb t.whole 0))

-- ---- digits that are not zero
count-digit : (d : ℕ) → d < 10 → (d ≡ 0 → ⊥) → is_nonzero (digit d) ≡ true
count-digit d h z = rw (lt-ltb 48 (48 + d) (omega (arith, z)), le-leb (48 + d) 57 (omega arith))

not_left : (a b : List ℕ) → all_zero a ≡ false → all_zero (a ++ b) ≡ false
not_left [] b h = absurd (true≢false h)
not_left (x ∷ a) b h = go (is_nonzero x) h (λ q. not_left a b q)
  where
    go : (t : Bool) → (not t && all_zero a) ≡ false → (all_zero a ≡ false → all_zero (a ++ b) ≡ false) → (not t && all_zero (a ++ b)) ≡ false
    go true q r = refl
    go false q r = r q

not_right : (a b : List ℕ) → all_zero b ≡ false → all_zero (a ++ b) ≡ false
not_right [] b h = h
not_right (x ∷ a) b h = rw (not_right a b h, and-false (not (is_nonzero x)))

digits-some : (f n : ℕ) → n < 10 ^ suc f → (n ≡ 0 → ⊥) → all_zero (digits f n) ≡ false
unfolding digits
digits-some zero n h z = rw (count-digit n (omega arith) z)
digits-some (suc f) n h z = go (ltb n 10) refl (λ q. digits-some f (n / 10) (tenth_small n (suc f) h) q)
  where
    go : (t : Bool) → ltb n 10 ≡ t → ((n / 10 ≡ 0 → ⊥) → all_zero (digits f (n / 10)) ≡ false) → all_zero (cond t (digit n ∷ []) (digits f (n / 10) ++ (digit (n % 10) ∷ []))) ≡ false
    go true e r = rw (count-digit n (ltb-true n 10 e) z)
    go false e r = not_left (digits f (n / 10)) (digit (n % 10) ∷ []) (r (λ q. omega (arith, ltb-false n 10 e)))

front-some : (s : Bool) (w : ℕ) → w < 10 ^ 20 → (w ≡ 0 → ⊥) → all_zero (front s w) ≡ false
front-some true w h z = digits-some 19 w h z
front-some false w h z = digits-some 19 w h z

-- ---- decimals whose last is no zero
abbrev Cut : Taken → Type 0
Cut t = (t.places ≡ 0 → ⊥) → t.decimals % 10 ≡ 0 → ⊥

trim_cut : (s : Bool) (w p d : ℕ) → Cut (trimmed s w p d)
unfolding trimmed
trim_cut s w zero d = λ z. absurd (z refl)
trim_cut s w (suc p) d = go (eqb (d % 10) 0) refl (trim_cut s w p (d / 10))
  where
    go : (t : Bool) → eqb (d % 10) 0 ≡ t → Cut (trimmed s w p (d / 10)) → Cut (cond t (trimmed s w p (d / 10)) (parts s w (suc p) d))
    go true e r = r
    go false e r = λ z. eqb-false (d % 10) 0 e

parts_cut : (x : Float) (p : ℕ) → Cut (parts_of x p)
unfolding parts_of
parts_cut x p = chosen Cut (fills_up x p) (λ z. absurd (z refl)) (trim_cut (sign_of x) (whole_part x) p (decimals_of x p))

last_counts : (k d : ℕ) → (k ≡ 0 → ⊥) → (d % 10 ≡ 0 → ⊥) → all_zero (last_digits k d) ≡ false
unfolding last_digits
last_counts zero d z c = absurd (z refl)
last_counts (suc k) d z c =
    not_right (last_digits k (d / 10)) (digit (d % 10) ∷ []) (rw (count-digit (d % 10) (omega arith) c))

pointed_counts : (t : List ℕ) → all_zero t ≡ false → all_zero (pointed t) ≡ false
pointed_counts [] h = h
pointed_counts (c ∷ t) h = h

-- ---- zeros
zeros_zero : (k : ℕ) → all_zero (replicate k 48) ≡ true
zeros_zero zero = refl
zeros_zero (suc k) = zeros_zero k

zeros-pointed : (k : ℕ) → all_zero (pointed (replicate k 48)) ≡ true
zeros-pointed zero = refl
zeros-pointed (suc k) = zeros_zero k

zero_text : (s : Bool) (d e : ℕ) → bytes_of (parts false 0 0 0) e ≡ zero_unsigned (front s 0 ++ tail_of 0 d e)
unfolding bytes_of zero_unsigned last_digits
zero_text true d e = rw (digits-one 19 0 (omega arith)) (rw (zeros-pointed (e - 0)))
zero_text false d e = rw (digits-one 19 0 (omega arith)) (rw (zeros-pointed (e - 0)))

-- ---- the parts without the sign are the text without it
kept : (t : List ℕ) → all_zero t ≡ false → t ≡ zero_unsigned t
unfolding zero_unsigned
kept t h = rw h

unsigned_bytes : (t : Taken) (e : ℕ) → t.whole < 10 ^ 20 → Few 10 t → Cut t → bytes_of (unsigned_parts t) e ≡ zero_unsigned (bytes_of t e)
unfolding bytes_of
unsigned_bytes t e l f c = go (eqb t.whole 0) (eqb t.places 0) refl refl
  where
    go : (a b : Bool) → eqb t.whole 0 ≡ a → eqb t.places 0 ≡ b → bytes_of (unsigned_parts t) e ≡ zero_unsigned (bytes_of t e)
    go true true p q =
        ap (λ (u : Taken). bytes_of u e) (parts_zero t (eqb-true t.whole 0 p) (eqb-true t.places 0 q))
        ∙ zero_text t.minus t.decimals e
        ∙ ap (λ (w : ℕ). zero_unsigned (front t.minus w ++ tail_of 0 t.decimals e)) (sym (eqb-true t.whole 0 p))
        ∙ ap (λ (k : ℕ). zero_unsigned (front t.minus t.whole ++ tail_of k t.decimals e)) (sym (eqb-true t.places 0 q))
    go true false p q =
        let z = eqb-false t.places 0 q in
        ap (λ (u : Taken). bytes_of u e) (parts-places t z)
        ∙ kept (bytes_of t e) (not_right (front t.minus t.whole) (tail_of t.places t.decimals e) (pointed_counts (filled_up e (last_digits t.places t.decimals)) (not_left (last_digits t.places t.decimals) (replicate (e - length (last_digits t.places t.decimals)) 48) (last_counts t.places t.decimals z (c z)))))
    go false b p q =
        let z = eqb-false t.whole 0 p in
        ap (λ (u : Taken). bytes_of u e) (parts_whole t z)
        ∙ kept (bytes_of t e) (not_left (front t.minus t.whole) (tail_of t.places t.decimals e) (front-some t.minus t.whole l z))

pub bytes_unsigned : (x : Float) (p e : ℕ) → p ≤ 10 → AtMost near x → bytes_of (unsigned_parts (parts_of x p)) e ≡ zero_unsigned (shown x p e)
bytes_unsigned x p e l w =
    let f = parts-few x p in
    unsigned_bytes (parts_of x p) e (omega (arith, whole_grows x p, whole_le x w)) (omega (arith, f.0), f.1) (parts_cut x p) ∙ ap zero_unsigned (bytes-shown x p e l)

-- ---- 02 (b), as laws of the label
-- where plotters' text has a digit other than zero, it is the label
pub label_kept : (n : Float) (h e : ℕ) → all_zero (plotters_text n h e) ≡ false → label_of n h e ≡ plotters_text n h e
unfolding label_of
label_kept n h e z = sym (kept (plotters_text n h e) z)

-- and where it has none, the label is that text without a minus sign
pub label_zero : (n : Float) (h e : ℕ) → all_zero (plotters_text n h e) ≡ true → label_of n h e ≡ without_minus (plotters_text n h e)
unfolding label_of zero_unsigned
label_zero n h e z = rw z

-- no text of a whole part has a second sign
digits-first : (f n : ℕ) (r : List ℕ) → has_minus (digits f n ++ r) ≡ false
unfolding digits
digits-first zero n r = ne_eqb (48 + n) 45 (λ q. omega (arith, q))
digits-first (suc f) n r = go (ltb n 10) (digits-first f (n / 10) ((digit (n % 10) ∷ []) ++ r))
  where
    go : (t : Bool) → has_minus (digits f (n / 10) ++ ((digit (n % 10) ∷ []) ++ r)) ≡ false → has_minus (cond t (digit n ∷ []) (digits f (n / 10) ++ (digit (n % 10) ∷ [])) ++ r) ≡ false
    go true q = ne_eqb (48 + n) 45 (λ q. omega (arith, q))
    go false q = ap has_minus (append_assoc (digits f (n / 10)) (digit (n % 10) ∷ []) r) ∙ q

signed_once : (s : Bool) (w : ℕ) (r : List ℕ) → has_minus (without_minus (front s w ++ r)) ≡ false
signed_once true w r = digits-first 19 w r
signed_once false w r = rw (digits-first 19 w r) (digits-first 19 w r)

shown_once : (x : Float) (p e : ℕ) → has_minus (without_minus (shown x p e)) ≡ false
unfolding shown
shown_once x p e =
    chosen (λ (t : List ℕ). has_minus (without_minus t) ≡ false) (fills_up x p)
    (signed_once (sign_of x) (whole_part x + 1) (pointed (filled_up e [])))
    (signed_once (sign_of x) (whole_part x) (pointed (filled_up e (decimals p (decimals_of x p)))))

-- a label has a minus sign exactly where plotters' text has one and a digit other than zero
pub label_minus : (n : Float) (h e : ℕ) → has_minus (label_of n h e) ≡ (has_minus (plotters_text n h e) && not (all_zero (plotters_text n h e)))
unfolding label_of plotters_text zero_unsigned
label_minus n h e = go (plotters_text n h e) (all_zero (plotters_text n h e)) (shown_once (shorten h n (tolerance h)).value (shorten h n (tolerance h)).levels e)
  where
    go : (t : List ℕ) (b : Bool) → has_minus (without_minus t) ≡ false → has_minus (cond b (without_minus t) t) ≡ (has_minus t && not b)
    go t true q = q ∙ sym (and-false (has_minus t))
    go t false q = sym (both (has_minus t))
      where
        both : (c : Bool) → (c && true) ≡ c
        both true = refl
        both false = refl

-- 38 bytes are enough for every label
pub unsigned_shorter : (t : List ℕ) → length (zero_unsigned t) ≤ length t
unfolding zero_unsigned
unsigned_shorter t =
    chosen (λ (u : List ℕ). length u ≤ length t) (all_zero t)
    (chosen (λ (u : List ℕ). length u ≤ length t) (has_minus t) (omega (arith, length-drop 1 t)) (omega arith)) (omega arith)

pub label_short : (n : Float) (h e : ℕ) → fits binary64 n ≡ true → printable n ≡ true → h ≤ 10 → e ≤ 20 → length (label_of n h e) ≤ 38
unfolding label_of
label_short n h e t a l k = omega (arith, unsigned_shorter (plotters_text n h e), text-short n h e t a l k)
