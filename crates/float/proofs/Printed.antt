-- The rule of `print`, case by case; that the parts are written as the rule says; and that plotters' text has at most 38 bytes. Assumes nothing.
use mathlib.Core.Path.{◌≡◌, refl}
use mathlib.Core.Bool.{Bool, true, false, cond, ◌&&◌}
use mathlib.Core.List.{List, []}
use Prim.Native.Nat.{ℕ, zero, suc, ◌+◌, ◌/◌, ◌%◌, ◌^◌, ◌≤◌, ◌<◌}
use native.Mathlib.Omega.{arith}
use lib.Dec.{eqb, leb}
use lib.ListN.{length}
use lib.Ieee.{Float, binary64, fits}
use borrow.Author.Tests.{le-leb, leb-false}
use Rattle.ranged1d.specs.Answer.{Answer, refused, list_written}
use Rattle.ranged1d.proofs.Bools.{chosen}
use Rattle.rounding.specs.Within.{AtMost}
use Rattle.decimal.specs.Print.{long_natural}
use Rattle.decimal.proofs.Digits.{digits-few}
use Rattle.float.specs.Shorten.{shorten, tolerance}
use Rattle.float.specs.Text.{sign_of, whole_part, decimals_of, fills_up, decimals, composed, shown, plotters_text, label_of}
use Rattle.float.specs.Calls.{printable, label_print}
use Rattle.float.specs.Steps.{Taken, parts, parts_of, trimmed, bytes_of, decimals_for}
use Rattle.float.proofs.Cases.{stops, Few, trim_few, tail_le, shorten-few}
use Rattle.decimal.specs.Print.{last_digits}
use Rattle.float.proofs.Decimals.{decimals-kept}
use Rattle.float.proofs.Lists.{front-most, bytes-length}
use Rattle.float.proofs.Bounds.{near, stays_near, printable_at_most}
use Rattle.float.proofs.Casts.{whole-most}

-- ---- the refusals
pub print_stops : (n : Float) (h e k : ℕ) (old : List ℕ) → ◌≡◌ {A = Answer ℕ} (refused k) (decimals_for n h e) → ◌≡◌ {A = Answer ℕ × List ℕ} (refused k, old) (label_print n h e old)
unfolding decimals_for label_print
print_stops n h e k old q = stops k h (printable n) (leb h 10 && leb e 20) _ (label_of n h e) old q

pub print-some : (n : Float) (h e : ℕ) (old : List ℕ) → printable n ≡ true → h ≤ 10 → e ≤ 20 → label_print n h e old ≡ list_written (label_of n h e) old
unfolding label_print
print-some n h e old a l k = rw (a, le-leb h 10 l, le-leb e 20 k)

-- ---- the parts
pub parts-few : (x : Float) (p : ℕ) → Few p (parts_of x p)
unfolding parts_of trimmed
parts-few x zero = (omega arith, omega arith)
parts-few x (suc p) = go (fills_up x (suc p)) refl
  where
    go : (b : Bool) → fills_up x (suc p) ≡ b → Few (suc p) (cond b (parts (sign_of x) (whole_part x + 1) 0 0) (trimmed (sign_of x) (whole_part x) (suc p) (decimals_of x (suc p))))
    go true h = (omega arith, omega arith)
    go false h = trim_few (sign_of x) (whole_part x) (suc p) (decimals_of x (suc p)) (leb-false (10 ^ suc p) (decimals_of x (suc p)) h)

-- the sign and the whole part stay
trim_keeps : (s : Bool) (w p d : ℕ) → ((trimmed s w p d).minus ≡ s) × ((trimmed s w p d).whole ≡ w)
unfolding trimmed
trim_keeps s w zero d = (refl, refl)
trim_keeps s w (suc p) d =
    chosen (λ (t : Taken). (t.minus ≡ s) × (t.whole ≡ w)) (eqb (d % 10) 0) (trim_keeps s w p (d / 10)) (refl, refl)

bytes-kept : (s : Bool) (w p d e : ℕ) → p ≤ 10 → d < 10 ^ p → bytes_of (trimmed s w p d) e ≡ composed s w (decimals p d) e
unfolding bytes_of
bytes-kept s w p d e l h = rw (decimals-kept s w p d l h, (trim_keeps s w p d).0, (trim_keeps s w p d).1)

-- what is written of the parts is the rule's text
pub bytes-shown : (x : Float) (p e : ℕ) → p ≤ 10 → bytes_of (parts_of x p) e ≡ shown x p e
unfolding parts_of shown decimals trimmed bytes_of last_digits
bytes-shown x zero e l = refl
bytes-shown x (suc p) e l = go (fills_up x (suc p)) refl
  where
    go : (b : Bool) → fills_up x (suc p) ≡ b → bytes_of (cond b (parts (sign_of x) (whole_part x + 1) 0 0) (trimmed (sign_of x) (whole_part x) (suc p) (decimals_of x (suc p)))) e
        ≡ cond b (composed (sign_of x) (whole_part x + 1) [] e) (composed (sign_of x) (whole_part x) (decimals (suc p) (decimals_of x (suc p))) e)
    go true h = refl
    go false h = bytes-kept (sign_of x) (whole_part x) (suc p) (decimals_of x (suc p)) e l (leb-false (10 ^ suc p) (decimals_of x (suc p)) h)

-- ---- plotters' text has at most 38 bytes: a sign, 16 digits, and 21 bytes of the point and the decimals
pub whole_grows : (x : Float) (p : ℕ) → (parts_of x p).whole ≤ whole_part x + 1
unfolding parts_of
whole_grows x p = chosen (λ (t : Taken). t.whole ≤ whole_part x + 1) (fills_up x p) (omega arith) kept
  where
    kept : (trimmed (sign_of x) (whole_part x) p (decimals_of x p)).whole ≤ whole_part x + 1
    kept = rw (trim_keeps (sign_of x) (whole_part x) p (decimals_of x p)).1 (omega arith)

-- a number of at most C with e decimals or fewer levels than 10: one byte for the sign, as many as C + 1 has digits, and 21
pub shown-most : (C d : ℕ) (x : Float) (p e : ℕ) → AtMost C x → C + 1 < 10 ^ suc d → p ≤ 10 → e ≤ 20 → length (shown x p e) ≤ 23 + d
shown-most C d x p e w c l k =
    let t = parts_of x p in
    let f = parts-few x p in
    let g = whole_grows x p in
    let a = whole-most C x w in
    let n : length (long_natural t.whole) ≤ suc d = digits-few 19 d t.whole (omega arith) in
    rw (← bytes-shown x p e l, bytes-length t e f.1)
    (omega (arith, front-most t.minus t.whole, tail_le t.places e (omega (arith, f.0)) k))

pub text-short : (n : Float) (h e : ℕ) → fits binary64 n ≡ true → printable n ≡ true → h ≤ 10 → e ≤ 20 → length (plotters_text n h e) ≤ 38
unfolding plotters_text
text-short n h e t a l k =
    let r = shorten h n (tolerance h) in
    let f = shorten-few h n (tolerance h) in
    shown-most near 15 r.value r.levels e (stays_near h n (tolerance h) t (printable_at_most n a)) (omega arith) (omega arith) k
