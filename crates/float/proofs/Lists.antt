-- Runs of stores, and how long a label is. Assumes nothing.
use mathlib.Core.Path.{◌≡◌, refl, sym, ap, ◌∙◌}
use mathlib.Core.List.{List, [], ◌∷◌, ◌++◌, append-nil, append_assoc}
use mathlib.Core.Bool.{Bool, true, false, cond, ◌&&◌}
use Prim.Native.Nat.{ℕ, suc, ◌+◌, ◌-◌, ◌^◌, ◌≤◌, ◌<◌, max}
use native.Mathlib.Nat.{pos_of_ne-zero}
use native.Mathlib.Omega.{arith}
use lib.Dec.{eqb}
use lib.ListN.{length, set, take, drop, replicate, drop_of_length-le, length-append, length-replicate, length-take, length-drop}
use lib.Seq.{take_at, drop_at, drop-drop}
use Rattle.std.proofs.Common.{length-take-le}
use borrow.Author.Tests.{eqb-true, eqb-false}
use borrow.Rule.Slice.PartMut.{put_mid}
use Rattle.decimal.specs.declared.Text.{Text}
use Rattle.decimal.specs.Print.{long_natural, padded, last_digits}
use Rattle.decimal.proofs.Digits.{digits-most}
use Rattle.ranged1d.specs.Answer.{Answer, given, list_written}
use Rattle.ranged1d.proofs.Answers.{all-written}
use Rattle.float.specs.Text.{filled_up, pointed, front}
use Rattle.float.specs.Steps.{Taken, tail_of, tail_length, bytes_of}
use Rattle.decimal.proofs.LastDigits.{last-length}

-- a text that was filled with blanks, without them
pub text_kept : (w : ℕ) (t : List ℕ) → length t ≤ w → (x : Text w) → x ≡ padded w t → (s : List ℕ) → s ≡ drop x.blanks x.bytes → s ≡ t
text_kept w t h x e s q = q ∙ ap (λ (u : Text w). drop u.blanks u.bytes) e ∙ drop_at (replicate (w - length t) 32) t (w - length t) (length-replicate {A = ℕ} (w - length t) 32)

-- a write behind the head of a list
pub put_behind : (h q zs : List ℕ) (n k : ℕ) → n ≡ length h → k ≡ length zs → put_mid n k (h ++ q) zs ≡ (h ++ zs) ++ drop k q
put_behind h q zs n k e f =
    rw (e, f)
    (ap (λ (a : List ℕ). a ++ (zs ++ drop (length zs) (drop (length h) (h ++ q)))) (take_at h q (length h) refl)
    ∙ ap (λ (a : List ℕ). h ++ (zs ++ drop (length zs) a)) (drop_at h q (length h) refl)
    ∙ sym (append_assoc h zs (drop (length zs) q)))

-- and to its end
pub put_end : (h q zs y : List ℕ) (n k : ℕ) → y ≡ h ++ q → n ≡ length h → length zs ≡ length q → k ≡ length y - n → put_mid n k y zs ≡ h ++ zs
put_end h q zs y n k w e f g =
    let l : k ≡ length zs = omega (arith, ap length w, length-append h q) in
    let d : length q ≤ k = omega arith in
    ap (λ (a : List ℕ). put_mid n k a zs) w ∙ put_behind h q zs n k e l ∙ ap (λ (a : List ℕ). (h ++ zs) ++ a) (drop_of_length-le q d) ∙ append-nil (h ++ zs)

-- ---- how long a number is
pub long_most : (w : ℕ) → length (long_natural w) ≤ 21
long_most w = omega (arith, digits-most 19 w)

pub front-most : (s : Bool) (w : ℕ) → length (front s w) ≤ length (long_natural w) + 1
front-most true w = omega arith
front-most false w = omega arith

pub front_long : (s : Bool) (w : ℕ) → length (front s w) ≤ 21
front_long s w = omega (arith, front-most s w, digits-most 19 w)

-- ---- the tail
pointed-some : (l : List ℕ) → 0 < length l → pointed l ≡ 46 ∷ l
pointed-some [] h = absurd (omega arith)
pointed-some (c ∷ l) h = refl

filled-length : (e : ℕ) (l : List ℕ) → length (filled_up e l) ≡ max (length l) e
filled-length e l = rw (length-append l (replicate (e - length l) 48), length-replicate {A = ℕ} (e - length l) 48) (omega arith)

pub tail_0 : (k d e : ℕ) → e ≤ k → k ≡ 0 → tail_of k d e ≡ []
unfolding last_digits
tail_0 k d e h z =
    let w : e ≡ 0 = omega arith in
    rw (z, w)

-- no room for a tail is left where there is none
pub tail_none : (k d : ℕ) (l : List ℕ) → length l ≡ 0 → tail_length k (length l - 1) ≡ length l → l ≡ tail_of k d (length l - 1)
tail_none k d [] z t = go (eqb k 0) refl t
  where
    go : (a : Bool) → eqb k 0 ≡ a → cond (a && eqb 0 0) 0 (1 + max k 0) ≡ 0 → [] ≡ tail_of k d 0
    go true p h = sym (tail_0 k d 0 (omega arith) (eqb-true k 0 p))
    go false p h = absurd (omega arith)
tail_none k d (x ∷ l) z t = absurd (omega arith)

-- the point, the digits, and zeros to the end
long_tail : (k m : ℕ) → tail_length k m ≡ suc m → (k ≤ m) × (0 < m)
long_tail k m t = go (eqb k 0) (eqb m 0) refl refl t
  where
    go : (a b : Bool) → eqb k 0 ≡ a → eqb m 0 ≡ b → cond (a && b) 0 (1 + max k m) ≡ suc m → (k ≤ m) × (0 < m)
    go true true p q h = absurd (omega arith)
    go true false p q h = (omega (arith, eqb-true k 0 p), pos_of_ne-zero (eqb-false m 0 q))
    go false b p q h = (omega arith, omega (arith, pos_of_ne-zero (eqb-false k 0 p)))

pub tail_point : (k d m : ℕ) (r p zs : List ℕ) → length r ≡ m → tail_length k m ≡ suc m → d < 10 ^ k → p ≡ last_digits k d → zs ≡ replicate (m - k) 48
    → put_mid (1 + k) (length (put_mid 1 (1 + k - 1) (46 ∷ r) p) - (1 + k)) (put_mid 1 (1 + k - 1) (46 ∷ r) p) zs ≡ tail_of k d m
tail_point k d m r p zs e t h f g =
    put_end (46 ∷ p) (drop (1 + k - 1) r) zs (put_mid 1 (1 + k - 1) (46 ∷ r) p) (1 + k) _ refl a b refl
    ∙ rw (f, g) (ap (λ (j : ℕ). 46 ∷ (last_digits k d ++ replicate (m - j) 48)) (sym (last-length k d)) ∙ sym (pointed-some (filled_up m (last_digits k d)) (rw (filled-length m (last_digits k d)) (omega (arith, (long_tail k m t).1)))))
  where
    w : length p ≡ k
    w = ap length f ∙ last-length k d

    a : 1 + k ≡ length (46 ∷ p)
    a = omega (arith, w)

    b : length zs ≡ length (drop (1 + k - 1) r)
    b = omega (arith, (long_tail k m t).0, ap length g, length-replicate {A = ℕ} (m - k) 48, length-drop (1 + k - 1) r)

rest_is : (n : ℕ) (l : List ℕ) → length (take (length l - n) (drop n l)) ≡ length l - n
rest_is n l = simp (length-take, length-drop) (omega arith)

pub tail_put : (k d : ℕ) (l p zs : List ℕ) → (length l ≡ 0 → ⊥) → tail_length k (length l - 1) ≡ length l → d < 10 ^ k
    → p ≡ last_digits (length (take (1 + k - 1) (drop 1 (set l 0 46)))) d
    → zs ≡ replicate (length (take (length (put_mid 1 (1 + k - 1) (set l 0 46) p) - (1 + k)) (drop (1 + k) (put_mid 1 (1 + k - 1) (set l 0 46) p)))) 48
    → put_mid (1 + k) (length (put_mid 1 (1 + k - 1) (set l 0 46) p) - (1 + k)) (put_mid 1 (1 + k - 1) (set l 0 46) p) zs ≡ tail_of k d (length l - 1)
tail_put k d [] p zs z t h f g = absurd (z refl)
tail_put k d (x ∷ r) p zs z t h f g =
    let m : length (x ∷ r) - 1 ≡ length r = omega arith in
    let q : tail_length k (length r) ≡ suc (length r) = rw m at t in
    let n : length (take (1 + k - 1) r) ≡ k = length-take-le (1 + k - 1) r (omega (arith, (long_tail k (length r) q).0)) ∙ omega arith in
    let e : p ≡ last_digits k d = f ∙ ap (λ (j : ℕ). last_digits j d) n in
    rw m (tail_point k d (length r) r p zs refl q h e (g ∙ ap (λ (j : ℕ). replicate j 48) (rest_is (1 + k) (46 ∷ (p ++ drop (1 + k - 1) r)) ∙ omega (arith, length-append p (drop (1 + k - 1) r), length-drop (1 + k - 1) r, ap length e, last-length k d))))

-- ---- the whole label
tail_length_lem : (k d e : ℕ) → d < 10 ^ k → length (tail_of k d e) ≡ tail_length k e
tail_length_lem k d e h = go (eqb k 0) (eqb e 0) refl refl
  where
    some : 0 < max k e → length (tail_of k d e) ≡ 1 + max k e
    some l =
        let p = last-length k d in
        let f : length (filled_up e (last_digits k d)) ≡ max k e = filled-length e (last_digits k d) ∙ ap (λ (j : ℕ). max j e) p in
        rw (pointed-some (filled_up e (last_digits k d)) (omega arith)) (omega arith)

    go : (a b : Bool) → eqb k 0 ≡ a → eqb e 0 ≡ b → length (tail_of k d e) ≡ cond (a && b) 0 (1 + max k e)
    go true true p q = ap length (tail_0 k d e (omega (arith, eqb-true k 0 p, eqb-true e 0 q)) (eqb-true k 0 p))
    go true false p q = some (omega (arith, pos_of_ne-zero (eqb-false e 0 q)))
    go false b p q = some (omega (arith, pos_of_ne-zero (eqb-false k 0 p)))

pub bytes-length : (t : Taken) (e : ℕ) → t.decimals < 10 ^ t.places → length (bytes_of t e) ≡ length (front t.minus t.whole) + tail_length t.places e
unfolding bytes_of
bytes-length t e h =
    length-append (front t.minus t.whole) (tail_of t.places t.decimals e)
    ∙ ap (λ (n : ℕ). length (front t.minus t.whole) + n) (tail_length_lem t.places t.decimals e h)

-- zeros to the end of the tail are zeros to e decimals
tail_less : (k e : ℕ) → tail_length k e - 1 - k ≡ e - k
tail_less k e = go (eqb k 0) (eqb e 0) refl refl
  where
    go : (a b : Bool) → eqb k 0 ≡ a → eqb e 0 ≡ b → cond (a && b) 0 (1 + max k e) - 1 - k ≡ e - k
    go true true p q = omega (arith, eqb-true e 0 q)
    go true false p q = omega arith
    go false b p q = omega arith

tail_same : (k d e : ℕ) → d < 10 ^ k → tail_of k d (tail_length k e - 1) ≡ tail_of k d e
tail_same k d e h =
    let p = last-length k d in
    let j : tail_length k e - 1 - length (last_digits k d) ≡ e - length (last_digits k d) = ap (λ (n : ℕ). tail_length k e - 1 - n) p ∙ tail_less k e ∙ sym (ap (λ (n : ℕ). e - n) p) in
    ap (λ (n : ℕ). pointed (last_digits k d ++ replicate n 48)) j

pub bytes_put : (t : Taken) (e : ℕ) (o w z : List ℕ) (n k : ℕ) → t.decimals < 10 ^ t.places → w ≡ front t.minus t.whole → n ≡ length w → k ≡ tail_length t.places e → n + k ≤ length o
    → z ≡ tail_of t.places t.decimals (length (take (n + k - n) (drop n (w ++ drop n o))) - 1)
    → put_mid n (n + k - n) (w ++ drop n o) z ≡ bytes_of t e ++ drop (length (bytes_of t e)) o
unfolding bytes_of
bytes_put t e o w z n k h a b c l g =
    put_behind w (drop n o) z n (n + k - n) b (omega (arith, ap length q, tail_length_lem t.places t.decimals e h, c))
    ∙ ap (λ (x : List ℕ). (w ++ z) ++ x) (ap (λ (x : ℕ). drop x (drop n o)) j ∙ drop-drop k n o ∙ ap (λ (x : ℕ). drop x o) (sym f))
    ∙ rw (a, q)
  where
    j : n + k - n ≡ k
    j = omega arith

    long : length (take (n + k - n) (drop n (w ++ drop n o))) ≡ tail_length t.places e
    long = rw (j, drop_at w (drop n o) n (sym b)) (length-take-le k (drop n o) (omega (arith, length-drop n o)) ∙ c)

    q : z ≡ tail_of t.places t.decimals e
    q = g ∙ ap (λ (x : ℕ). tail_of t.places t.decimals (x - 1)) long ∙ tail_same t.places t.decimals e h

    f : length (bytes_of t e) ≡ n + k
    f = omega (arith, bytes-length t e h, ap length a, b, c)

-- ---- a text that is written
pub text_held : (n : ℕ) (t old y : List ℕ) → n ≡ length t → length t ≤ length old → y ≡ t ++ drop (length t) old → ◌≡◌ {A = Answer ℕ × List ℕ} (given n, y) (list_written t old)
text_held n t old y e h q = rw (e, q) (all-written t old (length t) refl h)
