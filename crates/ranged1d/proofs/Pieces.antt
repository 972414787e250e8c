-- Lists that are written entry by entry, and lists of bytes piece by piece. Assumes nothing.
use mathlib.Core.Path.{◌≡◌, refl, sym, ap, ◌∙◌}
use mathlib.Core.List.{List, [], ◌∷◌, ◌++◌, append_assoc, append-nil}
use Prim.Native.Nat.{ℕ, suc, ◌+◌, ◌-◌, ◌≤◌, ◌<◌}
use native.Mathlib.Nat.{add_comm}
use native.Mathlib.Numerals.{add-one}
use native.Mathlib.Omega.{arith}
use lib.ListN.{length, get_or, set, take, drop, length-append, length-drop, drop_of_length-le}
use lib.Seq.{drop-cons, take_all, take-length, take_at, drop_at, drop-drop, set_at}
use borrow.Rule.Slice.PartMut.{put_mid}

-- an entry stored behind those that stand at the start of a list; `d` is any entry
pub put_next : {A : Type 0} (d : A) (t : List A) (x : A) (k : ℕ) (o : List A) → length t ≡ k → k < length o → set (t ++ drop k o) k x ≡ (t ++ (x ∷ [])) ++ drop (k + 1) o
put_next d t x k o e h =
    rw (add-one, drop-cons o k d)
    (set_at t (get_or o k d) (drop (suc k) o) x k e ∙ sym (append_assoc t (x ∷ []) (drop (suc k) o)))

-- a text that was copied to the start of a list, and a byte stored behind it
pub put_is : (t : List ℕ) (last : ℕ) (o y : List ℕ) → 1 + length t ≤ length o → y ≡ take (length t) t ++ drop (length t) o → set y (length t) last ≡ (t ++ (last ∷ [])) ++ drop (1 + length t) o
put_is t last o y h e =
    ap (λ (l : List ℕ). set l (length t) last) (e ∙ ap (λ (l : List ℕ). l ++ drop (length t) o) (take-length t))
    ∙ put_next 0 t last (length t) o refl (omega arith)
    ∙ ap (λ (n : ℕ). (t ++ (last ∷ [])) ++ drop n o) (add_comm (length t) 1)

-- a part of a slice that reaches to its end, and the slice with such a part put back
pub rest_is : (a : ℕ) (l : List ℕ) → take (length l - a) (drop a l) ≡ drop a l
rest_is a l = take_all (length l - a) (drop a l) (omega (arith, length-drop a l))

put_rest : (a : ℕ) (l y : List ℕ) → put_mid a (length l - a) l y ≡ take a l ++ y
put_rest a l y =
    let h : length (drop a l) ≤ length l - a = omega (arith, length-drop a l) in
    ap (λ (t : List ℕ). take a l ++ (y ++ t)) (drop_of_length-le (drop a l) h) ∙ ap (λ (t : List ℕ). take a l ++ t) (append-nil y)

-- n bytes r are put at the place a of a list that has p before that place and is as o was from there on
pub put_more : (a n : ℕ) (p r o l y : List ℕ) → length p ≡ a → l ≡ p ++ drop a o → y ≡ r ++ drop n (take (length l - a) (drop a l)) → put_mid a (length l - a) l y ≡ (p ++ r) ++ drop (a + n) o
put_more a n p r o l y c e f =
    put_rest a l y
    ∙ ap (λ (t : List ℕ). take a l ++ t) (rw (rest_is a l) at f)
    ∙ rw (e, take_at p (drop a o) a c, drop_at p (drop a o) a c, drop-drop n a o, append_assoc p r (drop (a + n) o))

pub more_long : (a n : ℕ) (p r o : List ℕ) → length p ≡ a → length r ≡ n → a + n ≤ length o → length ((p ++ r) ++ drop (a + n) o) ≡ length o
more_long a n p r o c d h =
    rw (length-append (p ++ r) (drop (a + n) o), length-append p r, length-drop (a + n) o) (omega arith)
