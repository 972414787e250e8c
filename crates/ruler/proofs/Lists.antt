-- Records that are put in lent bytes piece by piece. Assumes nothing.
use Rattle.std.proofs.Common.{◌≡◌, ℕ, ◌+◌, ◌≤◌, List, ◌∷◌, ◌++◌, length, take, drop, set, ℤ, w32, of_z, refl, ap, ◌∙◌, arith, append_assoc}
use lib.Seq.{set_split, take_at, drop_at, drop-drop}
use borrow.Rule.Slice.PartMut.{put_mid}
use Rattle.ranged1d.specs.declared.Limit.{Limit}
use Rattle.decimal.specs.Print.{label_of}
use Rattle.ruler.specs.declared.Twist.{Twist}
use Rattle.ruler.specs.declared.Twist.TheVariants.{Plain, S, Z}
use Rattle.ruler.specs.declared.Form.{Form}
use Rattle.ruler.specs.Bytes.{word, whole, kind_byte, twist_bytes, head_long, axis, mark, axis_body, mark_body, laid}
use Rattle.ruler.specs.Steps.{put_word}

-- a list r in place of the m entries from a on, of a list that is as old was from there on
pub put-part : (a m : ℕ) (p r old o y : List ℕ) → length p ≡ a → o ≡ p ++ drop a old → y ≡ r → put_mid a m o y ≡ (p ++ r) ++ drop (a + m) old
put-part a m p r old o y c e f =
    let put : take a o ++ (y ++ drop m (drop a o)) ≡ (p ++ r) ++ drop (a + m) old
    = rw (e, f, take_at p (drop a old) a c, drop_at p (drop a old) a c, drop-drop m a old, append_assoc p r (drop (a + m) old)) in
    put

-- a kind at the start
pub kind_put : (k : ℕ) (old : List ℕ) → 1 ≤ length old → set old 0 k ≡ k ∷ drop 1 old
kind_put k old h = set_split old 0 k (omega arith)

-- the words of the axis's record, behind its kind
pub words_put : (k a b p q m s : ℕ) (old : List ℕ) → 1 ≤ length old → put_word 21 s (put_word 17 m (put_word 13 q (put_word 9 p (put_word 5 b (put_word 1 a (set old 0 k)))))) ≡ k ∷ (word a ++ word b ++ word p ++ word q ++ word m ++ word s ++ drop 25 old)
words_put k a b p q m s old h =
    let rest : drop 4 (drop 4 (drop 4 (drop 4 (drop 4 (drop 4 (drop 1 old)))))) ≡ drop 25 old = simp drop-drop in
    ap (λ (l : List ℕ). put_word 21 s (put_word 17 m (put_word 13 q (put_word 9 p (put_word 5 b (put_word 1 a l)))))) (kind_put k old h)
    ∙ ap (λ (l : List ℕ). k ∷ (word a ++ word b ++ word p ++ word q ++ word m ++ word s ++ l)) rest

-- and the twist behind them
pub head_put : (f : Form) (a b : ℤ) (limit : Limit) (m : ℕ) (s : ℤ) (old : List ℕ) {x t : List ℕ} {n : ℕ} → x ≡ kind_byte f ∷ (whole a ++ whole b ++ whole limit.0 ++ whole limit.1 ++ word m ++ whole s ++ drop 25 old)
    → t ≡ twist_bytes f.twist → n ≡ length t → put_mid 25 n x t ≡ laid (axis f a b limit m s) ++ drop (head_long f) old
unfolding laid axis_body
head_put f a b limit m s old e g h = rw (h, g, e) (go f.twist)
  where
    go : (t : Twist) → put_mid 25 (length (twist_bytes t)) (kind_byte f ∷ (whole a ++ whole b ++ whole limit.0 ++ whole limit.1 ++ word m ++ whole s ++ drop 25 old)) (twist_bytes t)
        ≡ (kind_byte f ∷ (whole a ++ whole b ++ whole limit.0 ++ whole limit.1 ++ word m ++ whole s) ++ twist_bytes t) ++ drop (25 + length (twist_bytes t)) old
    go Plain = refl
    go S = ap (λ (l : List ℕ). kind_byte f ∷ (whole a ++ whole b ++ whole limit.0 ++ whole limit.1 ++ word m ++ whole s ++ (0 ∷ l))) (drop-drop 1 25 old)
    go Z = ap (λ (l : List ℕ). kind_byte f ∷ (whole a ++ whole b ++ whole limit.0 ++ whole limit.1 ++ word m ++ whole s ++ (1 ∷ l))) (drop-drop 1 25 old)

-- the record of a mark: its needle, its place and its label
pub mark_put : (v x : ℤ) (old : List ℕ) {y t : List ℕ} → 1 ≤ length old → y ≡ put_word 5 (of_z w32 x) (put_word 1 (of_z w32 v) (set old 0 2)) → t ≡ label_of v → put_mid 9 11 y t ≡ laid (mark v x) ++ drop 20 old
unfolding laid mark_body
mark_put v x old h e f =
    let rest : drop 11 (drop 4 (drop 4 (drop 1 old))) ≡ drop 20 old = simp drop-drop in
    rw (e, f, kind_put 2 old h) (ap (λ (l : List ℕ). 2 ∷ (whole v ++ whole x ++ (label_of v ++ l))) rest)
