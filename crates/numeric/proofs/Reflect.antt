-- Lists of multiples, turned about zero. Assumes nothing.
use mathlib.Core.Path.{◌≡◌, refl, sym, ap, ap₂, ◌∙◌}
use mathlib.Core.List.{List, [], ◌∷◌, ◌++◌, map, map-append, reverse, reverse-append, reverse-cons}
use Prim.Native.Nat.{ℕ, zero, suc, ◌+◌, ◌-◌, ◌≤◌}
use native.Mathlib.Nat.{add-zero, add-suc}
use native.Mathlib.Omega.{arith}
use lib.IntN.{ℤ, pos, negsuc, neg_ℤ, suc_ℤ, pred_ℤ, ◌+ℤ◌, ◌-ℤ◌, ◌*ℤ◌, +ℤ_one, +ℤ_comm, +ℤ_assoc, neg_ℤ-+ℤ, neg_ℤ-neg_ℤ, suc_ℤ-+ℤ, pred-suc, -ℤ-+ℤ_cancel}
use Rattle.ranged1d.specs.Numbers.{raised}
use Rattle.ranged1d.proofs.Whole.{sub_cases, neg_times}
use Rattle.numeric.specs.Marks.{how_many, multiple, multiples, list_of}
use Rattle.numeric.specs.Mirror.{mirrored}
use Rattle.numeric.proofs.Lists.{list_cons, list_ext}

pub mirrored_snoc : (l : List ℤ) (z : ℤ) → mirrored (l ++ (z ∷ [])) ≡ neg_ℤ z ∷ mirrored l
mirrored_snoc l z = ap reverse (map-append neg_ℤ l (z ∷ [])) ∙ reverse-append (map neg_ℤ l) (neg_ℤ z ∷ [])

pub mirrored_cons : (z : ℤ) (l : List ℤ) → mirrored (z ∷ l) ≡ mirrored l ++ (neg_ℤ z ∷ [])
mirrored_cons z l = reverse-cons (neg_ℤ z) (map neg_ℤ l)

-- n numbers h 0, h 1, .. are the mirror of f 0, f 1, .. where h k and f r are each other's for k + r + 1 = n
pub turned : (n : ℕ) (f h : ℕ → ℤ) → ((k r : ℕ) → k + suc r ≡ n → h k ≡ neg_ℤ (f r)) → list_of h n ≡ mirrored (list_of f n)
turned zero f h e = refl
turned (suc n) f h e =
    list_cons h n
    ∙ ap₂ (λ (z : ℤ) (l : List ℤ). z ∷ l) (e 0 n (omega arith)) (turned n f (λ k. h (suc k)) (λ k r q. e (suc k) r (omega arith)))
    ∙ sym (mirrored_snoc (list_of f n) (f n))

-- as many from -j to -i as from i to j
pub many_turned : (i j : ℤ) → how_many (neg_ℤ j) (neg_ℤ i) ≡ how_many i j
many_turned i j =
    ap raised
    (ap (λ (z : ℤ). neg_ℤ i +ℤ pos 1 +ℤ z) (neg_ℤ-neg_ℤ j)
    ∙ +ℤ_comm (neg_ℤ i +ℤ pos 1) j
    ∙ ap (λ (z : ℤ). j +ℤ z) (+ℤ_comm (neg_ℤ i) (pos 1))
    ∙ sym (+ℤ_assoc j (pos 1) (neg_ℤ i)))

above_zero : (z : ℤ) (n : ℕ) → raised z ≡ suc n → z ≡ pos (suc n)
above_zero (pos a) n e = ap pos e
above_zero (negsuc a) n e = absurd (omega arith)

-- where there are k + r + 1 of them, j is i + k + r
pub last_of : (i j : ℤ) (k r : ℕ) → k + suc r ≡ how_many i j → j ≡ i +ℤ pos (k + r)
last_of i j k r e =
    let z : j +ℤ pos 1 -ℤ i ≡ suc_ℤ (pos (k + r)) = above_zero (j +ℤ pos 1 -ℤ i) (k + r) (sym e ∙ add-suc k r) in
    let w : suc_ℤ j ≡ suc_ℤ (i +ℤ pos (k + r)) = sym (+ℤ_one j) ∙ sym (-ℤ-+ℤ_cancel (j +ℤ pos 1) i) ∙ ap (λ (x : ℤ). x +ℤ i) z ∙ suc_ℤ-+ℤ (pos (k + r)) i ∙ ap suc_ℤ (+ℤ_comm (pos (k + r)) i) in
    sym (pred-suc j) ∙ ap pred_ℤ w ∙ pred-suc (i +ℤ pos (k + r))

index-turned : (i j : ℤ) (k r : ℕ) → k + suc r ≡ how_many i j → neg_ℤ j +ℤ pos k ≡ neg_ℤ (i +ℤ pos r)
index-turned i j k r e =
    ap (λ (z : ℤ). neg_ℤ z +ℤ pos k) (last_of i j k r e ∙ ap (λ (z : ℤ). i +ℤ z) (+ℤ_comm (pos k) (pos r)) ∙ sym (+ℤ_assoc i (pos r) (pos k)))
    ∙ ap (λ (z : ℤ). z +ℤ pos k) (neg_ℤ-+ℤ (i +ℤ pos r) (pos k))
    ∙ -ℤ-+ℤ_cancel (neg_ℤ (i +ℤ pos r)) (pos k)

-- the multiples from -j to -i are the mirror of those from i to j
pub reflect : (i j : ℤ) (s : ℕ) → multiples (neg_ℤ j) (neg_ℤ i) s ≡ mirrored (multiples i j s)
reflect i j s =
    ap (λ (n : ℕ). list_of (multiple (neg_ℤ j) s) n) (many_turned i j)
    ∙ turned (how_many i j) (multiple i s) (multiple (neg_ℤ j) s) (λ k r e. ap (λ (z : ℤ). z *ℤ pos s) (index-turned i j k r e) ∙ neg_times (i +ℤ pos r) s)

-- how many, for numbers that are not negative
pub many_pos : (x y : ℕ) → how_many (pos x) (pos y) ≡ y + 1 - x
many_pos zero y = omega arith
many_pos (suc x) y = sub_cases (y + 1) (suc x) (λ z. raised z ≡ y + 1 - suc x) (λ l. omega arith) (λ l. refl)

-- from i to j, i ≤ j: the first, and those from i + 1 on
pub one_more : (x y s : ℕ) → x ≤ y → multiples (pos x) (pos y) s ≡ (pos x *ℤ pos s) ∷ multiples (pos (suc x)) (pos y) s
one_more x y s h =
    ap (λ (n : ℕ). list_of (multiple (pos x) s) n) (many_pos x y ∙ count)
    ∙ list_cons (multiple (pos x) s) (y + 1 - suc x)
    ∙ ap₂ (λ (z : ℤ) (l : List ℤ). z ∷ l) (ap (λ (n : ℕ). pos n *ℤ pos s) (add-zero x))
    (list_ext (λ k. multiple (pos x) s (suc k)) (multiple (pos (suc x)) s) (y + 1 - suc x) (λ k l. ap (λ (n : ℕ). pos n *ℤ pos s) (shift k))
    ∙ ap (λ (n : ℕ). list_of (multiple (pos (suc x)) s) n) (sym (many_pos (suc x) y)))
  where
    count : y + 1 - x ≡ suc (y + 1 - suc x)
    count = omega arith

    shift : (k : ℕ) → x + suc k ≡ suc x + k
    shift k = omega arith
