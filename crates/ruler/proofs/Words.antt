-- Bytes that are compared four at a time. Assumes nothing.
use Rattle.std.proofs.Common.{◌≡◌, ℕ, suc, ◌+◌, ◌*◌, ◌/◌, ◌%◌, ◌^◌, ◌<◌, ◌≤◌, Bool, true, false, eqb, List, [], ◌∷◌, ◌++◌, length, get_or, take, drop, ℤ, sym, ap, ◌∙◌, ap₂, true≢false, arith, length-drop, take-append-drop, take_all, drop-cons, drop-drop, to_z-of_z, w32, SFits, to_z, of_z, eq-eqb, eqb-true}
use Rattle.decimal.specs.Read.{same_bytes}
use Rattle.decimal.proofs.Texts.{same-equal, same_yes, same_no, same_is}
use Rattle.ruler.specs.Bytes.{word, whole, word_at}
use Rattle.ruler.specs.Steps.{four}
use Rattle.ruler.proofs.Numbers.{word_back}

-- ---- four bytes and the number that they are
pub word_of : (a b c d : ℕ) → a < 256 → b < 256 → c < 256 → d < 256 → word (a + b * 256 + c * 65536 + d * 16777216) ≡ a ∷ b ∷ c ∷ d ∷ []
word_of a b c d ha hb hc hd =
    let e : (a + b * 256 + c * 65536 + d * 16777216) % 256 ≡ a = omega arith in
    let f : (a + b * 256 + c * 65536 + d * 16777216) / 256 ≡ b + c * 256 + d * 65536 = omega arith in
    let g : (a + b * 256 + c * 65536 + d * 16777216) / 65536 ≡ c + d * 256 = omega arith in
    let h : (a + b * 256 + c * 65536 + d * 16777216) / 16777216 ≡ d = omega arith in
    let i : (b + c * 256 + d * 65536) % 256 ≡ b = omega arith in
    let j : (c + d * 256) % 256 ≡ c = omega arith in
    let k : d % 256 ≡ d = omega arith in
    rw (e, f, g, h, i, j, k)

module _ (at : ℕ) (l : List ℕ) (h : at + 4 ≤ length l) where
  four_is : four at l ≡ get_or l at 0 ∷ get_or l (at + 1) 0 ∷ get_or l (at + 2) 0 ∷ get_or l (at + 3) 0 ∷ []
  four_is =
      let e : suc at ≡ at + 1 = omega arith in
      let f : suc (at + 1) ≡ at + 2 = omega arith in
      let g : suc (at + 2) ≡ at + 3 = omega arith in
      let here : drop at l ≡ get_or l at 0 ∷ drop (at + 1) l = drop-cons l at 0 (omega arith) ∙ ap (λ (k : ℕ). get_or l at 0 ∷ drop k l) e in
      let two : drop (at + 1) l ≡ get_or l (at + 1) 0 ∷ drop (at + 2) l = drop-cons l (at + 1) 0 (omega arith) ∙ ap (λ (k : ℕ). get_or l (at + 1) 0 ∷ drop k l) f in
      let three : drop (at + 2) l ≡ get_or l (at + 2) 0 ∷ drop (at + 3) l = drop-cons l (at + 2) 0 (omega arith) ∙ ap (λ (k : ℕ). get_or l (at + 2) 0 ∷ drop k l) g in
      ap (take 4) (here ∙ ap (λ (t : List ℕ). get_or l at 0 ∷ t) (two ∙ ap (λ (t : List ℕ). get_or l (at + 1) 0 ∷ t) (three ∙ ap (λ (t : List ℕ). get_or l (at + 2) 0 ∷ t) (drop-cons l (at + 3) 0 (omega arith)))))

  -- the number that they are compared with has the same bytes exactly where it is the same
  pub same_word : ((i : ℕ) → get_or l i 0 < 256) → (x : ℕ) → x < 2 ^ 32 → eqb (word_at l at) x ≡ same_bytes (four at l) (word x)
  same_word small x s =
      same_is (eqb (word_at l at) x) (four at l) (word x)
      (λ e. four_is ∙ sym (word_of (get_or l at 0) (get_or l (at + 1) 0) (get_or l (at + 2) 0) (get_or l (at + 3) 0) (small at) (small (at + 1)) (small (at + 2)) (small (at + 3))) ∙ ap word (eqb-true (word_at l at) x e))
      (λ e. eq-eqb (word_at l at) x (ap (λ (t : List ℕ). word_at t 0) (sym four_is ∙ e) ∙ word_back x s))

-- a piece that was compared with four entries of a list
pub told_by : {r : Bool} (l t : List ℕ) (x at i : ℕ) → i + 4 ≤ length t → ((k : ℕ) → get_or t k 0 < 256) → r ≡ same_bytes (four at l) (word x) → x ≡ word_at t i → r ≡ same_bytes (four at l) (four i t)
told_by l t x at i h small e f =
    e ∙ ap (same_bytes (four at l)) (ap word f ∙ word_of (get_or t i 0) (get_or t (i + 1) 0) (get_or t (i + 2) 0) (get_or t (i + 3) 0) (small i) (small (i + 1)) (small (i + 2)) (small (i + 3)) ∙ sym (four_is i t h))

-- a number that was compared, from the bits that it was handed as
pub by_bits : {r : Bool} {x : ℕ} (l : List ℕ) (at : ℕ) (z : ℤ) → SFits w32 z → r ≡ same_bytes (four at l) (word x) → x ≡ of_z w32 (to_z w32 (of_z w32 z)) → r ≡ same_bytes (four at l) (whole z)
by_bits l at z f e g = e ∙ ap (λ (y : ℕ). same_bytes (four at l) (word y)) (g ∙ ap (of_z w32) (to_z-of_z f))

-- what such a comparison says
pub not_told : {r : Bool} {l t : List ℕ} → r ≡ same_bytes l t → r ≡ false → l ≡ t → ⊥
not_told {r} {l} {t} e n same = true≢false (sym (e ∙ same_yes l t same) ∙ n)

pub well_told : {r : Bool} {l t : List ℕ} → r ≡ same_bytes l t → r ≡ true → l ≡ t
well_told {r} {l} {t} e n = same-equal l t (sym e ∙ n)

-- ---- a list from such pieces
next-four : (at : ℕ) (l : List ℕ) → drop at l ≡ four at l ++ drop (at + 4) l
next-four at l = sym (take-append-drop 4 (drop at l)) ∙ ap (λ (t : List ℕ). four at l ++ t) (drop-drop 4 at l)

-- with a piece that differs, lists differ
pub piece_other : (at : ℕ) (l t : List ℕ) → (four at l ≡ four at t → ⊥) → same_bytes l t ≡ false
piece_other at l t n = same_no l t (λ e. n (ap (four at) e))

pub first-other : (l t : List ℕ) → (get_or l 0 0 ≡ get_or t 0 0 → ⊥) → same_bytes l t ≡ false
first-other l t n = same_no l t (λ e. n (ap (λ (x : List ℕ). get_or x 0 0) e))

-- a mark's record
pub mark-whole : (v x : ℤ) (l t : List ℕ) → 1 ≤ length l → get_or l 0 0 ≡ 2 → four 1 l ≡ whole v → four 5 l ≡ whole x → drop 9 l ≡ t → l ≡ 2 ∷ (whole v ++ (whole x ++ t))
mark-whole v x l t h k ev ex et =
    drop-cons l 0 0 (omega arith)
    ∙ ap₂ (λ (y : ℕ) (u : List ℕ). y ∷ u) k (next-four 1 l ∙ ap₂ (λ (y u : List ℕ). y ++ u) ev (next-four 5 l ∙ ap₂ (λ (y u : List ℕ). y ++ u) ex et))

-- and a piece of it, counted from its label on
pub from_label : (i : ℕ) (l : List ℕ) → four i (drop 9 l) ≡ four (9 + i) l
from_label i l = ap (take 4) (drop-drop i 9 l)

-- the label, of which the last four bytes begin with one of those before
pub label_whole : (l t : List ℕ) → length l ≡ 20 → length t ≡ 11 → four 9 l ≡ four 0 t → four 13 l ≡ four 4 t → four 16 l ≡ four 7 t → drop 9 l ≡ t
label_whole l t hl ht e f g =
    next-four 9 l
    ∙ ap₂ (λ (x y : List ℕ). x ++ y) e (next-four 13 l ∙ ap₂ (λ (x y : List ℕ). x ++ y) f (sym (drop-drop 1 16 l) ∙ ap (drop 1) (sym (take_all 4 (drop 16 l) (omega (arith, length-drop 16 l))) ∙ g ∙ take_all 4 (drop 7 t) (omega (arith, length-drop 7 t))) ∙ drop-drop 1 7 t))
    ∙ sym (next-four 0 t ∙ ap (λ (x : List ℕ). four 0 t ++ x) (next-four 4 t))
