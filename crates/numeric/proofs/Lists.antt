-- Lists that are made by a rule, `list_of f n`: their length, their entries, and how one is written from the front, one store a turn.
-- Assumes nothing.
use mathlib.Core.Path.{◌≡◌, refl, sym, ap, ap₂, ◌∙◌}
use mathlib.Core.List.{List, [], ◌∷◌, ◌++◌, map, map-append}
use Prim.Native.Nat.{ℕ, zero, suc, ◌+◌, ◌≤◌, ◌<◌}
use native.Mathlib.Omega.{arith}
use native.Mathlib.Numerals.{add-one}
use native.Mathlib.Decide.{dec_le}
use lib.ListN.{length, set, drop, get_or, length-append, get_or-append}
use lib.Seq.{get_or_at}
use Rattle.std.proofs.lemmas.List.{append-nil, drop_all}
use Rattle.ranged1d.proofs.Pieces.{put_next}
use Rattle.numeric.specs.Marks.{list_of}

module _ {A : Type 0} (f : ℕ → A) where
  pub length_of : (n : ℕ) → length (list_of f n) ≡ n
  length_of zero = refl
  length_of (suc n) = omega (arith, length-append (list_of f n) (f n ∷ []), length_of n)

  -- `d` is any element: it stands where a list has none
  pub write_more : (d : A) (k : ℕ) (o : List A) → k < length o → set (list_of f k ++ drop k o) k (f k) ≡ list_of f (k + 1) ++ drop (k + 1) o
  write_more d k o h = put_next d (list_of f k) (f k) k o (length_of k) h ∙ ap (λ (n : ℕ). list_of f n ++ drop (k + 1) o) (sym (add-one k))

  -- once it is written to the end
  pub write_all : (k : ℕ) (o : List A) → k ≤ length o → length o ≤ k → list_of f k ++ drop k o ≡ list_of f (length o)
  write_all k o h m =
      let e : k ≡ length o = omega (arith, h, m) in
      rw (drop_all k o m, append-nil (list_of f k)) (ap (list_of f) e)

  pub entry : (d : A) (n i : ℕ) → i < n → get_or (list_of f n) i d ≡ f i
  entry d zero i h = absurd (omega arith)
  entry d (suc n) i h = go (dec_le (suc i) n) (entry d n i)
    where
      go : Dec (suc i ≤ n) → (i < n → get_or (list_of f n) i d ≡ f i) → get_or (list_of f n ++ (f n ∷ [])) i d ≡ f i
      go (yes l) r = get_or-append (list_of f n) (f n ∷ []) d i (rw (length_of n) l) ∙ r l
      go (no g) r = let same : n ≡ i = omega arith in get_or_at (list_of f n) (f n) [] d i (length_of n ∙ same) ∙ ap f same

  pub list_cons : (n : ℕ) → list_of f (suc n) ≡ f 0 ∷ list_of (λ k. f (suc k)) n
  list_cons zero = refl
  list_cons (suc n) = ap (λ (l : List A). l ++ (f (suc n) ∷ [])) (list_cons n)

pub list_ext : {A : Type 0} (f g : ℕ → A) (n : ℕ) → ((k : ℕ) → k < n → f k ≡ g k) → list_of f n ≡ list_of g n
list_ext f g zero e = refl
list_ext {A} f g (suc n) e = ap₂ (λ (l : List A) (z : A). l ++ (z ∷ [])) (list_ext f g n (λ k h. e k (omega arith))) (e n (omega arith))

pub map_list : {A B : Type 0} (f : A → B) (g : ℕ → A) (n : ℕ) → map f (list_of g n) ≡ list_of (λ k. f (g k)) n
map_list f g zero = refl
map_list {A} {B} f g (suc n) = map-append f (list_of g n) (g n ∷ []) ∙ ap (λ (l : List B). l ++ (f (g n) ∷ [])) (map_list f g n)
