-- The word before a list's first blank. Assumes nothing.
use mathlib.Core.Path.{◌≡◌, refl, sym, ap, ◌∙◌}
use mathlib.Core.Bool.{Bool, true, false, cond, not, true≢false}
use mathlib.Core.List.{List, [], ◌∷◌}
use Prim.Native.Nat.{ℕ, suc, ◌+◌, ◌-◌}
use native.Mathlib.Numerals.{add-one}
use native.Mathlib.Omega.{arith}
use lib.Dec.{eqb, ltb}
use lib.Pointwise.{pointwise}
use lib.ListN.{length, take, drop, length-drop}
use lib.Seq.{take_all}
use Rattle.std.specs.Prelude.{Option, Some, None}
use Rattle.std.specs.List.{position_or_len}
use Rattle.ranged1d.specs.Answer.{Answer, given, none, and_then}
use Rattle.ranged1d.proofs.Bools.{chosen}
use Rattle.decimal.specs.Read.{same_bytes}
use Rattle.decimal.proofs.Reader.{same-pointwise}
use Rattle.line.specs.declared.Request.{Request}
use Rattle.line.specs.Line.{keyword, word, field, parse_numbers, parse_line}

abbrev pub is_blank : ℕ → Bool
is_blank c = eqb c 32

-- it is the front of the list
pub word-front : (s : List ℕ) → take (length (word s)) s ≡ word s
unfolding word
word-front [] = refl
word-front (c ∷ cs) = chosen (λ (l : List ℕ). take (length l) (c ∷ cs) ≡ l) (eqb c 32) refl (ap (λ (l : List ℕ). c ∷ l) (word-front cs))

-- and as long as the first blank's place says
first-blank : (s : List ℕ) → position_or_len is_blank s ≡ length (word s)
unfolding word
first-blank [] = refl
first-blank (c ∷ cs) = go (eqb c 32) (first-blank cs)
  where
    go : (t : Bool) → position_or_len is_blank cs ≡ length (word cs) → cond (not t) (1 + position_or_len is_blank cs) 0 ≡ length (cond t [] (c ∷ word cs))
    go true e = refl
    go false e = omega arith

-- ---- the field, by the place of the first blank
module _ (s : List ℕ) (r : Option ℕ) (found : r ≡ cond (ltb (position_or_len is_blank s) (length s)) (Some (position_or_len is_blank s)) None) where
  by-word : r ≡ cond (ltb (length (word s)) (length s)) (Some (length (word s))) None
  by-word = found ∙ ap (λ (n : ℕ). cond (ltb n (length s)) (Some n) None) (first-blank s)

  pub no-field : r ≡ None → field s ≡ none
  no-field e = go (ltb (length (word s)) (length s)) (sym e ∙ by-word)
    where
      go : (t : Bool) → None ≡ cond t (Some (length (word s))) None → cond {A = Answer (List ℕ × List ℕ)} t (given (word s, drop (suc (length (word s))) s)) none ≡ none
      go true q = cc
      go false q = refl

  pub some-field : (n : ℕ) → r ≡ Some n → field s ≡ given (take n s, take (length s - (n + 1)) (drop (n + 1) s))
  some-field n e = go (ltb (length (word s)) (length s)) (sym e ∙ by-word)
    where
      rest : take (length s - (n + 1)) (drop (n + 1) s) ≡ drop (suc n) s
      rest = rw add-one (take_all (length s - suc n) (drop (suc n) s) (omega (arith, length-drop (suc n) s)))

      go : (t : Bool) → Some n ≡ cond t (Some (length (word s))) None
          → cond {A = Answer (List ℕ × List ℕ)} t (given (word s, drop (suc (length (word s))) s)) none ≡ given (take n s, take (length s - (n + 1)) (drop (n + 1) s))
      go true q = let m : n ≡ length (word s) = cc in rw (rest, m, word-front s) refl
      go false q = cc

-- ---- the word that a line begins with, as the code compares it
module _ (s w k r : List ℕ) (in_front : field s ≡ given (w, r)) (is_keyword : k ≡ keyword) where
  tested : pointwise eqb w k ≡ same_bytes w keyword
  tested = same-pointwise w k ∙ ap (same_bytes w) is_keyword

  pub other-word : true ≡ not (pointwise eqb w k) → ◌≡◌ {A = Answer Request} none (parse_line s)
  unfolding parse_line
  other-word e = rw (in_front, ← tested) (go (pointwise eqb w k) e)
    where
      go : (t : Bool) → true ≡ not t → ◌≡◌ {A = Answer Request} none (and_then (cond t (given r) none) parse_numbers)
      go true q = absurd (true≢false q)
      go false q = refl

  pub right-word : false ≡ not (pointwise eqb w k) → parse_numbers r ≡ parse_line s
  unfolding parse_line
  right-word e = rw (in_front, ← tested) (go (pointwise eqb w k) e)
    where
      go : (t : Bool) → false ≡ not t → parse_numbers r ≡ and_then (cond t (given r) none) parse_numbers
      go true q = refl
      go false q = absurd (true≢false (sym q))
