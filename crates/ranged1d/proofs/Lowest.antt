-- What `lowest` returns, where the reasons are listed by rising places: if a reason applies, a refusal whose place is no higher than
-- that reason's; if none does, the answer. Then what a given answer and a refusal say of the reasons, and of more of them.
-- Assumes nothing.
use mathlib.Core.Path.{◌≡◌, refl, sym, ap, ◌∙◌, subst}
use mathlib.Core.Bool.{Bool, true, false, cond, not, ◌&&◌}
use mathlib.Core.List.Memᴰ
use mathlib.Core.List.{List, [], ◌∷◌, ◌++◌, Memᴰ}
use mathlib.Core.Logic.{◌⊎◌, inl, inr}
use Prim.Native.Nat.{ℕ, ◌≤◌, ◌<◌}
use native.Mathlib.Omega.{arith}
use borrow.Author.Tests.{not-true}
use lib.Dec.{T, ltb, ltb→lt}
use mir.Facts.{and_yes}
use Rattle.ranged1d.specs.Answer.{Answer, given, none, refused, Reason, ◌when◌, lowest, rank, rising, and_then, none_of}
use Rattle.ranged1d.proofs.Bools.{both_true}
use Rattle.ranged1d.proofs.Answers.{not-both, one-refusal}

-- the place of a reason's number
abbrev place : Reason → ℕ
place r = rank r.number

above : (k : ℕ) (rs : List Reason) → T (rising k rs) → (r : Reason) → Memᴰ r rs → k < rank r.number
above k [] t r m = absurd (Memᴰ.not-nil m)
above k (x ∷ rs) t r m = go (and_yes (ltb k (place x)) (rising (place x) rs) t) (Memᴰ.cases_cons m) (above (place x) rs)
  where
    go : T (ltb k (place x)) × T (rising (place x) rs) → (r ≡ x) ⊎ Memᴰ r rs → (T (rising (place x) rs) → (y : Reason) → Memᴰ y rs → place x < place y) → k < place r
    go both (inl e) rest = rw e (ltb→lt k (place x) both.0)
    go both (inr m) rest = omega (arith, ltb→lt k (place x) both.0, rest both.1 r m)

module _ {A : Type 0} (a : Answer A) where
  pub lowest_is_least : (k : ℕ) (rs : List Reason) → T (rising k rs) → (r : Reason) → Memᴰ r rs → r.applies ≡ true → (n : ℕ) × (lowest rs a ≡ refused n) × (rank n ≤ rank r.number)
  lowest_is_least k [] t r m h = absurd (Memᴰ.not-nil m)
  lowest_is_least k (x ∷ rs) t r m h = go x.applies refl (Memᴰ.cases_cons m) (lowest_is_least (place x) rs (and_yes (ltb k (place x)) (rising (place x) rs) t).1)
    where
      go : (b : Bool) → x.applies ≡ b → (r ≡ x) ⊎ Memᴰ r rs → ((y : Reason) → Memᴰ y rs → y.applies ≡ true → (n : ℕ) × (lowest rs a ≡ refused n) × (rank n ≤ place y))
          → (n : ℕ) × (cond b (refused x.number) (lowest rs a) ≡ refused n) × (rank n ≤ place r)
      go true e (inl q) rest = (x.number, refl, rw q (omega arith))
      go true e (inr q) rest = let l = above (place x) rs (and_yes (ltb k (place x)) (rising (place x) rs) t).1 r q in (x.number, refl, omega (arith, l))
      go false e (inl q) rest = absurd (subst T (sym h ∙ ap (λ (s : Reason). s.applies) q ∙ e) tt)
      go false e (inr q) rest = rest r q h

  pub none-applies : (rs : List Reason) → ((r : Reason) → Memᴰ r rs → r.applies ≡ false) → lowest rs a ≡ a
  none-applies [] h = refl
  none-applies (x ∷ rs) h = rw (h x (Memᴰ.head refl)) (none-applies rs (λ r m. h r (Memᴰ.tail m)))

-- no reason of the list applies, and that as a test
abbrev pub NoneOf : List Reason → Type 0
NoneOf [] = Unit {0}
NoneOf (r ∷ rs) = (r.applies ≡ false) × NoneOf rs

pub none_of_lem : (rs : List Reason) → none_of rs ≡ true → NoneOf rs
none_of_lem [] h = tt
none_of_lem (r ∷ rs) h = let both = both_true (not r.applies) (none_of rs) h in (not-true r.applies both.0, none_of_lem rs both.1)

module _ {A : Type 0} where
  -- where an answer is given no reason applies, and it is the one behind the reasons
  pub given_tests : (rs : List Reason) (a : Answer A) {y : A} → lowest rs a ≡ given y → NoneOf rs × (a ≡ given y)
  given_tests [] a e = (tt, e)
  given_tests (r ∷ rs) a {y} e = go r.applies refl (given_tests rs a) e
    where
      go : (t : Bool) → r.applies ≡ t → (lowest rs a ≡ given y → NoneOf rs × (a ≡ given y)) → cond t (refused r.number) (lowest rs a) ≡ given y → NoneOf (r ∷ rs) × (a ≡ given y)
      go true h rest e = absurd (not-both (sym e))
      go false h rest e = let w = rest e in ((h, w.0), w.1)

  -- a reason counts only where none of those before it applies
  pub next-same : (rs : List Reason) (n : ℕ) (t u : Bool) (more : List Reason) (x : Answer A) → (none_of rs ≡ true → t ≡ u) → lowest (rs ++ (n when t ∷ more)) x ≡ lowest (rs ++ (n when u ∷ more)) x
  next-same [] n t u more x h = rw (h refl) refl
  next-same (r ∷ rs) n t u more x h = go r.applies h (next-same rs n t u more x)
    where
      go : (b : Bool) → ((not b && none_of rs) ≡ true → t ≡ u) → ((none_of rs ≡ true → t ≡ u) → lowest (rs ++ (n when t ∷ more)) x ≡ lowest (rs ++ (n when u ∷ more)) x)
          → cond b (refused r.number) (lowest (rs ++ (n when t ∷ more)) x) ≡ cond b (refused r.number) (lowest (rs ++ (n when u ∷ more)) x)
      go true h rest = refl
      go false h rest = rest h

  pub last-same : (rs : List Reason) (n : ℕ) (t u : Bool) (x : Answer A) → (none_of rs ≡ true → t ≡ u) → lowest (rs ++ (n when t ∷ [])) x ≡ lowest (rs ++ (n when u ∷ [])) x
  last-same rs n t u x h = next-same rs n t u [] x h

  -- reasons that do not apply decide nothing
  pub passed_over : (rs more : List Reason) (a : Answer A) → NoneOf rs → lowest (rs ++ more) a ≡ lowest more a
  passed_over [] more a t = refl
  passed_over (r ∷ rs) more a t = rw t.0 (passed_over rs more a t.1)

  -- there is an answer, or a refusal
  pub either : (x : A) (rs : List Reason) → (lowest rs (given x) ≡ given x) ⊎ ((n : ℕ) × (lowest rs (given x) ≡ refused n))
  either x [] = inl refl
  either x (r ∷ rs) = go r.applies (either x rs)
    where
      go : (t : Bool) → (lowest rs (given x) ≡ given x) ⊎ ((n : ℕ) × (lowest rs (given x) ≡ refused n))
          → (cond t (refused r.number) (lowest rs (given x)) ≡ given x) ⊎ ((n : ℕ) × (cond t (refused r.number) (lowest rs (given x)) ≡ refused n))
      go true w = inr (r.number, refl)
      go false w = w

module _ {A B : Type 0} where
  -- what is refused stays refused with more reasons behind, whatever the answer would be
  pub stops : (rs more : List Reason) (b : Answer B) (x : A) {n : ℕ} → lowest rs (given x) ≡ refused n → lowest (rs ++ more) b ≡ refused n
  stops [] more b x e = absurd (not-both e)
  stops (r ∷ rs) more b x {n} e = go r.applies (stops rs more b x) e
    where
      go : (t : Bool) → (lowest rs (given x) ≡ refused n → lowest (rs ++ more) b ≡ refused n) → cond t (refused r.number) (lowest rs (given x)) ≡ refused n → cond t (refused r.number) (lowest (rs ++ more) b) ≡ refused n
      go true rest e = one-refusal e
      go false rest e = rest e

  -- what is done with an answer is done behind the reasons
  pub lowest_then : (rs : List Reason) (a : Answer A) (f : A → Answer B) → and_then (lowest rs a) f ≡ lowest rs (and_then a f)
  lowest_then [] a f = refl
  lowest_then (r ∷ rs) a f = go r.applies (lowest_then rs a f)
    where
      go : (t : Bool) → and_then (lowest rs a) f ≡ lowest rs (and_then a f) → and_then (cond t (refused r.number) (lowest rs a)) f ≡ cond t (refused r.number) (lowest rs (and_then a f))
      go true e = refl
      go false e = e

  -- an answer, unless what is asked before it is refused
  abbrev pub unless_refused : Answer A → Answer B → Answer B
  unless_refused (given x) b = b
  unless_refused none b = b
  unless_refused (refused n) b = refused n

  -- reasons before an answer that is itself no refusal stand before another answer just so
  pub lowest_unless : (rs : List Reason) (a : Answer A) (b : Answer B) → unless_refused a b ≡ b → unless_refused (lowest rs a) b ≡ lowest rs b
  lowest_unless [] a b h = h
  lowest_unless (r ∷ rs) a b h = go r.applies (lowest_unless rs a b h)
    where
      go : (t : Bool) → unless_refused (lowest rs a) b ≡ lowest rs b → unless_refused (cond t (refused r.number) (lowest rs a)) b ≡ cond t (refused r.number) (lowest rs b)
      go true e = refl
      go false e = e
