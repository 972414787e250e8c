-- How many minutes pass a test, and the one minute that does. Assumes nothing.
use mathlib.Core.Path.{◌≡◌, refl, sym, ap, ◌∙◌}
use mathlib.Core.Bool.{Bool, true, false, cond, true≢false, ◌||◌}
use mathlib.Core.Logic.{◌⊎◌, inl, inr}
use Prim.Native.Nat.{ℕ, zero, suc, ◌+◌, ◌≤◌, ◌<◌}
use native.Mathlib.Omega.{arith}
use borrow.Author.Tests.{eq-eqb, eqb-true}
use Rattle.ranged1d.specs.Answer.{given, none}
use Rattle.ranged1d.proofs.Answers.{given_is, not_none}
use Rattle.ranged1d.proofs.Bools.{yes_or, le_or}
use Rattle.week.specs.Week.{passing, the_one, gives_minute}

-- ---- how many
module _ (p : ℕ → Bool) where
  pub many_none : passing p 0 ≡ 0
  unfolding passing
  many_none = refl

  -- one minute more
  pub many_yes : (n : ℕ) → p n ≡ true → passing p (suc n) ≡ suc (passing p n)
  unfolding passing
  many_yes n e = rw e

  pub many_no : (n : ℕ) → p n ≡ false → passing p (suc n) ≡ passing p n
  unfolding passing
  many_no n e = rw e

  pub many_zero : (n : ℕ) → ((m : ℕ) → m < n → p m ≡ false) → passing p n ≡ 0
  many_zero zero f = many_none
  many_zero (suc n) f = many_no n (f n (omega arith)) ∙ many_zero n (λ m h. f m (omega arith))

  many_grows : (n : ℕ) → passing p n ≤ passing p (suc n)
  many_grows n = go (yes_or (p n))
    where
      go : (p n ≡ true) ⊎ (p n ≡ false) → passing p n ≤ passing p (suc n)
      go (inl e) = omega (arith, many_yes n e)
      go (inr e) = omega (arith, many_no n e)

  many_mono : (m n : ℕ) → m ≤ n → passing p m ≤ passing p n
  many_mono m zero h = let e : m ≡ 0 = omega arith in rw e (omega arith)
  many_mono m (suc n) h = go (le_or m n) (many_mono m n)
    where
      go : (m ≤ n) ⊎ (n < m) → (m ≤ n → passing p m ≤ passing p n) → passing p m ≤ passing p (suc n)
      go (inl l) r = omega (arith, r l, many_grows n)
      go (inr l) r = let e : m ≡ suc n = omega arith in rw e (omega arith)

  -- a minute that passes counts from the next one on
  pub many_less : (m n : ℕ) → m < n → p m ≡ true → passing p m < passing p n
  many_less m n h e = omega (arith, many_yes m e, many_mono (suc m) n h)

  -- so that no two minutes that pass have as many before them
  pub many_same : (m n : ℕ) → p m ≡ true → p n ≡ true → passing p m ≡ passing p n → m ≡ n
  many_same m n e f q = go (le_or m n) (le_or n m)
    where
      go : (m ≤ n) ⊎ (n < m) → (n ≤ m) ⊎ (m < n) → m ≡ n
      go (inl a) (inl b) = omega arith
      go (inl a) (inr b) = absurd (omega (arith, many_less m n b e))
      go (inr a) b = absurd (omega (arith, many_less n m a f))

  -- each number below the count is the number before one that passes
  pub many_reach : (n r : ℕ) → r < passing p n → (c : ℕ) × (c < n) × (p c ≡ true) × (passing p c ≡ r)
  many_reach zero r h = absurd (omega (arith, many_none))
  many_reach (suc n) r h = go (yes_or (p n)) (le_or (passing p n) r) (many_reach n r)
    where
      further : (c : ℕ) × (c < n) × (p c ≡ true) × (passing p c ≡ r) → (c : ℕ) × (c < suc n) × (p c ≡ true) × (passing p c ≡ r)
      further w = (w.0, omega (arith, w.1), w.2, w.3)

      go : (p n ≡ true) ⊎ (p n ≡ false) → (passing p n ≤ r) ⊎ (r < passing p n) → (r < passing p n → (c : ℕ) × (c < n) × (p c ≡ true) × (passing p c ≡ r)) → (c : ℕ) × (c < suc n) × (p c ≡ true) × (passing p c ≡ r)
      go (inl e) (inl l) rest = (n, omega arith, e, omega (arith, many_yes n e))
      go (inr e) (inl l) rest = absurd (omega (arith, many_no n e))
      go e (inr l) rest = further (rest l)

-- tests of which no minute passes both
pub many_either : (p q : ℕ → Bool) → ((m : ℕ) → p m ≡ true → q m ≡ false) → (n : ℕ) → passing (λ m. p m || q m) n ≡ passing p n + passing q n
many_either p q f zero = rw (many_none (λ m. p m || q m), many_none p, many_none q)
many_either p q f (suc n) = go (yes_or (p n)) (yes_or (q n)) (many_either p q f n)
  where
    either : ℕ → Bool
    either m = p m || q m

    go : (p n ≡ true) ⊎ (p n ≡ false) → (q n ≡ true) ⊎ (q n ≡ false) → passing (λ m. p m || q m) n ≡ passing p n + passing q n
        → passing (λ m. p m || q m) (suc n) ≡ passing p (suc n) + passing q (suc n)
    go (inl e) s r = omega (arith, many_yes (λ m. p m || q m) n (rw e), many_yes p n e, many_no q n (f n e))
    go (inr e) (inl d) r = omega (arith, many_yes (λ m. p m || q m) n (rw (e, d)), many_no p n e, many_yes q n d)
    go (inr e) (inr d) r = omega (arith, many_no (λ m. p m || q m) n (rw (e, d)), many_no p n e, many_no q n d)

-- ---- the one
module _ (q : ℕ → Bool) where
  one_is : (n m : ℕ) → m < n → q m ≡ true → ((k : ℕ) → q k ≡ true → k ≡ m) → the_one q n ≡ given m
  unfolding the_one
  one_is zero m h e u = absurd (omega arith)
  one_is (suc n) m h e u = go (q n) refl (one_is n m)
    where
      go : (t : Bool) → q n ≡ t → (m < n → q m ≡ true → ((k : ℕ) → q k ≡ true → k ≡ m) → the_one q n ≡ given m) → cond t (given n) (the_one q n) ≡ given m
      go true d r = ap given (u n d)
      go false d r = r (other (le_or n m)) e u
        where
          other : (n ≤ m) ⊎ (m < n) → m < n
          other (inl l) = let s : m ≡ n = omega arith in absurd (true≢false (sym e ∙ ap q s ∙ d))
          other (inr l) = l

  one_none : (n : ℕ) → ((k : ℕ) → k < n → q k ≡ false) → the_one q n ≡ none
  unfolding the_one
  one_none zero f = refl
  one_none (suc n) f = rw (f n (omega arith)) (one_none n (λ k h. f k (omega arith)))

  one_tells : (n m : ℕ) → the_one q n ≡ given m → (m < n) × (q m ≡ true)
  unfolding the_one
  one_tells zero m e = absurd (not_none e)
  one_tells (suc n) m e = go (q n) refl e (one_tells n m)
    where
      go : (t : Bool) → q n ≡ t → cond t (given n) (the_one q n) ≡ given m → (the_one q n ≡ given m → (m < n) × (q m ≡ true)) → (m < suc n) × (q m ≡ true)
      go true d e r = let s : n ≡ m = given_is e in (omega arith, ap q (sym s) ∙ d)
      go false d e r = let w = r e in (omega (arith, w.0), w.1)

-- ---- the minute that passes p and has r such minutes before it
module _ (p : ℕ → Bool) (r : ℕ) where
  abbrev pub counted : ℕ → Bool
  counted c = gives_minute r (cond (p c) (given (passing p c)) none)

  is_counted : (c : ℕ) → p c ≡ true → passing p c ≡ r → counted c ≡ true
  is_counted c e s = rw e (eq-eqb (passing p c) r s)

  counted_is : (c : ℕ) → counted c ≡ true → (p c ≡ true) × (passing p c ≡ r)
  counted_is c e = go (p c) refl e
    where
      go : (t : Bool) → p c ≡ t → gives_minute r (cond t (given (passing p c)) none) ≡ true → (p c ≡ true) × (passing p c ≡ r)
      go true d e = (d, eqb-true (passing p c) r e)
      go false d e = absurd (true≢false (sym e))

  pub counted-at : (n c : ℕ) → c < n → p c ≡ true → passing p c ≡ r → the_one counted n ≡ given c
  counted-at n c h e s =
      one_is counted n c h (is_counted c e s) (λ k d. let w = counted_is k d in many_same p k c w.0 e (w.1 ∙ sym s))

  pub counted_tells : (n c : ℕ) → the_one counted n ≡ given c → (c < n) × (p c ≡ true) × (passing p c ≡ r)
  counted_tells n c e = let w = one_tells counted n c e in let v = counted_is c w.1 in (w.0, v.0, v.1)

  pub counted_none : (n : ℕ) → passing p n ≤ r → the_one counted n ≡ none
  counted_none n h = one_none counted n (λ k l. go k l (yes_or (counted k)))
    where
      go : (k : ℕ) → k < n → (counted k ≡ true) ⊎ (counted k ≡ false) → counted k ≡ false
      go k l (inl e) = let w = counted_is k e in absurd (omega (arith, many_less p k n l w.0, w.1))
      go k l (inr e) = e
