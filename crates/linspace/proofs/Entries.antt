-- Lists that are made by steps, as lists by index: `entries` as `list_of`, and the entries, the order and the length of such a list.
-- Assumes nothing.
use mathlib.Core.Path.{◌≡◌, refl, sym, ap, ◌∙◌}
use mathlib.Core.Bool.{Bool, true, false, cond}
use mathlib.Core.List.{List, [], ◌∷◌}
use Prim.Native.Nat.{ℕ, zero, suc, ◌≤◌, ◌<◌, min}
use native.Mathlib.Nat.{zero-min, min-zero, suc-min-suc}
use native.Mathlib.Omega.{arith}
use borrow.Author.Tests.{lt-ltb}
use lib.Dec.{ltb, leb-suc-suc}
use lib.ListN.{length, get_or, get_or-eq_default}
use Rattle.ranged1d.specs.Answer.{given, none}
use Rattle.numeric.specs.Marks.{list_of}
use Rattle.numeric.proofs.Lists.{entry, length_of, list_cons}
use Rattle.search.specs.Lists.{goes_on, ascends}
use Rattle.linspace.specs.List.{Kind, most, toward, run, entries}
use Rattle.linspace.specs.Calls.{nth, has_entries}
use Rattle.linspace.proofs.Walks.{nth_is, nth_past}

-- steps from f 0 to f 1 and so on, of which exactly the first m pass
pub entries_list : {A : Type 0} (passes : A → Bool) (next : A → A) (f : ℕ → A) (n m : ℕ)
    → ((k : ℕ) → next (f k) ≡ f (suc k)) → ((k : ℕ) → passes (f k) ≡ ltb k m) → entries passes next n (f 0) ≡ list_of f (min n m)
unfolding entries
entries_list passes next f zero m steps stops = rw (zero-min m) refl
entries_list passes next f (suc n) zero steps stops = rw (stops 0, min-zero (suc n)) refl
entries_list {A} passes next f (suc n) (suc m) steps stops =
    rw (stops 0, lt-ltb 0 (suc m) (omega arith), suc-min-suc n m) (
    ap (λ (x : A). f 0 ∷ entries passes next n x) (steps 0)
    ∙ ap (λ (l : List A). f 0 ∷ l) (entries_list passes next (λ k. f (suc k)) n m (λ k. steps (suc k)) (λ k. stops (suc k) ∙ leb-suc-suc (suc k) m))
    ∙ sym (list_cons f (min n m)))

-- where the first passes there is an entry
pub entries-some : {A : Type 0} (passes : A → Bool) (next : A → A) (n : ℕ) (x : A) → passes x ≡ true → has_entries (entries passes next (suc n) x) ≡ true
unfolding entries
entries-some passes next n x e = rw e (lt-ltb 0 (suc (length (entries passes next n (next x)))) (omega arith))

pub run-some : {A : Type 0} (kind : Kind A) (a b d : A) (rises : Bool) → toward kind rises b a ≡ true → has_entries (run kind a b d rises) ≡ true
run-some kind a b d rises e = entries-some (toward kind rises b) (λ x. kind.plus x d) most a e

-- a list that has an entry, if it is listed
pub some_if : {A : Type 0} (t : Bool) (l : List A) → has_entries l ≡ true → t ≡ has_entries (cond t l [])
some_if true l e = sym e
some_if false l e = refl

module _ {A : Type 0} where
  pub nth_list : (f : ℕ → A) (n k : ℕ) → k < n → given (f k) ≡ nth (list_of f n) k
  nth_list f n k h = sym (nth_is (list_of f n) k (f k) (rw (length_of f n) h) ∙ ap given (entry f (f k) n k h))

  pub nth_beyond : (f : ℕ → A) (n k : ℕ) → n ≤ k → none ≡ nth (list_of f n) k
  nth_beyond f n k h = sym (nth_past (list_of f n) k (rw (length_of f n) h))

  pub past_list : (f : ℕ → A) (n k : ℕ) (x : A) → n ≤ k → x ≡ get_or (list_of f n) k x
  past_list f n k x h = sym (get_or-eq_default (list_of f n) x (rw (length_of f n) h))

  goes_list : (lt : A → A → Bool) (f : ℕ → A) (n : ℕ) → ((k : ℕ) → lt (f k) (f (suc k)) ≡ true) → goes_on lt (f 0) (list_of (λ k. f (suc k)) n) ≡ true
  goes_list lt f zero s = refl
  goes_list lt f (suc n) s = rw (list_cons (λ k. f (suc k)) n, s 0) (goes_list lt (λ k. f (suc k)) n (λ k. s (suc k)))

  pub ascends_list : (lt : A → A → Bool) (f : ℕ → A) (n : ℕ) → ((k : ℕ) → lt (f k) (f (suc k)) ≡ true) → ascends lt (list_of f n) ≡ true
  ascends_list lt f zero s = refl
  ascends_list lt f (suc n) s = rw (list_cons f n) (goes_list lt f n s)
