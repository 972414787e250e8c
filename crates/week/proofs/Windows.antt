-- Windows in order: when the walk over them stops, how many of their minutes come before a minute, and what the walk finds. Assumes nothing.
use mathlib.Core.Path.{◌≡◌, refl, sym, ap, ◌∙◌}
use mathlib.Core.Bool.{Bool, true, false, cond, not, true≢false, ◌&&◌, ◌||◌}
use mathlib.Core.List.{List, [], ◌∷◌}
use mathlib.Core.Logic.{◌⊎◌, inl, inr}
use Prim.Native.Nat.{ℕ, zero, suc, ◌+◌, ◌-◌, ◌%◌, ◌≤◌, ◌<◌}
use native.Mathlib.Omega.{arith}
use borrow.Author.Tests.{le-leb, lt-leb, lt-ltb, le-ltb, leb-true, ltb-true}
use lib.Dec.{leb, ltb, eqb}
use lib.ListN.{length}
use Rattle.ranged1d.specs.Answer.{Answer, given, refused}
use Rattle.ranged1d.proofs.Bools.{both_true, or_right, yes_or, le_or}
use Rattle.week.specs.Week.{Window, windows_of, meets, misplaced, in_window, runs, passing}
use Rattle.week.specs.Theorems.{lengths}
use Rattle.week.specs.Steps.{fits_from, carried_to, running_in, clock_in, or_before, walked}
use Rattle.week.specs.declared.Counted.{Counted}
use Rattle.week.proofs.Counts.{many_none, many_yes, many_no, many_zero, many_either}

-- ---- the tests of the walk, all together: k is the least minute at which the next window may begin
abbrev pub okay : ℕ → List ℕ → Bool
okay k [] = true
okay k (a ∷ []) = false
okay k (a ∷ (e ∷ l)) = fits_from k a e && okay (e + 1) l

either : (b c : Bool) (w : Answer ℕ) → (b && c) ≡ false → (c ≡ false → w ≡ refused 26) → cond b w (refused 26) ≡ refused 26
either true c w h r = r h
either false c w h r = refl

-- where one fails the walk is refused
pub walk_refused : (f : Counted → Answer ℕ) (k seen : ℕ) (found : Answer ℕ) (l : List ℕ) → okay k l ≡ false → walked f k seen found l ≡ refused 26
unfolding walked
walk_refused f k seen found [] h = absurd (true≢false h)
walk_refused f k seen found (a ∷ []) h = refl
walk_refused f k seen found (a ∷ (e ∷ l)) h = either (fits_from k a e) _ _ h (walk_refused f (e + 1) (seen + (e - a)) (or_before (f (record { first = a; end = e; seen = seen })) found) l)

-- ---- they are the tests of the rule
later : (x a : ℕ) → leb (x + 1) a ≡ not (leb a x)
later x a = go (le_or a x)
  where
    go : (a ≤ x) ⊎ (x < a) → leb (x + 1) a ≡ not (leb a x)
    go (inl h) = rw (le-leb a x h, lt-leb (x + 1) a (omega arith))
    go (inr h) = rw (lt-leb a x h, le-leb (x + 1) a (omega arith))

some : (a e : ℕ) → ltb a e ≡ not (leb e a)
some a e = go (le_or e a)
  where
    go : (e ≤ a) ⊎ (a < e) → ltb a e ≡ not (leb e a)
    go (inl h) = rw (le-leb e a h, le-ltb a e h)
    go (inr h) = rw (lt-leb e a h, lt-ltb a e h)

at_most : (n e : ℕ) → leb e n ≡ not (ltb n e)
at_most n e = go (le_or e n)
  where
    go : (e ≤ n) ⊎ (n < e) → leb e n ≡ not (ltb n e)
    go (inl h) = rw (le-leb e n h, le-ltb n e h)
    go (inr h) = rw (lt-leb e n h, lt-ltb n e h)

parity : (n : ℕ) → suc (suc n) % 2 ≡ n % 2
parity n = omega arith

-- two numbers for each window, and one that may stand alone
pub halves : (l : List ℕ) → length l ≡ length (windows_of l) + length (windows_of l) + length l % 2
halves [] = refl
halves (a ∷ []) = refl
halves (a ∷ (e ∷ l)) = omega (arith, halves l, parity (length l))

none_of_five : (a b c d e : Bool) → ((not a && (not b && not c)) && not (d || e)) ≡ not (d || (a || ((b || c) || e)))
none_of_five true b c true e = refl
none_of_five true b c false e = refl
none_of_five false true c true e = refl
none_of_five false true c false e = refl
none_of_five false false true true e = refl
none_of_five false false true false e = refl
none_of_five false false false true e = refl
none_of_five false false false false e = refl

okay_behind : (v : Window) (l : List ℕ) → okay (v.end + 1) l ≡ not (eqb (length l % 2) 1 || (meets v (windows_of l) || misplaced (windows_of l)))
okay_behind v [] = refl
okay_behind v (a ∷ []) = refl
okay_behind v (a ∷ (e ∷ l)) =
    let u : Window = record { first = a; end = e } in
    rw (later v.end a, some a e, at_most 10080 e, okay_behind u l, parity (length l))
    (none_of_five (leb a v.end) (leb e a) (ltb 10080 e) (eqb (length l % 2) 1) (meets u (windows_of l) || misplaced (windows_of l)))

pub okay_all : (l : List ℕ) → okay 0 l ≡ not (eqb (length l % 2) 1 || misplaced (windows_of l))
okay_all [] = refl
okay_all (a ∷ []) = refl
okay_all (a ∷ (e ∷ l)) =
    let u : Window = record { first = a; end = e } in
    rw (le-leb 0 a (omega arith), some a e, at_most 10080 e, okay_behind u l, parity (length l))
    (none_of_five false (leb e a) (ltb 10080 e) (eqb (length l % 2) 1) (meets u (windows_of l) || misplaced (windows_of l)))

-- ---- windows in order, each from k on
abbrev pub Fine : ℕ → List Window → Type 0
Fine k [] = Unit {0}
Fine k (v ∷ w) = (k ≤ v.first) × (v.first < v.end) × (v.end ≤ 10080) × Fine (v.end + 1) w

pub okay_fine : (k : ℕ) (l : List ℕ) → okay k l ≡ true → Fine k (windows_of l)
okay_fine k [] h = tt
okay_fine k (a ∷ []) h = absurd (true≢false (sym h))
okay_fine k (a ∷ (e ∷ l)) h =
    let b = both_true (fits_from k a e) (okay (e + 1) l) h in
    let f = both_true (leb k a) (ltb a e && leb e 10080) b.0 in
    let g = both_true (ltb a e) (leb e 10080) f.1 in
    (leb-true k a f.0, ltb-true a e g.0, leb-true e 10080 g.1, okay_fine (e + 1) l b.1)

-- ---- no window has a minute before k
pub early : (k : ℕ) (w : List Window) → Fine k w → (m : ℕ) → m < k → runs w m ≡ false
early k [] f m h = refl
early k (v ∷ w) f m h = rw (lt-leb v.first m (omega (arith, f.0)), early (v.end + 1) w f.3 m (omega (arith, f.0, f.1)))

-- ---- how many minutes of one window come before n
module _ (v : Window) where
  many_before : (n : ℕ) → n ≤ v.first → passing (in_window v) n ≡ 0
  many_before zero h = many_none (in_window v)
  many_before (suc n) h = many_no (in_window v) n (rw (lt-leb v.first n h)) ∙ many_before n (omega arith)

  many_inside : (n : ℕ) → v.first ≤ n → n ≤ v.end → passing (in_window v) n ≡ n - v.first
  many_inside zero h l = many_none (in_window v) ∙ omega arith
  many_inside (suc n) h l = go (le_or v.first n) (many_inside n)
    where
      go : (v.first ≤ n) ⊎ (n < v.first) → (v.first ≤ n → n ≤ v.end → passing (in_window v) n ≡ n - v.first) → passing (in_window v) (suc n) ≡ suc n - v.first
      go (inl q) r = omega (arith, many_yes (in_window v) n (rw (le-leb v.first n q, lt-ltb n v.end l)), r q (omega arith))
      go (inr q) r = omega (arith, many_before (suc n) (omega arith))

  many_after : (n : ℕ) → v.first ≤ v.end → v.end ≤ n → passing (in_window v) n ≡ v.end - v.first
  many_after zero h l = many_none (in_window v) ∙ omega arith
  many_after (suc n) h l = go (le_or v.end n) (many_after n h)
    where
      go : (v.end ≤ n) ⊎ (n < v.end) → (v.end ≤ n → passing (in_window v) n ≡ v.end - v.first) → passing (in_window v) (suc n) ≡ v.end - v.first
      go (inl q) r = many_no (in_window v) n (rw (le-leb v.first n (omega arith), le-ltb n v.end q)) ∙ r q
      go (inr q) r = omega (arith, many_inside (suc n) (omega arith) (omega arith))

  -- outside
  not_within : (m : ℕ) → (m < v.first) ⊎ (v.end ≤ m) → in_window v m ≡ false
  not_within m (inl h) = rw (lt-leb v.first m h)
  not_within m (inr h) = rw (le-ltb m v.end h) (off (leb v.first m))
    where
      off : (t : Bool) → (t && false) ≡ false
      off true = refl
      off false = refl

-- ---- a window, and those behind it
module _ (k : ℕ) (v : Window) (w : List Window) (f : Fine k (v ∷ w)) where
  apart : (m : ℕ) → in_window v m ≡ true → runs w m ≡ false
  apart m h = early (v.end + 1) w f.3 m (omega (arith, ltb-true m v.end (both_true (leb v.first m) (ltb m v.end) h).1))

  -- one that has a minute of those behind it before it, or is one, comes after the window
  beyond : (m : ℕ) → runs w m ≡ true → v.end < m
  beyond m h = go (le_or m v.end)
    where
      go : (m ≤ v.end) ⊎ (v.end < m) → v.end < m
      go (inl l) = absurd (true≢false (sym h ∙ early (v.end + 1) w f.3 m (omega arith)))
      go (inr l) = l

  many_both : (n : ℕ) → passing (runs (v ∷ w)) n ≡ passing (in_window v) n + passing (runs w) n
  many_both n = many_either (in_window v) (runs w) apart n

-- the total is the sum of the lengths
pub total_is : (k : ℕ) (w : List Window) → Fine k w → passing (runs w) 10080 ≡ lengths w
total_is k [] f = many_zero (runs []) 10080 (λ m h. refl)
total_is k (v ∷ w) f = omega (arith, many_both k v w f 10080, many_after v 10080 (omega (arith, f.1)) f.2, total_is (v.end + 1) w f.3)

pub before-end : (k : ℕ) (w : List Window) → Fine k w → (m : ℕ) → runs w m ≡ true → m < 10080
before-end k [] f m h = absurd (true≢false (sym h))
before-end k (v ∷ w) f m h = go (yes_or (in_window v m)) (before-end (v.end + 1) w f.3 m)
  where
    go : (in_window v m ≡ true) ⊎ (in_window v m ≡ false) → (runs w m ≡ true → m < 10080) → m < 10080
    go (inl e) r = omega (arith, ltb-true m v.end (both_true (leb v.first m) (ltb m v.end) e).1, f.2)
    go (inr e) r = r (rw e at h)

-- ---- what the walk finds: in a window, else before
abbrev carried_over : Answer ℕ → ℕ → ℕ → ℕ → ℕ → Answer ℕ
carried_over found from n to x = or_before (carried_to from n to x) found

carry_in : (found : Answer ℕ) (from n to x : ℕ) → from ≤ x → x < from + n → carried_over found from n to x ≡ given (to + (x - from))
unfolding carried_to
carry_in found from n to x h l = rw (le-leb from x h, lt-ltb x (from + n) l)

carry_out : (found : Answer ℕ) (from n to x : ℕ) → (x < from) ⊎ (from + n ≤ x) → carried_over found from n to x ≡ found
unfolding carried_to
carry_out found from n to x (inl l) = rw (lt-leb from x l)
carry_out found from n to x (inr l) = rw (le-leb from x (omega arith), le-ltb x (from + n) l)

-- of a clock minute: outside the windows what was found before; else its running minute, with `seen` minutes more
abbrev pub ByClock : ℕ → ℕ → Answer ℕ → List Window → Answer ℕ → Type 0
ByClock x seen found w a = (runs w x ≡ false → a ≡ found) × (runs w x ≡ true → a ≡ given (seen + passing (runs w) x))

-- of a running minute: outside those of the windows, of which the first is `seen`, what was found before; else the clock minute
abbrev pub ByRunning : ℕ → ℕ → Answer ℕ → List Window → Answer ℕ → Type 0
ByRunning x seen found w a =
    ((x < seen) ⊎ (seen + lengths w ≤ x) → a ≡ found)
    × (seen ≤ x → x < seen + lengths w → (c : ℕ) × (a ≡ given c) × (runs w c ≡ true) × (seen + passing (runs w) c ≡ x))

module _ (k x seen : ℕ) (found : Answer ℕ) (v : Window) (w : List Window) (f : Fine k (v ∷ w)) (a : Answer ℕ) where
  -- minutes up to the window's end, of which none belongs to a window behind it
  up_to_end : (n : ℕ) → n ≤ v.end → passing (runs w) n ≡ 0
  up_to_end n h = many_zero (runs w) n (λ m l. early (v.end + 1) w f.3 m (omega arith))

  inside : (n : ℕ) → v.first ≤ n → n < v.end → passing (runs (v ∷ w)) n ≡ n - v.first
  inside n h l = omega (arith, many_both k v w f n, many_inside v n h (omega arith), up_to_end n (omega arith))

  behind : (n : ℕ) → v.end < n → passing (runs (v ∷ w)) n ≡ (v.end - v.first) + passing (runs w) n
  behind n h = omega (arith, many_both k v w f n, many_after v n (omega (arith, f.1)) (omega arith))

  within_yes : (m : ℕ) → v.first ≤ m → m < v.end → runs (v ∷ w) m ≡ true
  within_yes m h l = rw (le-leb v.first m h, lt-ltb m v.end l)

  step_clock : ByClock x (seen + (v.end - v.first)) (carried_over found v.first (v.end - v.first) seen x) w a → ByClock x seen found (v ∷ w) a
  step_clock r = go (le_or v.first x) (le_or v.end x)
    where
      outside : (x < v.first) ⊎ (v.first + (v.end - v.first) ≤ x) → in_window v x ≡ false → ByClock x seen found (v ∷ w) a
      outside o e = (
        λ d. r.0 (rw e at d) ∙ carry_out found v.first (v.end - v.first) seen x o,
        λ d. let t : runs w x ≡ true = rw e at d in
            r.1 t ∙ ap (λ (n : ℕ). given n) (let s : seen + (v.end - v.first) + passing (runs w) x ≡ seen + passing (runs (v ∷ w)) x = omega (arith, behind x (beyond k v w f x t)) in s),
      )

      go : (v.first ≤ x) ⊎ (x < v.first) → (v.end ≤ x) ⊎ (x < v.end) → ByClock x seen found (v ∷ w) a
      go (inr h) q = outside (inl h) (not_within v x (inl h))
      go (inl h) (inl l) = outside (inr (omega (arith, f.1))) (not_within v x (inr l))
      go (inl h) (inr l) = (
        λ d. absurd (true≢false (sym (within_yes x h l) ∙ d)),
        λ d. r.0 (early (v.end + 1) w f.3 x (omega arith))
            ∙ carry_in found v.first (v.end - v.first) seen x h (omega arith)
            ∙ ap (λ (n : ℕ). given (seen + n)) (sym (inside x h l)),
      )

  step_running : ByRunning x (seen + (v.end - v.first)) (carried_over found seen (v.end - v.first) v.first x) w a → ByRunning x seen found (v ∷ w) a
  step_running r = (out, λ h l. hit h l (le_or (seen + (v.end - v.first)) x))
    where
      out : (x < seen) ⊎ (seen + ((v.end - v.first) + lengths w) ≤ x) → a ≡ found
      out (inl h) = r.0 (inl (omega arith)) ∙ carry_out found seen (v.end - v.first) v.first x (inl h)
      out (inr h) = r.0 (inr (omega arith)) ∙ carry_out found seen (v.end - v.first) v.first x (inr (omega arith))

      hit : seen ≤ x → x < seen + ((v.end - v.first) + lengths w) → (seen + (v.end - v.first) ≤ x) ⊎ (x < seen + (v.end - v.first))
          → (c : ℕ) × (a ≡ given c) × (runs (v ∷ w) c ≡ true) × (seen + passing (runs (v ∷ w)) c ≡ x)
      hit h l (inr q) =
          let c = v.first + (x - seen) in
          let low : v.first ≤ c = omega arith in
          let high : c < v.end = omega (arith, f.1) in
          (c, r.0 (inl q) ∙ carry_in found seen (v.end - v.first) v.first x h q, within_yes c low high, omega (arith, inside c low high))
      hit h l (inl q) =
          let s = r.1 q (omega arith) in
          (s.0, s.1, or_right (in_window v s.0) (runs w s.0) s.2, omega (arith, s.3, behind s.0 (beyond k v w f s.0 s.2)))

pub finds_clock : (x k seen : ℕ) (found : Answer ℕ) (l : List ℕ) → okay k l ≡ true → ByClock x seen found (windows_of l) (walked (running_in x) k seen found l)
unfolding walked
finds_clock x k seen found [] h = (λ d. refl, λ d. absurd (true≢false (sym d)))
finds_clock x k seen found (a ∷ []) h = absurd (true≢false (sym h))
finds_clock x k seen found (a ∷ (e ∷ l)) h =
    let b = both_true (fits_from k a e) (okay (e + 1) l) h in
    let v : Window = record { first = a; end = e } in
    step_clock k x seen found v (windows_of l) (okay_fine k (a ∷ (e ∷ l)) h) _
    (rw b.0 (finds_clock x (e + 1) (seen + (e - a)) (carried_over found a (e - a) seen x) l b.1))

pub finds_running : (x k seen : ℕ) (found : Answer ℕ) (l : List ℕ) → okay k l ≡ true → ByRunning x seen found (windows_of l) (walked (clock_in x) k seen found l)
unfolding walked
finds_running x k seen found [] h = (λ d. refl, λ d e. absurd (omega arith))
finds_running x k seen found (a ∷ []) h = absurd (true≢false (sym h))
finds_running x k seen found (a ∷ (e ∷ l)) h =
    let b = both_true (fits_from k a e) (okay (e + 1) l) h in
    let v : Window = record { first = a; end = e } in
    step_running k x seen found v (windows_of l) (okay_fine k (a ∷ (e ∷ l)) h) _
    (rw b.0 (finds_running x (e + 1) (seen + (e - a)) (carried_over found seen (e - a) a x) l b.1))
