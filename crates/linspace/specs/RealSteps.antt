-- What the walks along a real stepped axis find, for the promises of private functions. Assumes nothing.
use Rattle.std.specs.Prelude.{ℕ, zero, suc, ◌+◌, ◌-◌, ◌*◌, ◌/◌, ◌≤◌, ◌<◌, ◌≡◌, Bool, true, false, cond, List, ◌++◌, length, Float, ℤ}
use Rattle.numeric.specs.Marks.{list_of}
use Rattle.std.specs.Float.Ieee as Ieee
use Rattle.std.specs.Float.{binary64}
use Rattle.discrete.specs.Index.{index_for}
use Rattle.linspace.specs.List.{real, entries, toward}
use Rattle.linspace.specs.Calls.{nth, nth_of}

-- the sum behind x
abbrev pub plus_step : Float → Float → Float
plus_step d x = Ieee.add binary64 x d

-- t or b, whichever comes first on the way
abbrev pub nearest : Bool → Float → Float → Float
nearest rises b t = cond (toward real rises b t) t b

-- x after k steps
unfoldable pub after : {A : Type 0} → (A → A) → ℕ → A → A
after next zero x = x
after next (suc k) x = next (after next k x)

-- g sums from x on, so many steps apart
abbrev pub sums_by : {A : Type 0} → (A → A) → ℕ → A → ℕ → List A
sums_by next by x g = list_of (λ k. after next (k * by) x) g

-- sums h steps apart, from a on
pub record Kept {A : Type 0} (next : A → A) (a : A) (h : ℕ) (l : List A) : Type 0 where
  pub are : l ≡ sums_by next h a (length l)

-- so many sums, so many steps apart, are one at least, and the last is not past the entries that are counted
pub record InReach (size by : ℕ) : Type 0 where
  pub some : 1 ≤ size
  pub near : (size - 1) * by ≤ 65_537

-- such a run with the list l behind it; and four of them
abbrev pub one_run : {A : Type 0} → (A → A) → ℕ → ℕ → A → List A → List A
one_run next by g x l = sums_by next by x g ++ l

abbrev pub four_runs : {A : Type 0} → (A → A) → ℕ → ℕ → A → A → A → A → List A → List A
four_runs next by g x0 x1 x2 x3 l = one_run next by g x0 (one_run next by g x1 (one_run next by g x2 (one_run next by g x3 l)))

module _ {A : Type 0} (passes : A → Bool) (next : A → A) (most : ℕ) (a : A) where
  -- a walk along the list stands at x after n entries
  pub record Walked (n : ℕ) (x : A) : Type 0 where
    pub at : x ≡ after next n a
    pub within : n ≤ most
    pub rest : length (entries passes next most a) ≡ n + length (entries passes next (most - n) x)

  -- every entry that the walk has passed meets a test, and left is the last of them
  pub record Going (test : A → Bool) (n : ℕ) (left x : A) : Type 0 where
    pub walked : Walked n x
    pub front : (j : ℕ) → j < n → test (after next j a) ≡ true
    pub last : (j : ℕ) → suc j ≡ n → left ≡ after next j a

  -- and the walk stands at the first entry that fails it, unless the list ends before
  pub record Parted (test : A → Bool) (n : ℕ) (left x : A) : Type 0 where
    pub going : Going test n left x
    pub stopped : n < most → passes x ≡ true → test x ≡ false

  -- the walk stands at entry k, unless the list ends before it
  pub record Reached (k n : ℕ) (x : A) : Type 0 where
    pub walked : Walked n x
    pub short : n ≤ k
    pub stopped : n < most → n < k → passes x ≡ false

-- 2^40, the parts by which a share of the film is told
abbrev pub all : ℕ
all = 1_099_511_627_776

-- n entries are counted, to one more than a list may have, and x is the sum after as many steps as the share of n
pub record Behind {A : Type 0} (passes : A → Bool) (next : A → A) (a : A) (share n k : ℕ) (x : A) : Type 0 where
  pub counted : n ≡ length (entries passes next 65_537 a)
  pub shared : k ≡ n * share / all
  pub at : x ≡ after next k a

-- a pixel d past the first limit, with the second w past it, is read as the entry at the share r of the list's length, or as none
pub record Shares (d w : ℤ) (r : ℕ) : Type 0 where
  pub within : r ≤ all
  pub read : (l : List Float) → length l ≤ 65_537 → nth_of l (index_for d w (length l)) ≡ nth l (length l * r / all)
