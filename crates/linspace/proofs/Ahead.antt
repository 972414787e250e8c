-- A step that leads on: where a sum comes before b, so does every sum before it, and the walk to it may skip their tests. Assumes nothing.
use mathlib.Core.Path.{◌≡◌, sym, subst}
use mathlib.Core.Bool.{Bool, true, false}
use Prim.Native.Nat.{ℕ, zero, suc, ◌≤◌}
use native.Mathlib.Numerals.{add-one}
use native.Mathlib.Omega.{arith}
use lib.Dec.{T}
use lib.Ieee.{Float, binary64, fits, lt, eq}
use lib.Ieee.Fits.{add-fits}
use Rattle.search.proofs.Orders.{past_too}
use Rattle.linspace.specs.List.{real, toward, stepped, against}
use Rattle.linspace.specs.Calls.{has_entries}
use Rattle.linspace.specs.RealSteps.{plus_step, after, Walked}
use Rattle.linspace.proofs.Walks.{walk_starts, walk_on}
use Rattle.linspace.proofs.RealList.{p, w, Onward, never_behind}
use Rattle.linspace.proofs.Indices.{augend, onward}

pub after_fits : (d a : Float) → T (fits binary64 a) → (k : ℕ) → T (fits binary64 (after (plus_step d) k a))
unfolding after
after_fits d a f zero = f
after_fits d a f (suc k) = add-fits binary64 (after (plus_step d) k a) d

module _ (rises : Bool) (b d : Float) (on : Onward rises b d) where
  before_too : (x : Float) → T (fits binary64 x) → p rises b d (plus_step d x) ≡ true → p rises b d x ≡ true
  before_too x f h =
      let number : eq (plus_step d x) (plus_step d x) ≡ true = (w rises b d).left (plus_step d x) b h in
      past_too (w rises b d) (plus_step d x) x b number (augend x d number) (never_behind rises b d x f on) h

  far : (most : ℕ) (a : Float) → T (fits binary64 a) → (k : ℕ) → k ≤ most → p rises b d (after (plus_step d) k a) ≡ true → Walked (p rises b d) (plus_step d) most a k (after (plus_step d) k a)
  unfolding after
  far most a f zero l h = walk_starts (p rises b d) (plus_step d) most a
  far most a f (suc k) l h =
      let q = before_too (after (plus_step d) k a) (after_fits d a f k) h in
      rw (← add-one k) (walk_on (p rises b d) (plus_step d) most a k (after (plus_step d) k a) (far most a f k (omega (arith, l)) q) (omega (arith, l)) q)

-- where the sum after k steps comes before b, the walk stands there after k entries
pub walked-far : (a b d : Float) → T (fits binary64 a) → against real a b d ≡ false → has_entries (stepped real a b d) ≡ true → (k : ℕ) (x : Float) → k ≤ 65537 → x ≡ after (plus_step d) k a
    → toward real (lt a b) b x ≡ true → Walked (toward real (lt a b) b) (plus_step d) 65537 a k x
walked-far a b d f e s k x l h t =
    subst (λ (y : Float). Walked (toward real (lt a b) b) (plus_step d) 65537 a k y) (sym h)
    (far (lt a b) b d (onward a b d s e) 65537 a f k l (subst (λ (y : Float). toward real (lt a b) b y ≡ true) h t))
