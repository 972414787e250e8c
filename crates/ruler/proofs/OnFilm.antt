-- Where the ends of a whole axis differ, a value on the axis has its place between p and q; and so have the marks of kind 3. Assumes nothing.
use Rattle.std.proofs.Common.{◌≡◌, ℕ, suc, ◌-◌, ◌≤◌, Bool, true, false, ℤ, pos, negsuc, ◌+ℤ◌, ◌-ℤ◌, neg_ℤ, nat_abs, ◌≤ℤ◌, sym, refl, ap, ◌∙◌, subst, arith, le-leb}
use mathlib.Core.List.{Memᴰ}
use lib.IntN.{+ℤ_assoc, +ℤ-neg_ℤ_cancel}
use lib.Signed.{le_z}
use Rattle.ranged1d.specs.Admitted.{whole_admitted}
use Rattle.ranged1d.specs.declared.Limit.{Limit}
use Rattle.ranged1d.proofs.Whole.{neg-minus, both_near, not_lt, lt_le, both_ways, yes_le, le_yes, start_to, not_before, between-far}
use Rattle.real.specs.Reading.{outside}
use Rattle.real.specs.Exact.{toward, away}
use Rattle.real.proofs.Placed.{whole_answered}
use Rattle.real.proofs.Relied as counted
use Rattle.numeric.specs.declared.Choice.TheVariants.{Inside}
use Rattle.numeric.specs.Marks.{low, high, step_of, marks_by}
use Rattle.numeric.specs.OnAxis.{IsMultiple}
use Rattle.numeric.proofs.Places.{level-spot}
use Rattle.numeric.proofs.OnAxis.{on_axis}
use Rattle.ruler.specs.Rule.{has_ruler}
use Rattle.ruler.specs.OnFilm.{Between, OnFilm}
use Rattle.ruler.proofs.Places.{served}
use Rattle.ruler.proofs.Places as ruled

-- ---- between two numbers, whichever is the larger
between_both : (lo hi x : ℤ) → le_z lo hi ≡ true → le_z lo x ≡ true → le_z x hi ≡ true → Between lo hi x × Between hi lo x
between_both lo hi x h l u = ((rw h (yes_le l), rw h (yes_le u)), go (le_z hi lo) refl)
  where
    go : (t : Bool) → le_z hi lo ≡ t → Between hi lo x
    go true e = let same : lo ≡ hi = both_ways lo hi h e in (rw (e, ← same) (yes_le l), rw (e, same) (yes_le u))
    go false e = (rw e (yes_le l), rw e (yes_le u))

on_or_past : (z : ℤ) (k : ℕ) → le_z z (z +ℤ pos k) ≡ true
on_or_past z k = not_lt (z +ℤ pos k) z (not_before z k)

-- from lo on, so many and no more than to hi
module _ (lo : ℤ) (n j : ℕ) (l : j ≤ n) where
  rest : (lo +ℤ pos j) +ℤ pos (n - j) ≡ lo +ℤ pos n
  rest = +ℤ_assoc lo (pos j) (pos (n - j)) ∙ ap (λ (i : ℕ). lo +ℤ pos i) (omega arith)

  from_low : Between lo (lo +ℤ pos n) (lo +ℤ pos j) × Between (lo +ℤ pos n) lo (lo +ℤ pos j)
  from_low = between_both lo (lo +ℤ pos n) (lo +ℤ pos j) (on_or_past lo n) (on_or_past lo j) (subst (λ (z : ℤ). le_z (lo +ℤ pos j) z ≡ true) rest (on_or_past (lo +ℤ pos j) (n - j)))

  -- the same from the other end
  back_from : (lo +ℤ pos n) +ℤ neg_ℤ (pos (n - j)) ≡ lo +ℤ pos j
  back_from = ap (λ (z : ℤ). z +ℤ neg_ℤ (pos (n - j))) (sym rest) ∙ +ℤ-neg_ℤ_cancel (lo +ℤ pos j) (pos (n - j))

-- so many pixels away from p toward q, and no more than the film has
away-between : (p q : ℤ) (k : ℕ) → k ≤ nat_abs (q -ℤ p) → Between p q (p +ℤ toward (q -ℤ p) k)
away-between p q k = go (q -ℤ p) refl
  where
    go : (l : ℤ) → q -ℤ p ≡ l → k ≤ nat_abs l → Between p q (p +ℤ toward l k)
    go (pos i) e h = subst (λ (z : ℤ). Between p z (p +ℤ pos k)) (ap (λ (z : ℤ). p +ℤ z) (sym e) ∙ start_to p q) (from_low p i k h).0
    go (negsuc i) e h =
        let n = suc i in
        let left : n - k ≤ n = omega arith in
        let again : n - (n - k) ≡ k = omega arith in
        let back : (q +ℤ pos n) +ℤ neg_ℤ (pos k) ≡ q +ℤ pos (n - k) = subst (λ (d : ℕ). (q +ℤ pos n) +ℤ neg_ℤ (pos d) ≡ q +ℤ pos (n - k)) again (back_from q n (n - k) left) in
        subst (λ (z : ℤ). Between z q (z +ℤ neg_ℤ (pos k))) (ap (λ (z : ℤ). q +ℤ z) (ap neg_ℤ (sym e) ∙ neg-minus q p) ∙ start_to q p)
        (subst (Between (q +ℤ pos n) q) (sym back) (from_low q n (n - k) left).1)

-- ---- a value on the axis
inside : (a b v : ℤ) → low a b ≤ℤ v → v ≤ℤ high a b → outside v a b ≡ false
inside a b v l u = rw (lt_le v (low a b), lt_le (high a b) v, le_yes l, le_yes u)

low_high_far : (a b v : ℤ) → nat_abs a ≤ 1_000_000_000 → nat_abs b ≤ 1_000_000_000 → low a b ≤ℤ v → v ≤ℤ high a b → nat_abs v ≤ 1_000_000_000
low_high_far a b v ha hb l u = go (le_z a b) refl
  where
    go : (t : Bool) → le_z a b ≡ t → nat_abs v ≤ 1_000_000_000
    go true e = between-far 1_000_000_000 a v b (le_yes (rw e at l)) (le_yes (rw e at u)) ha hb
    go false e = between-far 1_000_000_000 b v a (le_yes (rw e at l)) (le_yes (rw e at u)) hb ha

-- ---- the theorem
pub on_film : (a b : ℤ) (limit : Limit) (m : ℕ) → has_ruler a b limit m ≡ true → OnFilm a b limit m
on_film a b limit m h =
    let ends = ruled.ends a b limit m h in
    let film = ruled.film a b limit m h in
    let both = both_near 1_000_000_000 a b ends in
    let lies : (v : ℤ) → Memᴰ v (marks_by Inside a b m) → IsMultiple (step_of a b m) v × (low a b ≤ℤ v) × (v ≤ℤ high a b) = λ v i. ((on_axis a b m (served a b limit m h)).exactly v).0 i in
    let needle : (v : ℤ) → Memᴰ v (marks_by Inside a b m) → whole_admitted v ≡ true = λ v i. le-leb (nat_abs v) 1_000_000_000 (low_high_far a b v both.0 both.1 (lies v i).1 (lies v i).2) in
    record {
      between = λ differ v i.
          let (k, at, most) = counted.on_film a b v limit ends (needle v i) film differ (inside a b v (lies v i).1 (lies v i).2) in
          (away limit k, at, away-between limit.0 limit.1 k most);
      level = λ same v i. whole_answered a b v limit ends (needle v i) film (level-spot a b v limit both.0 same);
    }
