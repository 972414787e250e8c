-- A track along a real stepped axis: its one comparison is the test of the list, in either direction, and a step of it is a step of the list. A second
-- sum behind it. Assumes nothing.
use mathlib.Core.Path.{◌≡◌, refl, sym, ap, ap₂, subst, ◌∙◌}
use mathlib.Core.Bool.{Bool, true, false, cond}
use mathlib.Core.List.{[], ◌∷◌}
use Prim.Native.Nat.{ℕ, zero, suc, ◌+◌, ◌-◌, ◌*◌, ◌/◌, ◌≤◌, ◌<◌}
use native.Mathlib.Nat.{zero-mul, suc-mul}
use native.Mathlib.Numerals.{add-one}
use native.Mathlib.Omega.{arith}
use lib.Dec.{T}
use lib.Ieee.{Float, nan, binary64, fits, add, lt, eq}
use lib.ListN.{length, get_or}
use Rattle.real.proofs.Signs.{zero_of}
use Rattle.search.proofs.Orders.{past_too, turned, way}
use Rattle.search.proofs.RealOrder.{real-order}
use Rattle.linspace.specs.List.{real, entries, toward}
use Rattle.linspace.specs.RealSteps.{plus_step, after, all, Walked, Going, Behind, nearest}
use Rattle.linspace.specs.Walks.{Tracked, Stepped, head_of, Trails}
use Rattle.linspace.specs.declared.track.Track.{Track}
use Rattle.linspace.specs.declared.track.Trail.{Trail}
use Rattle.linspace.proofs.Walks.{walk_starts, walk_on, total_on, total-ends, total_full, going_starts, going_on, after_on}
use Rattle.linspace.proofs.RealSums.{add-nought}

module _ (rises : Bool) (b d x : Float) (t : Track) (w : Tracked rises b d x t) where
  pub track_head : head_of rises t ≡ x
  track_head = ap₂ (cond rises) w.low_is w.high_is ∙ go rises
    where
      go : (r : Bool) → cond r (cond r x b) (cond r b x) ≡ x
      go true = refl
      go false = refl

  pub track_test : lt t.low t.high ≡ toward real rises b x
  track_test = ap₂ lt w.low_is w.high_is ∙ go rises
    where
      go : (r : Bool) → lt (cond r x b) (cond r b x) ≡ toward real r b x
      go true = refl
      go false = refl

  pub track_on : (r : Track) → Stepped t r → Tracked rises b d (plus_step d x) r
  track_on r g = record {
    fit = w.fit;
    low_is = g.low_on ∙ ap₂ (add binary64) w.low_is w.raise_is ∙ low rises;
    high_is = g.high_on ∙ ap₂ (add binary64) w.high_is w.lower_is ∙ high rises;
    raise_is = g.raise_kept ∙ w.raise_is;
    lower_is = g.lower_kept ∙ w.lower_is;
  }
    where
      low : (r : Bool) → add binary64 (cond r x b) (cond r d (zero_of true)) ≡ cond r (plus_step d x) b
      low true = refl
      low false = add-nought b w.fit

      high : (r : Bool) → add binary64 (cond r b x) (cond r (zero_of true) d) ≡ cond r b (plus_step d x)
      high true = add-nought b w.fit
      high false = refl

-- by the track alone: it stands at its head
abbrev pub Runs : Bool → Float → Float → Track → Type 0
Runs rises b d t = Tracked rises b d (head_of rises t) t

module _ {rises : Bool} {b d : Float} where
  pub runs-from : (x : Float) (t : Track) → Tracked rises b d x t → Runs rises b d t
  runs-from x t w = subst (λ (y : Float). Tracked rises b d y t) (sym (track_head rises b d x t w)) w

  pub head_on : (t r : Track) → Runs rises b d t → Stepped t r → head_of rises r ≡ plus_step d (head_of rises t)
  head_on t r w g = track_head rises b d (plus_step d (head_of rises t)) r (track_on rises b d (head_of rises t) t w r g)

  pub runs_on : (t r : Track) → Runs rises b d t → Stepped t r → Runs rises b d r
  runs_on t r w g = runs-from (plus_step d (head_of rises t)) r (track_on rises b d (head_of rises t) t w r g)

  pub runs_test : (t : Track) → Runs rises b d t → lt t.low t.high ≡ toward real rises b (head_of rises t)
  runs_test t w = track_test rises b d (head_of rises t) t w

module _ (rises : Bool) (b d : Float) where
  abbrev p : Float → Bool
  p = toward real rises b

  -- a walk of the list from a on stands at the track t after n entries
  pub record Along (a : Float) (n : ℕ) (t : Track) : Type 0 where
    pub runs : Runs rises b d t
    pub walked : Walked p (plus_step d) 65537 a n (head_of rises t)

  pub along_starts : (a : Float) (t : Track) → Tracked rises b d a t → Along a 0 t
  along_starts a t w = record {
    runs = runs-from a t w;
    walked = subst (λ (y : Float). Walked p (plus_step d) 65537 a 0 y) (sym (track_head rises b d a t w)) (walk_starts p (plus_step d) 65537 a);
  }

  pub along_on : {a : Float} {n : ℕ} (t r : Track) → Along a n t → n < 65537 → lt t.low t.high ≡ true → Stepped t r → Along a (n + 1) r
  along_on {a} {n} t r i h p' g = record {
    runs = runs_on t r i.runs g;
    walked = subst (λ (y : Float). Walked p (plus_step d) 65537 a (n + 1) y) (sym (head_on t r i.runs g)) (walk_on p (plus_step d) 65537 a n (head_of rises t) i.walked h (sym (runs_test t i.runs) ∙ p'));
  }

  -- how many entries there are before the track t, and how many from there on, is what it was at x, which had k before it
  pub record Counting (x : Float) (k n : ℕ) (t : Track) : Type 0 where
    pub runs : Runs rises b d t
    pub rest : n + length (entries p (plus_step d) (65537 - n) (head_of rises t)) ≡ k + length (entries p (plus_step d) (65537 - k) x)

  module _ {x : Float} {k n : ℕ} (t : Track) (i : Counting x k n t) where
    pub counting_on : (r : Track) → n < 65537 → lt t.low t.high ≡ true → Stepped t r → Counting x k (n + 1) r
    counting_on r h q g = record {
      runs = runs_on t r i.runs g;
      rest =
          ap (λ (y : Float). n + 1 + length (entries p (plus_step d) (65537 - (n + 1)) y)) (head_on t r i.runs g)
          ∙ sym (total_on p (plus_step d) 65537 n (head_of rises t) h (sym (runs_test t i.runs) ∙ q))
          ∙ i.rest;
    }

    pub counting_ends : lt t.low t.high ≡ false → n ≡ k + length (entries p (plus_step d) (65537 - k) x)
    counting_ends q = sym (total-ends p (plus_step d) 65537 n (head_of rises t) (sym (runs_test t i.runs) ∙ q)) ∙ i.rest

    pub counting_full : 65537 ≤ n → n ≡ k + length (entries p (plus_step d) (65537 - k) x)
    counting_full h = sym (total_full p (plus_step d) 65537 n (head_of rises t) h) ∙ i.rest

-- ---- what comes before the nearer of two comes before both, and what does not comes not before both
module _ (rises : Bool) (b t : Float) (number : eq b b ≡ true) (self : eq t t ≡ true) where
  abbrev before : Float → Float → Bool
  before y x = toward real rises y x

  behind-first : before b t ≡ false → (x : Float) → before b x ≡ true → before t x ≡ true
  behind-first e x h = past_too (turned (way real-order rises)) b t x number self e h

  pub before_both : (x : Float) → before (nearest rises b t) x ≡ true → (before b x ≡ true) × (before t x ≡ true)
  before_both x h = go (before b t) refl h
    where
      go : (u : Bool) → before b t ≡ u → before (cond u t b) x ≡ true → (before b x ≡ true) × (before t x ≡ true)
      go true e h = ((way real-order rises).trans x t b h e, h)
      go false e h = (h, behind-first e x h)

-- ---- a walk to the first entry that does not come before t
module _ (rises : Bool) (b d t : Float) where
  abbrev q : Float → Bool
  q = toward real rises b

  abbrev test : Float → Bool
  test = toward real rises t

  pub record Parting (a : Float) (n : ℕ) (left : Float) (y : Track) : Type 0 where
    pub runs : Runs rises (nearest rises b t) d y
    pub going : Going q (plus_step d) 65537 a test n left (head_of rises y)

  pub parting_starts : (a : Float) (y : Track) → Tracked rises (nearest rises b t) d a y → Parting a 0 t y
  parting_starts a y w = record {
    runs = runs-from a y w;
    going = subst (λ (x : Float). Going q (plus_step d) 65537 a test 0 t x) (sym (track_head rises (nearest rises b t) d a y w)) (going_starts q (plus_step d) 65537 a test t);
  }

  module _ (number : eq b b ≡ true) (self : eq t t ≡ true) {a : Float} {n : ℕ} {left : Float} (y : Track) (i : Parting a n left y) where
    pub parting_on : (r : Track) → n < 65537 → lt y.low y.high ≡ true → Stepped y r → {x : Float} → x ≡ head_of rises y → Parting a (n + 1) x r
    parting_on r h e g {x} f =
        let both = before_both rises b t number self (head_of rises y) (sym (runs_test y i.runs) ∙ e) in record {
          runs = runs_on y r i.runs g;
          going =
              subst (λ (z : Float). Going q (plus_step d) 65537 a test (n + 1) z (head_of rises r)) (sym f)
              (subst (λ (z : Float). Going q (plus_step d) 65537 a test (n + 1) (head_of rises y) z) (sym (head_on y r i.runs g)) (going_on q (plus_step d) 65537 a test n left (head_of rises y) i.going h both.0 both.1));
        }

-- ---- the second sum: it stands still, or takes a step
pub trail_sum : (d x : Float) → T (fits binary64 x) → (i : ℕ) → i ≤ 1 → add binary64 x (get_or (zero_of true ∷ d ∷ []) i nan) ≡ after (plus_step d) i x
unfolding after
trail_sum d x f zero h = add-nought x f
trail_sum d x f (suc zero) h = refl
trail_sum d x f (suc (suc i)) h = absurd (omega (arith, h))

module _ (rises : Bool) (b d a : Float) (share : ℕ) where
  pub record Trailing (n : ℕ) (t : Track) (y : Trail) : Type 0 where
    pub gone : y.gone ≡ n * share
    pub whole : y.k ≡ y.gone / all
    pub sum : y.x ≡ after (plus_step d) y.k a
    pub along : Along rises b d a n t

  pub trailing_starts : (t : Track) → Tracked rises b d a t → Trailing 0 t (record { gone = 0; k = 0; x = a })
  unfolding after
  trailing_starts t w = record { gone = sym (zero-mul share); whole = refl; sum = refl; along = along_starts rises b d a t w }

  module _ {n : ℕ} (t : Track) (y : Trail) (i : Trailing n t y) where
    pub trailing_on : (t' : Track) (y' : Trail) → n < 65537 → lt t.low t.high ≡ true → Stepped t t' → Trails d share y y' → Trailing (n + 1) t' y'
    trailing_on t' y' h e g r =
        let gone : y'.gone ≡ (n + 1) * share = r.gone_on ∙ omega (arith, i.gone, suc-mul n share, ap (λ (n : ℕ). n * share) (add-one n)) in
        let less : y.k ≤ y'.k = omega (arith, i.whole, r.whole, r.gone_on) in
        let k : y'.k - y.k + y.k ≡ y'.k = omega (arith, less) in
        record { gone = gone; whole = r.whole; sum = after_on (plus_step d) (y'.k - y.k) y.k a k r.sum i.sum; along = along_on rises b d t t' i.along h e g }

    trailing-behind : n + length (entries (toward real rises b) (plus_step d) (65537 - n) (head_of rises t)) ≡ n → Behind (toward real rises b) (plus_step d) a share n y.k y.x
    trailing-behind e = record { counted = sym (i.along.walked.rest ∙ e); shared = i.whole ∙ ap (λ (g : ℕ). g / all) i.gone; at = i.sum }

    pub trailing_ends : lt t.low t.high ≡ false → Behind (toward real rises b) (plus_step d) a share n y.k y.x
    trailing_ends e = trailing-behind (total-ends (toward real rises b) (plus_step d) 65537 n (head_of rises t) (sym (runs_test t i.along.runs) ∙ e))

    pub trailing_full : 65537 ≤ n → Behind (toward real rises b) (plus_step d) a share n y.k y.x
    trailing_full h = trailing-behind (total_full (toward real rises b) (plus_step d) 65537 n (head_of rises t) h)
