-- Stepped axes that mirror each other, of either kind of number. Assumes nothing.
use mathlib.Core.Path.{◌≡◌, refl, sym, subst, ◌∙◌}
use mathlib.Core.Bool.{Bool, true, false, cond, true≢false, not, ◌&&◌, ◌||◌, or_comm}
use mathlib.Core.List.{List, [], ◌∷◌, map}
use Prim.Native.Nat.{ℕ, zero, suc, ◌-◌}
use lib.Dec.{ltb}
use lib.ListN.{length, get_or}
use Rattle.ranged1d.specs.Answer.{given, ◌when◌, lowest, BothLong}
use Rattle.ranged1d.proofs.Bools.{both_true}
use Rattle.ranged1d.proofs.Lowest.{last-same}
use Rattle.numeric.specs.Calls.{index_marks}
use Rattle.search.specs.Search as rule
use Rattle.search.specs.Mirror.{turned, Each, end, more}
use Rattle.search.specs.declared.RoundingMethod.{RoundingMethod}
use Rattle.search.proofs.Orders.{Order}
use Rattle.search.proofs.Turned.{Turns, each-length, search-turned, exact_stays}
use Rattle.linspace.specs.List.{Kind, entries, most, toward, headed, run, stepped, against, too_long, axis_admitted}
use Rattle.linspace.specs.Calls.{has_entries, marks_of, count_reasons, unmarked, step_marks, step_values, step_size, step_index_of, step_key_points}

-- y mirrors x
pub record KindTurns {A : Type 0} (kind : Kind A) (R : A → A → Type 0) : Type 0 where
  pub turns : Turns kind.numbers R
  pub plus_turns : {x x' y y' : A} → R x x' → R y y' → R (kind.plus x y) (kind.plus x' y')
  pub nil_turns : R kind.nil kind.nil
  pub admitted_turns : {x x' : A} → R x x' → kind.admitted x ≡ kind.admitted x'
  pub order : Order A kind.numbers.less kind.numbers.equal

module _ {A : Type 0} (R : A → A → Type 0) (p p' : A → Bool) (next next' : A → A)
    (pp : (x x' : A) → R x x' → p x ≡ p' x') (nn : (x x' : A) → R x x' → R (next x) (next' x')) where
  entries-turned : (n : ℕ) (x x' : A) → R x x' → Each R (entries p next n x) (entries p' next' n x')
  unfolding entries
  entries-turned zero x x' r = end
  entries-turned (suc n) x x' r = subst (λ (b : Bool). Each R (cond b (x ∷ entries p next n (next x)) []) (cond (p' x') (x' ∷ entries p' next' n (next' x')) [])) (sym (pp x x' r)) (go (p' x') (entries-turned n (next x) (next' x') (nn x x' r)))
    where
      go : (b : Bool) → Each R (entries p next n (next x)) (entries p' next' n (next' x')) → Each R (cond b (x ∷ entries p next n (next x)) []) (cond b (x' ∷ entries p' next' n (next' x')) [])
      go true e = more r e
      go false e = end

pub get_d_each : {A : Type 0} (R : A → A → Type 0) (l l' : List A) → Each R l l' → (k : ℕ) (d d' : A) → R d d' → R (get_or l k d) (get_or l' k d')
get_d_each R [] [] end k d d' r = r
get_d_each R (x ∷ xs) (y ∷ ys) (more s e) zero d d' r = s
get_d_each {A = A} R [] (y ∷ ys) x4 k d d' r = elim x4 [ ]
get_d_each {A = A} R (x ∷ xs) [] x5 k d d' r = elim x5 [ ]
get_d_each R (x ∷ xs) (y ∷ ys) (more s e) (suc k) d d' r = get_d_each R xs ys e k d d' r

map_each : {A : Type 0} (R : A → A → Type 0) (f f' : ℕ → A) → ((k : ℕ) → R (f k) (f' k)) → (ks : List ℕ) → Each R (map f ks) (map f' ks)
map_each R f f' h [] = end
map_each R f f' h (k ∷ ks) = more (h k) (map_each R f f' h ks)

module _ {A : Type 0} (kind : Kind A) (R : A → A → Type 0) (K : KindTurns kind R) (a b d a' b' d' : A) (ra : R a a') (rb : R b b') (rd : R d d') where
  abbrev N : rule.Numbers A
  N = kind.numbers

  abbrev T : Turns N R
  T = K.turns

  toward-turned : (rises : Bool) (x x' : A) → R x x' → toward kind rises b x ≡ toward kind (not rises) b' x'
  toward-turned true x x' r = T.less_turns r rb
  toward-turned false x x' r = T.less_turns rb r

  headed-turned : (rises : Bool) → headed kind a b d rises ≡ headed kind a' b' d' (not rises)
  headed-turned rises = rw (toward-turned rises a a' ra, toward-turned rises (kind.plus a d) (kind.plus a' d') (K.plus_turns ra rd)) refl

  run-turned : (rises : Bool) → Each R (run kind a b d rises) (run kind a' b' d' (not rises))
  run-turned rises = entries-turned R (toward kind rises b) (toward kind (not rises) b') (λ x. kind.plus x d) (λ x. kind.plus x d') (toward-turned rises) (λ x x' r. K.plus_turns r rd) (suc most) a a' ra

  pub stepped-turned : Each R (stepped kind a b d) (stepped kind a' b' d')
  unfolding stepped
  stepped-turned = go (headed kind a b d true) (headed kind a b d false) refl refl
    where
      -- an axis does not run both ways
      clash : headed kind a b d true ≡ true → headed kind a b d false ≡ true → ⊥
      clash u v = true≢false (sym (both_true (N.less b a) (N.less b (kind.plus a d)) v).0 ∙ K.order.asym a b (both_true (N.less a b) (N.less (kind.plus a d) b) u).0)

      go : (u v : Bool) → headed kind a b d true ≡ u → headed kind a b d false ≡ v
          → Each R (cond (headed kind a b d true) (run kind a b d true) (cond (headed kind a b d false) (run kind a b d false) [])) (cond (headed kind a' b' d' true) (run kind a' b' d' true) (cond (headed kind a' b' d' false) (run kind a' b' d' false) []))
      go true true e f = absurd (clash e f)
      go true false e f = rw (e, sym (headed-turned false) ∙ f, sym (headed-turned true) ∙ e) (run-turned true)
      go false true e f = rw (e, f, sym (headed-turned false) ∙ f) (run-turned false)
      go false false e f = rw (e, f, sym (headed-turned false) ∙ f, sym (headed-turned true) ∙ e) end

  same_length : length (stepped kind a b d) ≡ length (stepped kind a' b' d')
  same_length = each-length (stepped kind a b d) (stepped kind a' b' d') stepped-turned

  pub against-turned : against kind a b d ≡ against kind a' b' d'
  unfolding against
  against-turned =
      rw (T.less_turns ra rb, T.less_turns rb ra, T.less_turns rd K.nil_turns, T.less_turns K.nil_turns rd, T.equal_turns rd K.nil_turns, T.equal_turns K.nil_turns rd, K.order.even kind.nil d')
      (or_comm (N.less b' a' && (N.less kind.nil d' || N.equal d' kind.nil)) (N.less a' b' && (N.less d' kind.nil || N.equal d' kind.nil)))

  pub admitted-turned : axis_admitted kind a b d ≡ axis_admitted kind a' b' d'
  admitted-turned = rw (K.admitted_turns ra, K.admitted_turns rb, K.admitted_turns rd) refl

  pub marks-turned : (m : ℕ) → Each R (step_marks kind a b d m) (step_marks kind a' b' d' m)
  unfolding marks_of
  marks-turned m = rw (same_length) (go (has_entries (stepped kind a' b' d')))
    where
      go : (h : Bool) → Each R (cond h (map (λ k. get_or (stepped kind a b d) k kind.nil) (index_marks 0 (length (stepped kind a' b' d') - 1) m)) []) (cond h (map (λ k. get_or (stepped kind a' b' d') k kind.nil) (index_marks 0 (length (stepped kind a' b' d') - 1) m)) [])
      go true = map_each R (λ k. get_or (stepped kind a b d) k kind.nil) (λ k. get_or (stepped kind a' b' d') k kind.nil) (λ k. get_d_each R (stepped kind a b d) (stepped kind a' b' d') stepped-turned k kind.nil kind.nil K.nil_turns) (index_marks 0 (length (stepped kind a' b' d') - 1) m)
      go false = end

  marks-same : (m : ℕ) → length (step_marks kind a b d m) ≡ length (step_marks kind a' b' d' m)
  marks-same m = each-length (step_marks kind a b d m) (step_marks kind a' b' d' m) (marks-turned m)

  pub sizes-turned : step_size kind a b d ≡ step_size kind a' b' d'
  unfolding step_size
  sizes-turned = rw (admitted-turned, against-turned, same_length) refl

  pub values-turned : (old old' : List A) → BothLong (count_reasons kind a' b' d') (length (stepped kind a' b' d')) old' (length (stepped kind a b d)) old → (step_values kind a b d old).0 ≡ (step_values kind a' b' d' old').0
  unfolding step_values
  values-turned old old' h = rw (admitted-turned, against-turned, same_length) (go (too_long kind a' b' d') (rw same_length at h))
    where
      -- 7 stands for a list that is too long and for one that does not fit
      go : (t : Bool) → ((not (not (axis_admitted kind a' b' d')) && (not (against kind a' b' d') && (not t && true))) ≡ true → ltb (length old') (length (stepped kind a' b' d')) ≡ ltb (length old) (length (stepped kind a' b' d')))
          → lowest (1 when not (axis_admitted kind a' b' d') ∷ 6 when against kind a' b' d' ∷ 7 when (t || ltb (length old) (length (stepped kind a' b' d'))) ∷ []) (given (length (stepped kind a' b' d')))
          ≡ lowest (1 when not (axis_admitted kind a' b' d') ∷ 6 when against kind a' b' d' ∷ 7 when (t || ltb (length old') (length (stepped kind a' b' d'))) ∷ []) (given (length (stepped kind a' b' d')))
      go true h = refl
      go false h = last-same (1 when not (axis_admitted kind a' b' d') ∷ 6 when against kind a' b' d' ∷ []) 7 _ _ _ (λ e. sym (h e))

  pub key_points_turned : (m : ℕ) (old old' : List A) → BothLong (unmarked kind a' b' d' m) (length (step_marks kind a' b' d' m)) old' (length (step_marks kind a b d m)) old → (step_key_points kind a b d m old).0 ≡ (step_key_points kind a' b' d' m old').0
  unfolding step_key_points
  key_points_turned m old old' h =
      rw (admitted-turned, against-turned, marks-same m, same_length)
      (last-same (unmarked kind a' b' d' m) 13 (ltb (length old) (length (step_marks kind a' b' d' m))) (ltb (length old') (length (step_marks kind a' b' d' m))) (given (length (step_marks kind a' b' d' m))) (λ e. sym (rw (marks-same m) at (h e))))

  pub searches-turned : (v v' : A) → R v v' → (method : RoundingMethod) → step_index_of kind a b d v (turned method) ≡ step_index_of kind a' b' d' v' method
  unfolding step_index_of
  searches-turned v v' r method =
      rw (admitted-turned, K.admitted_turns r, against-turned, same_length, T.equal_turns r r, exact_stays method, search-turned N R T (stepped kind a b d) (stepped kind a' b' d') stepped-turned v v' r method) refl
