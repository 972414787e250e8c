-- The rules of the calls, return by return. Assumes nothing.
use mathlib.Core.Path.{◌≡◌, refl, sym, ap, subst, ◌∙◌}
use mathlib.Core.Bool.{Bool, true, false, cond, not, ◌||◌, or-true, or-false, true≢false}
use mathlib.Core.List.{List, [], ◌∷◌, ◌++◌}
use Prim.Native.Nat.{ℕ, ◌+◌, ◌-◌, ◌≤◌, ◌<◌}
use native.Mathlib.Omega.{arith}
use borrow.Author.Tests.{ltb-false, eq-eqb, ne_eqb}
use lib.Dec.{ltb}
use lib.IntN.{ℤ, pos}
use lib.ListN.{length, get_or, set, drop, length-set, length-replicate, take-append-drop}
use lib.Seq.{length-take-le, set-append_left}
use Rattle.ranged1d.specs.Answer.{Answer, given, none, refused, Reason, ◌when◌, lowest, written}
use Rattle.ranged1d.proofs.Answers.{given_is, not_none}
use Rattle.ranged1d.proofs.Bools.{both_false}
use Rattle.ranged1d.proofs.Lowest.{NoneOf, given_tests, stops, passed_over, unless_refused, lowest_unless}
use Rattle.std.specs.Prelude.{Option, None, Some, Result, Ok, Err}
use Rattle.std.specs.Option.{SomeIff, ok_or}
use Rattle.ranged1d.specs.Told.{tell}
use Rattle.ranged1d.specs.Refusals.{number_of}
use Rattle.ranged1d.specs.declared.Refusal.{Refusal}
use Rattle.ranged1d.specs.declared.Refusal.TheVariants.{CountFull, CountEmpty}
use Rattle.search.specs.Search.{wholes, best, index_of}
use Rattle.search.specs.Search as rule
use Rattle.search.specs.declared.RoundingMethod.TheVariants.{Floor}
use Rattle.search.proofs.Best.{Sound, best_sound}
use Rattle.linspace.specs.List.{whole, stepped}
use Rattle.linspace.specs.Calls.{count_reasons, step_index_reasons, step_size, step_index_of, step_index_among, among}
use Rattle.chart.specs.Chart.{Deed, Setting, Pulling, done, is_given, found_at, chart_size, chart_in, empty_chart, no_chart, recounted, count_reason, overlong, chart_clear, pin_entry, no_entry, entry_reasons, count_at, pinned, chart_pin}
use Rattle.chart.specs.Steps.{chart_entry, recount_of}

-- ---- an answer that gives something gives its index
given-index : (s : Answer ℕ) → not (is_given s) ≡ false → s ≡ given (found_at s)
given-index (given k) h = refl
given-index none h = absurd (true≢false h)
given-index (refused n) h = absurd (true≢false h)

-- ---- a search down is not refused, and what it finds is an entry
module _ (t : ℤ) (l : List ℤ) where
  abbrev at_most : ℤ → Bool
  at_most x = wholes.less x t || wholes.equal x t

  abbrev above : ℤ → ℤ → Bool
  above x y = wholes.less y x

  not_refused : {B : Type 0} (r : Answer B) → unless_refused (rule.search wholes t Floor l) r ≡ r
  not_refused {B} r = go (best at_most above l) (best_sound at_most above (pos 0) l)
    where
      go : (f : Answer (ℕ × ℤ)) → Sound at_most above (pos 0) l f → unless_refused (index_of wholes t f) r ≡ r
      go (given f) s = refl
      go none s = refl
      go (refused n) s = absurd s

  found_inside : {k : ℕ} → rule.search wholes t Floor l ≡ given k → k < length l
  found_inside {k} e = go (best at_most above l) (best_sound at_most above (pos 0) l) e
    where
      go : (f : Answer (ℕ × ℤ)) → Sound at_most above (pos 0) l f → index_of wholes t f ≡ given k → k < length l
      go (given f) s e = subst (λ (j : ℕ). j < length l) (given_is e) s.inside
      go none s e = absurd (not_none e)
      go (refused n) s e = absurd s

pub empty_long : length empty_chart ≡ chart_size
unfolding empty_chart
empty_long = length-replicate {0} {A = ℕ} 1024 0

-- ---- a chart with another count, and the memory behind it, is the memory with another count
chart_stored : (old : List ℕ) (k v : ℕ) → k < chart_size → no_chart old ≡ false → set (chart_in old) k v ++ drop (length (set (chart_in old) k v)) old ≡ set old k v
chart_stored old k v h room =
    let long : length (chart_in old) ≡ chart_size = length-take-le chart_size old (ltb-false (length old) chart_size room) in
    ap (λ (n : ℕ). set (chart_in old) k v ++ drop n old) (length-set (chart_in old) k v ∙ long)
    ∙ sym (set-append_left (chart_in old) (drop chart_size old) k v (omega (arith, h, long)))
    ∙ ap (λ (l : List ℕ). set l k v) (take-append-drop chart_size old)

-- ---- what is done with the entry of a pin, and with a count that was worked out
abbrev pub entry_among : Answer (ℕ × ℕ) → Answer ℕ
entry_among (given e) = cond (ltb chart_size e.1) (refused 20) (given e.0)
entry_among none = refused 20
entry_among (refused n) = refused n

module _ (k n : ℕ) {r : Answer ℕ} (e : entry_among (given (k, n)) ≡ r) where
  pub entry_long : ltb chart_size n ≡ true → refused 20 ≡ r
  entry_long h = sym (rw h refl) ∙ e

  pub entry_found : ltb chart_size n ≡ false → given k ≡ r
  entry_found h = sym (rw h refl) ∙ e

pub recount_full : (n : ℕ) → n ≡ 65535 → recount_of Setting n ≡ refused 21
recount_full n h = rw (eq-eqb n 65535 h)

pub recount_more : (n : ℕ) → (n ≡ 65535 → ⊥) → recount_of Setting n ≡ given (n + 1)
recount_more n h = rw (ne_eqb n 65535 h)

pub recount_none : (n : ℕ) → n ≡ 0 → recount_of Pulling n ≡ refused 22
recount_none n h = rw (eq-eqb n 0 h)

pub recount_less : (n : ℕ) → (n ≡ 0 → ⊥) → recount_of Pulling n ≡ given (n - 1)
recount_less n h = rw (ne_eqb n 0 h)

-- a sum or a difference that the code asks for, by what it then answers
pub added-refused : (n : ℕ) → n < 65536 → (x : Option ℕ) → SomeIff x (n + 1 < 65536) (n + 1) → (r : Refusal) → ◌≡◌ {A = Result ℕ Refusal} (Err r) (ok_or x CountFull) → refused (number_of r) ≡ recount_of Setting n
added-refused n l None h r e = ap (λ (t : Result ℕ Refusal). tell t) e ∙ sym (recount_full n (omega (arith, h)))
added-refused n l (Some v) h r e = cc

pub added_given : (n : ℕ) (x : Option ℕ) → SomeIff x (n + 1 < 65536) (n + 1) → (v : ℕ) → ◌≡◌ {A = Result ℕ Refusal} (Ok v) (ok_or x CountFull) → given v ≡ recount_of Setting n
added_given n None h v e = cc
added_given n (Some w) h v e = ap (λ (t : Result ℕ Refusal). tell t) e ∙ ap (λ (k : ℕ). given k) h.1 ∙ sym (recount_more n (λ z. omega (arith, h.0)))

pub taken-refused : (n : ℕ) (x : Option ℕ) → SomeIff x (1 ≤ n) (n - 1) → (r : Refusal) → ◌≡◌ {A = Result ℕ Refusal} (Err r) (ok_or x CountEmpty) → refused (number_of r) ≡ recount_of Pulling n
taken-refused n None h r e = ap (λ (t : Result ℕ Refusal). tell t) e ∙ sym (recount_none n (omega (arith, h)))
taken-refused n (Some v) h r e = cc

pub taken_given : (n : ℕ) (x : Option ℕ) → SomeIff x (1 ≤ n) (n - 1) → (v : ℕ) → ◌≡◌ {A = Result ℕ Refusal} (Ok v) (ok_or x CountEmpty) → given v ≡ recount_of Pulling n
taken_given n None h v e = cc
taken_given n (Some w) h v e = ap (λ (t : Result ℕ Refusal). tell t) e ∙ ap (λ (k : ℕ). given k) h.1 ∙ sym (recount_less n (λ z. omega (arith, h.0)))

abbrev pub stored : Answer ℕ → List ℕ → ℕ → Answer Unit × List ℕ
stored (given v) old k = (done, set old k v)
stored none old k = (none, old)
stored (refused n) old k = (refused n, old)

module _ (a b d : ℤ) where
  abbrev list : List ℤ
  list = stepped whole a b d

  -- ---- `clear`
  module _ (old : List ℕ) where
    pub clear_stopped : {n : ℕ} → step_size whole a b d ≡ refused n → (refused n, old) ≡ chart_clear a b d old
    unfolding chart_clear step_size
    clear_stopped e =
        ap (λ (r : Answer Unit). written r empty_chart old) (sym (stops (count_reasons whole a b d) (20 when overlong a b d ∷ 13 when no_chart old ∷ []) done (length list) e))

    clear_by : {n : ℕ} → step_size whole a b d ≡ given n → written (lowest (20 when ltb chart_size n ∷ 13 when no_chart old ∷ []) done) empty_chart old ≡ chart_clear a b d old
    unfolding chart_clear step_size
    clear_by {n} e =
        let t = given_tests (count_reasons whole a b d) (given (length list)) e in
        ap (λ (k : ℕ). written (lowest (20 when ltb chart_size k ∷ 13 when no_chart old ∷ []) done) empty_chart old) (sym (given_is t.1))
        ∙ ap (λ (r : Answer Unit). written r empty_chart old) (sym (passed_over (count_reasons whole a b d) (20 when overlong a b d ∷ 13 when no_chart old ∷ []) done t.0))

    module _ {n : ℕ} (e : step_size whole a b d ≡ given n) where
      pub clear_long : ltb chart_size n ≡ true → (refused 20, old) ≡ chart_clear a b d old
      clear_long l = sym (rw l refl) ∙ clear_by e

      pub clear_short : ltb chart_size n ≡ false → no_chart old ≡ true → (refused 13, old) ≡ chart_clear a b d old
      clear_short l s = sym (rw (l, s) refl) ∙ clear_by e

      pub clear_done : ltb chart_size n ≡ false → no_chart old ≡ false → (done, empty_chart ++ drop chart_size old) ≡ chart_clear a b d old
      clear_done l s = ap (λ (k : ℕ). (done, empty_chart ++ drop k old)) (sym empty_long) ∙ sym (rw (l, s) refl) ∙ clear_by e

  module _ (pin : ℤ) where
    -- ---- the entry
    entry-all : unless_refused (pin_entry a b d pin) (lowest (20 when no_entry a b d pin ∷ []) (given (found_at (pin_entry a b d pin)))) ≡ chart_entry a b d pin
    unfolding chart_entry pin_entry step_index_of
    entry-all = lowest_unless (step_index_reasons whole a b d pin Floor) (rule.search wholes pin Floor list) _ (not_refused pin list _)

    pub entry_is : entry_among (among whole a b d (pin_entry a b d pin)) ≡ chart_entry a b d pin
    entry_is = go (pin_entry a b d pin) ∙ entry-all
      where
        go : (s : Answer ℕ) → entry_among (among whole a b d s) ≡ unless_refused s (lowest (20 when (overlong a b d || not (is_given s)) ∷ []) (given (found_at s)))
        go (given k) = rw (or-false (overlong a b d)) refl
        go none = rw (or-true (overlong a b d)) refl
        go (refused n) = refl

    pub entry_searched : entry_among (step_index_among whole a b d pin Floor) ≡ chart_entry a b d pin
    unfolding pin_entry
    entry_searched = entry_is

    pub entry-inside : {k : ℕ} → pin_entry a b d pin ≡ given k → k < length list
    unfolding pin_entry step_index_of
    entry-inside e = found_inside pin list (given_tests (step_index_reasons whole a b d pin Floor) (rule.search wholes pin Floor list) e).1

    -- what is known where a pin has an entry on the chart
    pub record OnChart (k : ℕ) : Type 0 where
      pub entry : pin_entry a b d pin ≡ given k
      pub inside : k < chart_size
      pub passed : NoneOf (entry_reasons a b d pin)

    pub stands_of : {k : ℕ} → chart_entry a b d pin ≡ given k → OnChart k
    unfolding chart_entry
    stands_of {k} e =
        let t = given_tests (entry_reasons a b d pin) (given (found_at (pin_entry a b d pin))) e in
        let u = both_false (overlong a b d) (not (is_given (pin_entry a b d pin))) t.0.1.1.1.1.0 in
        let entry = given-index (pin_entry a b d pin) u.1 ∙ t.1 in
        record { entry = entry; inside = omega (arith, entry-inside entry, ltb-false chart_size (length list) u.0); passed = t.0 }

    -- ---- `set` and `pull`
    module _ (deed : Deed) (old : List ℕ) where
      abbrev last_reasons : ℕ → Bool → List Reason
      last_reasons n short = count_reason deed n (not short) ∷ 13 when short ∷ []

      pub pin-stopped : {n : ℕ} → chart_entry a b d pin ≡ refused n → (refused n, old) ≡ chart_pin a b d deed pin old
      unfolding chart_pin chart_entry
      pin-stopped e =
          ap (λ (r : Answer Unit). written r (pinned a b d deed pin old) old) (sym (stops (entry_reasons a b d pin) (last_reasons (count_at a b d pin old) (no_chart old)) done (found_at (pin_entry a b d pin)) e))

      module _ {k : ℕ} (s : OnChart k) where
        abbrev n : ℕ
        n = get_or old k 0

        pin_by : written (lowest (last_reasons n (no_chart old)) done) (set (chart_in old) k (recounted deed n)) old ≡ chart_pin a b d deed pin old
        unfolding chart_pin
        pin_by =
            ap (λ (r : Answer ℕ). written (lowest (last_reasons (get_or old (found_at r) 0) (no_chart old)) done) (set (chart_in old) (found_at r) (recounted deed (get_or old (found_at r) 0))) old) (sym s.entry)
            ∙ ap (λ (r : Answer Unit). written r (pinned a b d deed pin old) old) (sym (passed_over (entry_reasons a b d pin) (last_reasons (count_at a b d pin old) (no_chart old)) done s.passed))

        pub pin-short : no_chart old ≡ true → (refused 13, old) ≡ chart_pin a b d deed pin old
        pin-short l = sym (by_deed deed) ∙ pin_by
          where
            by_deed : (deed : Deed) → written (lowest (count_reason deed (get_or old k 0) (not (no_chart old)) ∷ 13 when no_chart old ∷ []) done) (set (chart_in old) k (recounted deed (get_or old k 0))) old ≡ (refused 13, old)
            by_deed Setting = rw l refl
            by_deed Pulling = rw l refl

        pub pin_is : no_chart old ≡ false → stored (recount_of deed n) old k ≡ chart_pin a b d deed pin old
        pin_is room = go (count_reason deed n true).applies ∙ sym (rw room refl) ∙ pin_by
          where
            go : (t : Bool) → stored (cond t (refused (count_reason deed (get_or old k 0) true).number) (given (recounted deed (get_or old k 0)))) old k
                ≡ written (cond t (refused (count_reason deed (get_or old k 0) true).number) done) (set (chart_in old) k (recounted deed (get_or old k 0))) old
            go true = refl
            go false = ap (λ (l : List ℕ). (done, l)) (sym (chart_stored old k (recounted deed (get_or old k 0)) s.inside room))
