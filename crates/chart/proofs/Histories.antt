-- Charts over time: `histories` proves what specs/Histories says, of every axis. Assumes nothing.
use mathlib.Core.Path.{◌≡◌, refl, sym, ap, ap₂, subst, ◌∙◌}
use mathlib.Core.Bool.{Bool, true, false, cond, not, ◌&&◌, and-false, true≢false}
use mathlib.Core.List.{List, [], ◌∷◌, ◌++◌}
use mathlib.Core.Logic.{◌⊎◌, inl, inr}
use Prim.Native.Nat.{ℕ, ◌+◌, ◌-◌, ◌≤◌, ◌<◌}
use native.Mathlib.Omega.{arith}
use borrow.Author.Tests.{ltb-false, ne_eqb, eqb-true, eqb-false}
use lib.Dec.{ltb, eqb}
use lib.IntN.{ℤ}
use lib.ListN.{length, get_or, set, drop, length-set, get_or-replicate}
use lib.Seq.{get_or-take, get_or-set_same, get_or-set_other, set-set, set-get_or, set_comm, drop-set-lt, take_at}
use Rattle.ranged1d.specs.Answer.{Answer, given, none, refused, ◌when◌, lowest, written}
use Rattle.ranged1d.proofs.Answers.{given_is, not-both}
use Rattle.ranged1d.proofs.Lowest.{either}
use Rattle.linspace.specs.List.{whole, stepped}
use Rattle.chart.specs.Chart.{Deed, Setting, Pulling, done, is_given, found_at, chart_size, chart_in, empty_chart, no_chart, recounted, count_reason, chart_clear, pin_entry, entry_reasons, chart_pin, chart_set, chart_pull}
use Rattle.chart.specs.Steps.{chart_entry}
use Rattle.chart.specs.Histories.{Action, same_deed, is_at, act, left_by, accepted_of, pins, Balanced, EitherOrder, BothAccepted, Histories}
use Rattle.chart.proofs.Rules.{empty_long, OnChart, stands_of, pin-stopped, pin-short, pin_is, entry-inside}

-- lent memory after an action: another count, or as it was
abbrev kept : Answer Unit → List ℕ → List ℕ → List ℕ
kept (given x) new old = new
kept none new old = old
kept (refused n) new old = old

-- two stores at different places, each of them made or not
swap : (old : List ℕ) (i j u v : ℕ) → (i ≡ j → ⊥) → (x y : Answer Unit)
    → kept y (set (kept x (set old i u) old) j v) (kept x (set old i u) old) ≡ kept x (set (kept y (set old j v) old) i u) (kept y (set old j v) old)
swap old i j u v h (given x) (given y) = set_comm old i j u v h
swap old i j u v h (given x) none = refl
swap old i j u v h (given x) (refused n) = refl
swap old i j u v h none (given y) = refl
swap old i j u v h none none = refl
swap old i j u v h none (refused n) = refl
swap old i j u v h (refused m) (given y) = refl
swap old i j u v h (refused m) none = refl
swap old i j u v h (refused m) (refused n) = refl

module _ (a b d : ℤ) where
  -- ---- what an action comes to: refused before any memory is looked at, or at an entry of the chart; there refused and nothing changed, or one count is
  abbrev ByEntry : ℤ → Type 0
  ByEntry pin = ((n : ℕ) × (chart_entry a b d pin ≡ refused n)) ⊎ ((k : ℕ) × OnChart a b d pin k)

  by_entry : (pin : ℤ) → ByEntry pin
  unfolding chart_entry
  by_entry pin = go (either (found_at (pin_entry a b d pin)) (entry_reasons a b d pin))
    where
      go : (lowest (entry_reasons a b d pin) (given (found_at (pin_entry a b d pin))) ≡ given (found_at (pin_entry a b d pin))) ⊎ ((n : ℕ) × (lowest (entry_reasons a b d pin) (given (found_at (pin_entry a b d pin))) ≡ refused n)) → ByEntry pin
      go (inl e) = inr (found_at (pin_entry a b d pin), stands_of a b d pin e)
      go (inr e) = inl e

  record Taken (deed : Deed) (pin : ℤ) (old : List ℕ) : Type 0 where
    at : ℕ
    stands : OnChart a b d pin at
    room : no_chart old ≡ false
    free : (count_reason deed (get_or old at 0) true).applies ≡ false
    so : (done, set old at (recounted deed (get_or old at 0))) ≡ chart_pin a b d deed pin old

  abbrev Outcome : Deed → ℤ → List ℕ → Type 0
  Outcome deed pin old = ((n : ℕ) × (chart_pin a b d deed pin old ≡ (refused n, old))) ⊎ Taken deed pin old

  outcome : (deed : Deed) (pin : ℤ) (old : List ℕ) → Outcome deed pin old
  outcome deed pin old = go (by_entry pin)
    where
      by_count : {k : ℕ} → OnChart a b d pin k → no_chart old ≡ false → (t : Bool) → (count_reason deed (get_or old k 0) true).applies ≡ t → Outcome deed pin old
      by_count {k} s room true h = inl ((count_reason deed (get_or old k 0) true).number, sym (sym (rw h refl) ∙ pin_is a b d pin deed old s room))
      by_count {k} s room false h = inr (record { at = k; stands = s; room = room; free = h; so = sym (rw h refl) ∙ pin_is a b d pin deed old s room })

      by_room : {k : ℕ} → OnChart a b d pin k → (t : Bool) → no_chart old ≡ t → Outcome deed pin old
      by_room s true h = inl (13, sym (pin-short a b d pin deed old s h))
      by_room {k} s false h = by_count s h (count_reason deed (get_or old k 0) true).applies refl

      go : ByEntry pin → Outcome deed pin old
      go (inl (n, e)) = inl (n, sym (pin-stopped a b d pin deed old e))
      go (inr (k, s)) = by_room s (no_chart old) refl

  -- ---- one action: what stays
  unchanged : (x : Action) (old : List ℕ) → is_given (act a b d x old).0 ≡ false → (act a b d x old).1 ≡ old
  unchanged x old h = go (outcome x.deed x.pin old)
    where
      go : Outcome x.deed x.pin old → (act a b d x old).1 ≡ old
      go (inl (n, e)) = rw e refl
      go (inr t) = absurd (true≢false (rw (← t.so) at h))

  elsewhere : (x : Action) (old : List ℕ) (k : ℕ) → is_at k (pin_entry a b d x.pin) ≡ false → get_or (act a b d x old).1 k 0 ≡ get_or old k 0
  elsewhere x old k h = go (outcome x.deed x.pin old)
    where
      go : Outcome x.deed x.pin old → get_or (act a b d x old).1 k 0 ≡ get_or old k 0
      go (inl (n, e)) = rw e refl
      go (inr t) =
          let away = eqb-false t.at k (rw t.stands.entry at h) in
          rw (← t.so) (get_or-set_other old t.at k (recounted x.deed (get_or old t.at 0)) 0 (λ q. away (sym q)))

  -- ---- counting: what a count is with what was pulled, it was with what was set
  -- one action
  one : (deed : Deed) (pin : ℤ) (old : List ℕ) (t : Taken deed pin old) (k n pulled put : ℕ)
      → n + pulled ≡ get_or (set old t.at (recounted deed (get_or old t.at 0))) k 0 + put
      → n + cond (same_deed Pulling deed && is_at k (pin_entry a b d pin)) (pulled + 1) pulled ≡ get_or old k 0 + cond (same_deed Setting deed && is_at k (pin_entry a b d pin)) (put + 1) put
  one deed pin old t k n pulled put e = rw t.stands.entry (by_place deed t.free e (eqb t.at k) refl)
    where
      inside : t.at < length old
      inside = omega (arith, t.stands.inside, ltb-false (length old) chart_size t.room)

      same : (v : ℕ) → t.at ≡ k → get_or (set old t.at v) k 0 ≡ v
      same v h = rw (← h) (get_or-set_same old t.at v 0 inside)

      other : (v : ℕ) → (t.at ≡ k → ⊥) → get_or (set old t.at v) k 0 ≡ get_or old k 0
      other v h = get_or-set_other old t.at k v 0 (λ e. h (sym e))

      by_place : (deed : Deed) → (count_reason deed (get_or old t.at 0) true).applies ≡ false → n + pulled ≡ get_or (set old t.at (recounted deed (get_or old t.at 0))) k 0 + put → (here : Bool) → eqb t.at k ≡ here
          → n + cond (same_deed Pulling deed && eqb t.at k) (pulled + 1) pulled ≡ get_or old k 0 + cond (same_deed Setting deed && eqb t.at k) (put + 1) put
      by_place Setting free e true h =
          let q = eqb-true t.at k h in
          let c : get_or old t.at 0 ≡ get_or old k 0 = ap (λ (j : ℕ). get_or old j 0) q in
          rw h (omega (arith, e, same (get_or old t.at 0 + 1) q, c))
      by_place Setting free e false h = rw h (omega (arith, e, other (get_or old t.at 0 + 1) (eqb-false t.at k h)))
      by_place Pulling free e true h =
          let q = eqb-true t.at k h in
          let c : get_or old t.at 0 ≡ get_or old k 0 = ap (λ (j : ℕ). get_or old j 0) q in
          let some = eqb-false (get_or old t.at 0) 0 free in
          rw h (omega (arith, e, same (get_or old t.at 0 - 1) q, c, some))
      by_place Pulling free e false h = rw h (omega (arith, e, other (get_or old t.at 0 - 1) (eqb-false t.at k h)))

  -- a history
  total : (xs : List Action) (old : List ℕ) (k : ℕ) → get_or (left_by a b d xs old) k 0 + pins a b d Pulling k (accepted_of a b d xs old) ≡ get_or old k 0 + pins a b d Setting k (accepted_of a b d xs old)
  unfolding left_by accepted_of pins
  total [] old k = refl
  total (x ∷ xs) old k = go (total xs) (outcome x.deed x.pin old)
    where
      go : ((m : List ℕ) (k : ℕ) → get_or (left_by a b d xs m) k 0 + pins a b d Pulling k (accepted_of a b d xs m) ≡ get_or m k 0 + pins a b d Setting k (accepted_of a b d xs m))
          → Outcome x.deed x.pin old
          → get_or (left_by a b d (x ∷ xs) old) k 0 + pins a b d Pulling k (accepted_of a b d (x ∷ xs) old) ≡ get_or old k 0 + pins a b d Setting k (accepted_of a b d (x ∷ xs) old)
      go rest (inl (n, e)) = rw e (rest old k)
      go rest (inr t) = rw (← t.so) (one x.deed x.pin old t k _ _ _ (rest (set old t.at (recounted x.deed (get_or old t.at 0))) k))

  -- no pin counts past the list
  none-past : (deed : Deed) (k : ℕ) → length (stepped whole a b d) ≤ k → (xs : List Action) → pins a b d deed k xs ≡ 0
  unfolding pins
  none-past deed k h [] = refl
  none-past deed k h (x ∷ xs) = rw (off (pin_entry a b d x.pin) refl, and-false (same_deed deed x.deed)) (none-past deed k h xs)
    where
      off : (s : Answer ℕ) → pin_entry a b d x.pin ≡ s → is_at k (pin_entry a b d x.pin) ≡ false
      off (given j) e = rw e (ne_eqb j k (λ q. omega (arith, h, q, entry-inside a b d x.pin e)))
      off none e = rw e refl
      off (refused n) e = rw e refl

  -- what lies behind the chart
  behind : (xs : List Action) (old : List ℕ) → drop chart_size (left_by a b d xs old) ≡ drop chart_size old
  unfolding left_by
  behind [] old = refl
  behind (x ∷ xs) old = go (behind xs) (outcome x.deed x.pin old)
    where
      go : ((m : List ℕ) → drop chart_size (left_by a b d xs m) ≡ drop chart_size m) → Outcome x.deed x.pin old → drop chart_size (left_by a b d (x ∷ xs) old) ≡ drop chart_size old
      go rest (inl (n, e)) = rw e (rest old)
      go rest (inr t) = rw (← t.so) (rest (set old t.at (recounted x.deed (get_or old t.at 0))) ∙ drop-set-lt chart_size old t.at (recounted x.deed (get_or old t.at 0)) t.stands.inside)

  empty-at : (old : List ℕ) → chart_in old ≡ empty_chart → (k : ℕ) → k < chart_size → get_or old k 0 ≡ 0
  unfolding empty_chart
  empty-at old e k h = sym (get_or-take chart_size old k 0 h) ∙ ap (λ (l : List ℕ). get_or l k 0) e ∙ get_or-replicate chart_size k 0 0 h

  counted : (xs : List Action) (old : List ℕ) → chart_in old ≡ empty_chart → Balanced a b d xs old
  counted xs old e = record {
    count = λ k h. omega (arith, total xs old k, empty-at old e k h);
    fewer = λ k h. omega (arith, total xs old k, empty-at old e k h);
    past = λ k l h. omega (arith, total xs old k, empty-at old e k h, none-past Setting k l (accepted_of a b d xs old));
  }

  cleared : (old : List ℕ) → (chart_clear a b d old).0 ≡ done → chart_in (chart_clear a b d old).1 ≡ empty_chart
  unfolding chart_clear
  cleared old e = ap (λ (r : Answer Unit). chart_in (written r empty_chart old).1) e ∙ take_at empty_chart (drop (length empty_chart) old) chart_size empty_long

  -- ---- an action that has an entry
  module _ (deed : Deed) (pin : ℤ) (i : ℕ) (entry : pin_entry a b d pin ≡ given i) where
    -- its answer goes by the length of the memory and by one count
    answer_by : (old old' : List ℕ) → length old ≡ length old' → get_or old i 0 ≡ get_or old' i 0 → (chart_pin a b d deed pin old).0 ≡ (chart_pin a b d deed pin old').0
    unfolding chart_pin
    answer_by old old' long count =
        let same : get_or old (found_at (pin_entry a b d pin)) 0 ≡ get_or old' (found_at (pin_entry a b d pin)) 0 = subst (λ (r : Answer ℕ). get_or old (found_at r) 0 ≡ get_or old' (found_at r) 0) (sym entry) count in
        ap₂ (λ (n l : ℕ). lowest (entry_reasons a b d pin ++ (count_reason deed n (not (ltb l chart_size)) ∷ 13 when ltb l chart_size ∷ [])) done) same long

    module _ (old : List ℕ) where
      abbrev next : ℕ
      next = recounted deed (get_or old i 0)

      memory : (chart_pin a b d deed pin old).1 ≡ kept (chart_pin a b d deed pin old).0 (set old i next) old
      memory = go (outcome deed pin old)
        where
          go : Outcome deed pin old → (chart_pin a b d deed pin old).1 ≡ kept (chart_pin a b d deed pin old).0 (set old i next) old
          go (inl (n, e)) = rw e refl
          go (inr t) = rw (← t.so) (ap (λ (k : ℕ). set old k (recounted deed (get_or old k 0))) (given_is (sym t.stands.entry ∙ entry)))

      long : length (chart_pin a b d deed pin old).1 ≡ length old
      long = ap length memory ∙ go (chart_pin a b d deed pin old).0
        where
          go : (r : Answer Unit) → length (kept r (set old i next) old) ≡ length old
          go (given x) = length-set old i next
          go none = refl
          go (refused n) = refl

  -- ---- two actions at two entries
  module _ (x y : Action) (i j : ℕ) (at_x : pin_entry a b d x.pin ≡ given i) (at_y : pin_entry a b d y.pin ≡ given j) (apart : i ≡ j → ⊥) (old : List ℕ) where
    -- the first leaves the count of the second alone
    beside : get_or (act a b d x old).1 j 0 ≡ get_or old j 0
    beside = elsewhere x old j (rw at_x (ne_eqb i j apart))

    -- the second is answered as if the first were not
    unmoved : (act a b d y (act a b d x old).1).0 ≡ (act a b d y old).0
    unmoved = answer_by y.deed y.pin j at_y (act a b d x old).1 old (long x.deed x.pin i at_x old) beside

    -- the memory after both
    both : (act a b d y (act a b d x old).1).1
        ≡ kept (act a b d y old).0 (set (kept (act a b d x old).0 (set old i (recounted x.deed (get_or old i 0))) old) j (recounted y.deed (get_or old j 0))) (kept (act a b d x old).0 (set old i (recounted x.deed (get_or old i 0))) old)
    both =
        memory y.deed y.pin j at_y (act a b d x old).1
        ∙ ap₂ (λ (r : Answer Unit) (n : ℕ). kept r (set (act a b d x old).1 j (recounted y.deed n)) (act a b d x old).1) unmoved beside
        ∙ ap (λ (l : List ℕ). kept (act a b d y old).0 (set l j (recounted y.deed (get_or old j 0))) l) (memory x.deed x.pin i at_x old)

  entries_apart : (x y : Action) (i j : ℕ) → pin_entry a b d x.pin ≡ given i → pin_entry a b d y.pin ≡ given j → (i ≡ j → ⊥) → (old : List ℕ) → EitherOrder a b d x y old
  unfolding left_by
  entries_apart x y i j at_x at_y apart old = record {
    first = unmoved y x j i at_y at_x (λ e. apart (sym e)) old;
    second = unmoved x y i j at_x at_y apart old;
    same = both x y i j at_x at_y apart old ∙ swap old i j (recounted x.deed (get_or old i 0)) (recounted y.deed (get_or old j 0)) apart (act a b d x old).0 (act a b d y old).0 ∙ sym (both y x j i at_y at_x (λ e. apart (sym e)) old);
  }

  -- an action that is refused whatever is lent changes nothing
  stopped : (x : Action) {n : ℕ} → chart_entry a b d x.pin ≡ refused n → (old : List ℕ) → act a b d x old ≡ (refused n, old)
  stopped x e old = sym (pin-stopped a b d x.pin x.deed old e)

  same_answer : (x : Action) {n : ℕ} → chart_entry a b d x.pin ≡ refused n → (old old' : List ℕ) → (act a b d x old).0 ≡ (act a b d x old').0
  same_answer x e old old' = ap (λ (r : Answer Unit × List ℕ). r.0) (stopped x e old) ∙ sym (ap (λ (r : Answer Unit × List ℕ). r.0) (stopped x e old'))

  same_memory : (x : Action) {n : ℕ} → chart_entry a b d x.pin ≡ refused n → (old : List ℕ) → (act a b d x old).1 ≡ old
  same_memory x e old = ap (λ (r : Answer Unit × List ℕ). r.1) (stopped x e old)

  either_order : (x y : Action) (old : List ℕ) → (pin_entry a b d x.pin ≡ pin_entry a b d y.pin → ⊥) → EitherOrder a b d x y old
  unfolding left_by
  either_order x y old apart = go (by_entry x.pin) (by_entry y.pin)
    where
      go : ByEntry x.pin → ByEntry y.pin → EitherOrder a b d x y old
      go (inl (n, e)) other = record {
        first = same_answer x e (act a b d y old).1 old;
        second = ap (λ (l : List ℕ). (act a b d y l).0) (same_memory x e old);
        same = ap (λ (l : List ℕ). (act a b d y l).1) (same_memory x e old) ∙ sym (same_memory x e (act a b d y old).1);
      }
      go (inr s) (inl (n, e)) = record {
        first = ap (λ (l : List ℕ). (act a b d x l).0) (same_memory y e old);
        second = same_answer y e (act a b d x old).1 old;
        same = same_memory y e (act a b d x old).1 ∙ sym (ap (λ (l : List ℕ). (act a b d x l).1) (same_memory y e old));
      }
      go (inr (i, s)) (inr (j, t)) = entries_apart x y i j s.entry t.entry (λ e. apart (s.entry ∙ ap given e ∙ sym t.entry)) old

  both_accepted : (x y : Action) (old : List ℕ) → (pin_entry a b d x.pin ≡ pin_entry a b d y.pin → ⊥) → BothAccepted a b d x y old
      → BothAccepted a b d y x old × (left_by a b d (x ∷ y ∷ []) old ≡ left_by a b d (y ∷ x ∷ []) old)
  both_accepted x y old apart ok = let e = either_order x y old apart in ((sym e.second ∙ ok.1, e.first ∙ ok.0), e.same)

  -- ---- a pin set and pulled, or pulled and set
  module _ (deed other : Deed) (pin : ℤ) (old : List ℕ) where
    undone : ((k : ℕ) → (count_reason deed (get_or old k 0) true).applies ≡ false → ((count_reason other (recounted deed (get_or old k 0)) true).applies ≡ false) × (recounted other (recounted deed (get_or old k 0)) ≡ get_or old k 0))
        → (chart_pin a b d deed pin old).0 ≡ done → chart_pin a b d other pin (chart_pin a b d deed pin old).1 ≡ (done, old)
    undone back e = go (outcome deed pin old)
      where
        go : Outcome deed pin old → chart_pin a b d other pin (chart_pin a b d deed pin old).1 ≡ (done, old)
        go (inl (n, f)) = absurd (not-both (sym e ∙ ap (λ (r : Answer Unit × List ℕ). r.0) f))
        go (inr t) =
            let k = t.at in
            let n = recounted deed (get_or old k 0) in
            let once = set old k n in
            let there : get_or once k 0 ≡ n = get_or-set_same old k n 0 (omega (arith, t.stands.inside, ltb-false (length old) chart_size t.room)) in
            let room : no_chart once ≡ false = rw (length-set old k n) t.room in
            let law = back k t.free in
            let free : (count_reason other (get_or once k 0) true).applies ≡ false = rw there law.0 in
            ap (λ (l : List ℕ). chart_pin a b d other pin l) (sym (ap (λ (r : Answer Unit × List ℕ). r.1) t.so))
            ∙ sym (sym (rw free refl) ∙ pin_is a b d pin other once t.stands room)
            ∙ ap (λ (l : List ℕ). (done, l)) (ap (λ (m : ℕ). set once k (recounted other m)) there ∙ ap (λ (m : ℕ). set once k m) law.1 ∙ set-set old k n (get_or old k 0) ∙ set-get_or old k 0)

  pulled_again : (pin : ℤ) (old : List ℕ) → (chart_set a b d pin old).0 ≡ done → chart_pull a b d pin (chart_set a b d pin old).1 ≡ (done, old)
  pulled_again pin old = undone Setting Pulling pin old (λ k h. (ne_eqb (get_or old k 0 + 1) 0 (λ q. omega (arith, q)), omega arith))

  set_again : (pin : ℤ) (old : List ℕ) → ((k : ℕ) → get_or old k 0 ≤ 65_535) → (chart_pull a b d pin old).0 ≡ done → chart_set a b d pin (chart_pull a b d pin old).1 ≡ (done, old)
  set_again pin old few =
      undone Pulling Setting pin old (λ k h. let some = eqb-false (get_or old k 0) 0 h in (ne_eqb (get_or old k 0 - 1) 65_535 (λ q. omega (arith, q, few k, some)), omega (arith, some)))

  pub histories : Histories a b d
  histories = record { cleared = cleared; unchanged = unchanged; elsewhere = elsewhere; counted = counted; behind = behind; either_order = either_order; both_accepted = both_accepted; pulled_again = pulled_again; set_again = set_again }
