-- Which way a stepped axis runs, of either kind of numbers: when its step leads away, and when its list has an entry. Assumes nothing.
use mathlib.Core.Path.{◌≡◌, refl, sym, ap, subst, ◌∙◌}
use mathlib.Core.Bool.{Bool, true, false, cond, true≢false, ◌||◌, or-false}
use mathlib.Core.List.{[]}
use Rattle.ranged1d.proofs.Bools.{both_false}
use Rattle.search.proofs.Orders.{Order}
use Rattle.search.specs.Search.{Numbers}
use Rattle.linspace.specs.List.{Kind, toward, run, stepped, against}
use Rattle.linspace.specs.Calls.{has_entries}
use Rattle.linspace.proofs.Entries.{run-some, some_if}

-- the order of a kind whose numbers compare as an entry's do
pub ordered_by : {A : Type 0} (kind : Kind A) {n : Numbers A} → kind.numbers ≡ n → Order A n.less n.equal → Order A kind.numbers.less kind.numbers.equal
ordered_by {A} kind e o = subst (λ (n : Numbers A). Order A n.less n.equal) (sym e) o

module _ {A : Type 0} (kind : Kind A) (o : Order A kind.numbers.less kind.numbers.equal) (a b d : A) where
  -- ---- 6
  pub against-up : kind.numbers.less a b ≡ true → (kind.numbers.less d kind.nil || kind.numbers.equal d kind.nil) ≡ against kind a b d
  unfolding against
  against-up h = rw (h, o.asym a b h) (sym (or-false (kind.numbers.less d kind.nil || kind.numbers.equal d kind.nil)))

  pub against-down : kind.numbers.less a b ≡ false → kind.numbers.less b a ≡ true → (kind.numbers.less kind.nil d || kind.numbers.equal kind.nil d) ≡ against kind a b d
  unfolding against
  against-down h k = rw (h, k) refl

  pub against-level : kind.numbers.less a b ≡ false → kind.numbers.less b a ≡ false → false ≡ against kind a b d
  unfolding against
  against-level h k = rw (h, k) refl

  -- a step that is not against leads on
  pub leading : (rises : Bool) → toward kind rises b a ≡ true → kind.numbers.equal d d ≡ true → kind.numbers.equal kind.nil kind.nil ≡ true → against kind a b d ≡ false → toward kind rises d kind.nil ≡ true
  leading true h p q e = let n = both_false (kind.numbers.less d kind.nil) (kind.numbers.equal d kind.nil) (against-up h ∙ e) in o.total d kind.nil p q n.0 n.1
  leading false h p q e = let n = both_false (kind.numbers.less kind.nil d) (kind.numbers.equal kind.nil d) (against-down (o.asym b a h) h ∙ e) in o.total kind.nil d q p n.0 n.1

  -- ---- the list
  pub stepped_up : kind.numbers.less a b ≡ true → stepped kind a b d ≡ cond (kind.numbers.less (kind.plus a d) b) (run kind a b d true) []
  unfolding stepped
  stepped_up h = rw (h, o.asym a b h) refl

  pub stepped_down : kind.numbers.less a b ≡ false → kind.numbers.less b a ≡ true → stepped kind a b d ≡ cond (kind.numbers.less b (kind.plus a d)) (run kind a b d false) []
  unfolding stepped
  stepped_down h k = rw (h, k) refl

  stepped-level : kind.numbers.less a b ≡ false → kind.numbers.less b a ≡ false → stepped kind a b d ≡ []
  unfolding stepped
  stepped-level h k = rw (h, k) refl

  -- ---- whether there is an entry: the first two come before b
  pub has_up : kind.numbers.less a b ≡ true → kind.numbers.less (kind.plus a d) b ≡ has_entries (stepped kind a b d)
  has_up h = some_if (kind.numbers.less (kind.plus a d) b) (run kind a b d true) (run-some kind a b d true h) ∙ sym (ap has_entries (stepped_up h))

  pub has_down : kind.numbers.less a b ≡ false → kind.numbers.less b a ≡ true → kind.numbers.less b (kind.plus a d) ≡ has_entries (stepped kind a b d)
  has_down h k = some_if (kind.numbers.less b (kind.plus a d)) (run kind a b d false) (run-some kind a b d false k) ∙ sym (ap has_entries (stepped_down h k))

  pub has_level : kind.numbers.less a b ≡ false → kind.numbers.less b a ≡ false → false ≡ has_entries (stepped kind a b d)
  has_level h k = sym (ap has_entries (stepped-level h k))

  -- a list with entries runs from a on, with a and the sum behind it before b
  pub runs : has_entries (stepped kind a b d) ≡ true → (toward kind (kind.numbers.less a b) b a ≡ true) × (toward kind (kind.numbers.less a b) b (kind.plus a d) ≡ true)
  runs s = go (kind.numbers.less a b) refl (kind.numbers.less b a) refl
    where
      go : (t : Bool) → kind.numbers.less a b ≡ t → (u : Bool) → kind.numbers.less b a ≡ u → (toward kind t b a ≡ true) × (toward kind t b (kind.plus a d) ≡ true)
      go true h u k = (h, has_up h ∙ s)
      go false h true k = (k, has_down h k ∙ s)
      go false h false k = absurd (true≢false (sym (has_level h k ∙ s)))

  stepped_way : (rises : Bool) → toward kind rises b a ≡ true → toward kind rises b (kind.plus a d) ≡ true → stepped kind a b d ≡ run kind a b d rises
  stepped_way true p q = stepped_up p ∙ rw q refl
  stepped_way false p q = stepped_down (o.asym b a p) p ∙ rw q refl

  pub stepped-run : has_entries (stepped kind a b d) ≡ true → stepped kind a b d ≡ run kind a b d (kind.numbers.less a b)
  stepped-run s = let r = runs s in stepped_way (kind.numbers.less a b) r.0 r.1
