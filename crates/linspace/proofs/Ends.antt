-- 01 "Mirroring, real reading, stepped axes": a stepped list has no entry or at least two, and b is none of them. Assumes nothing.
use mathlib.Core.Path.{◌≡◌, refl, sym, ap, subst, ◌∙◌}
use mathlib.Core.Logic.{◌⊎◌, inl, inr}
use mathlib.Core.Bool.{Bool, true, false, cond, true≢false}
use mathlib.Core.List.{List, []}
use Prim.Native.Nat.{ℕ, suc, ◌≤◌, ◌<◌}
use native.Mathlib.Omega.{arith}
use lib.IntN.{ℤ}
use lib.ListN.{length, get_or}
use lib.Ieee.{Float}
use Rattle.ranged1d.proofs.Bools.{both_true}
use Rattle.search.proofs.RealOrder.{real-order}
use Rattle.search.proofs.WholeOrder.{whole-order}
use Rattle.search.proofs.Orders.{not_itself}
use Rattle.linspace.specs.List.{Kind, whole, real, entries, most, toward, headed, run, stepped}
use Rattle.linspace.proofs.Walks.{entries_on, entry_is, entry-passes}

module _ {A : Type 0} (kind : Kind A) (a b d : A) where
  abbrev next : A → A
  next x = kind.plus x d

  two : (rises : Bool) → toward kind rises b a ≡ true → toward kind rises b (next a) ≡ true → 2 ≤ length (run kind a b d rises)
  two rises p q =
      let passes = toward kind rises b in
      let one : length (entries passes next (suc most) a) ≡ suc (length (entries passes next most (next a))) = ap length (entries_on passes next most a p) in
      let more : length (entries passes next most (next a)) ≡ suc (length (entries passes next 65535 (next (next a)))) = ap length (entries_on passes next 65535 (next a) q) in
      omega (arith, one, more)

  -- a list is that of one direction, which has two entries, or empty
  by_way : (P : List A → Type 0) → ((rises : Bool) → toward kind rises b a ≡ true → toward kind rises b (next a) ≡ true → P (run kind a b d rises)) → P [] → P (stepped kind a b d)
  unfolding stepped
  by_way P f e = go (headed kind a b d true) refl (headed kind a b d false) refl
    where
      go : (u : Bool) → headed kind a b d true ≡ u → (w : Bool) → headed kind a b d false ≡ w → P (cond u (run kind a b d true) (cond w (run kind a b d false) []))
      go true h w k = let s = both_true (kind.numbers.less a b) (kind.numbers.less (next a) b) h in f true s.0 s.1
      go false h true k = let s = both_true (kind.numbers.less b a) (kind.numbers.less b (next a)) k in f false s.0 s.1
      go false h false k = e

  pub none_or_two : (length (stepped kind a b d) ≡ 0) ⊎ (2 ≤ length (stepped kind a b d))
  none_or_two = by_way (λ l. (length l ≡ 0) ⊎ (2 ≤ length l)) (λ rises p q. inr (two rises p q)) (inl refl)

  -- where nothing is less than itself
  not_listed : kind.numbers.less b b ≡ false → (k : ℕ) → k < length (stepped kind a b d) → get_or (stepped kind a b d) k kind.nil ≡ b → ⊥
  not_listed irr k = by_way (λ l. k < length l → get_or l k kind.nil ≡ b → ⊥) (λ rises p q. way rises) (λ h e. absurd (omega (arith, h)))
    where
      itself : (rises : Bool) → toward kind rises b b ≡ false
      itself true = irr
      itself false = irr

      way : (rises : Bool) → k < length (run kind a b d rises) → get_or (run kind a b d rises) k kind.nil ≡ b → ⊥
      way rises h e =
          let passes = toward kind rises b in
          let here = sym (entry_is passes next (suc most) a kind.nil k h) ∙ e in
          true≢false (sym (subst (λ (x : A). passes x ≡ true) here (entry-passes passes next (suc most) a k h)) ∙ itself rises)

pub whole_end_not_listed : (a b d : ℤ) (k : ℕ) → k < length (stepped whole a b d) → get_or (stepped whole a b d) k whole.nil ≡ b → ⊥
whole_end_not_listed a b d = not_listed whole a b d (not_itself whole-order b)

pub real_end_not_listed : (a b d : Float) (k : ℕ) → k < length (stepped real a b d) → get_or (stepped real a b d) k real.nil ≡ b → ⊥
real_end_not_listed a b d = not_listed real a b d (not_itself real-order b)
