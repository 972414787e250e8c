-- 02 (i), the mirrored axis: the statement of ruler/specs/MovedFilm at −a, −b and −c. Assumes nothing.
use mathlib.Core.Path.{◌≡◌, refl, sym, ap, ap₂, ◌∙◌, subst}
use mathlib.Core.Bool.{Bool, true, false, cond}
use mathlib.Core.List.{List}
use Prim.Native.Nat.{ℕ, zero-le}
use native.Mathlib.Omega.{arith}
use lib.IntN.{ℤ, neg_ℤ, nat_abs, ◌+ℤ◌, neg_ℤ-+ℤ, neg_ℤ-neg_ℤ, +ℤ_invr}
use lib.ListN.{length}
use lib.Signed.{le_z, ◌≤ℤ◌, ◌<ℤ◌}
use borrow.Author.Tests.{le-leb}
use Rattle.ranged1d.specs.Answer.{Answer, given, and_then}
use Rattle.ranged1d.specs.Admitted.{limit_of, limit_admitted}
use Rattle.ranged1d.specs.Numbers.{same}
use Rattle.ranged1d.specs.declared.Limit.{Limit}
use Rattle.ranged1d.proofs.Answers.{given_is}
use Rattle.ranged1d.proofs.Bools.{cond_same}
use Rattle.ranged1d.proofs.Whole.{same_no, both_ways, le_yes}
use Rattle.real.specs.Place.{whole_place}
use Rattle.real.specs.Mirror as film
use Rattle.real.specs.Shifting.{shifted_limit}
use Rattle.real.proofs.Readings.{limit-neg}
use Rattle.real.proofs.Shifting.{shifted_place, place-shifted}
use Rattle.numeric.specs.declared.Choice.{Choice}
use Rattle.numeric.specs.declared.Choice.TheVariants.{Cut, Inside}
use Rattle.numeric.specs.Marks.{distance, step_at, first_of, chosen, step_for, step_of}
use Rattle.numeric.specs.Mirror.{NextTowardZero}
use Rattle.ruler.specs.declared.Form.{Form}
use Rattle.ruler.specs.Rule.{write_by, twisted, twisted_write}
use Rattle.ruler.specs.Mirror as ruler
use Rattle.ruler.specs.MovedFilm.{Stays}
use Rattle.ruler.proofs.MovedFilm.{moved_film}
use Rattle.mirror.specs.Mirror.{ruling_back, twisting_back}
use Rattle.mirror.specs.MovedFilm.{MirrorMoved}

-- ---- the limits
limits : (c : ℤ) (limit : Limit) → film.mirrored (shifted_limit c limit) ≡ shifted_limit (neg_ℤ c) (film.mirrored limit)
limits c limit = ap₂ limit_of (neg_ℤ-+ℤ limit.0 c) (neg_ℤ-+ℤ limit.1 c)

module _ (limit : Limit) (c : ℤ) (h : limit_admitted limit ≡ true) (h' : limit_admitted (shifted_limit c limit) ≡ true) where
  before : limit_admitted (film.mirrored limit) ≡ true
  before = limit-neg limit ∙ h

  after : limit_admitted (shifted_limit (neg_ℤ c) (film.mirrored limit)) ≡ true
  after = ap limit_admitted (sym (limits c limit)) ∙ limit-neg (shifted_limit c limit) ∙ h'

  -- ---- the rulers
  rulers : (f : Form) (a b : ℤ) (m : ℕ) (old old' back back' : List ℕ) → length back' ≡ length back
      → Stays (ruler.turned_form f) (neg_ℤ a) (neg_ℤ b) (film.mirrored limit) (neg_ℤ c) back back' (ruling_back f a b limit m old back) (ruling_back f a b (shifted_limit c limit) m old' back')
  rulers f a b m old old' back back' long =
      subst
      (λ (l : Limit). Stays (ruler.turned_form f) (neg_ℤ a) (neg_ℤ b) (film.mirrored limit) (neg_ℤ c) back back' (ruling_back f a b limit m old back) (write_by (ruler.turned_form f) (neg_ℤ a) (neg_ℤ b) l m back'))
      (sym (limits c limit))
      (moved_film.rulers (ruler.turned_form f) (neg_ℤ a) (neg_ℤ b) (film.mirrored limit) m (neg_ℤ c) before after back back' long)

  twisted_rulers : (choice : Choice) (t : ℕ) (a b : ℤ) (m : ℕ) (old old' back back' : List ℕ) → length back' ≡ length back
      → Stays (twisted choice (ruler.other_number t)) (neg_ℤ a) (neg_ℤ b) (film.mirrored limit) (neg_ℤ c) back back' (twisting_back choice t a b limit m old back) (twisting_back choice t a b (shifted_limit c limit) m old' back')
  twisted_rulers choice t a b m old old' back back' long =
      subst
      (λ (l : Limit). Stays (twisted choice (ruler.other_number t)) (neg_ℤ a) (neg_ℤ b) (film.mirrored limit) (neg_ℤ c) back back' (twisting_back choice t a b limit m old back) (twisted_write choice (ruler.other_number t) (neg_ℤ a) (neg_ℤ b) l m back'))
      (sym (limits c limit))
      (moved_film.twisted_rulers choice (ruler.other_number t) (neg_ℤ a) (neg_ℤ b) (film.mirrored limit) m (neg_ℤ c) before after back back' long)

-- ---- the one mark more
-- the next multiple is one number
one-next : (s : ℕ) (z x y : ℤ) → NextTowardZero s z x → NextTowardZero s z y → x ≡ y
one-next s z x y n n' =
    let (j, x_is) = n.multiple in
    let (k, y_is) = n'.multiple in
    both_ways x y
    (le_yes (subst (λ (w : ℤ). x ≤ℤ w) (sym y_is) (n.next k (subst (λ (w : ℤ). z <ℤ w) y_is n'.past))))
    (le_yes (subst (λ (w : ℤ). y ≤ℤ w) (sym x_is) (n'.next j (subst (λ (w : ℤ). z <ℤ w) x_is n.past))))

-- equal ends are marked by ones, which divide every needle
level_step : (a b : ℤ) (m : ℕ) → a ≡ b → step_of a b m ≡ 1
unfolding step_for chosen first_of step_at
level_step a b m e =
    let none : distance (cond (le_z a a) a a) (cond (le_z a a) a a) ≡ 0 = ap₂ distance (cond_same (le_z a a) refl) (cond_same (le_z a a) refl) ∙ ap nat_abs (+ℤ_invr a) in
    ap (λ (z : ℤ). step_of a z m) (sym e) ∙ rw (none, le-leb 0 m zero-le)

ends_differ : (choice : Choice) (a b : ℤ) (m : ℕ) → (ruler.Matches choice a b m → ⊥) → a ≡ b → ⊥
ends_differ Cut a b m n e = n (rw (level_step a b m e) (omega arith))
ends_differ Inside a b m n e = n tt

one_more : (a b z : ℤ) (limit : Limit) (m : ℕ) (c : ℤ) → limit_admitted limit ≡ true → limit_admitted (shifted_limit c limit) ≡ true → (more fewer more' fewer' : List ℕ)
    → (here : ruler.OneMore (neg_ℤ a) (neg_ℤ b) (film.mirrored limit) m z more fewer)
    → (there : ruler.OneMore (neg_ℤ a) (neg_ℤ b) (film.mirrored (shifted_limit c limit)) m z more' fewer')
    → (there.extra ≡ here.extra) × ((a ≡ b → ⊥) → there.place ≡ here.place +ℤ neg_ℤ c)
one_more a b z limit m c h h' more fewer more' fewer' here there = (same_needle, λ n. at_place ∙ ap (λ (t : Bool). cond t here.place (here.place +ℤ neg_ℤ c)) (apart n))
  where
    same_needle : there.extra ≡ here.extra
    same_needle = one-next (step_of (neg_ℤ a) (neg_ℤ b) m) z there.extra here.extra there.is_next here.is_next

    at_place : there.place ≡ shifted_place (neg_ℤ c) (neg_ℤ a) (neg_ℤ b) here.place
    at_place =
        given_is
        (sym there.placed
        ∙ ap₂ (λ (v : ℤ) (l : Limit). whole_place (neg_ℤ a) (neg_ℤ b) v l) same_needle (limits c limit)
        ∙ place-shifted (neg_ℤ c) (film.mirrored limit) (neg_ℤ a) (neg_ℤ b) here.extra (before limit c h h') (after limit c h h')
        ∙ ap (λ (r : Answer ℤ). and_then r (λ x. given (shifted_place (neg_ℤ c) (neg_ℤ a) (neg_ℤ b) x))) here.placed)

    apart : (a ≡ b → ⊥) → same (neg_ℤ a) (neg_ℤ b) ≡ false
    apart n = same_no (neg_ℤ a) (neg_ℤ b) (λ e. n (sym (neg_ℤ-neg_ℤ a) ∙ ap neg_ℤ e ∙ neg_ℤ-neg_ℤ b))

pub mirror-moved : MirrorMoved
mirror-moved = record {
  limits = limits;
  rulers = λ f a b limit m c h h' old old' back back' long. rulers limit c h h' f a b m old old' back back' long;
  twisted_rulers = λ choice t a b limit m c h h' old old' back back' long. twisted_rulers limit c h h' choice t a b m old old' back back' long;
  ends_differ = ends_differ;
  one_more = one_more;
}
