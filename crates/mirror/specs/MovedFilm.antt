-- 02 (i): the ruler of the mirrored axis, its one mark more included, changes as that of the axis does, by −c where the limits of the draft are moved by c. It is
-- stated over what the mirror's own statement speaks of (specs/Mirror). `mirror-moved` of proofs/MovedFilm proves `MirrorMoved`. Assumes nothing.
use Rattle.std.specs.Prelude.{ℕ, true, List, ◌≡◌, ℤ, neg_ℤ, ◌+ℤ◌, length}
use Rattle.ranged1d.specs.Admitted.{limit_admitted}
use Rattle.ranged1d.specs.declared.Limit.{Limit}
use Rattle.real.specs.Mirror as film
use Rattle.real.specs.Shifting.{shifted_limit}
use Rattle.numeric.specs.declared.Choice.{Choice}
use Rattle.ruler.specs.declared.Form.{Form}
use Rattle.ruler.specs.Rule.{twisted}
use Rattle.ruler.specs.Mirror as ruler
use Rattle.ruler.specs.MovedFilm.{Stays}
use Rattle.mirror.specs.Mirror.{ruling_back, twisting_back}

pub record MirrorMoved : Type 0 where
  -- the mirror of limits that are moved by c: the mirrored limits, moved by −c
  pub limits : (c : ℤ) (limit : Limit) → film.mirrored (shifted_limit c limit) ≡ shifted_limit (neg_ℤ c) (film.mirrored limit)
  -- So the ruler of the mirrored axis, of every form: the same refusal, or p, q and the places of all its marks moved by −c, and no other byte changed. The
  -- draft's limits are admitted before and after, and `back` and `back'`, which are lent for the mirrored ruler, are equally long.
  pub rulers : (f : Form) (a b : ℤ) (limit : Limit) (m : ℕ) (c : ℤ) → limit_admitted limit ≡ true → limit_admitted (shifted_limit c limit) ≡ true
      → (old old' back back' : List ℕ) → length back' ≡ length back
      → Stays (ruler.turned_form f) (neg_ℤ a) (neg_ℤ b) (film.mirrored limit) (neg_ℤ c) back back' (ruling_back f a b limit m old back) (ruling_back f a b (shifted_limit c limit) m old' back')
  -- and as the calls write it that are handed a twist by its number
  pub twisted_rulers : (choice : Choice) (t : ℕ) (a b : ℤ) (limit : Limit) (m : ℕ) (c : ℤ) → limit_admitted limit ≡ true → limit_admitted (shifted_limit c limit) ≡ true
      → (old old' back back' : List ℕ) → length back' ≡ length back
      → Stays (twisted choice (ruler.other_number t)) (neg_ℤ a) (neg_ℤ b) (film.mirrored limit) (neg_ℤ c) back back' (twisting_back choice t a b limit m old back) (twisting_back choice t a b (shifted_limit c limit) m old' back')
  -- The one mark more of the mirrored axis, where that is the half below zero: the needle that it was, its place moved by −c. There is a mark more only where
  -- the ends differ.
  pub ends_differ : (choice : Choice) (a b : ℤ) (m : ℕ) → (ruler.Matches choice a b m → ⊥) → a ≡ b → ⊥
  pub one_more : (a b z : ℤ) (limit : Limit) (m : ℕ) (c : ℤ) → limit_admitted limit ≡ true → limit_admitted (shifted_limit c limit) ≡ true
      → (more fewer more' fewer' : List ℕ)
      → (here : ruler.OneMore (neg_ℤ a) (neg_ℤ b) (film.mirrored limit) m z more fewer)
      → (there : ruler.OneMore (neg_ℤ a) (neg_ℤ b) (film.mirrored (shifted_limit c limit)) m z more' fewer')
      → (there.extra ≡ here.extra) × ((a ≡ b → ⊥) → there.place ≡ here.place +ℤ neg_ℤ c)
