-- Demand 3 on drafts that can be held in one hand: 01's own, and the smallest that have nothing to write. `worked` of proofs/Worked computes them. Assumes
-- nothing.
use Rattle.std.specs.Prelude.{ℕ, List, [], ◌≡◌, ℤ, pos, negsuc, replicate}
use Rattle.ranged1d.specs.Admitted.{limit_of}
use Rattle.ranged1d.specs.declared.Limit.{Limit}
use Rattle.ruler.specs.Rule.{one, three}
use Rattle.ruler.specs.Mirror as ruler
use Rattle.ruler.specs.Mirror.{accepted, stopped, verdict}
use Rattle.mirror.specs.Mirror.{wrote, ruling, ruling_back, marking, marking_back}

-- so many bytes, lent with zeros in them
abbrev pub zeros : ℕ → List ℕ
zeros n = replicate n 0

-- 01 "From the drafting table": −15..−3 on the film 0..120 with m 4, and its mirror 3..15 on 0..−120. The half below zero has the marks −15, −10, −5 and 0,
-- the other 5, 10 and 15: the one mark more is the needle 0, past the axis, at 150, past the film.
abbrev pub draft_limit : Limit
draft_limit = limit_of (pos 0) (pos 120)

abbrev pub extra_needle : ℤ
extra_needle = pos 0

abbrev pub extra_place : ℤ
extra_place = pos 150

abbrev pub DraftMore : Type 0
DraftMore =
    ruler.OneMore (negsuc 14) (negsuc 2) draft_limit 4 (negsuc 2) (wrote (λ x. x.0) (ruling one (negsuc 14) (negsuc 2) draft_limit 4 (zeros 105) (zeros 85)))
    (wrote (λ x. x.0) (ruling_back one (negsuc 14) (negsuc 2) draft_limit 4 (zeros 105) (zeros 85)))

pub record Worked : Type 0 where
  pub draft_more : DraftMore
  pub draft_extra : draft_more.extra ≡ extra_needle
  pub draft_place : draft_more.place ≡ extra_place
  -- 02 (a): of kind 3 the same draft has the marks −15, −10 and −5, and its mirror 5, 10 and 15: a ruler and its mirror, with no mark more
  pub draft_inside : ruler.MirrorOf (wrote (λ x. x.0) (ruling_back three (negsuc 14) (negsuc 2) draft_limit 4 (zeros 85) (zeros 85))) (wrote (λ x. x.0) (ruling three (negsuc 14) (negsuc 2) draft_limit 4 (zeros 85) (zeros 85)))
  -- −5..−3 with m 0: no step serves, whatever is lent, and 3 is met on both sides. A ruler that went on without a step would have a mark on this side and
  -- none on the other, so that nothing lent, or 25 to 44 bytes, would be enough on one side alone.
  pub no_ruler_lem : (verdict (ruling one (negsuc 4) (negsuc 2) draft_limit 0 (zeros 25) (zeros 25)).0 ≡ stopped 3) × (verdict (ruling_back one (negsuc 4) (negsuc 2) draft_limit 0 (zeros 25) (zeros 25)).0 ≡ stopped 3)
  pub no_marks : (verdict (marking (negsuc 4) (negsuc 2) 0 [] []).0 ≡ stopped 3) × (verdict (marking_back (negsuc 4) (negsuc 2) 0 [] []).0 ≡ stopped 3)
