-- A place that can be told in whole numbers: by the exact place of request (e). Assumes nothing.
use Rattle.std.proofs.Common.{◌≡◌, ℕ, zero, suc, ◌+◌, ◌-◌, ◌*◌, ◌<◌, ◌≤◌, true, false, ◌⊎◌, ℤ, pos, negsuc, ◌+ℤ◌, ◌-ℤ◌, nat_abs, sym, refl, ap, ◌∙◌, inl, inr, add-mul, one-mul, div-add-mod', arith, le-leb}
use native.Mathlib.Nat.{div-eq_of_lt-le}
use lib.IntN.{+ℤ_invr}
use lib.Signed.{le_z}
use Rattle.ranged1d.specs.Answer.{given}
use Rattle.ranged1d.specs.Admitted.{ends_admitted, limit_admitted}
use Rattle.ranged1d.specs.Numbers.{same}
use Rattle.ranged1d.specs.declared.Limit.{Limit}
use Rattle.ranged1d.proofs.Whole.{both_near, between-far, same_no, start_to}
use Rattle.real.specs.Place.{whole_place}
use Rattle.real.specs.Reading.{outside}
use Rattle.real.specs.Exact.{pixels, distance, quotient, remainder, whole_exact, toward, away, Relied}
use Rattle.real.proofs.Error.{OneSide, between, between-share}
use Rattle.real.proofs.Relied.{exact}
use Rattle.ruler.specs.Place.{place_in, place_of}

-- ---- a number that lies on the side of another, by its size
toward-back : (z y : ℤ) → OneSide z y → nat_abs z ≤ nat_abs y → toward y (nat_abs z) ≡ z
toward-back (pos m) (pos n) o h = refl
toward-back (pos zero) (negsuc n) o h = refl
toward-back (pos (suc m)) (negsuc n) (inl o) h = absurd (omega (arith, o.0))
toward-back (pos (suc m)) (negsuc n) (inr o) h = absurd (omega (arith, o.1))
toward-back (negsuc m) (pos n) (inl o) h = absurd (omega (arith, o.1))
toward-back (negsuc m) (pos n) (inr o) h = absurd (omega (arith, o.0))
toward-back (negsuc m) (negsuc n) o h = refl

-- so a pixel on the film is as far from p, toward q, as it says
pixel_away : (limit : Limit) (x : ℤ) → outside x limit.0 limit.1 ≡ false → away limit (nat_abs (x -ℤ limit.0)) ≡ x
pixel_away limit x o =
    let (side, near) = between-share limit.0 limit.1 x o in
    ap (λ (z : ℤ). limit.0 +ℤ z) (toward-back (x -ℤ limit.0) (limit.1 -ℤ limit.0) side near) ∙ start_to limit.0 x

-- ---- a value between admitted ends is admitted
between-admitted : (k : ℕ) (x p q : ℤ) → nat_abs p ≤ k → nat_abs q ≤ k → outside x p q ≡ false → nat_abs x ≤ k
between-admitted k x p q hp hq o = go (between x p q o)
  where
    go : ((le_z p x ≡ true) × (le_z x q ≡ true)) ⊎ ((le_z q x ≡ true) × (le_z x p ≡ true)) → nat_abs x ≤ k
    go (inl w) = between-far k p x q w.0 w.1 hp hq
    go (inr w) = between-far k q x p w.0 w.1 hq hp

-- ---- the place
module _ (a b v x : ℤ) (limit : Limit) (ends : ends_admitted a b ≡ true) (film : limit_admitted limit ≡ true) (inside : outside v a b ≡ false) (shown : outside x limit.0 limit.1 ≡ false) where
  pub near : (nat_abs a ≤ 1_000_000_000) × (nat_abs b ≤ 1_000_000_000) × (nat_abs v ≤ 1_000_000_000) × (nat_abs limit.0 ≤ 1_000_000) × (nat_abs limit.1 ≤ 1_000_000) × (nat_abs x ≤ 1_000_000)
  near =
      let (na, nb) = both_near 1_000_000_000 a b ends in
      let (np, nq) = both_near 1_000_000 limit.0 limit.1 film in
      (na, nb, between-admitted 1_000_000_000 v a b na nb inside, np, nq, between-admitted 1_000_000 x limit.0 limit.1 np nq shown)

  module _ (fewer : nat_abs (x -ℤ limit.0) * distance a b ≤ pixels limit * distance a v) (little : 1000 * (pixels limit * distance a v - nat_abs (x -ℤ limit.0) * distance a b) < 998 * distance a b) where
    abbrev k : ℕ
    k = nat_abs (x -ℤ limit.0)

    differ : same a b ≡ false
    differ = same_no a b (λ (e : a ≡ b). let none : distance a b ≡ 0 = ap (λ (z : ℤ). nat_abs (b -ℤ z)) e ∙ ap nat_abs (+ℤ_invr b) in omega arith)

    is_quotient : quotient a b v limit ≡ k
    is_quotient = div-eq_of_lt-le (distance a b) fewer (omega (arith, add-mul k 1 (distance a b), one-mul (distance a b)))

    exactly : whole_exact a b v limit ≡ given (quotient a b v limit, remainder a b v limit)
    unfolding whole_exact
    exactly = rw (ends, le-leb (nat_abs v) 1_000_000_000 near.2, film, differ, inside)

    pub counted : x ≡ place_of a b limit v
    unfolding place_of
    counted = go ((exact limit).relied a b v exactly)
      where
        go : Relied a b v limit (quotient a b v limit) (remainder a b v limit) → x ≡ place_in (whole_place a b v limit)
        go r = sym (ap place_in r.place ∙ ap (away limit) (as_many r.near) ∙ pixel_away limit x shown)
          where
            as_many : (r.k ≡ quotient a b v limit) ⊎ ((r.k ≡ quotient a b v limit + 1) × (998 * distance a b ≤ 1000 * remainder a b v limit)) → r.k ≡ k
            as_many (inl e) = e ∙ is_quotient
            as_many (inr e) =
                let whole = ap (λ (q : ℕ). q * distance a b + remainder a b v limit) (sym is_quotient) ∙ div-add-mod' (pixels limit * distance a v) (distance a b) in
                absurd (omega (arith, whole, e.1))
