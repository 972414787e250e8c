-- How large a quotient can be, and the whole number next to a float of at most C in size, C being a whole number that the format holds.
-- Assumes nothing.
use mathlib.Core.Bool.{Bool, true, false}
use Prim.Native.Nat.{ℕ, suc, ◌*◌, ◌^◌, ◌≤◌, ◌<◌}
use native.Mathlib.Omega.{arith}
use lib.IntN.{ℤ, pos, negsuc, nat_abs}
use lib.Ieee.{Format, prec, Float, fin, up, down, unlike, round, div, of_int, inf, nan}
use lib.Ieee.Fits.{down_pos}
use lib.Ieee.Exact.{HasValue}
use lib.Ieee.Back.{round_whole}
use Rattle.rounding.specs.Integral.{Way, sized}
use Rattle.rounding.specs.Within.{signed, whole_of, within, AtMost}
use Rattle.rounding.proofs.Quotients.{sized_le}
use Rattle.rounding.proofs.Bounds.{kept_in}
use Rattle.rounding.proofs.Steps.{signed_abs}
use Rattle.rounding.proofs.Small.{Plus, plus-round, round_small}
use Rattle.rounding.proofs.Value.{Told}
use Rattle.rounding.proofs.Values.{div-round}
use Rattle.real.proofs.Signs.{int_value}

-- the quotient of two numbers without a sign has none
pub plus-div : (f : Format) (x y : Float) (n d : ℕ) → 0 < d → HasValue x false n 1 → HasValue y false d 1 → Plus (div f x y)
plus-div f x y n d p a b = rw (div-round f x y false false n d p a b) (plus-round f n d)

module _ (f : Format) (C : ℕ) (held : C ≤ 2 ^ prec f) where
  small_round : (s : Bool) (n d : ℕ) → 0 < d → n ≤ C * d → AtMost C (round f s n d)
  small_round = round_small f C (round_whole f false C held)

  pub small_int : (z : ℤ) → nat_abs z ≤ C → AtMost C (of_int f z)
  unfolding of_int
  small_int (pos n) h = small_round false n 1 (omega arith) (omega arith)
  small_int (negsuc n) h = small_round true (suc n) 1 (omega arith) (omega arith)

  pub small_quotient : (m n : ℤ) → nat_abs m ≤ 2 ^ prec f → nat_abs n ≤ 2 ^ prec f → 0 < nat_abs n → nat_abs m ≤ C * nat_abs n → AtMost C (div f (of_int f m) (of_int f n))
  small_quotient m n hm hn p h = let x = int_value f m hm in let y = int_value f n hn in rw (div-round f (of_int f m) (of_int f n) x.0 y.0 (nat_abs m) (nat_abs n) p x.1 y.1) (small_round (unlike x.0 y.0) (nat_abs m) (nat_abs n) p h)

-- ---- the whole number next to a small number
pub small_told : (w : Way) (b C : ℕ) (x : Float) → C ≤ b → AtMost C x → Told (within w b x) C
unfolding within whole_of
small_told w b C nan h v = elim v [ ]
small_told w b C (inf _) h v = elim v [ ]
small_told w b C (fin s m e) h v =
    let k = sized w s (m * up e) (down e) in
    let l : nat_abs (signed s k) ≤ C = rw (signed_abs s k) (sized_le w s (m * up e) (down e) C (down_pos e) v) in
    (signed s k, kept_in b (signed s k) (omega arith), l)
