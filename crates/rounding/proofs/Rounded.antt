-- `round` of the standard library is `halves`: it rounds what has no fraction too, and that changes nothing. Assumes nothing.
use Rattle.std.specs.Float.{float_round, round_with}
use Rattle.std.proofs.Common.{◌≡◌, ℕ, zero, suc, ◌+◌, ◌*◌, ◌^◌, ◌<◌, ◌≤◌, Bool, true, false, T, ℤ, pos, negsuc, refl, sym, ap, ◌∙◌, subst, arith, pow_pos, zero-mul, mul-one, mul_assoc, mul_comm, mul-lt-mul_of_pos_right, mul-le-mul_left, zero-le, ltb→lt, ltb, leb, eqb, ◌&&◌, ◌%◌}
use lib.Ieee.{Float, nan, inf, fin, Format, prec, low, emax, up, down, fits, round}
use lib.Ieee.Bits.{is_true}
use lib.Pow.{pow-add}
use lib.Ieee.Fits.{and_r, round-fits}
use lib.Ieee.Exact.{HasValue, round_exact}
use lib.Ieee.Back.{round_whole, whole_unique}
use Rattle.rounding.specs.Integral.{halves, integral, near}
use Rattle.rounding.proofs.Quotients.{sized_le, sized-whole}
use Rattle.rounding.proofs.Sizes.{digits}
use Rattle.rounding.proofs.Value.{integral-value, integral_fits}

abbrev Size : ℕ → ℤ → ℕ
Size m e = near (m * up e) (down e)

plain : (n : ℕ) → near n 1 ≡ n
plain n = ap (λ (z : ℕ). near z 1) (sym (mul-one n)) ∙ sized-whole halves false n 1 (omega arith)

below_limit : (f : Format) (s : Bool) (m k : ℕ) → T (fits f (fin s (suc m) (pos k))) → suc m * 2 ^ k < 2 ^ suc (emax f)
unfolding fits
below_limit f s m k t =
    let n = suc m in
    let rest = eqb (n % 2) 1 && ltb n (2 ^ prec f) && leb 1 (2 ^ low f) in
    let h : n * 2 ^ k < 2 ^ suc (emax f) * 1 = ltb→lt (n * 2 ^ k) (2 ^ suc (emax f) * 1) (and_r rest (ltb (n * 2 ^ k) (2 ^ suc (emax f) * 1)) t) in
    omega arith

scaled_lt : (n k l e : ℕ) → n * 2 ^ k < 2 ^ e → n * 2 ^ (k + l) < 2 ^ (l + e)
scaled_lt n k l e h =
    let p : 2 ^ (k + l) ≡ 2 ^ k * 2 ^ l = pow-add 2 k l in
    let q : 2 ^ (l + e) ≡ 2 ^ e * 2 ^ l = pow-add 2 l e ∙ mul_comm (2 ^ l) (2 ^ e) in
    rw (p, q, sym (mul_assoc n (2 ^ k) (2 ^ l))) (mul-lt-mul_of_pos_right h (pow_pos l))

scaled_is : (n k l : ℕ) → n * 2 ^ k * 2 ^ l ≡ n * 2 ^ (k + l) * 1
scaled_is n k l = mul_assoc n (2 ^ k) (2 ^ l) ∙ ap (λ (z : ℕ). n * z) (sym (pow-add 2 k l)) ∙ sym (mul-one (n * 2 ^ (k + l)))

few : (f : Format) (s : Bool) (m k : ℕ) → T (fits f (fin s m (negsuc k))) → m * 1 ≤ 2 ^ prec f * 2 ^ suc k
few f s zero k t = zero-le
few f s (suc m) k t =
    let h : suc m < 2 ^ prec f = digits f s m (negsuc k) t in
    let p : 2 ^ prec f * 1 ≤ 2 ^ prec f * 2 ^ suc k = mul-le-mul_left (2 ^ prec f) (pow_pos (suc k)) in
    omega arith

value : (f : Format) (s : Bool) (m : ℕ) (e : ℤ) → T (fits f (fin s m e)) → HasValue (round f s (Size m e) 1) s (Size m e) 1
value f s zero (pos k) t = rw (zero-mul (2 ^ k)) (round_whole f s 0 (omega arith))
value f s (suc m) (pos k) t =
    let n = suc m * 2 ^ k in
    let fine : n < 2 ^ suc (emax f) = below_limit f s m k t in
    rw (plain n) (round_exact f s n 1 (suc m) (k + low f) (omega arith) (digits f s m (pos k) t) (scaled_lt (suc m) k (low f) (suc (emax f)) fine) (scaled_is (suc m) k (low f)))
value f s m (negsuc k) t = round_whole f s (Size m (negsuc k)) (sized_le halves s (m * 1) (2 ^ suc k) (2 ^ prec f) (pow_pos (suc k)) (few f s m k t))

held : (f : Format) (x : Float) → T (fits f x) → float_round f x ≡ integral f halves x
unfolding integral round_with
held f nan t = refl
held f (inf s) t = refl
held f (fin false m e) t = whole_unique f _ _ false (Size m e) (round-fits f false (Size m e) 1) (integral_fits f halves (fin false m e) t) (value f false m e t) (integral-value f halves false m e (is_true _ t))
held f (fin true m e) t = whole_unique f _ _ true (Size m e) (round-fits f true (Size m e) 1) (integral_fits f halves (fin true m e) t) (value f true m e t) (integral-value f halves true m e (is_true _ t))

pub rounds : (f : Format) (x : Float) → fits f x ≡ true → float_round f x ≡ integral f halves x
rounds f x t = held f x (subst T (sym t) tt)
