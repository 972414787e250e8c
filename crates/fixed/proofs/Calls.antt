-- The rules of the calls, by the tests that the code makes. Assumes nothing.
use mathlib.Core.Path.{◌≡◌, refl, sym, ap, ◌∙◌}
use mathlib.Core.Bool.{Bool, true, false, cond, not, ◌&&◌}
use mathlib.Core.List.{List}
use Prim.Native.Nat.{ℕ, ◌≤◌, ◌<◌}
use native.Mathlib.Omega.{arith}
use borrow.Author.Tests.{le-ltb, lt-ltb, leb-true}
use lib.IntN.{ℤ, nat_abs}
use lib.ListN.{length}
use Rattle.ranged1d.specs.Answer.{Answer, given, none, refused, list_written}
use Rattle.ranged1d.specs.Admitted.{whole_admitted}
use Rattle.ranged1d.proofs.Answers.{not_none}
use Rattle.decimal.specs.Read.{same_bytes}
use Rattle.decimal.proofs.Texts.{same_no}
use Rattle.fixed.specs.Fixed.{fixed_text, number_in, is_printed, fixed_print, fixed_read}
use Rattle.fixed.specs.Steps.{printed}
use Rattle.ranged1d.specs.Told.{tell, tell_option}
use Rattle.ranged1d.specs.declared.Refusal.TheVariants.{NotADecimal}
use Rattle.decimal.proofs.Reader.{then-told}
use Rattle.std.specs.Prelude.{Option, Some, None}
use Rattle.std.specs.Bool.{then_some}
use Rattle.std.specs.Option.{ok_or}
use Rattle.fixed.proofs.Texts.{fixed_most}

-- ---- print
module _ (x : ℤ) (f : ℕ) (old : List ℕ) where
  pub print_1 : whole_admitted x ≡ false → ◌≡◌ {A = Answer ℕ × List ℕ} (refused 1, old) (fixed_print x f old)
  unfolding fixed_print
  print_1 a = rw a

  pub print_24 : whole_admitted x ≡ true → 6 < f → ◌≡◌ {A = Answer ℕ × List ℕ} (refused 24, old) (fixed_print x f old)
  unfolding fixed_print
  print_24 a h = rw (a, lt-ltb 6 f h)

  pub print-text : whole_admitted x ≡ true → f ≤ 6 → list_written (fixed_text f x) old ≡ fixed_print x f old
  unfolding fixed_print
  print-text a h = rw (a, le-ltb 6 f h)

-- ---- read
module _ (s : List ℕ) (f : ℕ) where
  pub read_24 : 6 < f → refused 24 ≡ fixed_read s f
  unfolding fixed_read
  read_24 h = rw (lt-ltb 6 f h)

  pub read_by : f ≤ 6 → cond (is_printed f s) (given (number_in s)) (refused 25) ≡ fixed_read s f
  unfolding fixed_read
  read_by h = rw (le-ltb 6 f h) (go (is_printed f s))
    where
      go : (t : Bool) → cond t (given (number_in s)) (refused 25) ≡ cond (not t) (refused 25) (given (number_in s))
      go true = refl
      go false = refl

  -- no text is longer than twelve bytes
  pub not-printed : f ≤ 6 → 12 < length s → is_printed f s ≡ false
  not-printed h l = go (whole_admitted (number_in s)) refl
    where
      other : whole_admitted (number_in s) ≡ true → s ≡ fixed_text f (number_in s) → ⊥
      other a e = omega (arith, ap length e, fixed_most f (number_in s) h (leb-true (nat_abs (number_in s)) 1000000000 a))

      go : (t : Bool) → whole_admitted (number_in s) ≡ t → (t && same_bytes s (fixed_text f (number_in s))) ≡ false
      go true a = same_no s (fixed_text f (number_in s)) (other a)
      go false a = refl

-- ---- the reader's answer
pub printed-by : (s : List ℕ) (f : ℕ) (x : ℤ) (b : Bool) → x ≡ number_in s → b ≡ (whole_admitted x && same_bytes s (fixed_text f x)) → tell_option (then_some b x) ≡ printed f s
printed-by s f x b e q = then-told b x ∙ rw (q, e)

pub or-25 : (o : Option ℤ) (f : ℕ) (s : List ℕ) → tell_option o ≡ printed f s → tell (ok_or o NotADecimal) ≡ cond (is_printed f s) (given (number_in s)) (refused 25)
or-25 (Some x) f s e = go (is_printed f s) e
  where
    go : (t : Bool) → given x ≡ cond t (given (number_in s)) none → given x ≡ cond t (given (number_in s)) (refused 25)
    go true q = q
    go false q = absurd (not_none (sym q))
or-25 None f s e = go (is_printed f s) e
  where
    go : (t : Bool) → none ≡ cond t (given (number_in s)) none → ◌≡◌ {A = Answer ℤ} (refused 25) (cond t (given (number_in s)) (refused 25))
    go true q = absurd (not_none q)
    go false q = refl
