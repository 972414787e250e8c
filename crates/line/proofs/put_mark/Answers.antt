-- `line::put_mark` what the search leaves.
use mathlib.Core.Path.{◌≡◌, sym, ap, ap₂, subst, ◌∙◌}
use mathlib.Core.List.{List, [], ◌∷◌, ◌++◌}
use Prim.Native.Nat.{ℕ, ◌+◌, ◌-◌, ◌≤◌}
use native.Mathlib.Omega.{arith}
use lib.ListN.{length, take, drop, length-append, length-drop}
use borrow.Rule.Slice.PartMut.{put_mid}
use borrow.Author.Tests.{lt-ltb, le-ltb}
use mir.Facts.{to_z-of_z}
use Rattle.ranged1d.proofs.Pieces.{rest_is, put_more}
use Rattle.decimal.specs.Print.{decimal}
use Rattle.decimal.proofs.Digits.{decimal-most}
use Rattle.line.specs.Mark.{mark_line, put_mark}
use Rattle.line.proofs.put_mark.Lts as lts
use Rattle.line.proofs.put_mark.Reads as reads
use Rattle.line.proofs.put_mark.Tie as tie
use Rattle.line.proofs.put_mark.Goals as goal

abbrev at-After-put_number : Type 0
at-After-put_number = lts.After-put_number tie.the-claims reads.Pre reads.Post

abbrev at-After-put_number2 : Type 0
at-After-put_number2 = lts.After-put_number2 tie.the-claims reads.Pre reads.Post

abbrev at-Start : Type 0
at-Start = lts.Start tie.the-claims reads.Pre reads.Post

pub returns-then-out-lt24 : goal.returns-then-out-lt24
unfolding put_mark
returns-then-out-lt24 c = rw (lt-ltb (length c.args.out.now) 24 c.if-out-lt24.true)

-- the first number and its blank are written
module _ (c : at-After-put_number) where
  abbrev S : at-Start
  S = c.before.before.before.before

  abbrev o : List ℕ
  o = S.args.out.now

  abbrev first : List ℕ
  first = decimal S.args.v ++ (32 ∷ [])

  n_is : c.put_number-n.result ≡ 1 + length (decimal S.args.v)
  n_is = rw (to_z-of_z S.ranges.v) at c.put_number-n.ensures.0

  first_is : length first ≡ c.put_number-n.result
  first_is = rw (length-append (decimal S.args.v) (32 ∷ [])) (omega (arith, n_is))

  enough : 24 ≤ length o
  enough = c.if-out-lt24.false

  few : c.put_number-n.result ≤ 12
  few = omega (arith, n_is, decimal-most S.args.v)

  abbrev l : List ℕ
  l = c.put_number-n.new.out

  out-is : l ≡ first ++ drop c.put_number-n.result o
  out-is = subst (λ (n : ℕ). l ≡ first ++ drop n o) (sym n_is) (rw (to_z-of_z S.ranges.v) at c.put_number-n.ensures.1)

  l-long : length l ≡ length o
  l-long = ap length out-is ∙ length-append first (drop c.put_number-n.result o) ∙ ap₂ ◌+◌ first_is (length-drop c.put_number-n.result o) ∙ omega (arith, few, enough)

  left : 12 ≤ length (take (length l - c.put_number-n.result) (drop c.put_number-n.result l))
  left = rw (rest_is c.put_number-n.result l, length-drop c.put_number-n.result l) (omega (arith, l-long, few, enough))

pub put_number-k-requires : goal.put_number-k-requires
put_number-k-requires c = left c.before.before.before

-- the second number and the line's end are
module _ (c : at-After-put_number2) where
  abbrev k : at-After-put_number
  k = c.before.before.before.before

  abbrev second : List ℕ
  second = decimal (S k).args.x ++ (10 ∷ [])

  m_is : c.put_number-k.result ≡ 1 + length (decimal (S k).args.x)
  m_is = rw (to_z-of_z (S k).ranges.x) at c.put_number-k.ensures.0

  all-is : k.put_number-n.result + c.put_number-k.result ≡ length (mark_line (S k).args.v (S k).args.x)
  unfolding mark_line
  all-is = rw (length-append (first k) second, first_is k, length-append (decimal (S k).args.x) (10 ∷ [])) (omega (arith, m_is))

  abbrev y : List ℕ
  y = c.put_number-k.new.out

  abbrev rest : List ℕ
  rest = take (length (l k) - k.put_number-n.result) (drop k.put_number-n.result (l k))

  y_is : y ≡ second ++ drop c.put_number-k.result rest
  y_is = subst (λ (n : ℕ). y ≡ second ++ drop n rest) (sym m_is) (rw (to_z-of_z (S k).ranges.x) at c.put_number-k.ensures.1)

  put_is : put_mid k.put_number-n.result (length (l k) - k.put_number-n.result) (l k) y ≡ mark_line (S k).args.v (S k).args.x ++ drop (k.put_number-n.result + c.put_number-k.result) (o k)
  unfolding mark_line
  put_is = put_more k.put_number-n.result c.put_number-k.result (first k) second (o k) (l k) y (first_is k) (out-is k) y_is

pair_is : (y z : List ℕ) {a b : ℕ} {x : List ℕ} → a ≡ b → x ≡ y ++ drop a z → ◌≡◌ {A = ℕ × List ℕ} (a, x) (b, y ++ drop b z)
pair_is y z e f = rw (f, e)

pub returns : goal.returns
unfolding put_mark
returns c =
    let d = c.before.before.before in
    rw (le-ltb (length (o (k d))) 24 (enough (k d)))
    (pair_is (mark_line (S (k d)).args.v (S (k d)).args.x) (o (k d)) (all-is d) (put_is d))
