-- The line reader accepts exactly the lines that 01 describes: those of `line_of`, with numbers within their types; none of them is longer than 63 bytes.
-- Assumes nothing.
use mathlib.Core.Path.{◌≡◌, refl, sym, ap, ap₂, ◌∙◌, subst}
use mathlib.Core.Bool.{Bool, true, false, cond}
use mathlib.Core.List.{List, [], ◌∷◌, ◌++◌, append_assoc}
use mathlib.Core.Logic.{◌↔◌}
use Prim.Native.Nat.{ℕ, zero, suc, ◌+◌, ◌*◌, ◌%◌, ◌≤◌, ◌<◌}
use native.Mathlib.Omega.{arith}
use borrow.Author.Tests.{ne_eqb, eqb-true, ltb-true, lt-ltb}
use lib.Dec.{ltb, eqb}
use lib.IntN.{ℤ, pos, negsuc}
use lib.ListN.{length, drop, length-append}
use Rattle.ranged1d.specs.Answer.{Answer, given, none, refused, and_then}
use Rattle.ranged1d.specs.Numbers.{is_i32}
use Rattle.ranged1d.proofs.Answers.{not-both, not_none, choice}
use Rattle.decimal.specs.Print.{digit, digits, natural, decimal}
use Rattle.decimal.specs.Read.{same_bytes, read_i32, read_u32}
use Rattle.decimal.proofs.Digits.{digits_by, digits-most, decimal-most}
use Rattle.decimal.proofs.Texts.{same_self, same-equal}
use Rattle.decimal.proofs.Reader.{reads_i32, reads_u32, printed_i32, printed_u32}
use Rattle.line.specs.declared.Request.{Request}
use Rattle.line.specs.Line.{keyword, line_of, word, field, whole_field, rule_field, whole_fields, request_of, parse_numbers, parse_line}

-- ---- texts without blanks
unfoldable NoBlank : List ℕ → Type 0
NoBlank [] = Unit {0}
NoBlank (c ∷ cs) = (32 < c) × NoBlank cs

no_blank_append : (l k : List ℕ) → NoBlank l → NoBlank k → NoBlank (l ++ k)
unfolding NoBlank
no_blank_append [] k p q = q
no_blank_append (c ∷ cs) k p q = (p.0, no_blank_append cs k p.1 q)

digits_no_blank : (f n : ℕ) → NoBlank (digits f n)
unfolding NoBlank
digits_no_blank = digits_by (λ n. NoBlank) (λ n. (omega arith, tt)) (λ n l h. no_blank_append l (digit (n % 10) ∷ []) h (omega arith, tt))

decimal_no_blank : (z : ℤ) → NoBlank (decimal z)
unfolding NoBlank
decimal_no_blank (pos n) = digits_no_blank 9 n
decimal_no_blank (negsuc n) = (omega arith, digits_no_blank 9 (suc n))

-- ---- a field: a word, a blank, and the rest
word_of : (w r : List ℕ) → NoBlank w → word (w ++ (32 ∷ r)) ≡ w
unfolding NoBlank word
word_of [] r p = refl
word_of (c ∷ cs) r p = let f : c ≡ 32 → ⊥ = λ e. omega (arith, p.0) in rw (ne_eqb c 32 f) (ap (λ (l : List ℕ). c ∷ l) (word_of cs r p.1))

after : (w r : List ℕ) → drop (suc (length w)) (w ++ (32 ∷ r)) ≡ r
after [] r = refl
after (c ∷ cs) r = after cs r

field_of : (w r : List ℕ) → NoBlank w → field (w ++ (32 ∷ r)) ≡ given (w, r)
field_of w r p =
    let longer : length w < length (w ++ (32 ∷ r)) = omega (arith, length-append w (32 ∷ r)) in
    rw (word_of w r p, lt-ltb (length w) (length (w ++ (32 ∷ r))) longer, after w r)

split : (s : List ℕ) → length (word s) < length s → s ≡ word s ++ (32 ∷ drop (suc (length (word s))) s)
unfolding word
split [] h = absurd (omega arith)
split (c ∷ cs) h = go (eqb c 32) refl h (split cs)
  where
    go : (t : Bool) → eqb c 32 ≡ t → length (cond t [] (c ∷ word cs)) < suc (length cs) → (length (word cs) < length cs → cs ≡ word cs ++ (32 ∷ drop (suc (length (word cs))) cs))
        → c ∷ cs ≡ cond t [] (c ∷ word cs) ++ (32 ∷ drop (suc (length (cond t [] (c ∷ word cs)))) (c ∷ cs))
    go true e l r = ap (λ (x : ℕ). x ∷ cs) (eqb-true c 32 e)
    go false e l r = ap (λ (k : List ℕ). c ∷ k) (r (omega arith))

-- ---- what was given came from its parts
then_given : {A B : Type 0} (x : Answer A) (f : A → Answer B) (b : B) → and_then x f ≡ given b → (a : A) × (x ≡ given a) × (f a ≡ given b)
then_given (given a) f b e = (a, refl, e)
then_given none f b e = absurd (not_none e)
then_given (refused n) f b e = absurd (not-both (sym e))

field_is : (s : List ℕ) (f : List ℕ × List ℕ) → field s ≡ given f → s ≡ f.0 ++ (32 ∷ f.1)
field_is s f e =
    let h = choice (ltb (length (word s)) (length s)) (word s, drop (suc (length (word s))) s) f e in
    subst (λ (g : List ℕ × List ℕ). s ≡ g.0 ++ (32 ∷ g.1)) h.1 (split s (ltb-true _ _ h.0))

whole_is : (s : List ℕ) (z : ℤ × List ℕ) → whole_field s ≡ given z → (is_i32 z.0 ≡ true) × (s ≡ decimal z.0 ++ (32 ∷ z.1))
whole_is s z e =
    let f = then_given (field s) (λ f. and_then (read_i32 f.0) (λ z. given (z, f.1))) z e in
    let n = then_given (read_i32 f.0.0) (λ y. given (y, f.0.1)) z f.2 in
    let p = printed_i32 f.0.0 n.0 n.1 in
    let q : (n.0, f.0.1) ≡ z = cc in
    subst (λ (y : ℤ × List ℕ). (is_i32 y.0 ≡ true) × (s ≡ decimal y.0 ++ (32 ∷ y.1))) q
    (p.0, field_is s f.0 f.1 ∙ ap (λ (w : List ℕ). w ++ (32 ∷ f.0.1)) p.1)

whole_of : (z : ℤ) (r : List ℕ) → is_i32 z ≡ true → whole_field (decimal z ++ (32 ∷ r)) ≡ given (z, r)
whole_of z r h = rw (field_of (decimal z) r (decimal_no_blank z), reads_i32 z h)

-- ---- several fields
AllI32 : List ℤ → Type 0
AllI32 [] = Unit {0}
AllI32 (z ∷ zs) = (is_i32 z ≡ true) × AllI32 zs

joined : List ℤ → List ℕ → List ℕ
joined [] r = r
joined (z ∷ zs) r = decimal z ++ (32 ∷ joined zs r)

fields_are : (k : ℕ) (s : List ℕ) (f : List ℤ × List ℕ) → whole_fields k s ≡ given f → (length f.0 ≡ k) × AllI32 f.0 × (s ≡ joined f.0 f.1)
unfolding whole_fields AllI32 joined
fields_are zero s f e = let q : ([], s) ≡ f = cc in subst (λ (g : List ℤ × List ℕ). (length g.0 ≡ 0) × AllI32 g.0 × (s ≡ joined g.0 g.1)) q (refl, tt, refl)
fields_are (suc k) s f e =
    let z = then_given (whole_field s) (λ z. and_then (whole_fields k z.1) (λ r. given (z.0 ∷ r.0, r.1))) f e in
    let r = then_given (whole_fields k z.0.1) (λ r. given (z.0.0 ∷ r.0, r.1)) f z.2 in
    let w = whole_is s z.0 z.1 in
    let rest = fields_are k z.0.1 r.0 r.1 in
    let q : (z.0.0 ∷ r.0.0, r.0.1) ≡ f = cc in
    subst (λ (g : List ℤ × List ℕ). (length g.0 ≡ suc k) × AllI32 g.0 × (s ≡ joined g.0 g.1)) q
    (ap suc rest.0, (w.0, rest.1), w.1 ∙ ap (λ (l : List ℕ). decimal z.0.0 ++ (32 ∷ l)) rest.2)

fields_of : (l : List ℤ) (r : List ℕ) → AllI32 l → whole_fields (length l) (joined l r) ≡ given (l, r)
unfolding whole_fields AllI32 joined
fields_of [] r h = refl
fields_of (z ∷ zs) r h = rw (whole_of z (joined zs r) h.0, fields_of zs r h.1)

-- ---- the whole line
-- the four numbers of a request, and its line by them
four : Request → List ℤ
four r = r.a ∷ r.b ∷ r.limit.0 ∷ r.limit.1 ∷ []

line_form : (r : Request) → line_of r ≡ keyword ++ (32 ∷ joined (four r) (natural r.m))
unfolding joined four
line_form r = simp append_assoc

-- the numbers lie within their types
pub record Within (r : Request) : Type 0 where
  pub a_fits : is_i32 r.a ≡ true
  pub b_fits : is_i32 r.b ≡ true
  pub p_fits : is_i32 r.limit.0 ≡ true
  pub q_fits : is_i32 r.limit.1 ≡ true
  pub m_fits : r.m ≤ 4294967295

keyword_no_blank : NoBlank keyword
unfolding NoBlank
keyword_no_blank = (omega arith, (omega arith, (omega arith, (omega arith, tt))))

rule_of : (t : List ℕ) → rule_field (keyword ++ (32 ∷ t)) ≡ given t
rule_of t =
    ap (λ (x : Answer (List ℕ × List ℕ)). and_then x (λ f. cond (same_bytes f.0 keyword) (given f.1) none)) (field_of keyword t keyword_no_blank)
    ∙ ap (λ (u : Bool). cond u (given t) none) (same_self keyword)

numbers_of : (l : List ℤ) (m : ℕ) → length l ≡ 4 → AllI32 l → m ≤ 4294967295 → parse_numbers (joined l (natural m)) ≡ given (request_of l m)
unfolding parse_numbers
numbers_of l m e h k =
    ap (λ (x : Answer (List ℤ × List ℕ)). and_then x (λ r. and_then (read_u32 r.1) (λ n. given (request_of r.0 n)))) (subst (λ (n : ℕ). whole_fields n (joined l (natural m)) ≡ given (l, natural m)) e (fields_of l (natural m) h))
    ∙ ap (λ (x : Answer ℕ). and_then x (λ n. given (request_of l n))) (reads_u32 m k)

complete : (r : Request) → Within r → parse_line (line_of r) ≡ given r
unfolding parse_line AllI32 four
complete r w =
    let all : AllI32 (four r) = (w.a_fits, (w.b_fits, (w.p_fits, (w.q_fits, tt)))) in
    ap (λ (s : List ℕ). and_then (rule_field s) parse_numbers) (line_form r)
    ∙ ap (λ (x : Answer (List ℕ)). and_then x parse_numbers) (rule_of (joined (four r) (natural r.m)))
    ∙ numbers_of (four r) r.m refl all w.m_fits

-- four numbers, by their places
by_places : (l : List ℤ) (m : ℕ) → length l ≡ 4 → AllI32 l → m ≤ 4294967295 → Within (request_of l m) × (four (request_of l m) ≡ l)
unfolding AllI32 four
by_places [] m e h k = absurd (omega arith)
by_places (a ∷ []) m e h k = absurd (omega arith)
by_places (a ∷ b ∷ []) m e h k = absurd (omega arith)
by_places (a ∷ b ∷ p ∷ []) m e h k = absurd (omega arith)
by_places (a ∷ b ∷ p ∷ q ∷ []) m e h k = (record { a_fits = h.0; b_fits = h.1.0; p_fits = h.1.1.0; q_fits = h.1.1.1.0; m_fits = k }, refl)
by_places (a ∷ b ∷ p ∷ q ∷ x ∷ l) m e h k = absurd (omega arith)

sound : (s : List ℕ) (r : Request) → parse_line s ≡ given r → Within r × (s ≡ line_of r)
unfolding parse_line parse_numbers
sound s r e =
    let k = then_given (rule_field s) parse_numbers r e in
    let f = then_given (field s) (λ f. cond (same_bytes f.0 keyword) (given f.1) none) k.0 k.1 in
    let c = choice (same_bytes f.0.0 keyword) f.0.1 k.0 f.2 in
    let n = then_given (whole_fields 4 k.0) (λ r. and_then (read_u32 r.1) (λ m. given (request_of r.0 m))) r k.2 in
    let m = then_given (read_u32 n.0.1) (λ m. given (request_of n.0.0 m)) r n.2 in
    let l = fields_are 4 k.0 n.0 n.1 in
    let u = printed_u32 n.0.1 m.0 m.1 in
    let b = by_places n.0.0 m.0 l.0 l.1 u.0 in
    let q : request_of n.0.0 m.0 ≡ r = cc in
    subst (λ (x : Request). Within x × (s ≡ line_of x)) q (
      b.0,
      field_is s f.0 f.1
          ∙ ap₂ (λ (w t : List ℕ). w ++ (32 ∷ t)) (same-equal f.0.0 keyword c.0) (c.1 ∙ l.2 ∙ ap₂ joined (sym b.1) u.1)
          ∙ sym (line_form (request_of n.0.0 m.0)),
    )

-- a line is accepted with these numbers exactly when it is their line, and they lie within their types
pub accepts : (s : List ℕ) (r : Request) → (parse_line s ≡ given r) ↔ (Within r × (s ≡ line_of r))
accepts s r = (sound s r, λ w. ap parse_line w.1 ∙ complete r w.0)

-- ---- a line that is accepted has at most 63 bytes: the word, four numbers of up to 11 with their blanks, and one of up to 10
joined-most : (l : List ℤ) (r : List ℕ) → length (joined l r) ≤ 12 * length l + length r
unfolding joined
joined-most [] r = omega arith
joined-most (z ∷ zs) r = omega (arith, length-append (decimal z) (32 ∷ joined zs r), decimal-most z, joined-most zs r)

pub accepted-short : (s : List ℕ) (r : Request) → parse_line s ≡ given r → length s ≤ 63
unfolding four
accepted-short s r e =
    let numbers = joined (four r) (natural r.m) in
    omega (arith, ap length ((sound s r e).1 ∙ line_form r), length-append keyword (32 ∷ numbers), joined-most (four r) (natural r.m), digits-most 9 r.m)
