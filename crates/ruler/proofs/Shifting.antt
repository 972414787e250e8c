-- 02 (i): numbers that are added to in the bytes of a ruler, by which it becomes the ruler of the moved limits. Assumes nothing.
use Rattle.std.proofs.Common.{◌≡◌, ℕ, zero, suc, ◌+◌, ◌-◌, ◌*◌, ◌/◌, ◌%◌, ◌^◌, ◌<◌, ◌≤◌, List, ◌∷◌, ◌++◌, length, get_or, ℤ, pos, negsuc, ◌+ℤ◌, sym, refl, ap, ◌∙◌, ap₂, append_assoc, add_comm, arith, length-append, get_or-append-add, to_z-of_z, w32, SFits, to_z, of_z}
use lib.IntN.{sub_ℕ}
use lib.Seq.{take-append_seam, drop-append-add, get_or-append_seam}
use mir.Facts.{Fits-of_z}
use Rattle.ranged1d.specs.declared.Limit.{Limit}
use Rattle.ranged1d.proofs.Whole.{sub_cases}
use Rattle.decimal.specs.Print.{label_of}
use Rattle.real.specs.Shifting.{shifted_limit}
use Rattle.ruler.specs.declared.Form.{Form}
use Rattle.ruler.specs.Bytes.{word, whole, word_at, whole_at, twist_bytes, kind_byte, axis, mark, axis_body, mark_body, laid}
use Rattle.ruler.specs.Place.{place_of}
use Rattle.ruler.specs.Steps.{put_word, added_at, added_to_places}
use Rattle.ruler.proofs.Numbers.{word_back}
use Rattle.ruler.proofs.Records.{run, one, run_suc, run_long}

-- ---- whole numbers by their 32 bits
below_sum : (m n : ℕ) → m < 2147483648 → n < 2147483648 → (m + (4294967296 - suc n)) % 4294967296 ≡ of_z w32 (sub_ℕ m (suc n))
below_sum m n hm hn = sub_cases m (suc n) (λ z. (m + (4294967296 - suc n)) % 4294967296 ≡ of_z w32 z) (λ l. omega arith) (λ l. omega arith)

bits-sum : (z c : ℤ) → SFits w32 z → SFits w32 c → SFits w32 (z +ℤ c) → (of_z w32 z + of_z w32 c) % 4294967296 ≡ of_z w32 (z +ℤ c)
bits-sum (pos m) (pos n) fz fc f = omega (arith, f.sfits)
bits-sum (pos m) (negsuc n) fz fc f = below_sum m n (omega (arith, fz.sfits)) (omega (arith, fc.sfits))
bits-sum (negsuc m) (pos n) fz fc f = ap (λ (k : ℕ). k % 4294967296) (add_comm (4294967296 - suc m) n) ∙ below_sum n m (omega (arith, fc.sfits)) (omega (arith, fz.sfits))
bits-sum (negsuc m) (negsuc n) fz fc f = omega (arith, f.sfits, fz.sfits, fc.sfits)

-- ---- a number in a list, behind the bytes p
module _ (p : List ℕ) (n : ℕ) (rest : List ℕ) where
  pub word_in : n < 2 ^ 32 → word_at (p ++ (word n ++ rest)) (length p) ≡ n
  word_in h =
      let byte : (i : ℕ) → get_or (p ++ (word n ++ rest)) (length p + i) 0 ≡ get_or (word n ++ rest) i 0 = λ i. get_or-append-add p (word n ++ rest) i 0 in
      rw (get_or-append_seam p (n % 256) (n / 256 % 256 ∷ n / 65536 % 256 ∷ n / 16777216 % 256 ∷ rest) 0, byte 1, byte 2, byte 3) (word_back n h)

  put_in : (x : ℕ) → put_word (length p) x (p ++ (word n ++ rest)) ≡ p ++ (word x ++ rest)
  put_in x = ap₂ (λ (t u : List ℕ). t ++ (word x ++ u)) (take-append_seam p (word n ++ rest)) (drop-append-add p (word n ++ rest) 4)

-- a whole number there, and that number c further on
module _ (p rest : List ℕ) (z : ℤ) (fz : SFits w32 z) {at : ℕ} (e : length p ≡ at) where
  pub whole_in : whole_at (p ++ (whole z ++ rest)) at ≡ z
  whole_in = rw (← e) (ap (to_z w32) (word_in p (of_z w32 z) rest (Fits-of_z fz).fits) ∙ to_z-of_z fz)

  pub added_in : (c : ℤ) → SFits w32 c → SFits w32 (z +ℤ c) → added_at (of_z w32 c) at (p ++ (whole z ++ rest)) ≡ p ++ (whole (z +ℤ c) ++ rest)
  added_in c fc f =
      rw (← e)
      (ap (λ (k : ℕ). put_word (length p) ((k + of_z w32 c) % 4294967296) (p ++ (whole z ++ rest))) (word_in p (of_z w32 z) rest (Fits-of_z fz).fits)
      ∙ ap (λ (k : ℕ). put_word (length p) k (p ++ (whole z ++ rest))) (bits-sum z c fz fc f)
      ∙ put_in p (of_z w32 z) rest (of_z w32 (z +ℤ c)))

-- ---- the place in a mark's record, and the limits in the axis's
module _ (q rest : List ℕ) (v x : ℤ) where
  -- the record, taken apart before the place
  abbrev before : List ℕ
  before = q ++ (2 ∷ whole v)

  pub mark-parts : q ++ (laid (mark v x) ++ rest) ≡ before ++ (whole x ++ (label_of v ++ rest))
  unfolding laid mark_body
  mark-parts = sym (append_assoc q (2 ∷ whole v) (whole x ++ (label_of v ++ rest)))

module _ (q rest : List ℕ) (v x c : ℤ) (fx : SFits w32 x) (fc : SFits w32 c) (f : SFits w32 (x +ℤ c)) {at : ℕ} (e : length q + 5 ≡ at) where
  pub mark_added : added_at (of_z w32 c) at (q ++ (laid (mark v x) ++ rest)) ≡ q ++ (laid (mark v (x +ℤ c)) ++ rest)
  mark_added =
      ap (added_at (of_z w32 c) at) (mark-parts q rest v x)
      ∙ added_in (q ++ (2 ∷ whole v)) (label_of v ++ rest) x fx (length-append q (2 ∷ whole v) ∙ e) c fc f
      ∙ sym (mark-parts q rest v (x +ℤ c))

module _ (f : Form) (a b : ℤ) (limit : Limit) (m : ℕ) (s : ℤ) (rest : List ℕ) where
  abbrev pub head_front : List ℕ
  head_front = kind_byte f ∷ (whole a ++ whole b)

  abbrev pub head_back : List ℕ
  head_back = word m ++ (whole s ++ (twist_bytes f.twist ++ rest))

  pub head_parts : laid (axis f a b limit m s) ++ rest ≡ head_front ++ (whole limit.0 ++ (whole limit.1 ++ head_back))
  unfolding laid axis_body
  head_parts = refl

module _ (f : Form) (a b : ℤ) (limit : Limit) (m : ℕ) (s : ℤ) (rest : List ℕ) (c : ℤ) (fc : SFits w32 c)
    (fl : SFits w32 limit.0 × SFits w32 limit.1) (fl' : SFits w32 (limit.0 +ℤ c) × SFits w32 (limit.1 +ℤ c)) where
  pub limits_added : added_at (of_z w32 c) 13 (added_at (of_z w32 c) 9 (laid (axis f a b limit m s) ++ rest)) ≡ laid (axis f a b (shifted_limit c limit) m s) ++ rest
  limits_added =
      let front = head_front f a b limit m s rest in
      let behind = head_back f a b limit m s rest in
      ap (λ (l : List ℕ). added_at (of_z w32 c) 13 (added_at (of_z w32 c) 9 l)) (head_parts f a b limit m s rest)
      ∙ ap (added_at (of_z w32 c) 13) (added_in front (whole limit.1 ++ behind) limit.0 fl.0 refl c fc fl'.0)
      ∙ added_in (front ++ whole (limit.0 +ℤ c)) behind limit.1 fl.1 refl c fc fl'.1
      ∙ sym (head_parts f a b (shifted_limit c limit) m s rest)

-- ---- the places of the first marks
module _ (a b : ℤ) (limit limit' : Limit) (f : ℕ → ℤ) (n : ℕ) where
  -- none moves
  pub run-same : ((k : ℕ) → k < n → place_of a b limit' (f k) ≡ place_of a b limit (f k)) → (k : ℕ) → k ≤ n → run a b limit' f k ≡ run a b limit f k
  run-same same zero h = refl
  run-same same (suc k) h =
      run_suc a b limit' f k
      ∙ ap₂ (λ (t u : List ℕ). t ++ u) (run-same same k (omega arith)) (ap (λ (x : ℤ). laid (mark (f k) x)) (same k (omega arith)))
      ∙ sym (run_suc a b limit f k)

  -- each moves by c, behind the bytes `front`
  module _ (c : ℤ) (fc : SFits w32 c) (fits : (k : ℕ) → k < n → SFits w32 (place_of a b limit (f k)) × SFits w32 (place_of a b limit (f k) +ℤ c))
      (moves : (k : ℕ) → k < n → place_of a b limit' (f k) ≡ place_of a b limit (f k) +ℤ c) (front : List ℕ) {h : ℕ} (long : length front ≡ h) where
    pub places_added : (k : ℕ) → k ≤ n → (rest : List ℕ) → added_to_places (of_z w32 c) h k (front ++ (run a b limit f k ++ rest)) ≡ front ++ (run a b limit' f k ++ rest)
    places_added zero l rest = refl
    places_added (suc k) l rest =
        let x = place_of a b limit (f k) in
        let before = front ++ run a b limit' f k in
        let before_long : length before + 5 ≡ h + 20 * k + 5 = omega (arith, length-append front (run a b limit' f k), run_long a b limit' f k) in
        ap (λ (l : List ℕ). added_to_places (of_z w32 c) h (suc k) (front ++ (l ++ rest))) (run_suc a b limit f k)
        ∙ ap (λ (l : List ℕ). added_to_places (of_z w32 c) h (suc k) (front ++ l)) (append_assoc (run a b limit f k) (one a b limit f k) rest)
        ∙ ap (added_at (of_z w32 c) (h + 20 * k + 5)) (places_added k (omega arith) (one a b limit f k ++ rest) ∙ sym (append_assoc front (run a b limit' f k) (one a b limit f k ++ rest)))
        ∙ mark_added before rest (f k) x c (fits k (omega arith)).0 fc (fits k (omega arith)).1 before_long
        ∙ ap (λ (y : ℤ). before ++ (laid (mark (f k) y) ++ rest)) (sym (moves k (omega arith)))
        ∙ append_assoc front (run a b limit' f k) (one a b limit' f k ++ rest)
        ∙ ap (λ (l : List ℕ). front ++ l) (sym (append_assoc (run a b limit' f k) (one a b limit' f k) rest))
        ∙ ap (λ (l : List ℕ). front ++ (l ++ rest)) (sym (run_suc a b limit' f k))
