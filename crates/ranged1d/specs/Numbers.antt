-- What rules of several crates ask of whole numbers and of lists. Assumes nothing.
use Rattle.std.specs.Prelude.{ℕ, Bool, true, false, cond, ◌&&◌, List, [], ◌∷◌, ℤ, pos, negsuc}
use Rattle.std.specs.Int.Signed.{le_z}

-- 01 "From the drafting table": within i32
abbrev pub is_i32 : ℤ → Bool
is_i32 z = le_z (negsuc 2_147_483_647) z && le_z z (pos 2_147_483_647)

-- two whole numbers are the same: neither is below the other
abbrev pub same : ℤ → ℤ → Bool
same p q = le_z p q && le_z q p

-- the smaller and the larger of two whole numbers
abbrev pub low : ℤ → ℤ → ℤ
low a b = cond (le_z a b) a b

abbrev pub high : ℤ → ℤ → ℤ
high a b = cond (le_z a b) b a

-- a number below zero raised to zero
abbrev pub raised : ℤ → ℕ
raised (pos n) = n
raised (negsuc n) = 0

-- whether two lists are the same, entry for entry
abbrev pub same_each : {A : Type 0} → (A → A → Bool) → List A → List A → Bool
same_each eq [] [] = true
same_each eq [] (y ∷ ys) = false
same_each eq (x ∷ xs) [] = false
same_each eq (x ∷ xs) (y ∷ ys) = eq x y && same_each eq xs ys

-- a test of every entry of a list
abbrev pub every : {A : Type 0} → (A → Bool) → List A → Bool
every p [] = true
every p (x ∷ xs) = p x && every p xs
