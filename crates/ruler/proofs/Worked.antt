-- A ruler as the rules compute it, byte by byte, with its reading and a look-up: the axis -7..-7 on the film -100..-300, the mirror of the
-- place in 01 "From the drafting table". Assumes nothing.
use Rattle.std.proofs.Common.{◌≡◌, ℕ, List, [], ◌∷◌, pos, negsuc, refl}
use lib.Ieee.{of_int, eq}
use Rattle.ranged1d.specs.Answer.{given}
use Rattle.ranged1d.specs.Admitted.{limit_of}
use Rattle.numeric.specs.declared.Choice.TheVariants.{Inside}
use Rattle.numeric.specs.Marks.{step_at, first_of, chosen, no_step_for, step_for, marks_for, inside_for, marks_by}
use Rattle.decimal.specs.Print.{digits}
use Rattle.decimal.specs.Read.{same_bytes}
use Rattle.real.specs.Place.{spot, whole_place}
use Rattle.ruler.specs.declared.Twist.TheVariants.{Z}
use Rattle.ruler.specs.Place.{place_of}
use Rattle.ruler.specs.Bytes.{axis_body, mark_body, laid}
use Rattle.ruler.specs.Rule.{one, ruler_bytes, bytes_by, ruler_read, has_ruler, is_ruler, has_mark, record_in, label_in}

abbrev bytes : List ℕ
bytes = ruler_bytes (negsuc 6) (negsuc 6) (limit_of (negsuc 99) (negsuc 299)) 0

shown : bytes
    ≡ 1 ∷ 249 ∷ 255 ∷ 255 ∷ 255 ∷ 249 ∷ 255 ∷ 255 ∷ 255 ∷ 156 ∷ 255 ∷ 255 ∷ 255 ∷ 212 ∷ 254 ∷ 255 ∷ 255 ∷ 0 ∷ 0 ∷ 0 ∷ 0 ∷ 1 ∷ 0 ∷ 0 ∷ 0
    ∷ 2 ∷ 249 ∷ 255 ∷ 255 ∷ 255 ∷ 156 ∷ 255 ∷ 255 ∷ 255 ∷ 32 ∷ 32 ∷ 32 ∷ 32 ∷ 32 ∷ 32 ∷ 32 ∷ 32 ∷ 32 ∷ 45 ∷ 55 ∷ []
unfolding bytes_by laid axis_body mark_body digits step_at first_of chosen step_for marks_for place_of whole_place spot of_int eq
shown = refl

taken : ruler_read bytes ≡ given (record { a = negsuc 6; b = negsuc 6; limit = limit_of (negsuc 99) (negsuc 299); m = 0; step = pos 1; marks = 1; form = one })
unfolding ruler_read is_ruler has_ruler no_step_for same_bytes bytes_by laid axis_body mark_body digits step_at first_of chosen step_for marks_for place_of whole_place spot of_int eq
taken = refl

found : label_in bytes (negsuc 6) ≡ record { start = 43; end = 45 }
unfolding label_in record_in has_mark is_ruler has_ruler no_step_for same_bytes bytes_by laid axis_body mark_body digits step_at first_of chosen step_for marks_for place_of whole_place spot of_int eq
found = refl

-- 02 (a): two rows of 01's table with the marks that stay on the axis
stays : marks_by Inside (negsuc 14) (negsuc 2) 4 ≡ negsuc 14 ∷ negsuc 9 ∷ negsuc 4 ∷ []
unfolding inside_for step_at first_of chosen step_for
stays = refl

no_mark : marks_by Inside (negsuc 4) (negsuc 2) 1 ≡ []
unfolding inside_for step_at first_of chosen step_for
no_mark = refl

-- 02 (c): the same axis -7..-7 in kind 6, with the twist Z, and its reading
abbrev twisted-bytes : List ℕ
twisted-bytes = bytes_by (record { choice = Inside; twist = Z }) (negsuc 6) (negsuc 6) (limit_of (negsuc 99) (negsuc 299)) 0

twisted-shown : twisted-bytes
    ≡ 6 ∷ 249 ∷ 255 ∷ 255 ∷ 255 ∷ 249 ∷ 255 ∷ 255 ∷ 255 ∷ 156 ∷ 255 ∷ 255 ∷ 255 ∷ 212 ∷ 254 ∷ 255 ∷ 255 ∷ 0 ∷ 0 ∷ 0 ∷ 0 ∷ 1 ∷ 0 ∷ 0 ∷ 0 ∷ 1
    ∷ 2 ∷ 249 ∷ 255 ∷ 255 ∷ 255 ∷ 156 ∷ 255 ∷ 255 ∷ 255 ∷ 32 ∷ 32 ∷ 32 ∷ 32 ∷ 32 ∷ 32 ∷ 32 ∷ 32 ∷ 32 ∷ 45 ∷ 55 ∷ []
unfolding bytes_by laid axis_body mark_body digits step_at first_of chosen step_for inside_for place_of whole_place spot of_int eq
twisted-shown = refl

twisted_taken : ruler_read twisted-bytes ≡ given (record { a = negsuc 6; b = negsuc 6; limit = limit_of (negsuc 99) (negsuc 299); m = 0; step = pos 1; marks = 1; form = record { choice = Inside; twist = Z } })
unfolding ruler_read is_ruler has_ruler no_step_for same_bytes bytes_by laid axis_body mark_body digits step_at first_of chosen step_for inside_for place_of whole_place spot of_int eq
twisted_taken = refl
