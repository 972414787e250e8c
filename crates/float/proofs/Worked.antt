-- Every row of the table of worked labels holds, and 13 asks for as many bytes as a row has. Assumes nothing.
use mathlib.Core.Path.{◌≡◌, refl}
use mathlib.Core.Bool.{true}
use mathlib.Core.List.{[], ◌∷◌}
use lib.Ieee.{binary64, of_bits, of_int, round, add, sub, sum, mul, div, lt, le, eq, neg}
use Rattle.ranged1d.specs.Answer.{given}
use Rattle.ranged1d.specs.Numbers.{every}
use Rattle.rounding.specs.Integral.{integral}
use Rattle.rounding.specs.Within.{whole_of}
use Rattle.decimal.specs.Print.{digits}
use Rattle.decimal.specs.Read.{same_bytes}
use Rattle.float.specs.Shorten.{shorten}
use Rattle.float.specs.Text.{without_zeros, decimals, shown, plotters_text, zero_unsigned, label_of}
use Rattle.float.specs.Calls.{printable, label_print}
use Rattle.float.specs.Scientific.{scientific_of, prefers, scientific_text, mantissa_of, table_index, scale_of, comes_to_ten}
use Rattle.float.specs.Worked.{holds, rows, holds_scientific, scientific_rows}
use Rattle.decades.specs.Powers.{power}
use Rattle.decades.specs.Decade.{decade_index, last_of}

pub worked : every holds rows ≡ true
unfolding label_of plotters_text zero_unsigned shown shorten decimals without_zeros digits same_bytes integral whole_of of_bits of_int round add sub sum mul div lt le eq neg
worked = refl

-- three bytes are enough for -0.000001 with H 5, E 1, where plotters' text has four
pub three_enough : label_print (of_bits binary64 0xBEB0_C6F7_A0B5_ED8D) 5 1 (7 ∷ 7 ∷ 7 ∷ []) ≡ (given 3, 48 ∷ 46 ∷ 48 ∷ [])
unfolding label_print printable label_of plotters_text zero_unsigned shown shorten decimals without_zeros digits integral whole_of of_bits of_int round add sub sum mul div lt le eq neg
three_enough = refl

pub worked_scientific : every holds_scientific scientific_rows ≡ true
unfolding scientific_of prefers scientific_text mantissa_of table_index scale_of comes_to_ten decade_index last_of power label_of plotters_text zero_unsigned shown shorten decimals without_zeros digits same_bytes integral whole_of of_bits of_int round add sub sum mul div lt le eq neg
worked_scientific = refl
