use Rattle.std.proofs.Common.{◌≡◌, ◌+◌, ◌≤◌, ◌∷◌, ◌++◌, length, length-append, refl, arith}
use Rattle.float.specs.Scientific.{letter}
use Rattle.float.specs.Steps.{bytes_of}
use Rattle.float.proofs.Lists.{text_held}
use Rattle.float.proofs.Notation.{held, long_stored}
use Rattle.float.proofs.put_scientific.Goals as goal

pub returns : goal.returns
returns c =
    let o = c.args.out.now in
    let x = c.args.exponent.now in
    let b = bytes_of c.args.t c.args.e in
    let j = c.length-at.ensures.bytes in
    let m : length b ≤ length o = omega (arith, j, c.if-out-all.false) in
    let y = held b o _ _ m c.float_to_string.ensures in
    let n : c.length-at.result + 1 + length x ≡ length (b ++ (letter ∷ x)) = omega (arith, j, length-append b (letter ∷ x)) in
    let l : length (b ++ (letter ∷ x)) ≤ length o = omega (arith, n, c.if-out-all.false) in
    text_held _ (b ++ (letter ∷ x)) o _ n l (long_stored b x c.float_to_string.new.out o c.copy_from_slice.new.self c.length-at.result _ l y j c.copy_from_slice.ensures.after refl)
