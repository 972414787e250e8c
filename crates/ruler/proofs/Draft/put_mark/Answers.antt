-- `ruler::Draft::put_mark` what the search leaves.
use Rattle.std.proofs.Common.{◌≡◌, ℕ, set, ap, ◌∙◌, arith, rules, to_z-of_z, w32, SFits, of_z}
use Rattle.decimal.specs.Print.{label_of}
use Rattle.decimal.specs.declared.Text.{Text}
use Rattle.ruler.specs.Place.{place_of}
use Rattle.ruler.specs.Steps.{put_word}
use Rattle.ruler.proofs.Lists.{mark_put}
use Rattle.ruler.proofs.Draft.put_mark.Goals as goal

pub returns : goal.returns
returns c =
    let d = c.args.self in
    let v = c.args.v in
    let x : SFits w32 c.place_of-x.result = search rules in
    let place = rw (to_z-of_z c.ranges.v) at c.place_of-x.ensures in
    let needle_is : c.cast_unsigned.result ≡ of_z w32 v = c.cast_unsigned.ensures ∙ ap (of_z w32) (to_z-of_z c.ranges.v) in
    let place_is : c.cast_unsigned-2.result ≡ of_z w32 (place_of d.a d.b d.limit v) = c.cast_unsigned-2.ensures ∙ ap (of_z w32) (to_z-of_z x ∙ place) in
    let first : c.put_word.new.l ≡ put_word 1 (of_z w32 v) (set c.args.out.now 0 2) = c.put_word.ensures ∙ ap (λ (n : ℕ). put_word 1 n (set c.args.out.now 0 2)) needle_is in
    let second = c.put_word-2.ensures ∙ ap (λ (n : ℕ). put_word 5 n c.put_word.new.l) place_is ∙ ap (put_word 5 (of_z w32 (place_of d.a d.b d.limit v))) first in
    mark_put v (place_of d.a d.b d.limit v) c.args.out.now (omega arith) second (c.copy_from_slice.ensures.after ∙ ap (λ (t : Text 11). t.bytes) c.label.ensures ∙ ap label_of (to_z-of_z c.ranges.v))
