use Rattle.std.proofs.Common.{◌≡◌, ap, sym, ◌∙◌, arith}
use Rattle.std.proofs.lemmas.Float.{T_from_false}
use lib.Ieee.{to_unsigned, is_nan}
use Rattle.float.specs.Text.{sign_of, whole_part, decimals_of}
use Rattle.float.proofs.Cases.{parts_none, parts_grown, parts_trim}
use Rattle.float.proofs.Bounds.{near, at_most_number}
use Rattle.float.proofs.Casts.{whole_le, whole-exact, decimals-exact}
use Rattle.float.proofs.Signs.{sign_is, size_is}
use Rattle.float.proofs.take_apart.Goals as goal

pub is_sign_negative-minus-requires : goal.is_sign_negative-minus-requires
is_sign_negative-minus-requires c = T_from_false (is_nan c.args.r.value) (at_most_number near c.args.r.value c.requires.near)

pub returns-then-r-eq0 : goal.returns-then-r-eq0
returns-then-r-eq0 c =
    let x = c.args.r.value in
    let s : c.is_sign_negative-minus.result ≡ sign_of x = c.is_sign_negative-minus.ensures ∙ sign_is x in
    let w : c.to_u64-whole.result ≡ whole_part x = c.to_u64-whole.ensures ∙ ap (to_unsigned 64) (c.abs-size.ensures.value ∙ size_is x) ∙ whole-exact x c.requires.near in
    rw (c.whole.ensures, s, w) (sym (parts_none x c.args.r.levels c.if-r-eq0.true))

pub overflow_add-whole : goal.overflow_add-whole
overflow_add-whole c =
    let x = c.args.r.value in
    let w : c.to_u64-whole.result ≡ whole_part x = c.to_u64-whole.ensures ∙ ap (to_unsigned 64) (c.abs-size.ensures.value ∙ size_is x) ∙ whole-exact x c.requires.near in
    record { fits = omega (arith, whole_le x c.requires.near) }

pub returns-then-unit-d : goal.returns-then-unit-d
returns-then-unit-d c =
    let x = c.args.r.value in
    let p = c.args.r.levels in
    let z = c.abs-size.ensures.value ∙ size_is x in
    let s : c.is_sign_negative-minus.result ≡ sign_of x = c.is_sign_negative-minus.ensures ∙ sign_is x in
    let w : c.to_u64-whole.result ≡ whole_part x = c.to_u64-whole.ensures ∙ ap (to_unsigned 64) z ∙ whole-exact x c.requires.near in
    let d : c.to_u64-d.result ≡ decimals_of x p = rw (c.to_u64-d.ensures, c.round.ensures, c.floor.ensures, c.pow-unit.ensures, z) (decimals-exact x p c.requires.few c.well_formed.0.1.1.0.1 c.requires.near) in
    rw (c.whole-then-unit-d.ensures, s, w) (sym (parts_grown x p c.if-r-eq0.false (omega (arith, d, c.if-unit-d.true, c.pow-unit.ensures))))

pub returns : goal.returns
returns c =
    let x = c.args.r.value in
    let p = c.args.r.levels in
    let z = c.abs-size.ensures.value ∙ size_is x in
    let s : c.is_sign_negative-minus.result ≡ sign_of x = c.is_sign_negative-minus.ensures ∙ sign_is x in
    let w : c.to_u64-whole.result ≡ whole_part x = c.to_u64-whole.ensures ∙ ap (to_unsigned 64) z ∙ whole-exact x c.requires.near in
    let d : c.to_u64-d.result ≡ decimals_of x p = rw (c.to_u64-d.ensures, c.round.ensures, c.floor.ensures, c.pow-unit.ensures, z) (decimals-exact x p c.requires.few c.well_formed.0.1.1.0.1 c.requires.near) in
    rw (c.trim.ensures, s, w, d) (sym (parts_trim x p c.if-r-eq0.false (omega (arith, d, c.if-unit-d.false, c.pow-unit.ensures))))
