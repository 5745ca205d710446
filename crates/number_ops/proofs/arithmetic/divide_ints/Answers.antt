-- The divisor that was looked at is the one that is taken.
use Rattle.std.proofs.Common.{◌≡◌, ◌≢◌, pos, [], ◌∷◌, refl, sym, ap, ◌∙◌}
use Rattle.std.proofs.lemmas.Int.{to_z-of_z}
use Rattle.std.specs.Int.{cast_signed, cast_unsigned, w32}
use Rattle.jk_model.specs.declared.values.Value.TheVariants.{Int}
use Rattle.jk_model_domains.specs.NumberRows.{int_divisions}
use Rattle.number_ops.proofs.Calculations.{int_quotients, no_int_quotient, one_int, same_divisor, same_result}
use Rattle.number_ops.proofs.EntriesOnTop.{first_of_two, room_of_two, second_of_two, two_turned}
use Rattle.number_ops.proofs.FoundOperands.{roomless}
use Rattle.number_ops.proofs.arithmetic.divide_ints.Goals as goal

pub top_int-requires : goal.top_int-requires
top_int-requires g c = (c.requires.finds.1, second_of_two _ _ (Int c.requires.finds.0) (Int c.requires.finds.1) 1 c.requires.finds.2)

pub returns-then-top_int-eq0 : goal.returns-then-top_int-eq0
returns-then-top_int-eq0 g c =
    let x = c.requires.finds.0 in
    let y = c.requires.finds.1 in
    let top : c.top_int.result ≡ y = c.top_int.ensures y (second_of_two _ _ (Int x) (Int y) 1 c.requires.finds.2) in
    let zero : y ≡ pos 0 = sym top ∙ sym (to_z-of_z w32 c.top_int.result (record { sfits = c.top_int.type_inv })) ∙ ap
    (cast_signed w32) c.if-top_int-eq0.true in
    (Int x ∷ Int y ∷ [], no_int_quotient c.args.op x y c.requires.op zero, roomless _ _ _ 1 c.requires.finds.2, refl)

pub pop_int-y-requires : goal.pop_int-y-requires
pop_int-y-requires g c = (c.requires.finds.1, second_of_two _ _ (Int c.requires.finds.0) (Int c.requires.finds.1) 1 c.requires.finds.2)

pub pop_int-x-requires : goal.pop_int-x-requires
pop_int-x-requires g c =
    (c.requires.finds.0, first_of_two _ _ _ (Int c.requires.finds.0) (Int c.requires.finds.1) _ 1 c.requires.finds.2 c.pop_int-y.ensures)

pub int_division-requires-clause-divisor : goal.int_division-requires-clause-divisor
int_division-requires-clause-divisor g c = λ e.
    let x = c.requires.finds.0 in
    let y = c.requires.finds.1 in
    let top : c.top_int.result ≡ y = c.top_int.ensures y (second_of_two _ _ (Int x) (Int y) 1 c.requires.finds.2) in
    let same = same_divisor _ _ _ Int (Int x) y c.pop_int-y.result c.top_int.result 1 c.requires.finds.2 c.pop_int-y.ensures top one_int in
    c.if-top_int-eq0.false (ap (cast_unsigned w32) (same ∙ sym (to_z-of_z w32 c.pop_int-y.result (record { sfits = c.pop_int-y.type_inv })) ∙ e))

pub push-requires : goal.push-requires
push-requires g c =
    room_of_two _ _ _ _ (Int c.requires.finds.0) (Int c.requires.finds.1) _ _ 1 c.requires.finds.2 c.pop_int-y.ensures c.pop_int-x.ensures

pub returns : goal.returns
returns g c =
    let x = c.requires.finds.0 in
    let y = c.requires.finds.1 in
    let top : c.top_int.result ≡ y = c.top_int.ensures y (second_of_two _ _ (Int x) (Int y) 1 c.requires.finds.2) in
    let same = same_divisor _ _ _ Int (Int x) y c.pop_int-y.result c.top_int.result 1 c.requires.finds.2 c.pop_int-y.ensures top one_int in
    let nonzero : c.pop_int-y.result ≢ pos 0 = λ e. c.if-top_int-eq0.false (ap (cast_unsigned w32) (same ∙ e)) in
    let r = same_result int_divisions c.args.op _ _ _ _ _ _ c.int_division.ensures
    (to_z-of_z w32 c.pop_int-x.result (record { sfits = c.pop_int-x.type_inv }))
    (to_z-of_z w32 c.pop_int-y.result (record { sfits = c.pop_int-y.type_inv }))
    (to_z-of_z w32 c.int_division.result (record { sfits = c.int_division.type_inv })) in (
      _,
      _,
      int_quotients c.args.op c.pop_int-x.result c.pop_int-y.result _ nonzero r,
      two_turned _ _ _ _ _ _ _ _ c.pop_int-y.ensures c.pop_int-x.ensures c.push.ensures,
    )
