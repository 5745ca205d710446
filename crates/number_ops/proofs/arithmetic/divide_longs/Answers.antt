-- The divisor that was looked at is the one that is taken.
use Rattle.std.proofs.Common.{◌≡◌, ◌≢◌, pos, [], ◌∷◌, refl, sym, ap, ◌∙◌}
use Rattle.std.proofs.lemmas.Int.{to_z-of_z}
use Rattle.std.specs.Int.{cast_signed, cast_unsigned, w64}
use Rattle.jk_model.specs.declared.values.Value.TheVariants.{Long}
use Rattle.jk_model_domains.specs.NumberRows.{long_divisions}
use Rattle.number_ops.proofs.Calculations.{long_quotients, no_long_quotient, one_long, same_divisor, same_result}
use Rattle.number_ops.proofs.EntriesOnTop.{first_of_two, room_of_two, second_of_two, two_turned}
use Rattle.number_ops.proofs.FoundOperands.{roomless}
use Rattle.number_ops.proofs.arithmetic.divide_longs.Goals as goal

pub top_long-requires : goal.top_long-requires
top_long-requires g c = (c.requires.finds.1, second_of_two _ _ (Long c.requires.finds.0) (Long c.requires.finds.1) 1 c.requires.finds.2)

pub returns-then-top_long-eq0 : goal.returns-then-top_long-eq0
returns-then-top_long-eq0 g c =
    let x = c.requires.finds.0 in
    let y = c.requires.finds.1 in
    let top : c.top_long.result ≡ y = c.top_long.ensures y (second_of_two _ _ (Long x) (Long y) 1 c.requires.finds.2) in
    let zero : y ≡ pos 0 = sym top ∙ sym (to_z-of_z w64 c.top_long.result (record { sfits = c.top_long.type_inv })) ∙ ap
    (cast_signed w64) c.if-top_long-eq0.true in
    (Long x ∷ Long y ∷ [], no_long_quotient c.args.op x y c.requires.op zero, roomless _ _ _ 1 c.requires.finds.2, refl)

pub pop_long-y-requires : goal.pop_long-y-requires
pop_long-y-requires g c = (c.requires.finds.1, second_of_two _ _ (Long c.requires.finds.0) (Long c.requires.finds.1) 1 c.requires.finds.2)

pub pop_long-x-requires : goal.pop_long-x-requires
pop_long-x-requires g c =
    (c.requires.finds.0, first_of_two _ _ _ (Long c.requires.finds.0) (Long c.requires.finds.1) _ 1 c.requires.finds.2 c.pop_long-y.ensures)

pub long_division-requires-clause-divisor : goal.long_division-requires-clause-divisor
long_division-requires-clause-divisor g c = λ e.
    let x = c.requires.finds.0 in
    let y = c.requires.finds.1 in
    let top : c.top_long.result ≡ y = c.top_long.ensures y (second_of_two _ _ (Long x) (Long y) 1 c.requires.finds.2) in
    let same = same_divisor _ _ _ Long (Long x) y c.pop_long-y.result c.top_long.result 1 c.requires.finds.2 c.pop_long-y.ensures top one_long in
    c.if-top_long-eq0.false (ap (cast_unsigned w64) (same ∙ sym (to_z-of_z w64 c.pop_long-y.result (record { sfits = c.pop_long-y.type_inv })) ∙ e))

pub push-requires : goal.push-requires
push-requires g c =
    room_of_two _ _ _ _ (Long c.requires.finds.0) (Long c.requires.finds.1) _ _ 1 c.requires.finds.2 c.pop_long-y.ensures c.pop_long-x.ensures

pub returns : goal.returns
returns g c =
    let x = c.requires.finds.0 in
    let y = c.requires.finds.1 in
    let top : c.top_long.result ≡ y = c.top_long.ensures y (second_of_two _ _ (Long x) (Long y) 1 c.requires.finds.2) in
    let same = same_divisor _ _ _ Long (Long x) y c.pop_long-y.result c.top_long.result 1 c.requires.finds.2 c.pop_long-y.ensures top one_long in
    let nonzero : c.pop_long-y.result ≢ pos 0 = λ e. c.if-top_long-eq0.false (ap (cast_unsigned w64) (same ∙ e)) in
    let r = same_result long_divisions c.args.op _ _ _ _ _ _ c.long_division.ensures
    (to_z-of_z w64 c.pop_long-x.result (record { sfits = c.pop_long-x.type_inv }))
    (to_z-of_z w64 c.pop_long-y.result (record { sfits = c.pop_long-y.type_inv }))
    (to_z-of_z w64 c.long_division.result (record { sfits = c.long_division.type_inv })) in (
      _,
      _,
      long_quotients c.args.op c.pop_long-x.result c.pop_long-y.result _ nonzero r,
      two_turned _ _ _ _ _ _ _ _ c.pop_long-y.ensures c.pop_long-x.ensures c.push.ensures,
    )
