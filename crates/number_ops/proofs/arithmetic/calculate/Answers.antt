-- Each kind of arithmetic finds its operands.
use Rattle.std.proofs.Common.{◌≡◌, [], ◌∷◌, refl, sym, subst}
use Rattle.jk_model_typing.specs.declared.frames.VType.TheVariants.{Int, Long}
use Rattle.jk_model_typing.specs.Groups.{int, long, takes}
use Rattle.number_ops.specs.declared.parts.Arithmetic.TheVariants as A
use Rattle.number_ops.specs.Operands.{Calculated}
use Rattle.number_laws.specs.NumberOpcodes.{int_division_opcodes, int_opcodes, long_division_opcodes, long_opcodes, long_shift_opcodes}
use Rattle.number_ops.proofs.FoundOperands.{found_ints, found_long_and_int, found_longs}
use Rattle.number_laws.proofs.EachOpcode.{each_among}
use Rattle.number_ops.proofs.OpcodesAmong.{finds_as, finds_converted_int, finds_converted_long, of_arithmetic}
use Rattle.number_ops.proofs.arithmetic.calculate.Goals as goal

pub calculate_ints-requires-clause-op : goal.calculate_ints-requires-clause-op
calculate_ints-requires-clause-op g c = of_arithmetic _ A.Ints _ c.in-Ints.is c.requires.op

pub calculate_ints-requires-clause-finds : goal.calculate_ints-requires-clause-finds
calculate_ints-requires-clause-finds g c =
    found_ints _ _ (Int ∷ []) (finds_as int_opcodes _ _ c.args.i.now (takes (int ∷ int ∷ []) (Int ∷ [])) (
      refl,
      (
        refl,
        (
          refl,
          (
            refl,
            (
              refl,
              (
                refl,
                (refl, (refl, (refl, tt))),
              ),
            ),
          ),
        ),
      ),
    ) (of_arithmetic _ A.Ints _ c.in-Ints.is c.requires.op) c.requires.finds)

pub returns-in-Ints : goal.returns-in-Ints
returns-in-Ints g c = c.calculate_ints.ensures

pub divide_ints-requires-clause-op : goal.divide_ints-requires-clause-op
divide_ints-requires-clause-op g c = of_arithmetic _ A.IntDivision _ c.in-IntDivision.is c.requires.op

pub divide_ints-requires-clause-finds : goal.divide_ints-requires-clause-finds
divide_ints-requires-clause-finds g c =
    found_ints _ _ (Int ∷ []) (finds_as int_division_opcodes _ _ c.args.i.now (takes (int ∷ int ∷ []) (Int ∷ [])) (refl, (refl, tt))
    (of_arithmetic _ A.IntDivision _ c.in-IntDivision.is c.requires.op) c.requires.finds)

pub returns-in-IntDivision : goal.returns-in-IntDivision
returns-in-IntDivision g c = c.divide_ints.ensures

pub calculate_longs-requires-clause-op : goal.calculate_longs-requires-clause-op
calculate_longs-requires-clause-op g c = of_arithmetic _ A.Longs _ c.in-Longs.is c.requires.op

pub calculate_longs-requires-clause-finds : goal.calculate_longs-requires-clause-finds
calculate_longs-requires-clause-finds g c =
    found_longs _ _ (Long ∷ []) (finds_as long_opcodes _ _ c.args.i.now (takes (long ∷ long ∷ []) (Long ∷ [])) (
      refl,
      (
        refl,
        (
          refl,
          (
            refl,
            (
              refl,
              (refl, tt),
            ),
          ),
        ),
      ),
    ) (of_arithmetic _ A.Longs _ c.in-Longs.is c.requires.op) c.requires.finds)

pub returns-in-Longs : goal.returns-in-Longs
returns-in-Longs g c = c.calculate_longs.ensures

pub divide_longs-requires-clause-op : goal.divide_longs-requires-clause-op
divide_longs-requires-clause-op g c = of_arithmetic _ A.LongDivision _ c.in-LongDivision.is c.requires.op

pub divide_longs-requires-clause-finds : goal.divide_longs-requires-clause-finds
divide_longs-requires-clause-finds g c =
    found_longs _ _ (Long ∷ []) (finds_as long_division_opcodes _ _ c.args.i.now (takes (long ∷ long ∷ []) (Long ∷ [])) (refl, (refl, tt))
    (of_arithmetic _ A.LongDivision _ c.in-LongDivision.is c.requires.op) c.requires.finds)

pub returns-in-LongDivision : goal.returns-in-LongDivision
returns-in-LongDivision g c = c.divide_longs.ensures

pub shift_long-requires-clause-op : goal.shift_long-requires-clause-op
shift_long-requires-clause-op g c = of_arithmetic _ A.LongShift _ c.in-LongShift.is c.requires.op

pub shift_long-requires-clause-finds : goal.shift_long-requires-clause-finds
shift_long-requires-clause-finds g c =
    found_long_and_int _ _ (Long ∷ []) (finds_as long_shift_opcodes _ _ c.args.i.now (takes (long ∷ int ∷ []) (Long ∷ [])) (refl, (refl, (refl, tt)))
    (of_arithmetic _ A.LongShift _ c.in-LongShift.is c.requires.op) c.requires.finds)

pub returns-in-LongShift : goal.returns-in-LongShift
returns-in-LongShift g c = c.shift_long.ensures

pub compare_longs-requires : goal.compare_longs-requires
compare_longs-requires g c =
    found_longs _ _ (Int ∷ []) (finds_as (0x94 ∷ []) _ _ c.args.i.now (takes (long ∷ long ∷ []) (Int ∷ [])) (refl, tt)
    (of_arithmetic _ A.LongComparison _ c.in-LongComparison.is c.requires.op) c.requires.finds)

pub returns-in-LongComparison : goal.returns-in-LongComparison
returns-in-LongComparison g c =
    let is : c.args.i.now.op ≡ 0x94 = each_among (λ op. op ≡ 0x94) (0x94 ∷ []) c.args.i.now.op (refl, tt)
    (of_arithmetic _ A.LongComparison _ c.in-LongComparison.is c.requires.op) in
    subst (Calculated _ _ _) (sym is) c.compare_longs.ensures

pub convert_int-requires-clause-op : goal.convert_int-requires-clause-op
convert_int-requires-clause-op g c = of_arithmetic _ A.IntConversion _ c.in-IntConversion.is c.requires.op

pub convert_long-requires-clause-op : goal.convert_long-requires-clause-op
convert_long-requires-clause-op g c = of_arithmetic _ A.LongConversion _ c.in-LongConversion.is c.requires.op

-- an int becomes an int or a long
pub convert_int-requires-clause-finds : goal.convert_int-requires-clause-finds
convert_int-requires-clause-finds g c =
    finds_converted_int _ _ c.args.i.now (of_arithmetic _ A.IntConversion _ c.in-IntConversion.is c.requires.op) c.requires.finds

pub convert_long-requires-clause-finds : goal.convert_long-requires-clause-finds
convert_long-requires-clause-finds g c =
    finds_converted_long _ _ c.args.i.now (of_arithmetic _ A.LongConversion _ c.in-LongConversion.is c.requires.op) c.requires.finds

pub returns-in-IntConversion : goal.returns-in-IntConversion
returns-in-IntConversion g c = c.convert_int.ensures

pub returns-in-LongConversion : goal.returns-in-LongConversion
returns-in-LongConversion g c = c.convert_long.ensures
