-- What kind of work an opcode asks for, by tests; and which opcodes are of a kind.
use Rattle.std.specs.Prelude.{ℕ, Bool, not, ◌&&◌, ◌||◌, nat_le, ◌==◌, List, [], ◌∷◌, if◌then◌else◌}
use Rattle.jk_model.specs.declared.opcodes.TheConstants.{NOP, ACONST_NULL, LCONST_0, SIPUSH, LDC_W, LDC2_W, ILOAD, LLOAD, ALOAD, ISTORE, LSTORE, ASTORE, POP, SWAP, IADD, LADD, ISUB, LSUB, IMUL, LMUL, IDIV, LDIV, IREM, LREM, INEG, LNEG, ISHL, LSHL, ISHR, LSHR, IUSHR, LUSHR, IAND, LAND, IOR, LOR, IXOR, LXOR, IINC, I2L, L2I, I2B, I2C, I2S, LCMP, IFEQ, IFLE, IF_ICMPEQ, IF_ICMPLE, IF_ACMPEQ, IF_ACMPNE, GOTO, TABLESWITCH, LOOKUPSWITCH, IRETURN, LRETURN, ARETURN, RETURN, IFNULL, IFNONNULL}
use Rattle.jk_model_typing.specs.Groups.{has_group}
use Rattle.jk_model_domains.specs.NumberRows.{number_opcodes}
use Rattle.number_laws.specs.NumberOpcodes.{constant_opcodes, int_conversion_opcodes, int_division_opcodes, int_opcodes, is_among, load_opcodes, long_conversion_opcodes, long_division_opcodes, long_opcodes, long_shift_opcodes, moving_opcodes, store_opcodes, value_return_opcodes, switch_opcodes, zero_jump_opcodes, int_jump_opcodes}
use Rattle.number_ops.specs.declared.parts.Arithmetic.{Arithmetic}
use Rattle.number_ops.specs.declared.parts.Arithmetic.TheVariants as A
use Rattle.number_ops.specs.declared.parts.Jump.{Jump}
use Rattle.number_ops.specs.declared.parts.Jump.TheVariants as J
use Rattle.number_ops.specs.declared.parts.Part.{Part}
use Rattle.number_ops.specs.declared.parts.Part.TheVariants.{Nothing, Constant, Load, Store, Move, Calculate, Increment, Decide, Switch, ReturnValue, ReturnNothing, Other}

abbrev between : ℕ → ℕ → ℕ → Bool
between first last op = nat_le first op && nat_le op last

unfoldable pub local_part : ℕ → Part
local_part op =
    if op == NOP then Nothing else
    if op == ACONST_NULL || op == LCONST_0 || op == SIPUSH || op == LDC_W || op == LDC2_W then Constant else
    if op == ILOAD || op == LLOAD || op == ALOAD then Load else
    if op == ISTORE || op == LSTORE || op == ASTORE then Store else Other

unfoldable pub number_part : ℕ → Part
number_part op =
    if op == IADD || op == ISUB || op == IMUL || op == ISHL || op == ISHR || op == IUSHR || op == IAND || op == IOR || op == IXOR then Calculate A.Ints else
    if op == IDIV || op == IREM then Calculate A.IntDivision else
    if op == LADD || op == LSUB || op == LMUL || op == LAND || op == LOR || op == LXOR then Calculate A.Longs else
    if op == LDIV || op == LREM then Calculate A.LongDivision else
    if op == LSHL || op == LSHR || op == LUSHR then Calculate A.LongShift else
    if op == INEG || op == I2L || op == I2B || op == I2C || op == I2S then Calculate A.IntConversion else
    if op == LNEG || op == L2I then Calculate A.LongConversion else
    if op == LCMP then Calculate A.LongComparison else
    if op == IINC then Increment else Other

unfoldable pub jump_part : ℕ → Part
jump_part op =
    if between IFEQ IFLE op then Decide J.Zero else
    if between IF_ICMPEQ IF_ICMPLE op then Decide J.Ints else
    if op == IF_ACMPEQ then Decide J.Same else
    if op == IF_ACMPNE then Decide J.Different else
    if op == GOTO then Decide J.Always else
    if op == TABLESWITCH || op == LOOKUPSWITCH then Switch else
    if op == IRETURN || op == LRETURN || op == ARETURN then ReturnValue else
    if op == RETURN then ReturnNothing else
    if op == IFNULL then Decide J.Null else
    if op == IFNONNULL then Decide J.NotNull else Other

unfoldable pub part_at : ℕ → Part
part_at op =
    if between NOP ASTORE op then local_part op else
    if between POP SWAP op then Move else
    if between IADD LCMP op then number_part op else
    if between IFEQ IFNONNULL op then jump_part op else Other

-- ---- Which opcodes are of a kind.

abbrev pub arithmetic_opcodes : Arithmetic → List ℕ
arithmetic_opcodes A.Ints = int_opcodes
arithmetic_opcodes A.IntDivision = int_division_opcodes
arithmetic_opcodes A.Longs = long_opcodes
arithmetic_opcodes A.LongDivision = long_division_opcodes
arithmetic_opcodes A.LongShift = long_shift_opcodes
arithmetic_opcodes A.IntConversion = int_conversion_opcodes
arithmetic_opcodes A.LongConversion = long_conversion_opcodes
arithmetic_opcodes A.LongComparison = LCMP ∷ []

abbrev pub jump_opcodes : Jump → List ℕ
jump_opcodes J.Zero = zero_jump_opcodes
jump_opcodes J.Ints = int_jump_opcodes
jump_opcodes J.Same = IF_ACMPEQ ∷ []
jump_opcodes J.Different = IF_ACMPNE ∷ []
jump_opcodes J.Null = IFNULL ∷ []
jump_opcodes J.NotNull = IFNONNULL ∷ []
jump_opcodes J.Always = GOTO ∷ []

abbrev pub is_in : List (ℕ × ℕ) → ℕ → Bool
is_in [] op = Bool.false
is_in (r ∷ rows) op = between r.0 r.1 op || is_in rows op

-- an opcode of this kind; of none, where the typing has no row for it or it isn't one of those on numbers
abbrev pub is_part : ℕ → Part → Bool
is_part op Nothing = is_among (NOP ∷ []) op
is_part op Constant = is_among constant_opcodes op
is_part op Load = is_among load_opcodes op
is_part op Store = is_among store_opcodes op
is_part op Move = is_among moving_opcodes op
is_part op (Calculate a) = is_among (arithmetic_opcodes a) op
is_part op Increment = is_among (IINC ∷ []) op
is_part op (Decide j) = is_among (jump_opcodes j) op
is_part op Switch = is_among switch_opcodes op
is_part op ReturnValue = is_among value_return_opcodes op
is_part op ReturnNothing = is_among (RETURN ∷ []) op
is_part op Other = not (is_in number_opcodes op && has_group op) && not (op == LDC_W)
