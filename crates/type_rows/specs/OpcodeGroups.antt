-- The group of an opcode, by tests.
use Rattle.std.specs.Prelude.{ℕ, [], ◌∷◌, Bool, ◌&&◌, ◌||◌, nat_le, ◌==◌, if◌then◌else◌}
use Rattle.jk_model.specs.declared.opcodes.TheConstants.{NOP, ACONST_NULL, LCONST_0, SIPUSH, LDC_W, LDC2_W, ILOAD, LLOAD, ALOAD, ALOAD_3, IALOAD, LALOAD, AALOAD, BALOAD, CALOAD, SALOAD, ISTORE, LSTORE, ASTORE, ASTORE_3, IASTORE, LASTORE, AASTORE, BASTORE, CASTORE, SASTORE, POP, POP2, DUP, DUP_X1, DUP_X2, DUP2, DUP2_X1, DUP2_X2, SWAP, IADD, LADD, ISUB, LSUB, IMUL, LMUL, IDIV, LDIV, IREM, LREM, INEG, LNEG, ISHL, LSHL, ISHR, LSHR, IUSHR, LUSHR, IAND, LAND, IOR, LOR, IXOR, LXOR, IINC, I2L, L2I, I2B, I2S, LCMP, DCMPG, IFEQ, IFLE, IF_ICMPEQ, IF_ICMPLE, IF_ACMPEQ, IF_ACMPNE, GOTO, TABLESWITCH, LOOKUPSWITCH, IRETURN, LRETURN, ARETURN, RETURN, GETSTATIC, PUTSTATIC, GETFIELD, PUTFIELD, INVOKEVIRTUAL, INVOKESPECIAL, INVOKESTATIC, INVOKEINTERFACE, NEW, NEWARRAY, ANEWARRAY, ARRAYLENGTH, ATHROW, CHECKCAST, INSTANCEOF, MULTIANEWARRAY, IFNULL, IFNONNULL}
use Rattle.jk_model_classes.specs.declared.records.BaseRef.TheVariants as Base
use Rattle.jk_model_typing.specs.declared.frames.VType.TheVariants.{Int, Long, Null}
use Rattle.jk_model_typing.specs.declared.frames.Demand.TheVariants.{Fitting, Reference, AnyReference, ReferenceArray, Array}
use Rattle.jk_model_typing.specs.FrameTypes.{throwable}
use Rattle.jk_model_typing.specs.Groups as def
use Rattle.jk_model_typing.specs.Groups.{takes, loads, stores, numbers, bytes, int, long}
use Rattle.type_rows.specs.Shapes.{given}
use Rattle.type_rows.specs.declared.groups.CallKind.{CallKind}
use Rattle.type_rows.specs.declared.groups.CallKind.TheVariants as calls
use Rattle.type_rows.specs.declared.groups.FieldUse.{FieldUse}
use Rattle.type_rows.specs.declared.groups.FieldUse.TheVariants as fields
use Rattle.type_rows.specs.declared.groups.Fixed.{Fixed}
use Rattle.type_rows.specs.declared.groups.Fixed.TheVariants as fixed
use Rattle.type_rows.specs.declared.groups.Group.{Group}
use Rattle.type_rows.specs.declared.groups.Group.TheVariants as groups
use Rattle.type_rows.specs.declared.groups.Returned.{Returned}
use Rattle.type_rows.specs.declared.groups.Returned.TheVariants as returns
use Rattle.type_rows.specs.declared.groups.TypeUse.{TypeUse}
use Rattle.type_rows.specs.declared.groups.TypeUse.TheVariants as types

-- the same shape in the definitions
abbrev pub fixed_view : Fixed → def.Shape
fixed_view (fixed.TakesNone gives) = def.Shape.Takes [] (given gives)
fixed_view (fixed.TakesOne a gives) = def.Shape.Takes (a ∷ []) (given gives)
fixed_view (fixed.TakesTwo a b gives) = def.Shape.Takes (a ∷ b ∷ []) (given gives)
fixed_view (fixed.TakesThree a b c) = def.Shape.Takes (a ∷ b ∷ c ∷ []) []
fixed_view (fixed.Drops n) = def.Shape.Drops n
fixed_view (fixed.Copies skipped copied) = def.Shape.Copies skipped copied
fixed_view fixed.Swaps = def.Shape.Swaps
fixed_view fixed.LoadsElement = def.Shape.LoadsElement

-- the same groups in the definitions
abbrev pub returned_view : Returned → def.Group
returned_view returns.Int = def.Group.ReturnsInt
returned_view returns.Long = def.Group.ReturnsLong
returned_view returns.Reference = def.Group.ReturnsReference
returned_view returns.Nothing = def.Group.ReturnsNothing

abbrev pub field_view : FieldUse → def.Group
field_view fields.GetsStatic = def.Group.GetsStatic
field_view fields.PutsStatic = def.Group.PutsStatic
field_view fields.Gets = def.Group.GetsField
field_view fields.Puts = def.Group.PutsField

abbrev pub call_view : CallKind → def.Group
call_view calls.Virtual = def.Group.CallsVirtual
call_view calls.Special = def.Group.CallsSpecial
call_view calls.Static = def.Group.CallsStatic
call_view calls.Interface = def.Group.CallsInterface

abbrev pub type_view : TypeUse → def.Group
type_view types.MakesObject = def.Group.MakesObject
type_view types.MakesArray = def.Group.MakesArray
type_view types.MakesArrays = def.Group.MakesArrays
type_view types.Casts = def.Group.Casts
type_view types.Tests = def.Group.Tests
type_view types.MakesNumbers = def.Group.MakesNumbers

abbrev pub group_view : Group → def.Group
group_view (groups.Fixed kind) = def.Group.Always (fixed_view kind)
group_view (groups.LoadsLocal demand) = def.Group.LoadsLocal demand
group_view (groups.StoresLocal demand) = def.Group.StoresLocal demand
group_view groups.IncrementsLocal = def.Group.IncrementsLocal
group_view groups.LoadsConstant = def.Group.LoadsConstant
group_view groups.LoadsLong = def.Group.LoadsLong
group_view (groups.Returns kind) = returned_view kind
group_view (groups.UsesField kind) = field_view kind
group_view (groups.Calls kind) = call_view kind
group_view (groups.NamesType kind) = type_view kind
group_view groups.NoGroup = def.Group.NoGroup

abbrev pub between : ℕ → ℕ → ℕ → Bool
between first last op = nat_le first op && nat_le op last

-- constants, and loads and stores of locals
unfoldable pub local_group : ℕ → def.Group
local_group op =
    if op == NOP then takes [] [] else
    if op == ACONST_NULL then takes [] (Null ∷ []) else
    if op == LCONST_0 then takes [] (Long ∷ []) else
    if op == SIPUSH then takes [] (Int ∷ []) else
    if op == LDC_W then def.Group.LoadsConstant else
    if op == LDC2_W then def.Group.LoadsLong else
    if op == ILOAD then def.Group.LoadsLocal int else
    if op == LLOAD then def.Group.LoadsLocal long else
    if op == ALOAD then def.Group.LoadsLocal AnyReference else
    if op == ISTORE then def.Group.StoresLocal int else
    if op == LSTORE then def.Group.StoresLocal long else
    if op == ASTORE then def.Group.StoresLocal AnyReference else
    if op == IINC then def.Group.IncrementsLocal else def.Group.NoGroup

-- loads and stores of elements
unfoldable pub element_group : ℕ → def.Group
element_group op =
    if op == IALOAD then loads (numbers Base.Int) Int else
    if op == LALOAD then loads (numbers Base.Long) Long else
    if op == AALOAD then def.Group.Always def.Shape.LoadsElement else
    if op == BALOAD then loads bytes Int else
    if op == CALOAD then loads (numbers Base.Char) Int else
    if op == SALOAD then loads (numbers Base.Short) Int else
    if op == IASTORE then stores (numbers Base.Int) int else
    if op == LASTORE then stores (numbers Base.Long) long else
    if op == AASTORE then stores ReferenceArray Reference else
    if op == BASTORE then stores bytes int else
    if op == CASTORE then stores (numbers Base.Char) int else
    if op == SASTORE then stores (numbers Base.Short) int else def.Group.NoGroup

-- the operand stack
unfoldable pub stack_group : ℕ → def.Group
stack_group op =
    if op == POP then def.Group.Always (def.Shape.Drops 1) else
    if op == POP2 then def.Group.Always (def.Shape.Drops 2) else
    if op == DUP then def.Group.Always (def.Shape.Copies 0 1) else
    if op == DUP_X1 then def.Group.Always (def.Shape.Copies 1 1) else
    if op == DUP_X2 then def.Group.Always (def.Shape.Copies 2 1) else
    if op == DUP2 then def.Group.Always (def.Shape.Copies 0 2) else
    if op == DUP2_X1 then def.Group.Always (def.Shape.Copies 1 2) else
    if op == DUP2_X2 then def.Group.Always (def.Shape.Copies 2 2) else
    if op == SWAP then def.Group.Always def.Shape.Swaps else def.Group.NoGroup

abbrev pub is_of_two_ints : ℕ → Bool
is_of_two_ints op =
    (op == IADD) || (op == ISUB) || (op == IMUL) || (op == IDIV) || (op == IREM) || (op == ISHL) || (op == ISHR) || (op == IUSHR)
    || (op == IAND) || (op == IOR) || (op == IXOR)

abbrev pub is_of_two_longs : ℕ → Bool
is_of_two_longs op =
    (op == LADD) || (op == LSUB) || (op == LMUL) || (op == LDIV) || (op == LREM) || (op == LAND) || (op == LOR) || (op == LXOR)

-- arithmetic and conversions
unfoldable pub number_group : ℕ → def.Group
number_group op =
    if is_of_two_ints op then takes (int ∷ int ∷ []) (Int ∷ []) else
    if is_of_two_longs op then takes (long ∷ long ∷ []) (Long ∷ []) else
    if (op == LSHL) || (op == LSHR) || (op == LUSHR) then takes (long ∷ int ∷ []) (Long ∷ []) else
    if (op == INEG) || between I2B I2S op then takes (int ∷ []) (Int ∷ []) else
    if op == LNEG then takes (long ∷ []) (Long ∷ []) else
    if op == I2L then takes (int ∷ []) (Long ∷ []) else
    if op == L2I then takes (long ∷ []) (Int ∷ []) else
    if op == LCMP then takes (long ∷ long ∷ []) (Int ∷ []) else def.Group.NoGroup

-- jumps and returns
unfoldable pub jump_group : ℕ → def.Group
jump_group op =
    if between IFEQ IFLE op || between TABLESWITCH LOOKUPSWITCH op then takes (int ∷ []) [] else
    if between IF_ICMPEQ IF_ICMPLE op then takes (int ∷ int ∷ []) [] else
    if between IF_ACMPEQ IF_ACMPNE op then takes (AnyReference ∷ AnyReference ∷ []) [] else
    if op == GOTO then takes [] [] else
    if op == IRETURN then def.Group.ReturnsInt else
    if op == LRETURN then def.Group.ReturnsLong else
    if op == ARETURN then def.Group.ReturnsReference else
    if op == RETURN then def.Group.ReturnsNothing else
    if op == ATHROW then takes (Fitting throwable ∷ []) [] else
    if between IFNULL IFNONNULL op then takes (AnyReference ∷ []) [] else def.Group.NoGroup

-- fields, methods, objects and arrays
unfoldable pub object_group : ℕ → def.Group
object_group op =
    if op == GETSTATIC then def.Group.GetsStatic else
    if op == PUTSTATIC then def.Group.PutsStatic else
    if op == GETFIELD then def.Group.GetsField else
    if op == PUTFIELD then def.Group.PutsField else
    if op == INVOKEVIRTUAL then def.Group.CallsVirtual else
    if op == INVOKESPECIAL then def.Group.CallsSpecial else
    if op == INVOKESTATIC then def.Group.CallsStatic else
    if op == INVOKEINTERFACE then def.Group.CallsInterface else
    if op == NEW then def.Group.MakesObject else
    if op == NEWARRAY then def.Group.MakesNumbers else
    if op == ANEWARRAY then def.Group.MakesArray else
    if op == ARRAYLENGTH then takes (Array ∷ []) (Int ∷ []) else
    if op == CHECKCAST then def.Group.Casts else
    if op == INSTANCEOF then def.Group.Tests else
    if op == MULTIANEWARRAY then def.Group.MakesArrays else def.Group.NoGroup

unfoldable pub group_at : ℕ → def.Group
group_at op =
    if between POP SWAP op then stack_group op else
    if (op == IINC) || between NOP ALOAD_3 op || between ISTORE ASTORE_3 op then local_group op else
    if between IALOAD SASTORE op then element_group op else
    if between IADD DCMPG op then number_group op else
    if between IFEQ RETURN op || (op == ATHROW) || between IFNULL IFNONNULL op then jump_group op else object_group op
