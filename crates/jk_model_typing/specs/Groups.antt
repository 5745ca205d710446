-- Which instructions ask the same of a frame, by their opcodes in the long forms.
use Rattle.std.specs.Prelude.{ℕ, ◌==◌, Bool, true, false, List, [], ◌∷◌}
use Rattle.jk_model.specs.Instructions.{Row, row, format_among, Format, format_of}
use Rattle.jk_model_classes.specs.declared.records.BaseRef.{BaseRef}
use Rattle.jk_model_classes.specs.declared.records.BaseRef.TheVariants as Base
use Rattle.jk_model.specs.declared.identifiers.ClassId.{ClassId}
use Rattle.jk_model.specs.declared.identifiers.MemberId.{MemberId}
use Rattle.jk_model.specs.declared.opcodes.TheConstants.{NOP, ACONST_NULL, LCONST_0, SIPUSH, LDC_W, LDC2_W, ILOAD, LLOAD, ALOAD, IALOAD, LALOAD, AALOAD, BALOAD, CALOAD, SALOAD, ISTORE, LSTORE, ASTORE, IASTORE, LASTORE, AASTORE, BASTORE, CASTORE, SASTORE, POP, POP2, DUP, DUP_X1, DUP_X2, DUP2, DUP2_X1, DUP2_X2, SWAP, IADD, LADD, ISUB, LSUB, IMUL, LMUL, IDIV, LDIV, IREM, LREM, INEG, LNEG, ISHL, LSHL, ISHR, LSHR, IUSHR, LUSHR, IAND, LAND, IOR, LOR, IXOR, LXOR, IINC, I2L, L2I, I2B, I2S, LCMP, IFEQ, IFLE, IF_ICMPEQ, IF_ICMPLE, IF_ACMPEQ, IF_ACMPNE, GOTO, TABLESWITCH, LOOKUPSWITCH, IRETURN, LRETURN, ARETURN, RETURN, GETSTATIC, PUTSTATIC, GETFIELD, PUTFIELD, INVOKEVIRTUAL, INVOKESPECIAL, INVOKESTATIC, INVOKEINTERFACE, NEW, NEWARRAY, ANEWARRAY, ARRAYLENGTH, ATHROW, CHECKCAST, INSTANCEOF, MULTIANEWARRAY, IFNULL, IFNONNULL}
use Rattle.jk_model_typing.specs.declared.frames.VType.{VType}
use Rattle.jk_model_typing.specs.declared.frames.VType.TheVariants.{Int, Long, Null, Ref}
use Rattle.jk_model_typing.specs.declared.frames.Demand.{Demand}
use Rattle.jk_model_typing.specs.declared.frames.Demand.TheVariants.{Fitting, FittingEither, Reference, AnyReference, ReferenceArray, Array}
use Rattle.jk_model_typing.specs.FrameTypes.{array_type, throwable}

-- What an instruction does to a frame, once its operands are read.
pub data Shape : Type 0 where
  -- takes entries that meet these demands, the last of them from the top, and pushes entries of these types
  Takes : List Demand → List VType → Shape
  -- pushes what is in a local, which is to meet a demand
  Loads : Demand → ℕ → Shape
  -- takes an entry that meets a demand, and puts it into a local
  Stores : Demand → ℕ → Shape
  -- asks that a local is an int
  Increments : ℕ → Shape
  -- takes so many slots, and doesn't cut a long
  Drops : ℕ → Shape
  -- puts a copy of the topmost slots, as many as the second number says, below those before them, as many as the first
  -- says; it doesn't cut a long
  Copies : ℕ → ℕ → Shape
  -- exchanges two entries of one slot each
  Swaps : Shape
  -- takes an array of references and an index, and pushes its element
  LoadsElement : Shape
  -- pushes a fresh object
  Makes : Shape
  -- calls a constructor: the class that the reference names, the constructor found, and what its arguments are to meet
  Constructs : ClassId → MemberId → List Demand → Shape
  -- ends the method without a result
  Leaves : Shape

-- What an instruction's shape rests on, beside its opcode.
pub data Group : Type 0 where
  -- on nothing
  Always : Shape → Group
  -- on its local
  LoadsLocal : Demand → Group
  StoresLocal : Demand → Group
  IncrementsLocal : Group
  -- on the constant that it names: ldc, ldc2_w
  LoadsConstant : Group
  LoadsLong : Group
  -- on the method's result
  ReturnsInt : Group
  ReturnsLong : Group
  ReturnsReference : Group
  ReturnsNothing : Group
  -- on the field or method that it names
  GetsStatic : Group
  PutsStatic : Group
  GetsField : Group
  PutsField : Group
  CallsVirtual : Group
  CallsSpecial : Group
  CallsStatic : Group
  CallsInterface : Group
  -- on the class that it names: new, anewarray, multianewarray with its dimensions, checkcast, instanceof
  MakesObject : Group
  MakesArray : Group
  MakesArrays : Group
  Casts : Group
  Tests : Group
  -- on its code: newarray
  MakesNumbers : Group
  -- no instruction of a long form
  NoGroup : Group

-- ---- Words for the table.

abbrev pub int : Demand
int = Fitting Int

abbrev pub long : Demand
long = Fitting Long

-- null, or an array of whole numbers of this kind; byte and boolean are loaded and stored alike
abbrev pub numbers : BaseRef → Demand
numbers base = Fitting (Ref (array_type 1 base))

abbrev pub bytes : Demand
bytes = FittingEither (Ref (array_type 1 Base.Byte)) (Ref (array_type 1 Base.Bool))

abbrev pub takes : List Demand → List VType → Group
takes demands gives = Always (Takes demands gives)

abbrev pub loads : Demand → VType → Group
loads array v = takes (array ∷ int ∷ []) (v ∷ [])

abbrev pub stores : Demand → Demand → Group
stores array v = takes (array ∷ int ∷ v ∷ []) []

-- ---- The table.

abbrev pub groups : List (Row Group)
groups =
    -- nop; aconst_null; lconst_0 and lconst_1; the constants of int
    row NOP NOP (takes [] [])
    ∷ row ACONST_NULL ACONST_NULL (takes [] (Null ∷ []))
    ∷ row LCONST_0 LCONST_0 (takes [] (Long ∷ []))
    ∷ row SIPUSH SIPUSH (takes [] (Int ∷ []))
    -- ldc and ldc_w; ldc2_w
    ∷ row LDC_W LDC_W LoadsConstant
    ∷ row LDC2_W LDC2_W LoadsLong
    -- iload, lload, aload
    ∷ row ILOAD ILOAD (LoadsLocal int)
    ∷ row LLOAD LLOAD (LoadsLocal long)
    ∷ row ALOAD ALOAD (LoadsLocal AnyReference)
    -- iaload, laload, aaload, baload, caload, saload
    ∷ row IALOAD IALOAD (loads (numbers Base.Int) Int)
    ∷ row LALOAD LALOAD (loads (numbers Base.Long) Long)
    ∷ row AALOAD AALOAD (Always LoadsElement)
    ∷ row BALOAD BALOAD (loads bytes Int)
    ∷ row CALOAD CALOAD (loads (numbers Base.Char) Int)
    ∷ row SALOAD SALOAD (loads (numbers Base.Short) Int)
    -- istore, lstore, astore
    ∷ row ISTORE ISTORE (StoresLocal int)
    ∷ row LSTORE LSTORE (StoresLocal long)
    ∷ row ASTORE ASTORE (StoresLocal AnyReference)
    -- iastore, lastore, aastore, bastore, castore, sastore
    ∷ row IASTORE IASTORE (stores (numbers Base.Int) int)
    ∷ row LASTORE LASTORE (stores (numbers Base.Long) long)
    ∷ row AASTORE AASTORE (stores ReferenceArray Reference)
    ∷ row BASTORE BASTORE (stores bytes int)
    ∷ row CASTORE CASTORE (stores (numbers Base.Char) int)
    ∷ row SASTORE SASTORE (stores (numbers Base.Short) int)
    -- pop, pop2
    ∷ row POP POP (Always (Drops 1))
    ∷ row POP2 POP2 (Always (Drops 2))
    -- dup, dup_x1, dup_x2, dup2, dup2_x1, dup2_x2, swap
    ∷ row DUP DUP (Always (Copies 0 1))
    ∷ row DUP_X1 DUP_X1 (Always (Copies 1 1))
    ∷ row DUP_X2 DUP_X2 (Always (Copies 2 1))
    ∷ row DUP2 DUP2 (Always (Copies 0 2))
    ∷ row DUP2_X1 DUP2_X1 (Always (Copies 1 2))
    ∷ row DUP2_X2 DUP2_X2 (Always (Copies 2 2))
    ∷ row SWAP SWAP (Always Swaps)
    -- iadd and ladd, and so sub, mul, div, rem; ineg, lneg
    ∷ row IADD IADD (takes (int ∷ int ∷ []) (Int ∷ []))
    ∷ row LADD LADD (takes (long ∷ long ∷ []) (Long ∷ []))
    ∷ row ISUB ISUB (takes (int ∷ int ∷ []) (Int ∷ []))
    ∷ row LSUB LSUB (takes (long ∷ long ∷ []) (Long ∷ []))
    ∷ row IMUL IMUL (takes (int ∷ int ∷ []) (Int ∷ []))
    ∷ row LMUL LMUL (takes (long ∷ long ∷ []) (Long ∷ []))
    ∷ row IDIV IDIV (takes (int ∷ int ∷ []) (Int ∷ []))
    ∷ row LDIV LDIV (takes (long ∷ long ∷ []) (Long ∷ []))
    ∷ row IREM IREM (takes (int ∷ int ∷ []) (Int ∷ []))
    ∷ row LREM LREM (takes (long ∷ long ∷ []) (Long ∷ []))
    ∷ row INEG INEG (takes (int ∷ []) (Int ∷ []))
    ∷ row LNEG LNEG (takes (long ∷ []) (Long ∷ []))
    -- ishl and lshl, whose distance is an int, and so ishr, lshr, iushr, lushr
    ∷ row ISHL ISHL (takes (int ∷ int ∷ []) (Int ∷ []))
    ∷ row LSHL LSHL (takes (long ∷ int ∷ []) (Long ∷ []))
    ∷ row ISHR ISHR (takes (int ∷ int ∷ []) (Int ∷ []))
    ∷ row LSHR LSHR (takes (long ∷ int ∷ []) (Long ∷ []))
    ∷ row IUSHR IUSHR (takes (int ∷ int ∷ []) (Int ∷ []))
    ∷ row LUSHR LUSHR (takes (long ∷ int ∷ []) (Long ∷ []))
    -- iand and land, and so or, xor
    ∷ row IAND IAND (takes (int ∷ int ∷ []) (Int ∷ []))
    ∷ row LAND LAND (takes (long ∷ long ∷ []) (Long ∷ []))
    ∷ row IOR IOR (takes (int ∷ int ∷ []) (Int ∷ []))
    ∷ row LOR LOR (takes (long ∷ long ∷ []) (Long ∷ []))
    ∷ row IXOR IXOR (takes (int ∷ int ∷ []) (Int ∷ []))
    ∷ row LXOR LXOR (takes (long ∷ long ∷ []) (Long ∷ []))
    -- iinc; i2l, l2i; i2b, i2c, i2s; lcmp
    ∷ row IINC IINC IncrementsLocal
    ∷ row I2L I2L (takes (int ∷ []) (Long ∷ []))
    ∷ row L2I L2I (takes (long ∷ []) (Int ∷ []))
    ∷ row I2B I2S (takes (int ∷ []) (Int ∷ []))
    ∷ row LCMP LCMP (takes (long ∷ long ∷ []) (Int ∷ []))
    -- ifeq to ifle; if_icmpeq to if_icmple; if_acmpeq and if_acmpne; goto
    ∷ row IFEQ IFLE (takes (int ∷ []) [])
    ∷ row IF_ICMPEQ IF_ICMPLE (takes (int ∷ int ∷ []) [])
    ∷ row IF_ACMPEQ IF_ACMPNE (takes (AnyReference ∷ AnyReference ∷ []) [])
    ∷ row GOTO GOTO (takes [] [])
    -- tableswitch, lookupswitch
    ∷ row TABLESWITCH LOOKUPSWITCH (takes (int ∷ []) [])
    -- ireturn, lreturn, areturn, return
    ∷ row IRETURN IRETURN ReturnsInt
    ∷ row LRETURN LRETURN ReturnsLong
    ∷ row ARETURN ARETURN ReturnsReference
    ∷ row RETURN RETURN ReturnsNothing
    -- getstatic, putstatic, getfield, putfield
    ∷ row GETSTATIC GETSTATIC GetsStatic
    ∷ row PUTSTATIC PUTSTATIC PutsStatic
    ∷ row GETFIELD GETFIELD GetsField
    ∷ row PUTFIELD PUTFIELD PutsField
    -- invokevirtual, invokespecial, invokestatic, invokeinterface
    ∷ row INVOKEVIRTUAL INVOKEVIRTUAL CallsVirtual
    ∷ row INVOKESPECIAL INVOKESPECIAL CallsSpecial
    ∷ row INVOKESTATIC INVOKESTATIC CallsStatic
    ∷ row INVOKEINTERFACE INVOKEINTERFACE CallsInterface
    -- new; newarray; anewarray; arraylength; athrow; checkcast; instanceof; multianewarray
    ∷ row NEW NEW MakesObject
    ∷ row NEWARRAY NEWARRAY MakesNumbers
    ∷ row ANEWARRAY ANEWARRAY MakesArray
    ∷ row ARRAYLENGTH ARRAYLENGTH (takes (Array ∷ []) (Int ∷ []))
    ∷ row ATHROW ATHROW (takes (Fitting throwable ∷ []) [])
    ∷ row CHECKCAST CHECKCAST Casts
    ∷ row INSTANCEOF INSTANCEOF Tests
    ∷ row MULTIANEWARRAY MULTIANEWARRAY MakesArrays
    -- ifnull, ifnonnull
    ∷ row IFNULL IFNONNULL (takes (AnyReference ∷ []) [])
    ∷ []

abbrev pub group_of : ℕ → Group
group_of op = format_among NoGroup groups op

-- ---- That no instruction is left out.

-- decoding gives instructions with this opcode
abbrev pub is_decoded : ℕ → Bool
is_decoded op = elim (format_of op) as (λ _. Bool) [
  | Format.AsIs ↦ true
  | Format.Short long first ↦ op == long
  | Format.ShortConstant ↦ true
  | Format.LocalIndex ↦ true
  | Format.PoolIndex ↦ true
  | Format.Increment ↦ true
  | Format.Jump ↦ true
  | Format.InterfaceCall ↦ true
  | Format.ArrayOfKind ↦ true
  | Format.ManyDimensions ↦ true
  | Format.TableSwitch ↦ true
  | Format.LookupSwitch ↦ true
  | _ ↦ false
]

abbrev pub has_group : ℕ → Bool
has_group op = elim (group_of op) as (λ _. Bool) [ NoGroup ↦ false | _ ↦ true ]
