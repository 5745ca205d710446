-- The names of instructions: one for each opcode that a code is decoded to, in the order of these (the Java
-- Virtual Machine Specification, chapter 6), with its operands. The number 9 is lconst_0, and 10 lconst_1.
use Rattle.std.specs.Prelude.{ℕ, List, [], ◌∷◌, Option, find, bytes_eq, codes}
use Rattle.jk_model.specs.declared.opcodes.TheConstants.{NOP, ACONST_NULL, LCONST_0, LCONST_1, SIPUSH, LDC_W, LDC2_W, ILOAD, LLOAD, ALOAD, IALOAD, LALOAD, AALOAD, BALOAD, CALOAD, SALOAD, ISTORE, LSTORE, ASTORE, IASTORE, LASTORE, AASTORE, BASTORE, CASTORE, SASTORE, POP, POP2, DUP, DUP_X1, DUP_X2, DUP2, DUP2_X1, DUP2_X2, SWAP, IADD, LADD, ISUB, LSUB, IMUL, LMUL, IDIV, LDIV, IREM, LREM, INEG, LNEG, ISHL, LSHL, ISHR, LSHR, IUSHR, LUSHR, IAND, LAND, IOR, LOR, IXOR, LXOR, IINC, I2L, L2I, I2B, I2C, I2S, LCMP, IFEQ, IFNE, IFLT, IFGE, IFGT, IFLE, IF_ICMPEQ, IF_ICMPNE, IF_ICMPLT, IF_ICMPGE, IF_ICMPGT, IF_ICMPLE, IF_ACMPEQ, IF_ACMPNE, GOTO, LOOKUPSWITCH, IRETURN, LRETURN, ARETURN, RETURN, GETSTATIC, PUTSTATIC, GETFIELD, PUTFIELD, INVOKEVIRTUAL, INVOKESPECIAL, INVOKESTATIC, INVOKEINTERFACE, NEW, NEWARRAY, ANEWARRAY, ARRAYLENGTH, ATHROW, CHECKCAST, INSTANCEOF, MULTIANEWARRAY, IFNULL, IFNONNULL}
use Rattle.asm_reader.specs.declared.items.MemberKind.TheVariants.{Field, Method, InterfaceMethod}
use Rattle.asm_reader.specs.declared.mnemonics.Operands.{Operands}
use Rattle.asm_reader.specs.declared.mnemonics.Operands.TheVariants.{Nothing, Number, SingleConstant, WideConstant, Local, LocalAndStep, Label, Member, ClassName, ArrayKind, Dimensions, Cases}

pub record Mnemonic : Type 0 where
  pub name : List ℕ
  pub op : ℕ
  pub operands : Operands

abbrev row : List ℕ → ℕ → Operands → Mnemonic
row name op operands = record { name = name; op = op; operands = operands }

abbrev pub mnemonics : List Mnemonic
mnemonics =
    row (codes "nop") NOP Nothing
    ∷ row (codes "aconst_null") ACONST_NULL Nothing
    ∷ row (codes "lconst_0") LCONST_0 Nothing
    ∷ row (codes "lconst_1") LCONST_1 Nothing
    ∷ row (codes "sipush") SIPUSH Number
    ∷ row (codes "ldc_w") LDC_W SingleConstant
    ∷ row (codes "ldc2_w") LDC2_W WideConstant
    ∷ row (codes "iload") ILOAD Local
    ∷ row (codes "lload") LLOAD Local
    ∷ row (codes "aload") ALOAD Local
    ∷ row (codes "iaload") IALOAD Nothing
    ∷ row (codes "laload") LALOAD Nothing
    ∷ row (codes "aaload") AALOAD Nothing
    ∷ row (codes "baload") BALOAD Nothing
    ∷ row (codes "caload") CALOAD Nothing
    ∷ row (codes "saload") SALOAD Nothing
    ∷ row (codes "istore") ISTORE Local
    ∷ row (codes "lstore") LSTORE Local
    ∷ row (codes "astore") ASTORE Local
    ∷ row (codes "iastore") IASTORE Nothing
    ∷ row (codes "lastore") LASTORE Nothing
    ∷ row (codes "aastore") AASTORE Nothing
    ∷ row (codes "bastore") BASTORE Nothing
    ∷ row (codes "castore") CASTORE Nothing
    ∷ row (codes "sastore") SASTORE Nothing
    ∷ row (codes "pop") POP Nothing
    ∷ row (codes "pop2") POP2 Nothing
    ∷ row (codes "dup") DUP Nothing
    ∷ row (codes "dup_x1") DUP_X1 Nothing
    ∷ row (codes "dup_x2") DUP_X2 Nothing
    ∷ row (codes "dup2") DUP2 Nothing
    ∷ row (codes "dup2_x1") DUP2_X1 Nothing
    ∷ row (codes "dup2_x2") DUP2_X2 Nothing
    ∷ row (codes "swap") SWAP Nothing
    ∷ row (codes "iadd") IADD Nothing
    ∷ row (codes "ladd") LADD Nothing
    ∷ row (codes "isub") ISUB Nothing
    ∷ row (codes "lsub") LSUB Nothing
    ∷ row (codes "imul") IMUL Nothing
    ∷ row (codes "lmul") LMUL Nothing
    ∷ row (codes "idiv") IDIV Nothing
    ∷ row (codes "ldiv") LDIV Nothing
    ∷ row (codes "irem") IREM Nothing
    ∷ row (codes "lrem") LREM Nothing
    ∷ row (codes "ineg") INEG Nothing
    ∷ row (codes "lneg") LNEG Nothing
    ∷ row (codes "ishl") ISHL Nothing
    ∷ row (codes "lshl") LSHL Nothing
    ∷ row (codes "ishr") ISHR Nothing
    ∷ row (codes "lshr") LSHR Nothing
    ∷ row (codes "iushr") IUSHR Nothing
    ∷ row (codes "lushr") LUSHR Nothing
    ∷ row (codes "iand") IAND Nothing
    ∷ row (codes "land") LAND Nothing
    ∷ row (codes "ior") IOR Nothing
    ∷ row (codes "lor") LOR Nothing
    ∷ row (codes "ixor") IXOR Nothing
    ∷ row (codes "lxor") LXOR Nothing
    ∷ row (codes "iinc") IINC LocalAndStep
    ∷ row (codes "i2l") I2L Nothing
    ∷ row (codes "l2i") L2I Nothing
    ∷ row (codes "i2b") I2B Nothing
    ∷ row (codes "i2c") I2C Nothing
    ∷ row (codes "i2s") I2S Nothing
    ∷ row (codes "lcmp") LCMP Nothing
    ∷ row (codes "ifeq") IFEQ Label
    ∷ row (codes "ifne") IFNE Label
    ∷ row (codes "iflt") IFLT Label
    ∷ row (codes "ifge") IFGE Label
    ∷ row (codes "ifgt") IFGT Label
    ∷ row (codes "ifle") IFLE Label
    ∷ row (codes "if_icmpeq") IF_ICMPEQ Label
    ∷ row (codes "if_icmpne") IF_ICMPNE Label
    ∷ row (codes "if_icmplt") IF_ICMPLT Label
    ∷ row (codes "if_icmpge") IF_ICMPGE Label
    ∷ row (codes "if_icmpgt") IF_ICMPGT Label
    ∷ row (codes "if_icmple") IF_ICMPLE Label
    ∷ row (codes "if_acmpeq") IF_ACMPEQ Label
    ∷ row (codes "if_acmpne") IF_ACMPNE Label
    ∷ row (codes "goto") GOTO Label
    ∷ row (codes "switch") LOOKUPSWITCH Cases
    ∷ row (codes "ireturn") IRETURN Nothing
    ∷ row (codes "lreturn") LRETURN Nothing
    ∷ row (codes "areturn") ARETURN Nothing
    ∷ row (codes "return") RETURN Nothing
    ∷ row (codes "getstatic") GETSTATIC (Member Field)
    ∷ row (codes "putstatic") PUTSTATIC (Member Field)
    ∷ row (codes "getfield") GETFIELD (Member Field)
    ∷ row (codes "putfield") PUTFIELD (Member Field)
    ∷ row (codes "invokevirtual") INVOKEVIRTUAL (Member Method)
    ∷ row (codes "invokespecial") INVOKESPECIAL (Member Method)
    ∷ row (codes "invokestatic") INVOKESTATIC (Member Method)
    ∷ row (codes "invokeinterface") INVOKEINTERFACE (Member InterfaceMethod)
    ∷ row (codes "new") NEW ClassName
    ∷ row (codes "newarray") NEWARRAY ArrayKind
    ∷ row (codes "anewarray") ANEWARRAY ClassName
    ∷ row (codes "arraylength") ARRAYLENGTH Nothing
    ∷ row (codes "athrow") ATHROW Nothing
    ∷ row (codes "checkcast") CHECKCAST ClassName
    ∷ row (codes "instanceof") INSTANCEOF ClassName
    ∷ row (codes "multianewarray") MULTIANEWARRAY Dimensions
    ∷ row (codes "ifnull") IFNULL Label
    ∷ row (codes "ifnonnull") IFNONNULL Label
    ∷ []

-- the instruction of a name
abbrev pub mnemonic_named : List ℕ → Option Mnemonic
mnemonic_named name = find (λ (m : Mnemonic). bytes_eq m.name name) mnemonics
