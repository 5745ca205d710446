-- Which instructions on numbers do what.
use Rattle.std.specs.Prelude.{ℕ, ◌==◌, ◌||◌, Bool, false, List, [], ◌∷◌}
use Rattle.jk_model.specs.declared.opcodes.TheConstants.{ACONST_NULL, LCONST_0, SIPUSH, LDC_W, LDC2_W, ILOAD, LLOAD, ALOAD, ISTORE, LSTORE, ASTORE, POP, POP2, DUP, DUP_X1, DUP_X2, DUP2, DUP2_X1, DUP2_X2, SWAP, IADD, LADD, ISUB, LSUB, IMUL, LMUL, IDIV, LDIV, IREM, LREM, INEG, LNEG, ISHL, LSHL, ISHR, LSHR, IUSHR, LUSHR, IAND, LAND, IOR, LOR, IXOR, LXOR, I2L, L2I, I2B, I2C, I2S, IFEQ, IFNE, IFLT, IFGE, IFGT, IFLE, IF_ICMPEQ, IF_ICMPNE, IF_ICMPLT, IF_ICMPGE, IF_ICMPGT, IF_ICMPLE, TABLESWITCH, LOOKUPSWITCH, IRETURN, LRETURN, ARETURN}

abbrev pub is_among : List ℕ → ℕ → Bool
is_among [] op = false
is_among (k ∷ ks) op = op == k || is_among ks op

-- aconst_null, the constants of int and long, ldc, ldc2_w
abbrev pub constant_opcodes : List ℕ
constant_opcodes = ACONST_NULL ∷ LCONST_0 ∷ SIPUSH ∷ LDC_W ∷ LDC2_W ∷ []

-- iadd, isub, imul, ishl, ishr, iushr, iand, ior, ixor
abbrev pub int_opcodes : List ℕ
int_opcodes = IADD ∷ ISUB ∷ IMUL ∷ ISHL ∷ ISHR ∷ IUSHR ∷ IAND ∷ IOR ∷ IXOR ∷ []

-- idiv, irem
abbrev pub int_division_opcodes : List ℕ
int_division_opcodes = IDIV ∷ IREM ∷ []

-- ladd, lsub, lmul, land, lor, lxor
abbrev pub long_opcodes : List ℕ
long_opcodes = LADD ∷ LSUB ∷ LMUL ∷ LAND ∷ LOR ∷ LXOR ∷ []

-- ldiv, lrem
abbrev pub long_division_opcodes : List ℕ
long_division_opcodes = LDIV ∷ LREM ∷ []

-- lshl, lshr, lushr
abbrev pub long_shift_opcodes : List ℕ
long_shift_opcodes = LSHL ∷ LSHR ∷ LUSHR ∷ []

-- ineg, i2l, i2b, i2c, i2s
abbrev pub int_conversion_opcodes : List ℕ
int_conversion_opcodes = INEG ∷ I2L ∷ I2B ∷ I2C ∷ I2S ∷ []

-- lneg, l2i
abbrev pub long_conversion_opcodes : List ℕ
long_conversion_opcodes = LNEG ∷ L2I ∷ []

-- pop, pop2, the forms of dup, swap
abbrev pub moving_opcodes : List ℕ
moving_opcodes = POP ∷ POP2 ∷ DUP ∷ DUP_X1 ∷ DUP_X2 ∷ DUP2 ∷ DUP2_X1 ∷ DUP2_X2 ∷ SWAP ∷ []

-- iload, lload, aload
abbrev pub load_opcodes : List ℕ
load_opcodes = ILOAD ∷ LLOAD ∷ ALOAD ∷ []

-- istore, lstore, astore
abbrev pub store_opcodes : List ℕ
store_opcodes = ISTORE ∷ LSTORE ∷ ASTORE ∷ []

-- ifeq, ifne, iflt, ifge, ifgt, ifle
abbrev pub zero_jump_opcodes : List ℕ
zero_jump_opcodes = IFEQ ∷ IFNE ∷ IFLT ∷ IFGE ∷ IFGT ∷ IFLE ∷ []

-- the same of two ints
abbrev pub int_jump_opcodes : List ℕ
int_jump_opcodes = IF_ICMPEQ ∷ IF_ICMPNE ∷ IF_ICMPLT ∷ IF_ICMPGE ∷ IF_ICMPGT ∷ IF_ICMPLE ∷ []

-- tableswitch, lookupswitch
abbrev pub switch_opcodes : List ℕ
switch_opcodes = TABLESWITCH ∷ LOOKUPSWITCH ∷ []

-- ireturn, lreturn, areturn
abbrev pub value_return_opcodes : List ℕ
value_return_opcodes = IRETURN ∷ LRETURN ∷ ARETURN ∷ []
