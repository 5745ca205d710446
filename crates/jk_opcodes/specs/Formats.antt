-- The format of an opcode, by tests.
use Rattle.std.specs.Prelude.{ℕ, List, [], ◌∷◌, Bool, ◌&&◌, ◌||◌, nat_le, ◌==◌, if◌then◌else◌}
use Rattle.jk_model.specs.declared.opcodes.TheConstants.{NOP, ACONST_NULL, ICONST_M1, ICONST_0, ICONST_5, LCONST_0, LCONST_1, FCONST_0, DCONST_1, BIPUSH, SIPUSH, LDC, LDC2_W, ILOAD, LLOAD, FLOAD, DLOAD, ALOAD, ILOAD_0, ILOAD_3, LLOAD_0, LLOAD_3, ALOAD_0, ALOAD_3, IALOAD, LALOAD, AALOAD, SALOAD, ISTORE, LSTORE, FSTORE, DSTORE, ASTORE, ISTORE_0, ISTORE_3, LSTORE_0, LSTORE_3, ASTORE_0, ASTORE_3, IASTORE, LASTORE, AASTORE, SASTORE, POP, FADD, DADD, FSUB, DSUB, FMUL, DMUL, FDIV, DDIV, FREM, DREM, FNEG, DNEG, IINC, I2F, I2D, L2F, D2F, FCMPL, DCMPG, IFEQ, GOTO, JSR, RET, TABLESWITCH, LOOKUPSWITCH, IRETURN, LRETURN, FRETURN, DRETURN, ARETURN, RETURN, GETSTATIC, INVOKESTATIC, INVOKEINTERFACE, NEW, NEWARRAY, ANEWARRAY, ARRAYLENGTH, ATHROW, CHECKCAST, INSTANCEOF, MONITORENTER, MONITOREXIT, WIDE, MULTIANEWARRAY, IFNULL, IFNONNULL, GOTO_W, JSR_W}
use Rattle.jk_model.specs.Instructions as def
use Rattle.jk_opcodes.specs.declared.formats.Format.{Format}
use Rattle.jk_opcodes.specs.declared.formats.Format.TheVariants as formats
use Rattle.jk_opcodes.specs.declared.formats.WideFormat.{WideFormat}
use Rattle.jk_opcodes.specs.declared.formats.WideFormat.TheVariants as wides

-- the same format in the definitions
abbrev pub format_view : Format → def.Format
format_view formats.AsIs = def.Format.AsIs
format_view (formats.Short long first) = def.Format.Short long first
format_view formats.ByteConstant = def.Format.ByteConstant
format_view formats.ShortConstant = def.Format.ShortConstant
format_view formats.LocalIndex = def.Format.LocalIndex
format_view formats.BytePoolIndex = def.Format.BytePoolIndex
format_view formats.PoolIndex = def.Format.PoolIndex
format_view formats.Increment = def.Format.Increment
format_view formats.Jump = def.Format.Jump
format_view formats.FarJump = def.Format.FarJump
format_view formats.InterfaceCall = def.Format.InterfaceCall
format_view formats.ArrayOfKind = def.Format.ArrayOfKind
format_view formats.ManyDimensions = def.Format.ManyDimensions
format_view formats.TableSwitch = def.Format.TableSwitch
format_view formats.LookupSwitch = def.Format.LookupSwitch
format_view formats.Wide = def.Format.Wide
format_view formats.Float = def.Format.FloatFormat
format_view formats.Subroutine = def.Format.SubroutineFormat
format_view formats.Monitor = def.Format.MonitorFormat
format_view formats.NoOpcode = def.Format.NoOpcode

abbrev pub wide_view : WideFormat → def.WideFormat
wide_view wides.Local = def.WideFormat.WideLocal
wide_view wides.Increment = def.WideFormat.WideIncrement
wide_view wides.Float = def.WideFormat.WideFloat
wide_view wides.Subroutine = def.WideFormat.WideSubroutine
wide_view wides.NotWide = def.WideFormat.NotWide

abbrev pub between : ℕ → ℕ → ℕ → Bool
between first last op = nat_le first op && nat_le op last

unfoldable pub constant_format : ℕ → def.Format
constant_format op =
    if between NOP ACONST_NULL op then def.Format.AsIs else
    if between ICONST_M1 ICONST_5 op then def.Format.Short SIPUSH ICONST_0 else
    if between LCONST_0 LCONST_1 op then def.Format.Short LCONST_0 LCONST_0 else
    if between FCONST_0 DCONST_1 op then def.Format.FloatFormat else
    if op == BIPUSH then def.Format.ByteConstant else
    if op == SIPUSH then def.Format.ShortConstant else
    if op == LDC then def.Format.BytePoolIndex else def.Format.PoolIndex

unfoldable pub local_format : ℕ → def.Format
local_format op =
    if (op == ILOAD) || (op == LLOAD) || (op == ALOAD) || (op == ISTORE) || (op == LSTORE) || (op == ASTORE) then def.Format.LocalIndex else
    if between ILOAD_0 ILOAD_3 op then def.Format.Short ILOAD ILOAD_0 else
    if between LLOAD_0 LLOAD_3 op then def.Format.Short LLOAD LLOAD_0 else
    if between ALOAD_0 ALOAD_3 op then def.Format.Short ALOAD ALOAD_0 else
    if between ISTORE_0 ISTORE_3 op then def.Format.Short ISTORE ISTORE_0 else
    if between LSTORE_0 LSTORE_3 op then def.Format.Short LSTORE LSTORE_0 else
    if between ASTORE_0 ASTORE_3 op then def.Format.Short ASTORE ASTORE_0 else
    if (op == IALOAD) || (op == LALOAD) || between AALOAD SALOAD op || (op == IASTORE) || (op == LASTORE) || between AASTORE SASTORE op
    then def.Format.AsIs else
    def.Format.FloatFormat

unfoldable pub number_format : ℕ → def.Format
number_format op =
    if op == IINC then def.Format.Increment else
    if between FADD DADD op || between FSUB DSUB op || between FMUL DMUL op || between FDIV DDIV op then def.Format.FloatFormat else
    if between FREM DREM op || between FNEG DNEG op || between I2F I2D op then def.Format.FloatFormat else
    if between L2F D2F op || between FCMPL DCMPG op then def.Format.FloatFormat else def.Format.AsIs

unfoldable pub other_format : ℕ → def.Format
other_format op =
    if between IFEQ GOTO op || between IFNULL IFNONNULL op then def.Format.Jump else
    if between JSR RET op || (op == JSR_W) then def.Format.SubroutineFormat else
    if op == TABLESWITCH then def.Format.TableSwitch else
    if op == LOOKUPSWITCH then def.Format.LookupSwitch else
    if between FRETURN DRETURN op then def.Format.FloatFormat else
    if between IRETURN LRETURN op || between ARETURN RETURN op || between ARRAYLENGTH ATHROW op then def.Format.AsIs else
    if between GETSTATIC INVOKESTATIC op || (op == NEW) || (op == ANEWARRAY) || between CHECKCAST INSTANCEOF op then def.Format.PoolIndex else
    if op == INVOKEINTERFACE then def.Format.InterfaceCall else
    if op == NEWARRAY then def.Format.ArrayOfKind else
    if between MONITORENTER MONITOREXIT op then def.Format.MonitorFormat else
    if op == WIDE then def.Format.Wide else
    if op == MULTIANEWARRAY then def.Format.ManyDimensions else
    if op == GOTO_W then def.Format.FarJump else def.Format.NoOpcode

unfoldable pub format_at : ℕ → def.Format
format_at op =
    if between NOP LDC2_W op then constant_format op else
    if between ILOAD SASTORE op then local_format op else
    if between POP DCMPG op then number_format op else other_format op

unfoldable pub wide_format_at : ℕ → def.WideFormat
wide_format_at op =
    if (op == ILOAD) || (op == LLOAD) || (op == ALOAD) || (op == ISTORE) || (op == LSTORE) || (op == ASTORE) then def.WideFormat.WideLocal else
    if (op == FLOAD) || (op == DLOAD) || (op == FSTORE) || (op == DSTORE) then def.WideFormat.WideFloat else
    if op == IINC then def.WideFormat.WideIncrement else
    if op == RET then def.WideFormat.WideSubroutine else def.WideFormat.NotWide

-- ---- Switches, whose cases take memory.

abbrev pub IsSwitch : def.Format → Type 0
IsSwitch def.Format.TableSwitch = Unit {0}
IsSwitch def.Format.LookupSwitch = Unit {0}
IsSwitch _ = ⊥

abbrev pub BeginsWithSwitch : List ℕ → Type 0
BeginsWithSwitch [] = ⊥
BeginsWithSwitch (op ∷ after) = IsSwitch (format_at op)
