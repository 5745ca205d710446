-- Which bytes of a code are which instructions: the Java Virtual Machine Specification, chapter 6, without
-- the instructions on float and double, on subroutines and on monitors. A short form is decoded as its
-- long form, goto_w as goto, and wide as the opcode after it, at the place of wide. A jump counts from the place
-- of its own opcode. All numbers have their highest byte first.
use Rattle.std.specs.Prelude.{◌≡◌, ℕ, ◌+◌, ◌-◌, ◌%◌, ◌≤◌, ◌≢◌, ◌⊎◌, ⊤, ◌&&◌, ℤ, pos, negsuc, ◌+ℤ◌, ◌-ℤ◌, ◌≤ℤ◌, ◌<ℤ◌, int_le, List, [], ◌∷◌, ◌++◌, length, map, flat_map, find, nat_le, if◌then◌else◌, option_map, unwrap_or}
use Rattle.std.specs.List.{AllByRecursion}
use Rattle.std.specs.Int.{w8, w16, w32, cast_signed, from_be_bytes}
use Rattle.jk_model.specs.declared.instructions.Instr.{Instr}
use Rattle.jk_model.specs.declared.instructions.SwitchCase.{SwitchCase}
use Rattle.jk_model.specs.declared.opcodes.TheConstants.{NOP, ACONST_NULL, ICONST_M1, ICONST_0, ICONST_5, LCONST_0, LCONST_1, FCONST_0, DCONST_1, BIPUSH, SIPUSH, LDC, LDC_W, LDC2_W, ILOAD, LLOAD, FLOAD, DLOAD, ALOAD, ILOAD_0, ILOAD_3, LLOAD_0, LLOAD_3, FLOAD_0, DLOAD_3, ALOAD_0, ALOAD_3, IALOAD, LALOAD, FALOAD, DALOAD, AALOAD, SALOAD, ISTORE, LSTORE, FSTORE, DSTORE, ASTORE, ISTORE_0, ISTORE_3, LSTORE_0, LSTORE_3, FSTORE_0, DSTORE_3, ASTORE_0, ASTORE_3, IASTORE, LASTORE, FASTORE, DASTORE, AASTORE, SASTORE, POP, SWAP, IADD, LADD, FADD, DADD, ISUB, LSUB, FSUB, DSUB, IMUL, LMUL, FMUL, DMUL, IDIV, LDIV, FDIV, DDIV, IREM, LREM, FREM, DREM, INEG, LNEG, FNEG, DNEG, ISHL, LXOR, IINC, I2L, I2F, I2D, L2I, L2F, D2F, I2B, I2S, LCMP, FCMPL, DCMPG, IFEQ, IFLE, IF_ICMPEQ, IF_ICMPLE, IF_ACMPEQ, IF_ACMPNE, GOTO, JSR, RET, TABLESWITCH, LOOKUPSWITCH, IRETURN, LRETURN, FRETURN, DRETURN, ARETURN, RETURN, GETSTATIC, PUTFIELD, INVOKEVIRTUAL, INVOKESTATIC, INVOKEINTERFACE, NEW, NEWARRAY, ANEWARRAY, ARRAYLENGTH, ATHROW, CHECKCAST, INSTANCEOF, MONITORENTER, MONITOREXIT, WIDE, MULTIANEWARRAY, IFNULL, IFNONNULL, GOTO_W, JSR_W}
use Rattle.jk_model.specs.ClassFile.{u4, IsU4}

-- ---- Opcodes: what one means, and which operands follow it.

pub data Format : Type 0 where
  -- itself, without operands
  AsIs : Format
  -- this opcode; the constant or local is its own opcode less this number
  Short : ℕ → ℕ → Format
  -- bipush and sipush: sipush, with a signed constant of one byte, or of two
  ByteConstant : Format
  ShortConstant : Format
  -- itself, with a local of one byte
  LocalIndex : Format
  -- ldc: ldc_w, with a pool index of one byte
  BytePoolIndex : Format
  -- itself, with a pool index of two bytes
  PoolIndex : Format
  -- iinc: a local, and a signed step, of one byte each
  Increment : Format
  -- itself, with a signed offset of two bytes
  Jump : Format
  -- goto_w: goto, with a signed offset of four bytes
  FarJump : Format
  -- invokeinterface: a pool index of two bytes, a count above 0, and a byte 0
  InterfaceCall : Format
  -- newarray: the code of what the elements are
  ArrayOfKind : Format
  -- multianewarray: a pool index of two bytes, and a number of dimensions above 0
  ManyDimensions : Format
  TableSwitch : Format
  LookupSwitch : Format
  -- wide: another opcode, with operands of two bytes each
  Wide : Format
  -- what is left out
  FloatFormat : Format
  SubroutineFormat : Format
  MonitorFormat : Format
  -- no opcode at all
  NoOpcode : Format

-- a row is for the opcodes from its first to its last
pub record Row (F : Type 0) : Type 0 where
  pub first : ℕ
  pub last : ℕ
  pub format : F

abbrev pub row : {F : Type 0} → ℕ → ℕ → F → Row F
row first last format = record { first = first; last = last; format = format }

-- the format of the row that an opcode is in, or this one, where it is in none
abbrev pub format_among : {F : Type 0} → F → List (Row F) → ℕ → F
format_among other rows op = unwrap_or (option_map (λ r. r.format) (find (λ r. nat_le r.first op && nat_le op r.last) rows)) other

abbrev pub rows : List (Row Format)
rows =
    row NOP ACONST_NULL AsIs
    ∷ row ICONST_M1 ICONST_5 (Short SIPUSH ICONST_0)
    ∷ row LCONST_0 LCONST_1 (Short LCONST_0 LCONST_0)
    ∷ row FCONST_0 DCONST_1 FloatFormat
    ∷ row BIPUSH BIPUSH ByteConstant
    ∷ row SIPUSH SIPUSH ShortConstant
    ∷ row LDC LDC BytePoolIndex
    ∷ row LDC_W LDC2_W PoolIndex
    ∷ row ILOAD LLOAD LocalIndex
    ∷ row FLOAD DLOAD FloatFormat
    ∷ row ALOAD ALOAD LocalIndex
    ∷ row ILOAD_0 ILOAD_3 (Short ILOAD ILOAD_0)
    ∷ row LLOAD_0 LLOAD_3 (Short LLOAD LLOAD_0)
    ∷ row FLOAD_0 DLOAD_3 FloatFormat
    ∷ row ALOAD_0 ALOAD_3 (Short ALOAD ALOAD_0)
    ∷ row IALOAD LALOAD AsIs
    ∷ row FALOAD DALOAD FloatFormat
    ∷ row AALOAD SALOAD AsIs
    ∷ row ISTORE LSTORE LocalIndex
    ∷ row FSTORE DSTORE FloatFormat
    ∷ row ASTORE ASTORE LocalIndex
    ∷ row ISTORE_0 ISTORE_3 (Short ISTORE ISTORE_0)
    ∷ row LSTORE_0 LSTORE_3 (Short LSTORE LSTORE_0)
    ∷ row FSTORE_0 DSTORE_3 FloatFormat
    ∷ row ASTORE_0 ASTORE_3 (Short ASTORE ASTORE_0)
    ∷ row IASTORE LASTORE AsIs
    ∷ row FASTORE DASTORE FloatFormat
    ∷ row AASTORE SASTORE AsIs
    ∷ row POP SWAP AsIs
    -- add, sub, mul, div, rem, neg: each of int, long, float, double in this order
    ∷ row IADD LADD AsIs
    ∷ row FADD DADD FloatFormat
    ∷ row ISUB LSUB AsIs
    ∷ row FSUB DSUB FloatFormat
    ∷ row IMUL LMUL AsIs
    ∷ row FMUL DMUL FloatFormat
    ∷ row IDIV LDIV AsIs
    ∷ row FDIV DDIV FloatFormat
    ∷ row IREM LREM AsIs
    ∷ row FREM DREM FloatFormat
    ∷ row INEG LNEG AsIs
    ∷ row FNEG DNEG FloatFormat
    ∷ row ISHL LXOR AsIs
    ∷ row IINC IINC Increment
    ∷ row I2L I2L AsIs
    ∷ row I2F I2D FloatFormat
    ∷ row L2I L2I AsIs
    ∷ row L2F D2F FloatFormat
    ∷ row I2B I2S AsIs
    ∷ row LCMP LCMP AsIs
    ∷ row FCMPL DCMPG FloatFormat
    ∷ row IFEQ IFLE Jump
    ∷ row IF_ICMPEQ IF_ICMPLE Jump
    ∷ row IF_ACMPEQ IF_ACMPNE Jump
    ∷ row GOTO GOTO Jump
    ∷ row JSR RET SubroutineFormat
    ∷ row TABLESWITCH TABLESWITCH TableSwitch
    ∷ row LOOKUPSWITCH LOOKUPSWITCH LookupSwitch
    ∷ row IRETURN LRETURN AsIs
    ∷ row FRETURN DRETURN FloatFormat
    ∷ row ARETURN RETURN AsIs
    ∷ row GETSTATIC PUTFIELD PoolIndex
    ∷ row INVOKEVIRTUAL INVOKESTATIC PoolIndex
    ∷ row INVOKEINTERFACE INVOKEINTERFACE InterfaceCall
    ∷ row NEW NEW PoolIndex
    ∷ row NEWARRAY NEWARRAY ArrayOfKind
    ∷ row ANEWARRAY ANEWARRAY PoolIndex
    ∷ row ARRAYLENGTH ATHROW AsIs
    ∷ row CHECKCAST INSTANCEOF PoolIndex
    ∷ row MONITORENTER MONITOREXIT MonitorFormat
    ∷ row WIDE WIDE Wide
    ∷ row MULTIANEWARRAY MULTIANEWARRAY ManyDimensions
    ∷ row IFNULL IFNONNULL Jump
    ∷ row GOTO_W GOTO_W FarJump
    ∷ row JSR_W JSR_W SubroutineFormat
    ∷ []

abbrev pub format_of : ℕ → Format
format_of op = format_among NoOpcode rows op

-- the opcodes that may follow wide, and what they mean there
pub data WideFormat : Type 0 where
  -- itself, with a local of two bytes
  WideLocal : WideFormat
  -- iinc: a local, and a signed step, of two bytes each
  WideIncrement : WideFormat
  -- what is left out
  WideFloat : WideFormat
  WideSubroutine : WideFormat
  -- wide doesn't stand before it
  NotWide : WideFormat

abbrev pub wide_rows : List (Row WideFormat)
wide_rows =
    row ILOAD LLOAD WideLocal
    ∷ row FLOAD DLOAD WideFloat
    ∷ row ALOAD ALOAD WideLocal
    ∷ row ISTORE LSTORE WideLocal
    ∷ row FSTORE DSTORE WideFloat
    ∷ row ASTORE ASTORE WideLocal
    ∷ row IINC IINC WideIncrement
    ∷ row RET RET WideSubroutine
    ∷ []

abbrev pub wide_format_of : ℕ → WideFormat
wide_format_of op = format_among NotWide wide_rows op

-- ---- Operands.

abbrev pub short : ℕ → ℕ → ℕ
short high low = from_be_bytes w16 (high ∷ low ∷ [])

abbrev pub signed_short : ℕ → ℕ → ℤ
signed_short high low = cast_signed w16 (short high low)

abbrev pub signed_int : ℕ → ℤ
signed_int n = cast_signed w32 n

-- where an offset leads from a place: -1 where that is no place of a code
abbrev pub target : ℕ → ℤ → ℤ
target at offset =
    if int_le (pos 0) (pos at +ℤ offset) && int_le (pos at +ℤ offset) (pos 65535) then pos at +ℤ offset else negsuc 0

-- an instruction without cases: its place, its opcode, its two operands
abbrev pub plain : ℕ → ℕ → ℤ → ℤ → Instr
plain at op a b = record { at = at; op = op; a = a; b = b; cases = [] }

-- what newarray makes: boolean, char; byte, short, int, long
abbrev pub IsKind : ℕ → Type 0
IsKind kind = (kind ≡ 4) ⊎ (kind ≡ 5) ⊎ ((8 ≤ kind) × (kind ≤ 11))

-- float and double, which are left out
abbrev pub IsFloatKind : ℕ → Type 0
IsFloatKind kind = (kind ≡ 6) ⊎ (kind ≡ 7)

-- ---- Switches. The operands of one whose opcode stands at this place begin at a multiple of four from the
-- code's start; any bytes may fill the gap.

abbrev pub gap : ℕ → ℕ
gap at = 3 - at % 4

abbrev pub case_at : ℕ → ℤ → ℕ → SwitchCase
case_at at key offset = record { key = key; target = target at (signed_int offset) }

abbrev pub switch : ℕ → ℕ → ℕ → List SwitchCase → Instr
switch at op default cases = record { at = at; op = op; a = target at (signed_int default); b = pos 0; cases = cases }

-- offsets of keys that follow one another
abbrev pub table_cases : ℕ → ℤ → List ℕ → List SwitchCase
table_cases at key [] = []
table_cases at key (offset ∷ offsets) = case_at at key offset ∷ table_cases at (key +ℤ pos 1) offsets

-- the offset of the default, the lowest key, the highest key, and an offset for each key
pub record IsTableSwitch (at op : ℕ) (bytes : List ℕ) (i : Instr) : Type 0 where
  pub filling : List ℕ
  pub default : ℕ
  pub low : ℕ
  pub high : ℕ
  pub offsets : List ℕ
  pub layout : bytes ≡ filling ++ u4 default ++ u4 low ++ u4 high ++ flat_map u4 offsets
  pub filled : length filling ≡ gap at
  pub numbers : IsU4 default × IsU4 low × IsU4 high × AllByRecursion IsU4 offsets
  pub order : signed_int low ≤ℤ signed_int high
  pub count : pos (length offsets) ≡ (signed_int high -ℤ signed_int low) +ℤ pos 1
  pub says : i ≡ switch at op default (table_cases at (signed_int low) offsets)

-- a key and an offset
abbrev pub pair_bytes : ℕ × ℕ → List ℕ
pair_bytes p = u4 p.0 ++ u4 p.1

abbrev pub IsPair : ℕ × ℕ → Type 0
IsPair p = IsU4 p.0 × IsU4 p.1

abbrev pub keys : List (ℕ × ℕ) → List ℤ
keys pairs = map (λ p. signed_int p.0) pairs

-- each number is above the one before it
abbrev pub Rises : List ℤ → Type 0
Rises [] = ⊤
Rises (k ∷ []) = ⊤
Rises (k ∷ l ∷ more) = (k <ℤ l) × Rises (l ∷ more)

-- the offset of the default, the number of pairs, and so many pairs, whose keys rise
pub record IsLookupSwitch (at op : ℕ) (bytes : List ℕ) (i : Instr) : Type 0 where
  pub filling : List ℕ
  pub default : ℕ
  pub pairs : List (ℕ × ℕ)
  pub layout : bytes ≡ filling ++ u4 default ++ u4 (length pairs) ++ flat_map pair_bytes pairs
  pub filled : length filling ≡ gap at
  pub numbers : IsU4 default × IsU4 (length pairs) × AllByRecursion IsPair pairs
  pub count : pos 0 ≤ℤ signed_int (length pairs)
  pub rising : Rises (keys pairs)
  pub says : i ≡ switch at op default (map (λ p. case_at at (signed_int p.0) p.1) pairs)

-- ---- Instructions. The bytes after an opcode, all of them, are its operands, and it is this instruction.

abbrev pub WideMeans : WideFormat → ℕ → ℕ → List ℕ → Instr → Type 0
WideMeans WideLocal at op (m ∷ n ∷ []) i = i ≡ plain at op (pos (short m n)) (pos 0)
WideMeans WideIncrement at op (k ∷ l ∷ m ∷ n ∷ []) i = i ≡ plain at op (pos (short k l)) (signed_short m n)
WideMeans _ at op _ i = ⊥

abbrev pub Means : Format → ℕ → ℕ → List ℕ → Instr → Type 0
Means AsIs at op [] i = i ≡ plain at op (pos 0) (pos 0)
Means (Short long first) at op [] i = i ≡ plain at long (pos op -ℤ pos first) (pos 0)
Means ByteConstant at op (n ∷ []) i = i ≡ plain at SIPUSH (cast_signed w8 n) (pos 0)
Means ShortConstant at op (m ∷ n ∷ []) i = i ≡ plain at SIPUSH (signed_short m n) (pos 0)
Means LocalIndex at op (n ∷ []) i = i ≡ plain at op (pos n) (pos 0)
Means BytePoolIndex at op (n ∷ []) i = i ≡ plain at LDC_W (pos n) (pos 0)
Means PoolIndex at op (m ∷ n ∷ []) i = i ≡ plain at op (pos (short m n)) (pos 0)
Means Increment at op (m ∷ n ∷ []) i = i ≡ plain at op (pos m) (cast_signed w8 n)
Means Jump at op (m ∷ n ∷ []) i = i ≡ plain at op (target at (signed_short m n)) (pos 0)
Means FarJump at op (k ∷ l ∷ m ∷ n ∷ []) i =
    i ≡ plain at GOTO (target at (signed_int (from_be_bytes w32 (k ∷ l ∷ m ∷ n ∷ [])))) (pos 0)
Means InterfaceCall at op (m ∷ n ∷ count ∷ last ∷ []) i =
    (count ≢ 0) × (last ≡ 0) × (i ≡ plain at op (pos (short m n)) (pos 0))
Means ArrayOfKind at op (kind ∷ []) i = IsKind kind × (i ≡ plain at op (pos kind) (pos 0))
Means ManyDimensions at op (m ∷ n ∷ dims ∷ []) i = (dims ≢ 0) × (i ≡ plain at op (pos (short m n)) (pos dims))
Means TableSwitch at op operands i = IsTableSwitch at op operands i
Means LookupSwitch at op operands i = IsLookupSwitch at op operands i
Means Wide at op (widened ∷ operands) i = WideMeans (wide_format_of widened) at widened operands i
Means _ at op _ i = ⊥

-- the bytes, whose first is at this place, are this instruction
abbrev pub IsInstr : ℕ → List ℕ → Instr → Type 0
IsInstr at [] i = ⊥
IsInstr at (op ∷ operands) i = Means (format_of op) at op operands i

-- the bytes are these instructions, one after the other
abbrev pub AreInstrs : ℕ → List ℕ → List Instr → Type 0
AreInstrs at bytes [] = bytes ≡ []
AreInstrs at bytes (i ∷ instrs) =
    (front : List ℕ) × (rest : List ℕ) × IsInstr at front i × (bytes ≡ front ++ rest)
    × AreInstrs (at + length front) rest instrs

-- the code is these instructions
abbrev pub Decodes : List ℕ → List Instr → Type 0
Decodes code instrs = AreInstrs 0 code instrs

-- ---- Faults. A fault shows where an opcode stands that is none or is left out, or an operand that may not
-- be, whatever follows; so bytes that are missed after it don't count.

pub data Fault : Type 0 where
  IllegalOpcode : Fault
  BadSwitch : Fault
  BadOperand : Fault
  FloatOpcode : Fault
  Subroutine : Fault
  Monitor : Fault

abbrev pub WideRefuses : WideFormat → Fault → Type 0
WideRefuses WideLocal f = ⊥
WideRefuses WideIncrement f = ⊥
WideRefuses WideFloat f = f ≡ FloatOpcode
WideRefuses WideSubroutine f = f ≡ Subroutine
WideRefuses NotWide f = f ≡ BadOperand

-- the lowest key is above the highest
pub record IsBadTable (at : ℕ) (after : List ℕ) : Type 0 where
  pub filling : List ℕ
  pub default : ℕ
  pub low : ℕ
  pub high : ℕ
  pub more : List ℕ
  pub layout : after ≡ filling ++ u4 default ++ u4 low ++ u4 high ++ more
  pub filled : length filling ≡ gap at
  pub numbers : IsU4 default × IsU4 low × IsU4 high
  pub order : signed_int high <ℤ signed_int low

-- the number of pairs is negative
pub record IsBadCount (at : ℕ) (after : List ℕ) : Type 0 where
  pub filling : List ℕ
  pub default : ℕ
  pub count : ℕ
  pub more : List ℕ
  pub layout : after ≡ filling ++ u4 default ++ u4 count ++ more
  pub filled : length filling ≡ gap at
  pub numbers : IsU4 default × IsU4 count
  pub negative : signed_int count <ℤ pos 0

-- a key isn't above the one before it
pub record IsBadKey (at : ℕ) (after : List ℕ) : Type 0 where
  pub filling : List ℕ
  pub default : ℕ
  pub count : ℕ
  pub pairs : List (ℕ × ℕ)
  pub key : ℕ
  pub more : List ℕ
  pub layout : after ≡ filling ++ u4 default ++ u4 count ++ flat_map pair_bytes pairs ++ u4 key ++ more
  pub filled : length filling ≡ gap at
  pub numbers : IsU4 default × IsU4 count × AllByRecursion IsPair pairs × IsU4 key
  pub within : pos (length pairs) <ℤ signed_int count
  pub falls : Rises (keys pairs ++ signed_int key ∷ []) → ⊥

-- what follows an opcode of this format, or the opcode itself, shows this fault
abbrev pub Refuses : Format → ℕ → List ℕ → Fault → Type 0
Refuses NoOpcode at after f = f ≡ IllegalOpcode
Refuses FloatFormat at after f = f ≡ FloatOpcode
Refuses SubroutineFormat at after f = f ≡ Subroutine
Refuses MonitorFormat at after f = f ≡ Monitor
Refuses InterfaceCall at (m ∷ n ∷ count ∷ []) f = (count ≡ 0) × (f ≡ BadOperand)
Refuses InterfaceCall at (m ∷ n ∷ count ∷ last ∷ more) f = ((count ≡ 0) ⊎ (last ≢ 0)) × (f ≡ BadOperand)
Refuses ArrayOfKind at (kind ∷ more) f =
    (IsFloatKind kind × (f ≡ FloatOpcode)) ⊎ ((IsKind kind → ⊥) × (IsFloatKind kind → ⊥) × (f ≡ BadOperand))
Refuses ManyDimensions at (m ∷ n ∷ dims ∷ more) f = (dims ≡ 0) × (f ≡ BadOperand)
Refuses TableSwitch at after f = IsBadTable at after × (f ≡ BadSwitch)
Refuses LookupSwitch at after f = (IsBadCount at after ⊎ IsBadKey at after) × (f ≡ BadSwitch)
Refuses Wide at (widened ∷ more) f = WideRefuses (wide_format_of widened) f
Refuses _ at _ f = ⊥

abbrev pub Shows : ℕ → List ℕ → Fault → Type 0
Shows at [] f = ⊥
Shows at (op ∷ after) f = Refuses (format_of op) at after f

-- an instruction stands in front of these bytes
abbrev pub BeginsWithInstr : ℕ → List ℕ → Type 0
BeginsWithInstr at bytes = (front : List ℕ) × (rest : List ℕ) × (i : Instr) × IsInstr at front i × (bytes ≡ front ++ rest)

-- instructions fill the code up to this place, and these bytes stand from there on
abbrev pub GoesOn : List ℕ → ℕ → List ℕ → Type 0
GoesOn code place rest =
    (front : List ℕ) × (instrs : List Instr) × (code ≡ front ++ rest) × Decodes front instrs × (length front ≡ place)

-- the first fault of a code, and the place of the instruction in which it shows
abbrev pub HasFault : List ℕ → Fault → ℕ → Type 0
HasFault code f place = (rest : List ℕ) × GoesOn code place rest × Shows place rest f

-- The code ends within the instruction that begins at this place: there are bytes, no fault shows, and
-- they aren't enough for an instruction.
abbrev pub IsCutAt : List ℕ → ℕ → Type 0
IsCutAt code place =
    (rest : List ℕ) × GoesOn code place rest × (rest ≢ []) × ((f : Fault) → Shows place rest f → ⊥)
    × (BeginsWithInstr place rest → ⊥)
