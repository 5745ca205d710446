-- What the instructions do that need no heap, no class and no call: constants, locals, the stack, arithmetic, comparisons,
-- jumps and returns (the Java Virtual Machine Specification, chapter 6). Numbers wrap in 32 and 64 bits.
use Rattle.std.specs.Prelude.{◌≡◌, ◌≢◌, ℕ, suc, ◌+◌, ◌/◌, ◌^◌, ◌≤◌, ◌⊎◌, ◌==◌, ◌&&◌, ◌||◌, Bool, true, not, IsTrue, ℤ, pos, negsuc, List, [], ◌∷◌, ◌++◌, length, Contains, find, Some, None, slice_get, slice_set, sum_by, if◌then◌else◌, int_lt, int_rem, unsigned_abs}
use Rattle.std.specs.Int.{w8, w16, w32, w64, cast_signed, cast_unsigned, int_bit_and, int_bit_or, int_bit_xor, int_rem_euclid, int_shl, int_shr, int_wrap, int_wrapping_add, int_wrapping_div, int_wrapping_mul, int_wrapping_neg, int_wrapping_sub}
use Rattle.std.specs.Option.{option_map_or}
use Rattle.std.specs.Ordering.{int_eq}
use Rattle.jk_model.specs.declared.identifiers.ClassId.{ClassId}
use Rattle.jk_model.specs.declared.instructions.Instr.{Instr}
use Rattle.jk_model.specs.declared.instructions.SwitchCase.{SwitchCase}
use Rattle.jk_model.specs.declared.opcodes.TheConstants.{NOP, ACONST_NULL, LCONST_0, SIPUSH, LDC_W, LDC2_W, ILOAD, LLOAD, ALOAD, ISTORE, LSTORE, ASTORE, POP, POP2, DUP, DUP_X1, DUP_X2, DUP2, DUP2_X1, DUP2_X2, SWAP, IADD, LADD, ISUB, LSUB, IMUL, LMUL, IDIV, LDIV, IREM, LREM, INEG, LNEG, ISHL, LSHL, ISHR, LSHR, IUSHR, LUSHR, IAND, LAND, IOR, LOR, IXOR, LXOR, IINC, I2L, L2I, I2B, I2C, I2S, LCMP, IFEQ, IF_ICMPEQ, IF_ACMPEQ, IF_ACMPNE, GOTO, TABLESWITCH, IRETURN, LRETURN, ARETURN, RETURN, IFNULL, IFNONNULL}
use Rattle.jk_model.specs.declared.steps.After.{After}
use Rattle.jk_model.specs.declared.steps.After.TheVariants as Next
use Rattle.jk_model.specs.declared.steps.Raise.TheVariants.{Fresh}
use Rattle.jk_model.specs.declared.values.Value.{Value}
use Rattle.jk_model.specs.declared.values.Value.TheVariants.{Int, Long, Null, Obj, Cap, Unset}
use Rattle.jk_model_classes.specs.declared.records.Link.TheVariants as To
use Rattle.jk_model_classes.specs.Items.{HasItem}
use Rattle.jk_model_classes.specs.MemberCode.{is_switch}
use Rattle.jk_model_typing.specs.Scopes.{CodeScope, LeadsToLink}
use Rattle.jk_model_frames.specs.Frames.{FrameState}

-- ---- Tables: an opcode, and what it stands for.

abbrev pub HasRow : {X : Type 0} → List (ℕ × X) → ℕ → X → Type 0
HasRow rows op x = Contains rows (op, x)

-- ---- Arithmetic.

abbrev IntOperation : Type 0
IntOperation = ℤ → ℤ → ℤ

-- the lowest bits of a distance count: five of them for an int, six for a long
abbrev pub distance : ℕ → ℤ → ℕ
distance width n = unsigned_abs (int_rem_euclid n (pos width))

-- a shift to the right that fills with zeros
abbrev pub shift_zeros : ℤ → ℕ → ℤ
shift_zeros x k = cast_signed w32 (cast_unsigned w32 x / 2 ^ k)

abbrev pub shift_zeros_long : ℤ → ℕ → ℤ
shift_zeros_long x k = cast_signed w64 (cast_unsigned w64 x / 2 ^ k)

-- of two ints: iadd, isub, imul, iand, ior, ixor, ishl, ishr, iushr
abbrev pub int_operations : List (ℕ × IntOperation)
int_operations =
    (IADD, int_wrapping_add w32) ∷ (ISUB, int_wrapping_sub w32) ∷ (IMUL, int_wrapping_mul w32)
    ∷ (IAND, int_bit_and w32) ∷ (IOR, int_bit_or w32) ∷ (IXOR, int_bit_xor w32)
    ∷ (ISHL, λ x n. int_shl w32 x (distance 32 n)) ∷ (ISHR, λ x n. int_shr x (distance 32 n))
    ∷ (IUSHR, λ x n. shift_zeros x (distance 32 n)) ∷ []

-- idiv and irem, where the divisor isn't 0: the quotient is rounded towards 0, and the remainder has the sign of the dividend
abbrev pub int_divisions : List (ℕ × IntOperation)
int_divisions = (IDIV, int_wrapping_div w32) ∷ (IREM, int_rem) ∷ []

-- of two longs: ladd, lsub, lmul, land, lor, lxor
abbrev pub long_operations : List (ℕ × IntOperation)
long_operations =
    (LADD, int_wrapping_add w64) ∷ (LSUB, int_wrapping_sub w64) ∷ (LMUL, int_wrapping_mul w64)
    ∷ (LAND, int_bit_and w64) ∷ (LOR, int_bit_or w64) ∷ (LXOR, int_bit_xor w64) ∷ []

-- ldiv and lrem
abbrev pub long_divisions : List (ℕ × IntOperation)
long_divisions = (LDIV, int_wrapping_div w64) ∷ (LREM, int_rem) ∷ []

-- of a long and a distance: lshl, lshr, lushr
abbrev pub long_shifts : List (ℕ × IntOperation)
long_shifts =
    (LSHL, λ x n. int_shl w64 x (distance 64 n)) ∷ (LSHR, λ x n. int_shr x (distance 64 n))
    ∷ (LUSHR, λ x n. shift_zeros_long x (distance 64 n)) ∷ []

-- lcmp: -1, 0 or 1
abbrev pub compared : ℤ → ℤ → ℤ
compared x y = if int_lt x y then negsuc 0 else (if int_lt y x then pos 1 else pos 0)

-- of one value: ineg, lneg; i2l, l2i; i2b, i2c, i2s, which keep the lowest bits
abbrev pub IsConversion : ℕ → Value → Value → Type 0
IsConversion op (Int x) w =
    ((op ≡ INEG) × (w ≡ Int (int_wrapping_neg w32 x)))
    ⊎ ((op ≡ I2L) × (w ≡ Long x))
    ⊎ ((op ≡ I2B) × (w ≡ Int (int_wrap w8 x)))
    ⊎ ((op ≡ I2C) × (w ≡ Int (int_rem_euclid x (pos 65536))))
    ⊎ ((op ≡ I2S) × (w ≡ Int (int_wrap w16 x)))
IsConversion op (Long x) w =
    ((op ≡ LNEG) × (w ≡ Long (int_wrapping_neg w64 x)))
    ⊎ ((op ≡ L2I) × (w ≡ Int (int_wrap w32 x)))
IsConversion op v w = ⊥

-- ---- The operand stack. A long takes two slots.

abbrev pub value_slots : Value → ℕ
value_slots (Long n) = 2
value_slots _ = 1

abbrev pub values_slots : List Value → ℕ
values_slots vs = sum_by value_slots vs

-- pop, pop2: how many slots they take off
abbrev pub drops : List (ℕ × ℕ)
drops = (POP, 1) ∷ (POP2, 2) ∷ []

-- dup, dup_x1, dup_x2, dup2, dup2_x1, dup2_x2: the topmost slots, as many as the second number says, are put once more
-- below those before them, as many as the first says
abbrev pub copies : List (ℕ × (ℕ × ℕ))
copies = (DUP, (0, 1)) ∷ (DUP_X1, (1, 1)) ∷ (DUP_X2, (2, 1)) ∷ (DUP2, (0, 2)) ∷ (DUP2_X1, (1, 2)) ∷ (DUP2_X2, (2, 2)) ∷ []

-- ---- What instructions make of the entries that they take, the last of them from the top, where nothing else changes.

-- nop; aconst_null, the constants of int and long, ldc of an int, ldc2_w
abbrev pub Pushes : CodeScope → Instr → List Value → Type 0
Pushes s i pushed =
    ((i.op ≡ NOP) × (pushed ≡ []))
    ⊎ ((i.op ≡ ACONST_NULL) × (pushed ≡ Null ∷ []))
    ⊎ ((i.op ≡ SIPUSH) × (pushed ≡ Int i.a ∷ []))
    ⊎ ((i.op ≡ LCONST_0) × (pushed ≡ Long i.a ∷ []))
    ⊎ ((i.op ≡ LDC_W) × ((n : ℤ) × LeadsToLink s i (To.Int n) × (pushed ≡ Int n ∷ [])))
    ⊎ ((i.op ≡ LDC2_W) × ((n : ℤ) × LeadsToLink s i (To.Long n) × (pushed ≡ Long n ∷ [])))

abbrev pub Moves : ℕ → List Value → List Value → Type 0
Moves op taken pushed =
    ((n : ℕ) × HasRow drops op n × (values_slots taken ≡ n) × (pushed ≡ []))
    ⊎ ((below : ℕ) × (top : ℕ) × (skipped : List Value) × (copied : List Value) × HasRow copies op (below, top)
    × (values_slots skipped ≡ below) × (values_slots copied ≡ top) × (taken ≡ skipped ++ copied)
    × (pushed ≡ copied ++ skipped ++ copied))
    -- swap
    ⊎ ((op ≡ SWAP) × ((v : Value) × (w : Value) × (value_slots v ≡ 1) × (value_slots w ≡ 1) × (taken ≡ v ∷ w ∷ [])
    × (pushed ≡ w ∷ v ∷ [])))

abbrev pub Calculates : ℕ → List Value → List Value → Type 0
Calculates op taken pushed =
    ((f : IntOperation) × (x : ℤ) × (y : ℤ) × HasRow int_operations op f × (taken ≡ Int x ∷ Int y ∷ []) × (pushed ≡ Int (f x y) ∷ []))
    ⊎ ((f : IntOperation) × (x : ℤ) × (y : ℤ) × HasRow int_divisions op f × (y ≢ pos 0) × (taken ≡ Int x ∷ Int y ∷ [])
    × (pushed ≡ Int (f x y) ∷ []))
    ⊎ ((f : IntOperation) × (x : ℤ) × (y : ℤ) × HasRow long_operations op f × (taken ≡ Long x ∷ Long y ∷ [])
    × (pushed ≡ Long (f x y) ∷ []))
    ⊎ ((f : IntOperation) × (x : ℤ) × (y : ℤ) × HasRow long_divisions op f × (y ≢ pos 0) × (taken ≡ Long x ∷ Long y ∷ [])
    × (pushed ≡ Long (f x y) ∷ []))
    ⊎ ((f : IntOperation) × (x : ℤ) × (n : ℤ) × HasRow long_shifts op f × (taken ≡ Long x ∷ Int n ∷ []) × (pushed ≡ Long (f x n) ∷ []))
    ⊎ ((x : ℤ) × (y : ℤ) × (op ≡ LCMP) × (taken ≡ Long x ∷ Long y ∷ []) × (pushed ≡ Int (compared x y) ∷ []))
    ⊎ ((v : Value) × (w : Value) × IsConversion op v w × (taken ≡ v ∷ []) × (pushed ≡ w ∷ []))

abbrev pub Exchanges : CodeScope → Instr → List Value → List Value → Type 0
Exchanges s i taken pushed = ((taken ≡ []) × Pushes s i pushed) ⊎ Moves i.op taken pushed ⊎ Calculates i.op taken pushed

-- ---- Locals.

-- iload, lload, aload
abbrev pub is_load : ℕ → Bool
is_load op = op == ILOAD || op == LLOAD || op == ALOAD

-- istore, lstore, astore
abbrev pub is_store_of_top : ℕ → Bool
is_store_of_top op = op == ISTORE || op == LSTORE || op == ASTORE

-- a value put into a local; the local after a long is unset then
abbrev pub with_value : List Value → ℕ → Value → List Value
with_value locals n (Long x) = slice_set (slice_set locals n (Long x)) (suc n) Unset
with_value locals n v = slice_set locals n v

-- what locals and stack are after an instruction of locals, which must be there: of a long that is stored, the next one too
abbrev pub UsesLocal : Instr → FrameState → FrameState → Type 0
UsesLocal i f g =
    ((n : ℕ) × (v : Value) × IsTrue (is_load i.op) × (i.a ≡ pos n) × (slice_get f.locals n ≡ Some v)
    × (g ≡ record f { stack = f.stack ++ v ∷ [] }))
    ⊎ ((n : ℕ) × (v : Value) × (below : List Value) × IsTrue (is_store_of_top i.op) × (i.a ≡ pos n) × (f.stack ≡ below ++ v ∷ [])
    × (n + value_slots v ≤ length f.locals) × (g ≡ record f { locals = with_value f.locals n v; stack = below }))
    -- iinc
    ⊎ ((n : ℕ) × (x : ℤ) × (i.op ≡ IINC) × (i.a ≡ pos n) × (slice_get f.locals n ≡ Some (Int x))
    × (g ≡ record f { locals = slice_set f.locals n (Int (int_wrapping_add w32 x i.b)) }))

-- ---- Jumps.

-- ifeq, ifne, iflt, ifge, ifgt, ifle compare an int with 0, and the if_icmp in the same order two ints
abbrev pub comparisons : List (ℕ × (ℤ → ℤ → Bool))
comparisons =
    (0, λ x y. not (int_lt x y) && not (int_lt y x)) ∷ (1, λ x y. int_lt x y || int_lt y x)
    ∷ (2, λ x y. int_lt x y) ∷ (3, λ x y. not (int_lt x y)) ∷ (4, λ x y. int_lt y x) ∷ (5, λ x y. not (int_lt y x)) ∷ []

-- two references are the same: both null, one object, or one capability
abbrev pub is_same_reference : Value → Value → Bool
is_same_reference Null Null = true
is_same_reference (Obj a) (Obj b) = a == b
is_same_reference (Cap k) (Cap l) = k.0 == l.0
is_same_reference _ _ = Bool.false

abbrev pub is_null : Value → Bool
is_null v = is_same_reference v Null

-- what a jump takes off the stack, and whether it jumps
abbrev pub Decides : ℕ → List Value → Bool → Type 0
Decides op taken holds =
    ((place : ℕ) × (test : ℤ → ℤ → Bool) × (x : ℤ) × HasRow comparisons place test × (op ≡ IFEQ + place) × (taken ≡ Int x ∷ [])
    × (holds ≡ test x (pos 0)))
    ⊎ ((place : ℕ) × (test : ℤ → ℤ → Bool) × (x : ℤ) × (y : ℤ) × HasRow comparisons place test × (op ≡ IF_ICMPEQ + place)
    × (taken ≡ Int x ∷ Int y ∷ []) × (holds ≡ test x y))
    -- if_acmpeq, if_acmpne
    ⊎ ((v : Value) × (w : Value) × (op ≡ IF_ACMPEQ) × (taken ≡ v ∷ w ∷ []) × (holds ≡ is_same_reference v w))
    ⊎ ((v : Value) × (w : Value) × (op ≡ IF_ACMPNE) × (taken ≡ v ∷ w ∷ []) × (holds ≡ not (is_same_reference v w)))
    -- ifnull, ifnonnull
    ⊎ ((v : Value) × (op ≡ IFNULL) × (taken ≡ v ∷ []) × (holds ≡ is_null v))
    ⊎ ((v : Value) × (op ≡ IFNONNULL) × (taken ≡ v ∷ []) × (holds ≡ not (is_null v)))
    -- goto
    ⊎ ((op ≡ GOTO) × (taken ≡ []) × (holds ≡ true))

-- where a switch goes on at a key: at the first case with it, or else at its default
abbrev pub switch_target : Instr → ℤ → ℤ
switch_target i key = option_map_or (λ (c : SwitchCase). c.target) (find (λ (c : SwitchCase). int_eq c.key key) i.cases) i.a

-- ---- An instruction at a place, from one state of its frame to another, and what is done next. The frame's head stays.

-- where control goes on: at the target where it jumps, and else at the next place
abbrev pub place_after : ℕ → Bool → ℤ → ℤ
place_after place true target = target
place_after place Bool.false target = pos (place + 1)

-- The entries are taken off the stack, and others are put in their place.
pub record Replaces (f g : FrameState) (taken pushed : List Value) : Type 0 where
  pub below : List Value
  pub before : f.stack ≡ below ++ taken
  pub after : g ≡ record f { stack = below ++ pushed }

-- these entries are on top of the stack
abbrev pub IsOnTop : FrameState → List Value → Type 0
IsOnTop f taken = (below : List Value) × (f.stack ≡ below ++ taken)

-- java/lang/ArithmeticException, by its place in the system table
abbrev pub ARITHMETIC_EXCEPTION : ClassId
ARITHMETIC_EXCEPTION = record { 0 = 19 }

-- a division by 0
abbrev pub DividesByZero : ℕ → List Value → Type 0
DividesByZero op taken =
    ((f : IntOperation) × (x : ℤ) × HasRow int_divisions op f × (taken ≡ Int x ∷ Int (pos 0) ∷ []))
    ⊎ ((f : IntOperation) × (x : ℤ) × HasRow long_divisions op f × (taken ≡ Long x ∷ Long (pos 0) ∷ []))

-- ireturn, lreturn, areturn
abbrev pub is_return_of_value : ℕ → Bool
is_return_of_value op = op == IRETURN || op == LRETURN || op == ARETURN

pub data NumberRow (s : CodeScope) (place : ℕ) (i : Instr) (f g : FrameState) : After → Type 0 where
  exchanges : (taken pushed : List Value) → Exchanges s i taken pushed → Replaces f g taken pushed
      → NumberRow s place i f g (Next.Goto (place + 1))
  uses_local : UsesLocal i f g → NumberRow s place i f g (Next.Goto (place + 1))
  jumps : (taken : List Value) (holds : Bool) (next : ℕ) → Decides i.op taken holds → Replaces f g taken []
      → place_after place holds i.a ≡ pos next → NumberRow s place i f g (Next.Goto next)
  switches : (key : ℤ) (next : ℕ) → IsTrue (is_switch i.op) → Replaces f g (Int key ∷ []) []
      → switch_target i key ≡ pos next → NumberRow s place i f g (Next.Goto next)
  -- what it would take stays on the stack
  divides_by_zero : (taken : List Value) → DividesByZero i.op taken → IsOnTop f taken → g ≡ f
      → NumberRow s place i f g (Next.Raise (Fresh ARITHMETIC_EXCEPTION))
  returns : (v : Value) → IsTrue (is_return_of_value i.op) → Replaces f g (v ∷ []) [] → NumberRow s place i f g (Next.Return (Some v))
  returns_nothing : i.op ≡ RETURN → g ≡ f → NumberRow s place i f g (Next.Return None)

-- ---- Which instructions these are.

-- nop, aconst_null; the constants of long and of int; ldc2_w, iload, lload; aload; istore, lstore; astore; pop to iinc and i2l;
-- l2i; i2b to lcmp; the jumps; the switches, ireturn, lreturn; areturn, return; ifnull, ifnonnull
abbrev pub number_opcodes : List (ℕ × ℕ)
number_opcodes =
    (NOP, ACONST_NULL) ∷ (LCONST_0, LCONST_0) ∷ (SIPUSH, SIPUSH) ∷ (LDC2_W, LLOAD) ∷ (ALOAD, ALOAD) ∷ (ISTORE, LSTORE) ∷ (ASTORE, ASTORE)
    ∷ (POP, I2L) ∷ (L2I, L2I) ∷ (I2B, LCMP) ∷ (IFEQ, GOTO) ∷ (TABLESWITCH, LRETURN) ∷ (ARETURN, RETURN) ∷ (IFNULL, IFNONNULL) ∷ []

-- the instruction is one of these, or an ldc of an int
abbrev pub IsOfNumbers : CodeScope → Instr → Type 0
IsOfNumbers s i =
    HasItem (λ (r : ℕ × ℕ). (r.0 ≤ i.op) × (i.op ≤ r.1)) number_opcodes
    ⊎ ((i.op ≡ LDC_W) × ((n : ℤ) × LeadsToLink s i (To.Int n)))
