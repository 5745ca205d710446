-- What holds of each opcode of a list holds of one that is among them.
use Rattle.std.proofs.Common.{◌≡◌, ℕ, ℤ, pos, ◌+◌, List, [], ◌∷◌, IsTrue, refl, subst}
use Rattle.std.specs.List.{AllByRecursion}
use Rattle.jk_model.specs.declared.identifiers.SegmentNo.{SegmentNo}
use Rattle.jk_model.specs.declared.instructions.Instr.{Instr}
use Rattle.jk_model_typing.specs.Groups.{Group, group_of}
use Rattle.frame_store.specs.FrameContents.{FrameContent}
use Rattle.jk_model.specs.declared.values.Value.TheVariants as Held
use Rattle.jk_model_typing.specs.declared.frames.VType.TheVariants.{Int, Long, Null}
use Rattle.number_ops.specs.Operands.{Finds}
use Rattle.number_laws.specs.NumberOpcodes.{constant_opcodes, int_conversion_opcodes, int_jump_opcodes, is_among, load_opcodes, long_conversion_opcodes, store_opcodes, switch_opcodes, value_return_opcodes, zero_jump_opcodes}
use Rattle.number_laws.proofs.EachOpcode.{each_among}
use Rattle.number_ops.specs.TopChanges.{HasInLocal, HasLocals, OnTop, OnTopWithRoom}
use Rattle.number_ops.proofs.FoundOperands.{found_int, found_long, found_none}
use Rattle.number_ops.specs.Parts.{arithmetic_opcodes, is_part, jump_opcodes}
use Rattle.number_ops.specs.declared.parts.Arithmetic.{Arithmetic}
use Rattle.number_ops.specs.declared.parts.Jump.{Jump}
use Rattle.number_ops.specs.declared.parts.Jump.TheVariants as J
use Rattle.number_ops.specs.declared.parts.Part.{Part}
use Rattle.jk_model.specs.declared.values.Value.{Value}
use Rattle.jk_model_classes.specs.MemberCode.{is_jump, is_switch}
use Rattle.jk_model_domains.specs.NumberRows.{is_load, is_return_of_value, is_store_of_top, value_slots}

-- instructions whose rows of typing are alike find alike operands
pub finds_as : (ks : List ℕ) (c : FrameContent) (s : SegmentNo) (i : Instr) (g : Group) → AllByRecursion (λ op. group_of op ≡ g) ks
    → IsTrue (is_among ks i.op) → Finds c s i (group_of i.op) → Finds c s i g
finds_as ks c s i g all among found = subst (Finds c s i) (each_among (λ op. group_of op ≡ g) ks i.op all among) found

pub of_arithmetic : (k a : Arithmetic) (op : ℕ) → k ≡ a → IsTrue (is_among (arithmetic_opcodes k) op) → IsTrue (is_among (arithmetic_opcodes a) op)
of_arithmetic k a op e h = subst (λ (x : Arithmetic). IsTrue (is_among (arithmetic_opcodes x) op)) e h

pub of_jump : (k a : Jump) (op : ℕ) → k ≡ a → IsTrue (is_among (jump_opcodes k) op) → IsTrue (is_among (jump_opcodes a) op)
of_jump k a op e h = subst (λ (x : Jump). IsTrue (is_among (jump_opcodes x) op)) e h

pub finds_at : (c : FrameContent) (s : SegmentNo) (i : Instr) (k : ℕ) → i.op ≡ k → Finds c s i (group_of i.op) → Finds c s i (group_of k)
finds_at c s i k e found = subst (λ (op : ℕ). Finds c s i (group_of op)) e found

-- ints that are converted become ints or longs
pub finds_converted_int : (c : FrameContent) (s : SegmentNo) (i : Instr) → IsTrue (is_among int_conversion_opcodes i.op)
    → Finds c s i (group_of i.op) → (x : ℤ) × OnTopWithRoom c s (Held.Int x ∷ []) 1
finds_converted_int c s i among found =
    each_among (λ (op : ℕ). Finds c s i (group_of op) → (x : ℤ) × OnTopWithRoom c s (Held.Int x ∷ []) 1) int_conversion_opcodes i.op
    (found_int c s (Int ∷ []), (found_int c s (Long ∷ []), (found_int c s (Int ∷ []), (found_int c s (Int ∷ []), (found_int c s (Int ∷ []), tt)))))
    among found

pub finds_converted_long : (c : FrameContent) (s : SegmentNo) (i : Instr) → IsTrue (is_among long_conversion_opcodes i.op)
    → Finds c s i (group_of i.op) → (x : ℤ) × OnTopWithRoom c s (Held.Long x ∷ []) 1
finds_converted_long c s i among found =
    each_among (λ (op : ℕ). Finds c s i (group_of op) → (x : ℤ) × OnTopWithRoom c s (Held.Long x ∷ []) 1) long_conversion_opcodes i.op
    (found_long c s (Long ∷ []), (found_long c s (Int ∷ []), tt)) among found

-- ---- What the kinds of instructions find.

pub of_part : (p q : Part) (op : ℕ) → p ≡ q → IsTrue (is_part op p) → IsTrue (is_part op q)
of_part p q op e h = subst (λ (x : Part). IsTrue (is_part op x)) e h

pub finds_room : (c : FrameContent) (s : SegmentNo) (i : Instr) → IsTrue (is_among constant_opcodes i.op) → Finds c s i (group_of i.op)
    → OnTopWithRoom c s [] 1
finds_room c s i among found =
    each_among (λ (op : ℕ). Finds c s i (group_of op) → OnTopWithRoom c s [] 1) constant_opcodes i.op
    (found_none c s (Null ∷ []), (found_none c s (Long ∷ []), (found_none c s (Int ∷ []), (λ h. h, (λ h. h, tt))))) among found

pub finds_load : (c : FrameContent) (s : SegmentNo) (i : Instr) → IsTrue (is_among load_opcodes i.op) → Finds c s i (group_of i.op)
    → (n : ℕ) × (v : Value) × (i.a ≡ pos n) × HasInLocal c s n v × OnTopWithRoom c s [] 1
finds_load c s i among found =
    each_among (λ (op : ℕ). Finds c s i (group_of op) → (n : ℕ) × (v : Value) × (i.a ≡ pos n) × HasInLocal c s n v × OnTopWithRoom c s [] 1)
    load_opcodes i.op (λ h. h, (λ h. h, (λ h. h, tt))) among found

pub finds_store : (c : FrameContent) (s : SegmentNo) (i : Instr) → IsTrue (is_among store_opcodes i.op) → Finds c s i (group_of i.op)
    → (n : ℕ) × (v : Value) × (i.a ≡ pos n) × OnTop c s (v ∷ []) × HasLocals c s (n + value_slots v)
finds_store c s i among found =
    each_among (λ (op : ℕ). Finds c s i (group_of op)
    → (n : ℕ) × (v : Value) × (i.a ≡ pos n) × OnTop c s (v ∷ []) × HasLocals c s (n + value_slots v))
    store_opcodes i.op (λ h. h, (λ h. h, (λ h. h, tt))) among found

pub finds_value : (c : FrameContent) (s : SegmentNo) (i : Instr) → IsTrue (is_among value_return_opcodes i.op) → Finds c s i (group_of i.op)
    → (v : Value) × OnTop c s (v ∷ [])
finds_value c s i among found =
    each_among (λ (op : ℕ). Finds c s i (group_of op) → (v : Value) × OnTop c s (v ∷ [])) value_return_opcodes i.op
    (λ h. h, (λ h. h, (λ h. h, tt))) among found

pub is_load_among : (op : ℕ) → IsTrue (is_among load_opcodes op) → IsTrue (is_load op)
is_load_among op h = each_among (λ (k : ℕ). IsTrue (is_load k)) load_opcodes op (refl, (refl, (refl, tt))) h

pub is_store_among : (op : ℕ) → IsTrue (is_among store_opcodes op) → IsTrue (is_store_of_top op)
is_store_among op h = each_among (λ (k : ℕ). IsTrue (is_store_of_top k)) store_opcodes op (refl, (refl, (refl, tt))) h

pub is_return_among : (op : ℕ) → IsTrue (is_among value_return_opcodes op) → IsTrue (is_return_of_value op)
is_return_among op h = each_among (λ (k : ℕ). IsTrue (is_return_of_value k)) value_return_opcodes op (refl, (refl, (refl, tt))) h

pub is_switch_among : (op : ℕ) → IsTrue (is_among switch_opcodes op) → IsTrue (is_switch op)
is_switch_among op h = each_among (λ (k : ℕ). IsTrue (is_switch k)) switch_opcodes op (refl, (refl, tt)) h

pub is_only : (k op : ℕ) → IsTrue (is_among (k ∷ []) op) → op ≡ k
is_only k op h = each_among (λ (x : ℕ). x ≡ k) (k ∷ []) op (refl, tt) h

pub is_jump_among : (j : Jump) (op : ℕ) → IsTrue (is_among (jump_opcodes j) op) → IsTrue (is_jump op)
is_jump_among J.Zero op h =
    each_among (λ (k : ℕ). IsTrue (is_jump k)) zero_jump_opcodes op (refl, (refl, (refl, (refl, (refl, (refl, tt)))))) h
is_jump_among J.Ints op h =
    each_among (λ (k : ℕ). IsTrue (is_jump k)) int_jump_opcodes op (refl, (refl, (refl, (refl, (refl, (refl, tt)))))) h
is_jump_among J.Same op h = each_among (λ (k : ℕ). IsTrue (is_jump k)) (0xa5 ∷ []) op (refl, tt) h
is_jump_among J.Different op h = each_among (λ (k : ℕ). IsTrue (is_jump k)) (0xa6 ∷ []) op (refl, tt) h
is_jump_among J.Null op h = each_among (λ (k : ℕ). IsTrue (is_jump k)) (0xc6 ∷ []) op (refl, tt) h
is_jump_among J.NotNull op h = each_among (λ (k : ℕ). IsTrue (is_jump k)) (0xc7 ∷ []) op (refl, tt) h
is_jump_among J.Always op h = each_among (λ (k : ℕ). IsTrue (is_jump k)) (0xa7 ∷ []) op (refl, tt) h
