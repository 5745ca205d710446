-- The instructions of bytes stand in order, each within the bytes, and are no more than these.
use Rattle.std.proofs.Common.{◌≡◌, ℕ, zero, suc, ◌+◌, ◌<◌, ◌≤◌, List, [], ◌∷◌, ◌++◌, length, Some, ap, arith, length-append, slice_get}
use Rattle.std.proofs.lemmas.Option.{same_Some, none-some}
use Rattle.jk_model.specs.declared.instructions.Instr.{Instr}
use Rattle.jk_model.specs.Instructions.{Format, AsIs, Short, ByteConstant, ShortConstant, LocalIndex, BytePoolIndex, PoolIndex, Increment, Jump, FarJump, InterfaceCall, ArrayOfKind, ManyDimensions, TableSwitch, LookupSwitch, Wide, WideFormat, WideLocal, WideIncrement, format_of, wide_format_of, WideMeans, Means, IsInstr, AreInstrs}

pub wide_place : (f : WideFormat) (at op : ℕ) (operands : List ℕ) (i : Instr) → WideMeans f at op operands i → i.at ≡ at
wide_place WideLocal at op (m ∷ n ∷ []) i e = ap (λ (x : Instr). x.at) e
wide_place WideIncrement at op (k ∷ l ∷ m ∷ n ∷ []) i e = ap (λ (x : Instr). x.at) e
wide_place _ at op _ i e = absurd e

pub means_place : (f : Format) (at op : ℕ) (operands : List ℕ) (i : Instr) → Means f at op operands i → i.at ≡ at
means_place AsIs at op [] i e = ap (λ (x : Instr). x.at) e
means_place (Short long first) at op [] i e = ap (λ (x : Instr). x.at) e
means_place ByteConstant at op (n ∷ []) i e = ap (λ (x : Instr). x.at) e
means_place ShortConstant at op (m ∷ n ∷ []) i e = ap (λ (x : Instr). x.at) e
means_place LocalIndex at op (n ∷ []) i e = ap (λ (x : Instr). x.at) e
means_place BytePoolIndex at op (n ∷ []) i e = ap (λ (x : Instr). x.at) e
means_place PoolIndex at op (m ∷ n ∷ []) i e = ap (λ (x : Instr). x.at) e
means_place Increment at op (m ∷ n ∷ []) i e = ap (λ (x : Instr). x.at) e
means_place Jump at op (m ∷ n ∷ []) i e = ap (λ (x : Instr). x.at) e
means_place FarJump at op (k ∷ l ∷ m ∷ n ∷ []) i e = ap (λ (x : Instr). x.at) e
means_place InterfaceCall at op (m ∷ n ∷ count ∷ last ∷ []) i h = ap (λ (x : Instr). x.at) h.2
means_place ArrayOfKind at op (kind ∷ []) i h = ap (λ (x : Instr). x.at) h.1
means_place ManyDimensions at op (m ∷ n ∷ dims ∷ []) i h = ap (λ (x : Instr). x.at) h.1
means_place TableSwitch at op operands i h = ap (λ (x : Instr). x.at) h.says
means_place LookupSwitch at op operands i h = ap (λ (x : Instr). x.at) h.says
means_place Wide at op (widened ∷ operands) i h = wide_place (wide_format_of widened) at widened operands i h
means_place _ at op _ i e = absurd e

pub place_of : (at : ℕ) (front : List ℕ) (i : Instr) → IsInstr at front i → (i.at ≡ at) × (0 < length front)
place_of at [] i h = absurd h
place_of at (op ∷ operands) i h = (means_place (format_of op) at op operands i h, omega arith)

pub begin_after : (at : ℕ) (bytes : List ℕ) (instrs : List Instr) → AreInstrs at bytes instrs → (k : ℕ) (instr : Instr)
    → slice_get instrs k ≡ Some instr → at ≤ instr.at
begin_after at bytes [] h k instr e = absurd (none-some instr e)
begin_after at bytes (i ∷ instrs) (front, rest, one, e, more) zero instr s =
    let place = place_of at front i one in
    let same : i.at ≡ instr.at = ap (λ (x : Instr). x.at) (same_Some i instr s) in
    omega (arith, place.0, same)
begin_after at bytes (i ∷ instrs) (front, rest, one, e, more) (suc k) instr s =
    omega (arith, begin_after (at + length front) rest instrs more k instr s)

pub rise : (at : ℕ) (bytes : List ℕ) (instrs : List Instr) → AreInstrs at bytes instrs → (j k : ℕ) (a b : Instr) → j < k
    → slice_get instrs j ≡ Some a → slice_get instrs k ≡ Some b → a.at < b.at
rise at bytes [] h j k a b below at_a at_b = absurd (none-some a at_a)
rise at bytes (i ∷ instrs) h j zero a b below at_a at_b = absurd (omega arith)
rise at bytes (i ∷ instrs) (front, rest, one, e, more) zero (suc k) a b below at_a at_b =
    let place = place_of at front i one in
    let same : i.at ≡ a.at = ap (λ (x : Instr). x.at) (same_Some i a at_a) in
    omega (arith, place.0, place.1, same, begin_after (at + length front) rest instrs more k b at_b)
rise at bytes (i ∷ instrs) (front, rest, one, e, more) (suc j) (suc k) a b below at_a at_b =
    rise (at + length front) rest instrs more j k a b (omega arith) at_a at_b

pub as_many : (at : ℕ) (bytes : List ℕ) (instrs : List Instr) → AreInstrs at bytes instrs → length instrs ≤ length bytes
as_many at bytes [] h = omega arith
as_many at bytes (i ∷ instrs) (front, rest, one, e, more) =
    let place = place_of at front i one in
    omega (arith, place.1, as_many (at + length front) rest instrs more, ap length e, length-append front rest)

-- an instruction has a byte
pub some_bytes : (at : ℕ) (front after : List ℕ) (i : Instr) → IsInstr at front i → front ++ after ≡ [] → ⊥
some_bytes at [] after i h e = h
some_bytes at (b ∷ front) after i h e =
    let whole : b ∷ (front ++ after) ≡ [] = e in
    absurd cc
