-- An access of an element or a field needs no class.
use Rattle.std.proofs.Common.{inl, inr, ◌≡◌, ℕ, false, IsTrue, refl, ap, subst, ◌∙◌}
use Rattle.std.specs.Prelude.{Bool}
use Rattle.jk_model.specs.declared.identifiers.ClassId.{ClassId}
use Rattle.jk_model.specs.declared.instructions.Instr.{Instr}
use Rattle.jk_model_typing.specs.Scopes.{CodeScope}
use Rattle.jk_model_heaps.specs.RunningCode.{InstrNeeds}
use Rattle.step_contents.specs.InstructionKinds.{IsAccess, access_opcodes}
use Rattle.step_contents.specs.OpcodeTests.{is_listed}

-- an opcode that isn't listed is none of an access
none_of_them : (op k : ℕ) → IsAccess op → op ≡ k → is_listed access_opcodes k ≡ false → ⊥
none_of_them op k access is off =
    (let never : IsTrue false = subst (λ (b : Bool). IsTrue b) (ap (is_listed access_opcodes) is ∙ off) access in absurd cc)

pub access_needs_no_class : (s : CodeScope) (i : Instr) → IsAccess i.op → (c : ClassId) → InstrNeeds s i c → ⊥
access_needs_no_class s i access c (inl (inl op, by)) = none_of_them i.op 0xb2 access op refl
access_needs_no_class s i access c (inl (inr op, by)) = none_of_them i.op 0xb3 access op refl
access_needs_no_class s i access c (inr (inl (op, by))) = none_of_them i.op 0xb8 access op refl
access_needs_no_class s i access c (inr (inr (op, by))) = none_of_them i.op 0xbb access op refl
