-- The class that an instruction needs, by what its kind names; none where its operand doesn't lead to that.
use Rattle.std.proofs.Common.{◌≡◌, ◌⊎◌, Option, Some, None, IfNone, IfSome, inl, inr, arith}
use Rattle.jk_model.specs.declared.identifiers.ClassId.{ClassId}
use Rattle.jk_model.specs.declared.identifiers.MemberId.{MemberId}
use Rattle.jk_model_classes.specs.declared.records.Link.TheVariants as To
use Rattle.jk_model_typing.specs.Scopes.{LeadsToLink, NamesClass}
use Rattle.step_contents.specs.PlacesInCode.{PlaceInCode}
use Rattle.step_contents.specs.Operands.{NeedsClass}

module _ (at : PlaceInCode) where
  abbrev FieldIn : ClassId → Type 0
  FieldIn class = (c : ClassId) × (m : MemberId) × LeadsToLink at.scope at.instr (To.Field c m) × (class ≡ m.class)

  abbrev MethodIn : ClassId → Type 0
  MethodIn class = (c : ClassId) × (m : MemberId) × LeadsToLink at.scope at.instr (To.Method c m) × (class ≡ m.class)

  pub field_needs : (o : Option ClassId) → (at.instr.op ≡ 0xb2) ⊎ (at.instr.op ≡ 0xb3)
      → IfNone o ((c : ClassId) (m : MemberId) → LeadsToLink at.scope at.instr (To.Field c m) → ⊥) → IfSome o FieldIn → NeedsClass at o
  field_needs (Some class) op none some = inl (op, some)
  field_needs None op none some = λ c need. elim need [
    | inl field ↦ none field.1.0 field.1.1 field.1.2
    | inr other ↦ elim op [
      | inl a ↦ elim other [ inl method ↦ absurd (omega (arith, a, method.0)) | inr named ↦ absurd (omega (arith, a, named.0)) ]
      | inr b ↦ elim other [ inl method ↦ absurd (omega (arith, b, method.0)) | inr named ↦ absurd (omega (arith, b, named.0)) ]
    ]
  ]

  pub method_needs : (o : Option ClassId) → at.instr.op ≡ 0xb8
      → IfNone o ((c : ClassId) (m : MemberId) → LeadsToLink at.scope at.instr (To.Method c m) → ⊥) → IfSome o MethodIn → NeedsClass at o
  method_needs (Some class) op none some = inr (inl (op, some))
  method_needs None op none some = λ c need. elim need [
    | inl field ↦ elim field.0 [ inl a ↦ absurd (omega (arith, op, a)) | inr b ↦ absurd (omega (arith, op, b)) ]
    | inr other ↦ elim other [ inl method ↦ none method.1.0 method.1.1 method.1.2 | inr named ↦ absurd (omega (arith, op, named.0)) ]
  ]

  pub class_needs : (o : Option ClassId) → at.instr.op ≡ 0xbb → IfNone o ((c : ClassId) → NamesClass at.scope at.instr c → ⊥)
      → IfSome o (NamesClass at.scope at.instr) → NeedsClass at o
  class_needs (Some class) op none some = inr (inr (op, some))
  class_needs None op none some = λ c need. elim need [
    | inl field ↦ elim field.0 [ inl a ↦ absurd (omega (arith, op, a)) | inr b ↦ absurd (omega (arith, op, b)) ]
    | inr other ↦ elim other [ inl method ↦ absurd (omega (arith, op, method.0)) | inr named ↦ none c named.1 ]
  ]
