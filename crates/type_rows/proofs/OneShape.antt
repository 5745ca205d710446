-- The shape of an instruction of a group is the one that its operands give.
use Rattle.std.proofs.Common.{◌≡◌, inl, inr, Option, Some, sym, ap, subst, ◌∙◌}
use Rattle.jk_model.specs.declared.identifiers.ClassId.{ClassId}
use Rattle.jk_model.specs.declared.identifiers.MemberId.{MemberId}
use Rattle.jk_model.specs.declared.instructions.Instr.{Instr}
use Rattle.jk_model_classes.specs.declared.records.FieldRecord.{FieldRecord}
use Rattle.jk_model_classes.specs.declared.records.MethodRecord.{MethodRecord}
use Rattle.jk_model_classes.specs.Members.{INIT}
use Rattle.jk_model_typing.specs.Groups.{CallsSpecial, Constructs, Shape}
use Rattle.jk_model_typing.specs.Groups as def
use Rattle.jk_model_typing.specs.Rows.{UsesField, UsesMethod, arguments}
use Rattle.jk_model_typing.specs.Scopes.{CodeScope}
use Rattle.type_rows.specs.Operands.{IsField, IsMethod}
use Rattle.type_rows.specs.ShapesOfGroups.{HasOneShape, IsShape}
use Rattle.type_rows.specs.Shapes.{shape_view}
use Rattle.type_rows.specs.declared.operands.UsedField.{UsedField}
use Rattle.type_rows.specs.declared.operands.UsedMethod.{UsedMethod}
use Rattle.type_rows.specs.declared.shapes.Shape.{Shape as OurShape}

pub at_group : (s : CodeScope) (i : Instr) (g h : def.Group) (o : Option OurShape) → g ≡ h → IsShape s i g o → IsShape s i h o
at_group s i g h o e is = subst (λ (x : def.Group). IsShape s i x o) e is

-- a shape that rests on the opcode alone
pub fixed_group : (s : CodeScope) (i : Instr) (shape : Shape) (h : def.Group) (x : OurShape) → def.Group.Always shape ≡ h → shape_view s x ≡ shape
    → IsShape s i h (Some x)
fixed_group s i shape h x e is =
    subst (λ (g : def.Group). IsShape s i g (Some x)) e (record { has = is; only = λ other also. also ∙ sym is })

module _ (s : CodeScope) (i : Instr) (shape_of : ClassId → MemberId → FieldRecord → Shape) where
  -- what rests on a field
  pub by_field : (used : UsedField) (mine : Shape) → IsField s i used → mine ≡ shape_of used.named used.member used.record.now
      → ((c : ClassId) × (m : MemberId) × (field : FieldRecord) × UsesField s i c m field × (mine ≡ shape_of c m field))
      × ((shape : Shape)
      → ((c : ClassId) × (m : MemberId) × (field : FieldRecord) × UsesField s i c m field × (shape ≡ shape_of c m field)) → shape ≡ mine)
  by_field used mine h e = (
    (used.named, used.member, used.record.now, h.uses, e),
    λ shape (c, m, field, uses, is). let same = h.only c m field uses in is ∙ rw (same.0, same.1, same.2) (sym e),
  )

module _ (s : CodeScope) (i : Instr) (shape_of : ClassId → MemberId → MethodRecord → Shape) where
  -- what rests on a method
  pub by_method : (used : UsedMethod) (mine : Shape) → IsMethod s i used → mine ≡ shape_of used.named used.member used.record.now
      → ((c : ClassId) × (m : MemberId) × (method : MethodRecord) × UsesMethod s i c m method × (mine ≡ shape_of c m method))
      × ((shape : Shape)
      → ((c : ClassId) × (m : MemberId) × (method : MethodRecord) × UsesMethod s i c m method × (shape ≡ shape_of c m method))
      → shape ≡ mine)
  by_method used mine h e = (
    (used.named, used.member, used.record.now, h.uses, e),
    λ shape (c, m, method, uses, is). let same = h.only c m method uses in is ∙ rw (same.0, same.1, same.2) (sym e),
  )

pub constructor_called : (s : CodeScope) (i : Instr) (used : UsedMethod) (x : OurShape) → IsMethod s i used → used.record.now.name ≡ INIT
    → shape_view s x ≡ Constructs used.named used.member (arguments s used.record.now) → HasOneShape s i CallsSpecial x
constructor_called s i used x h name e = record {
  has = (used.named, used.member, used.record.now, h.uses, inl (name, e));
  only = λ shape (c, m, method, uses, which).
      let same = h.only c m method uses in
      elim which [
        | inl one ↦ one.1 ∙ rw (same.0, same.1, same.2) (sym e)
        | inr (other, _, _) ↦ absurd (other (ap (λ (r : MethodRecord). r.name) same.2 ∙ name))
      ];
}
