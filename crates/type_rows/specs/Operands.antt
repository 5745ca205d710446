-- What an instruction's operands lead to.
use Rattle.std.specs.Prelude.{◌≡◌}
use Rattle.jk_model.specs.declared.identifiers.ClassId.{ClassId}
use Rattle.jk_model.specs.declared.identifiers.MemberId.{MemberId}
use Rattle.jk_model.specs.declared.instructions.Instr.{Instr}
use Rattle.jk_model_classes.specs.declared.records.FieldRecord.{FieldRecord}
use Rattle.jk_model_classes.specs.declared.records.Link.{Link}
use Rattle.jk_model_classes.specs.declared.records.MethodRecord.{MethodRecord}
use Rattle.jk_model_typing.specs.Rows.{UsesField, UsesMethod}
use Rattle.jk_model_typing.specs.Scopes.{CodeScope, LeadsToLink}
use Rattle.type_rows.specs.declared.operands.UsedField.{UsedField}
use Rattle.type_rows.specs.declared.operands.UsedMethod.{UsedMethod}

abbrev pub HasNoLink : CodeScope → Instr → Type 0
HasNoLink s i = (link : Link) → LeadsToLink s i link → ⊥

-- the first operand leads to this link alone
pub record IsLink (s : CodeScope) (i : Instr) (link : Link) : Type 0 where
  pub leads : LeadsToLink s i link
  pub only : (other : Link) → LeadsToLink s i other → other ≡ link

abbrev pub HasNoField : CodeScope → Instr → Type 0
HasNoField s i = (c : ClassId) (m : MemberId) (field : FieldRecord) → UsesField s i c m field → ⊥

-- the first operand leads to this field alone
pub record IsField (s : CodeScope) (i : Instr) (used : UsedField) : Type 0 where
  pub uses : UsesField s i used.named used.member used.record.now
  pub only : (c : ClassId) (m : MemberId) (field : FieldRecord) → UsesField s i c m field
      → (c ≡ used.named) × (m ≡ used.member) × (field ≡ used.record.now)

abbrev pub HasNoMethod : CodeScope → Instr → Type 0
HasNoMethod s i = (c : ClassId) (m : MemberId) (method : MethodRecord) → UsesMethod s i c m method → ⊥

-- the first operand leads to this method alone
pub record IsMethod (s : CodeScope) (i : Instr) (used : UsedMethod) : Type 0 where
  pub uses : UsesMethod s i used.named used.member used.record.now
  pub only : (c : ClassId) (m : MemberId) (method : MethodRecord) → UsesMethod s i c m method
      → (c ≡ used.named) × (m ≡ used.member) × (method ≡ used.record.now)
