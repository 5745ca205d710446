-- The field or the method that an instruction of a method's code names: its entry in the pool leads there.
use Rattle.jk_model.specs.declared.identifiers.ClassId.{ClassId}
use Rattle.jk_model.specs.declared.identifiers.MemberId.{MemberId}
use Rattle.jk_model.specs.declared.instructions.Instr.{Instr}
use Rattle.jk_model_classes.specs.declared.records.FieldRecord.{FieldRecord}
use Rattle.jk_model_classes.specs.declared.records.Link.TheVariants as To
use Rattle.jk_model_classes.specs.declared.records.MethodRecord.{MethodRecord}
use Rattle.jk_model_classes.specs.Lookups.{FieldIs, MethodIs}
use Rattle.jk_model_typing.specs.Scopes.{CodeScope, LeadsToLink}

abbrev pub NamesField : CodeScope → Instr → MemberId → FieldRecord → Type 0
NamesField s i m field = (c : ClassId) × LeadsToLink s i (To.Field c m) × FieldIs s.classes m field

abbrev pub NamesMethod : CodeScope → Instr → MemberId → MethodRecord → Type 0
NamesMethod s i m method = (c : ClassId) × LeadsToLink s i (To.Method c m) × MethodIs s.classes m method
