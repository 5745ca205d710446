-- The code that a frame runs, what its instruction names, which class the instruction needs, and the initialiser of a class.
use Rattle.std.specs.Prelude.{◌≡◌, ◌⊎◌, List, Some, slice_get}
use Rattle.jk_model.specs.declared.identifiers.ClassId.{ClassId}
use Rattle.jk_model.specs.declared.identifiers.MemberId.{MemberId}
use Rattle.jk_model.specs.declared.instructions.Instr.{Instr}
use Rattle.jk_model.specs.declared.opcodes.TheConstants.{GETSTATIC, INVOKESTATIC, NEW, PUTSTATIC}
use Rattle.jk_model_classes.specs.declared.records.Body.TheVariants as Does
use Rattle.jk_model_classes.specs.declared.records.ClassRecord.{ClassRecord}
use Rattle.jk_model_classes.specs.declared.records.FieldRecord.{FieldRecord}
use Rattle.jk_model_classes.specs.declared.records.Link.TheVariants as To
use Rattle.jk_model_classes.specs.declared.records.LinkedCode.{LinkedCode}
use Rattle.jk_model_classes.specs.declared.records.MethodRecord.{MethodRecord}
use Rattle.jk_model_classes.specs.Lookups.{FieldIs, IsFirstOf, MethodIs}
use Rattle.jk_model_classes.specs.Members.{CLINIT}
use Rattle.jk_model_typing.specs.Scopes.{CodeScope, IsScopeOf, LeadsToLink, NamesClass}
use Rattle.jk_model_frames.specs.Frames.{FrameState}

-- the method that a frame runs, and the instruction at which it stands
pub record RunsCode (classes : List ClassRecord) (f : FrameState) : Type 0 where
  pub method : MemberId
  pub is_method : f.head.method ≡ Some method
  pub scope : CodeScope
  pub is_scope : IsScopeOf classes method scope
  pub instr : Instr
  pub stands : slice_get scope.code.instrs f.head.at ≡ Some instr

-- the field, or the method, that was found for the entry which the instruction names
abbrev pub NamesField : CodeScope → Instr → MemberId → FieldRecord → Type 0
NamesField s i m field = (c : ClassId) × LeadsToLink s i (To.Field c m) × FieldIs s.classes m field

abbrev pub NamesMethod : CodeScope → Instr → MemberId → MethodRecord → Type 0
NamesMethod s i m method = (c : ClassId) × LeadsToLink s i (To.Method c m) × MethodIs s.classes m method

-- new needs its class, getstatic and putstatic that of the field found, and invokestatic that of the method found
abbrev pub InstrNeeds : CodeScope → Instr → ClassId → Type 0
InstrNeeds s i class =
    (((i.op ≡ GETSTATIC) ⊎ (i.op ≡ PUTSTATIC)) × ((c : ClassId) × (m : MemberId) × LeadsToLink s i (To.Field c m) × (class ≡ m.class)))
    ⊎ ((i.op ≡ INVOKESTATIC) × ((c : ClassId) × (m : MemberId) × LeadsToLink s i (To.Method c m) × (class ≡ m.class)))
    ⊎ ((i.op ≡ NEW) × NamesClass s i class)

abbrev pub IsClinit : List ClassRecord → MemberId → Type 0
IsClinit classes m = (method : MethodRecord) × MethodIs classes m method × (method.name ≡ CLINIT)

-- the initialiser of a class: its first method `<clinit>`, where that has code
abbrev pub IsClinitOf : List ClassRecord → ClassId → MemberId → LinkedCode → Type 0
IsClinitOf classes c m code =
    (m.class ≡ c) × IsFirstOf (IsClinit classes) m × ((method : MethodRecord) × MethodIs classes m method × (method.body ≡ Does.Linked code))

abbrev pub HasNoClinit : List ClassRecord → ClassId → Type 0
HasNoClinit classes c = (m : MemberId) (code : LinkedCode) → IsClinitOf classes c m code → ⊥
