-- What a method's code is judged in: all classes, its own class, what the pool's entries lead to, and the method itself.
use Rattle.std.specs.Prelude.{◌≡◌, ℕ, Bool, List, [], ◌∷◌, map, Some, pos, slice_get, bytes_eq, if◌then◌else◌}
use Rattle.std.specs.Option.{option_map_or}
use Rattle.jk_model.specs.Flags.{has, STATIC}
use Rattle.jk_model.specs.declared.identifiers.ClassId.{ClassId}
use Rattle.jk_model.specs.declared.identifiers.MemberId.{MemberId}
use Rattle.jk_model.specs.declared.instructions.Instr.{Instr}
use Rattle.jk_model_classes.specs.declared.records.BaseRef.TheVariants as Base
use Rattle.jk_model_classes.specs.declared.records.Body.TheVariants.{Linked}
use Rattle.jk_model_classes.specs.declared.records.ClassRecord.{ClassRecord}
use Rattle.jk_model_classes.specs.declared.records.Link.{Link}
use Rattle.jk_model_classes.specs.declared.records.Link.TheVariants.{Class}
use Rattle.jk_model_classes.specs.declared.records.LinkedCode.{LinkedCode}
use Rattle.jk_model_classes.specs.declared.records.MethodRecord.{MethodRecord}
use Rattle.jk_model_classes.specs.declared.records.TypeRef.{TypeRef}
use Rattle.jk_model_classes.specs.Classes.{record_of}
use Rattle.jk_model_classes.specs.Members.{INIT}
use Rattle.jk_model_typing.specs.declared.frames.VType.{VType}
use Rattle.jk_model_typing.specs.declared.frames.VType.TheVariants.{FreshThis}
use Rattle.jk_model_typing.specs.FrameTypes.{of_class, value_of, array_type}

pub record CodeScope : Type 0 where
  pub classes : List ClassRecord
  -- the class whose method it is
  pub self : ClassId
  -- what the entries of that class's pool lead to
  pub links : List Link
  pub method : MethodRecord
  pub code : LinkedCode

-- the method has code, and this is what the code is judged in
pub record IsScopeOf (classes : List ClassRecord) (m : MemberId) (s : CodeScope) : Type 0 where
  pub all : s.classes ≡ classes
  pub self : s.self ≡ m.class
  pub class : ClassRecord
  pub class_is : record_of classes m.class ≡ Some class
  pub links : s.links ≡ class.links
  pub method : slice_get class.methods m.index ≡ Some s.method
  pub body : s.method.body ≡ Linked s.code

-- the instruction's first operand leads to this
abbrev pub LeadsToLink : CodeScope → Instr → Link → Type 0
LeadsToLink s i link = (n : ℕ) × (i.a ≡ pos n) × (slice_get s.links n ≡ Some link)

-- the instruction's first operand names this class, which is no array
abbrev pub NamesClass : CodeScope → Instr → ClassId → Type 0
NamesClass s i c = LeadsToLink s i (Class (array_type 0 (Base.Class c)))

-- ---- The types that a method's descriptor gives.

abbrev pub is_static : MethodRecord → Bool
is_static method = has method.flags STATIC

-- a constructor
abbrev pub is_init : MethodRecord → Bool
is_init method = bytes_eq method.name INIT

abbrev pub parameter_values : CodeScope → MethodRecord → List VType
parameter_values s method = map (value_of s.classes) method.params

-- one, or nothing where the method answers nothing
abbrev pub result_values : CodeScope → MethodRecord → List VType
result_values s method = option_map_or (λ (t : TypeRef). value_of s.classes t ∷ []) method.result []

-- `this`: fresh in a constructor; nothing in a static method
abbrev pub own_receiver : CodeScope → List VType
own_receiver s =
    if is_static s.method then [] else
    if is_init s.method then FreshThis ∷ [] else of_class s.classes s.self ∷ []
