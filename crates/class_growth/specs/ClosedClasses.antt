-- Classes among which every class is there that their records mention: as a parent or an interface, in the type of a field, of a
-- parameter or of a result, behind an entry of a pool, or in a catch entry. The list of all to which a class file refers is
-- spoken of in `Worlds`.
use Rattle.std.specs.Prelude.{◌≡◌, ⊤, List, Contains, Some}
use Rattle.jk_model.specs.declared.identifiers.ClassId.{ClassId}
use Rattle.jk_model_classes.specs.declared.records.BaseRef.{BaseRef}
use Rattle.jk_model_classes.specs.declared.records.BaseRef.TheVariants as Base
use Rattle.jk_model_classes.specs.declared.records.Body.TheVariants.{Linked}
use Rattle.jk_model_classes.specs.declared.records.Caught.{Caught}
use Rattle.jk_model_classes.specs.declared.records.ClassRecord.{ClassRecord}
use Rattle.jk_model_classes.specs.declared.records.FieldRecord.{FieldRecord}
use Rattle.jk_model_classes.specs.declared.records.Link.{Link}
use Rattle.jk_model_classes.specs.declared.records.Link.TheVariants as To
use Rattle.jk_model_classes.specs.declared.records.LinkedCode.{LinkedCode}
use Rattle.jk_model_classes.specs.declared.records.MethodRecord.{MethodRecord}
use Rattle.jk_model_classes.specs.declared.records.TypeRef.{TypeRef}
use Rattle.jk_model_classes.specs.Classes.{record_of, HasClass}

abbrev pub HasBase : List ClassRecord → BaseRef → Type 0
HasBase classes (Base.Class c) = HasClass classes c
HasBase classes _ = ⊤

-- the type is of whole numbers, or of a class that is there, or an array of these
abbrev pub HasType : List ClassRecord → TypeRef → Type 0
HasType classes t = HasBase classes t.base

-- What an entry of a pool leads to: the class of a type is there; of a member, the class that the reference names and the one
-- that declares it.
abbrev pub HasLink : List ClassRecord → Link → Type 0
HasLink classes (To.Class t) = HasType classes t
HasLink classes (To.Field named m) = HasClass classes named × HasClass classes m.class
HasLink classes (To.Method named m) = HasClass classes named × HasClass classes m.class
HasLink classes _ = ⊤

-- the class that the entry catches is there, or it catches any throwable
abbrev pub HasCaught : List ClassRecord → Caught → Type 0
HasCaught classes h = (c : ClassId) → h.class ≡ Some c → HasClass classes c

-- The classes that a method mentions are there.
pub record HasClassesOfMethod (classes : List ClassRecord) (method : MethodRecord) : Type 0 where
  pub params : (t : TypeRef) → Contains method.params t → HasType classes t
  pub result : (t : TypeRef) → method.result ≡ Some t → HasType classes t
  pub handlers : (code : LinkedCode) (h : Caught) → method.body ≡ Linked code → Contains code.handlers h → HasCaught classes h

-- The classes that a record mentions are there.
pub record HasClassesOf (classes : List ClassRecord) (r : ClassRecord) : Type 0 where
  pub parent : (p : ClassId) → r.parent ≡ Some p → HasClass classes p
  pub interfaces : (i : ClassId) → Contains r.interfaces i → HasClass classes i
  pub fields : (field : FieldRecord) → Contains r.fields field → HasType classes field.kind
  pub methods : (method : MethodRecord) → Contains r.methods method → HasClassesOfMethod classes method
  pub links : (link : Link) → Contains r.links link → HasLink classes link

-- Each class that is mentioned in a record is there.
pub record IsClosed (classes : List ClassRecord) : Type 0 where
  pub each : (c : ClassId) (r : ClassRecord) → record_of classes c ≡ Some r → HasClassesOf classes r
