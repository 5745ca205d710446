-- What the names of a domain say: each class stands under its own name, and a method takes and answers what its descriptor says by
-- these names.
use Rattle.std.specs.Prelude.{◌≡◌, ℕ, ◌⊎◌, List, Contains, Option, Some, slice_get}
use Rattle.jk_model.specs.declared.descriptors.MethodType.{MethodType}
use Rattle.jk_model.specs.declared.identifiers.ClassId.{ClassId}
use Rattle.jk_model.specs.declared.identifiers.MemberId.{MemberId}
use Rattle.jk_model_classes.specs.declared.records.ClassRecord.{ClassRecord}
use Rattle.jk_model_classes.specs.declared.records.MethodRecord.{MethodRecord}
use Rattle.jk_model_classes.specs.Classes.{record_of}
use Rattle.jk_model_classes.specs.Items.{HasItem}
use Rattle.jk_model_classes.specs.Lookups.{MethodIs}
use Rattle.jk_model_classes.specs.References.{IsOfClass, IsResultOfClass}
use Rattle.jk_model_classes.specs.SystemRecords.{AreTypesFor, IsResultFor}
use Rattle.jk_model_classes.specs.Worlds.{IsNamed, NamedClass, class_named}

-- ---- Names.

-- the class is there, and this is its own name
abbrev pub IsCalled : List ClassRecord → ClassId → List ℕ → Type 0
IsCalled classes c name = (r : ClassRecord) × (record_of classes c ≡ Some r) × (r.name ≡ name)

-- Each entry of a name table stands under its class's own name, and no name stands there twice.
pub record HasOwnNames (classes : List ClassRecord) (table : List NamedClass) : Type 0 where
  pub own : (name : List ℕ) (c : ClassId) → Contains table (record { name = name; class = c }) → IsCalled classes c name
  pub once : (i j : ℕ) (a b : NamedClass) → slice_get table i ≡ Some a → slice_get table j ≡ Some b → a.name ≡ b.name → i ≡ j

-- ---- Types.

-- the method takes and answers what its descriptor says by this meaning of names
abbrev pub IsSaidBy : (List ℕ → Option ClassId) → MethodRecord → Type 0
IsSaidBy meaning method =
    AreTypesFor meaning method.kind.params method.params × IsResultFor meaning method.kind.result method.result

-- each method of a class that a domain knows does so by the domain's own names, whichever folder the class is of
abbrev pub SayTypes : List ClassRecord → List NamedClass → Type 0
SayTypes classes table =
    (m : MemberId) (method : MethodRecord) → MethodIs classes m method → IsNamed table m.class → IsSaidBy (class_named table) method

-- Methods of one type, of classes that a domain knows, take the same parameters and answer the same.
abbrev pub AgreeOnTypes : List ClassRecord → List NamedClass → Type 0
AgreeOnTypes classes table =
    (m n : MemberId) (a b : MethodRecord) → MethodIs classes m a → MethodIs classes n b → IsNamed table m.class → IsNamed table n.class
    → a.kind ≡ b.kind → (a.params ≡ b.params) × (a.result ≡ b.result)

-- ---- What is kept of one record, so that it holds in each domain that imports the class.

abbrev pub NamesInType : MethodType → List ℕ → Type 0
NamesInType kind name = HasItem (IsOfClass name) kind.params ⊎ IsResultOfClass name kind.result

-- A method says its types by some meaning of names. What a name in its descriptor means there is called so, and is among the
-- references of the record.
pub record SaysReferences (classes : List ClassRecord) (r : ClassRecord) (method : MethodRecord) : Type 0 where
  pub meaning : List ℕ → Option ClassId
  pub is_said : IsSaidBy meaning method
  pub refers : (name : List ℕ) (c : ClassId) → NamesInType method.kind name → meaning name ≡ Some c
      → Contains r.references c × IsCalled classes c name
