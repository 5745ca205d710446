-- What it is to bring a class into a name table, with all that is reached from it.
use Rattle.std.specs.Prelude.{◌≡◌, ◌≢◌, List, [], ◌++◌, Contains, Some}
use Rattle.std.specs.Option.{option_map_or}
use Rattle.jk_model.specs.declared.identifiers.ClassId.{ClassId}
use Rattle.jk_model_classes.specs.declared.records.ClassRecord.{ClassRecord}
use Rattle.jk_model_classes.specs.Classes.{record_of}
use Rattle.jk_model_classes.specs.Worlds.{NamedClass, IsNamed, class_named}

-- the classes to which a class refers
abbrev pub references_of : List ClassRecord → ClassId → List ClassId
references_of classes c = option_map_or (λ (r : ClassRecord). r.references) (record_of classes c) []

-- the name is the class's own
pub record IsOwnName (classes : List ClassRecord) (e : NamedClass) : Type 0 where
  pub of : ClassRecord
  pub there : record_of classes e.class ≡ Some of
  pub named : e.name ≡ of.name

-- the own name of a class means another class
pub record IsTaken (classes : List ClassRecord) (table : List NamedClass) (c : ClassId) : Type 0 where
  pub of : ClassRecord
  pub there : record_of classes c ≡ Some of
  pub other : ClassId
  pub means : class_named table of.name ≡ Some other
  pub differs : other ≢ c

-- ---- Classes of a list.

-- a class of the list that no name means yet
pub record IsNew (cs : List ClassId) (table : List NamedClass) (c : ClassId) : Type 0 where
  pub listed : Contains cs c
  pub free : IsNamed table c → ⊥

-- the table has more names: of classes of the list that had none, each its own
pub record Brings (classes : List ClassRecord) (cs : List ClassId) (old new : List NamedClass) : Type 0 where
  pub more : List NamedClass
  pub is : new ≡ old ++ more
  pub own : (e : NamedClass) → Contains more e → IsNew cs old e.class × IsOwnName classes e

-- the name of a class of the list that had none means another class
pub record Clashes (classes : List ClassRecord) (cs : List ClassId) (old new : List NamedClass) : Type 0 where
  pub class : ClassId
  pub fresh : IsNew cs old class
  pub taken : IsTaken classes new class

-- ---- A class with all that is reached from it.

-- A class is reached over classes that have no name in the table: it is the first class, or a class that is reached
-- refers to it; and it has no name either.
pub data IsReached (classes : List ClassRecord) (table : List NamedClass) (from : ClassId) : ClassId → Type 0 where
  Itself : (IsNamed table from → ⊥) → IsReached classes table from from
  Further : (c d : ClassId) → IsReached classes table from c → Contains (references_of classes c) d → (IsNamed table d → ⊥)
      → IsReached classes table from d

-- the table has more names: of classes that are reached, each its own
pub record Imported (classes : List ClassRecord) (old : List NamedClass) (from : ClassId) (new : List NamedClass) : Type 0 where
  pub more : List NamedClass
  pub is : new ≡ old ++ more
  pub own : (e : NamedClass) → Contains more e → IsReached classes old from e.class × IsOwnName classes e

-- and every class that is reached has a name
pub record IsImport (classes : List ClassRecord) (old : List NamedClass) (from : ClassId) (new : List NamedClass) : Type 0 where
  pub imported : Imported classes old from new
  pub all : (c : ClassId) → IsReached classes old from c → IsNamed new c

-- the name of a class that is reached means another class
pub record IsClash (classes : List ClassRecord) (old : List NamedClass) (from : ClassId) (new : List NamedClass) : Type 0 where
  pub class : ClassId
  pub reached : IsReached classes old from class
  pub taken : IsTaken classes new class
