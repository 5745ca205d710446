-- What is known of the stubs that domains share.
use Rattle.std.specs.Prelude.{◌≡◌, ℕ, ◌<◌, ◌⊎◌, List, Contains, Some, None, slice_get}
use Rattle.jk_model.specs.declared.identifiers.ClassId.{ClassId}
use Rattle.jk_model_classes.specs.declared.records.ClassRecord.{ClassRecord}
use Rattle.jk_model_classes.specs.declared.sharing.Stub.{Stub}
use Rattle.jk_model_classes.specs.Classes.{IsInterface, record_of}
use Rattle.jk_model_classes.specs.Stubs.{IsStub}

-- in rising number, each once
abbrev pub AreRising : List ClassId → Type 0
AreRising interfaces = (j k : ℕ) (a b : ClassId) → j < k → slice_get interfaces j ≡ Some a → slice_get interfaces k ≡ Some b → a.0 < b.0

-- The stub of a class that isn't there, which stands for another domain's where one is replayed alone: it shows interfaces, in rising number.
pub record IsForeignStub (classes : List ClassRecord) (s : Stub) : Type 0 where
  pub not_there : record_of classes s.class ≡ None
  pub interfaces : (i : ClassId) → Contains s.interfaces i → IsInterface classes i
  pub rising : AreRising s.interfaces

-- Each stub is that of its class, or of a class that isn't there. A class has one at most.
pub record AreKnownStubs (classes : List ClassRecord) (stubs : List Stub) : Type 0 where
  pub each : (s : Stub) → Contains stubs s → IsStub classes s.class s ⊎ IsForeignStub classes s
  pub apart : (s r : Stub) → Contains stubs s → Contains stubs r → s.class ≡ r.class → s ≡ r
