-- Stubs: what a capability shows of its target's class, and which method of the target a remote call runs.
use Rattle.std.specs.Prelude.{◌≡◌, ℕ, ◌⊎◌, ◌<◌, IsTrue, List, Contains, Option, Some, None, MatchOption, codes, slice_get}
use Rattle.jk_model.specs.declared.identifiers.ClassId.{ClassId}
use Rattle.jk_model.specs.declared.identifiers.MemberId.{MemberId}
use Rattle.jk_model.specs.SystemTable.{number_named}
use Rattle.jk_model_classes.specs.declared.records.ClassRecord.{ClassRecord}
use Rattle.jk_model_classes.specs.declared.records.MethodRecord.{MethodRecord}
use Rattle.jk_model_classes.specs.declared.records.Body.TheVariants.{System}
use Rattle.jk_model_classes.specs.declared.sharing.Stub.{Stub}
use Rattle.jk_model_classes.specs.Classes.{Implements}
use Rattle.jk_model_classes.specs.Lookups.{MethodIs, Selects}

-- The class of this name among the system classes, which stand in front of all others in the order of their table.
abbrev pub IsSystemNamed : List ℕ → ClassId → Type 0
IsSystemNamed name c = number_named name ≡ Some c.0

abbrev pub IsRemote : ClassId → Type 0
IsRemote c = IsSystemNamed (codes "jk/Remote") c

-- the class implements jk/Remote
abbrev pub ImplementsRemote : List ClassRecord → ClassId → Type 0
ImplementsRemote classes c = (remote : ClassId) × IsRemote remote × Implements classes c remote

-- an interface that is jk/Remote or below it, and that the class implements
abbrev pub IsRemoteInterfaceOf : List ClassRecord → ClassId → ClassId → Type 0
IsRemoteInterfaceOf classes c i = Implements classes c i × ImplementsRemote classes i

-- The stub of a class that implements jk/Remote.
pub record IsStub (classes : List ClassRecord) (c : ClassId) (stub : Stub) : Type 0 where
  pub class : stub.class ≡ c
  pub remote : ImplementsRemote classes c
  pub listed : (i : ClassId) → Contains stub.interfaces i → IsRemoteInterfaceOf classes c i
  pub all : (i : ClassId) → IsRemoteInterfaceOf classes c i → Contains stub.interfaces i
  -- in rising number, each once
  pub rising : (j k : ℕ) (a b : ClassId) → j < k → slice_get stub.interfaces j ≡ Some a → slice_get stub.interfaces k ≡ Some b → a.0 < b.0

-- the method is one of the system
abbrev pub IsSystemMethod : List ClassRecord → MemberId → Type 0
IsSystemMethod classes m = (method : MethodRecord) × MethodIs classes m method × (n : ℕ) × (method.body ≡ System n)

-- a method that was selected, unless it is one of the system
abbrev pub IsUnlessSystem : List ClassRecord → Option MemberId → Option MemberId → Type 0
IsUnlessSystem classes None target = target ≡ None
IsUnlessSystem classes (Some selected) target =
    (IsSystemMethod classes selected × (target ≡ None)) ⊎ ((IsSystemMethod classes selected → ⊥) × (target ≡ Some selected))

-- The target of a method that one of the stub's interfaces declares is what a call of it on an object of the class
-- runs; nothing where that is nothing or a method of the system, and for a method of any other class.
abbrev pub IsTarget : List ClassRecord → Stub → MemberId → Option MemberId → Type 0
IsTarget classes stub m target =
    (Contains stub.interfaces m.class × ((selected : Option MemberId) × Selects classes stub.class m selected
    × IsUnlessSystem classes selected target))
    ⊎ ((Contains stub.interfaces m.class → ⊥) × (target ≡ None))
