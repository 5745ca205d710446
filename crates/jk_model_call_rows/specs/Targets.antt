-- Which method a call runs (the Java Virtual Machine Specification, 6, invokevirtual, invokespecial, invokeinterface). The method that
-- was found for what the instruction names says what is looked for. What is run is selected at the class of the receiver, or above
-- the running class.
use Rattle.std.specs.Prelude.{◌≡◌, ◌≢◌, ◌⊎◌, not, IsTrue, List, [], ◌∷◌, Some, None}
use Rattle.jk_model.specs.Flags.{has, PRIVATE, PUBLIC}
use Rattle.jk_model.specs.declared.identifiers.CapId.{CapId}
use Rattle.jk_model.specs.declared.identifiers.ClassId.{ClassId}
use Rattle.jk_model.specs.declared.identifiers.MemberId.{MemberId}
use Rattle.jk_model.specs.declared.values.Value.{Value}
use Rattle.jk_model.specs.declared.values.Value.TheVariants as Held
use Rattle.jk_model_classes.specs.declared.records.ClassRecord.{ClassRecord}
use Rattle.jk_model_classes.specs.declared.records.MethodRecord.{MethodRecord}
use Rattle.jk_model_classes.specs.Classes.{Implements, IsSubclass, OBJECT, parents_of}
use Rattle.jk_model_classes.specs.Lookups.{MethodIs, Selects}
use Rattle.jk_model_classes.specs.Members.{INIT}
use Rattle.jk_model_domains.specs.Objects.{NamedObject}
use Rattle.jk_model_heaps.specs.Instances.{RunsAs}
use Rattle.jk_model_heaps.specs.SystemClasses.{ABSTRACT_METHOD_ERROR, ILLEGAL_ACCESS_ERROR, INCOMPATIBLE_CLASS_CHANGE_ERROR}

-- What a call comes to.
pub data Target : Type 0 where
  -- this method is run
  Runs : MemberId → Target
  -- a new object of this class is raised
  Fails : ClassId → Target
  -- this method is called through a capability
  Through : CapId → MemberId → Target

-- the method that is selected at a class for m; there may be none
abbrev pub SelectedTarget : List ClassRecord → ClassId → MemberId → Target → Type 0
SelectedTarget classes c m target =
    (Selects classes c m None × (target ≡ Fails ABSTRACT_METHOD_ERROR))
    ⊎ ((selected : MemberId) × Selects classes c m (Some selected) × (target ≡ Runs selected))

-- ---- invokevirtual: the method that is selected at the receiver's class, that of a capability being jk/Capability.

abbrev pub VirtualTarget : List ClassRecord → List NamedObject → Value → MemberId → Target → Type 0
VirtualTarget classes heap receiver m target = (class : ClassId) × RunsAs heap receiver class × SelectedTarget classes class m target

-- ---- invokespecial, in a method of the running class, `self` here.

-- a constructor, a private method, or a method of a class that isn't properly above the running one
abbrev pub IsRunAsNamed : List ClassRecord → ClassId → MemberId → MethodRecord → Type 0
IsRunAsNamed classes self m method =
    (method.name ≡ INIT) ⊎ IsTrue (has method.flags PRIVATE) ⊎ (m.class ≡ self) ⊎ (IsSubclass classes self m.class → ⊥)

-- every other one
pub record IsSelectedAbove (classes : List ClassRecord) (self : ClassId) (m : MemberId) (method : MethodRecord) : Type 0 where
  pub no_constructor : method.name ≢ INIT
  pub not_private : IsTrue (not (has method.flags PRIVATE))
  pub other : m.class ≢ self
  pub above : IsSubclass classes self m.class

abbrev pub SpecialTarget : List ClassRecord → ClassId → MemberId → MethodRecord → Target → Type 0
SpecialTarget classes self m method target =
    (IsRunAsNamed classes self m method × (target ≡ Runs m))
    ⊎ ((parent : ClassId) × IsSelectedAbove classes self m method × (parents_of classes self ≡ parent ∷ [])
    × SelectedTarget classes parent m target)

-- ---- invokeinterface. The interface that it asks for is the one that declares the method found, whatever the instruction names, and
-- a method of java/lang/Object asks for none.

abbrev pub LacksInterface : List ClassRecord → ClassId → MemberId → Type 0
LacksInterface classes c m = (m.class ≢ OBJECT) × (Implements classes c m.class → ⊥)

abbrev pub HasInterface : List ClassRecord → ClassId → MemberId → Type 0
HasInterface classes c m = (m.class ≡ OBJECT) ⊎ Implements classes c m.class

-- what is selected must be public
abbrev pub PublicTarget : List ClassRecord → ClassId → MemberId → Target → Type 0
PublicTarget classes c m target =
    (Selects classes c m None × (target ≡ Fails ABSTRACT_METHOD_ERROR))
    ⊎ ((selected : MemberId) × (method : MethodRecord) × Selects classes c m (Some selected) × MethodIs classes selected method
    × IsTrue (not (has method.flags PUBLIC)) × (target ≡ Fails ILLEGAL_ACCESS_ERROR))
    ⊎ ((selected : MemberId) × (method : MethodRecord) × Selects classes c m (Some selected) × MethodIs classes selected method
    × IsTrue (has method.flags PUBLIC) × (target ≡ Runs selected))

abbrev pub LocalTarget : List ClassRecord → List NamedObject → Value → MemberId → Target → Type 0
LocalTarget classes heap receiver m target =
    (class : ClassId) × RunsAs heap receiver class
    × ((LacksInterface classes class m × (target ≡ Fails INCOMPATIBLE_CLASS_CHANGE_ERROR))
    ⊎ (HasInterface classes class m × PublicTarget classes class m target))

-- at a capability, revoked or not, a method of an interface is called through it, and one of java/lang/Object is run in the caller's
-- own domain
abbrev pub InterfaceTarget : List ClassRecord → List NamedObject → Value → MemberId → Target → Type 0
InterfaceTarget classes heap (Held.Cap k) m target =
    ((m.class ≢ OBJECT) × (target ≡ Through k m)) ⊎ ((m.class ≡ OBJECT) × LocalTarget classes heap (Held.Cap k) m target)
InterfaceTarget classes heap receiver m target = LocalTarget classes heap receiver m target
