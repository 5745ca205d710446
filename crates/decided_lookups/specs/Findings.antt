-- What a walk over classes or a search of a list comes to.
use Rattle.std.specs.Prelude.{◌≡◌, ℕ, ◌<◌, ◌≤◌, ◌⊎◌, Bool, IsTrue, List, length, Option, Some, slice_get}
use Rattle.jk_model.specs.declared.descriptors.MethodType.{MethodType}
use Rattle.jk_model.specs.declared.identifiers.ClassId.{ClassId}
use Rattle.jk_model.specs.declared.identifiers.MemberId.{MemberId}
use Rattle.jk_model.specs.declared.values.Value.{Value}
use Rattle.jk_model_classes.specs.declared.records.Caught.{Caught}
use Rattle.jk_model_classes.specs.declared.records.ClassRecord.{ClassRecord}
use Rattle.jk_model_classes.specs.declared.records.TypeRef.{TypeRef}
use Rattle.jk_model_classes.specs.Items.{HasItem, HasItemBefore}
use Rattle.jk_model_classes.specs.Lookups.{FindsField, FindsMethod, FindsOn, RunsFor, Selects}

-- ---- Walks over classes, whatever the records are. What they find may be nothing.

abbrev pub FieldsAreFound : Type 0
FieldsAreFound = (classes : List ClassRecord) (c : ClassId) (name : List ℕ) (kind : TypeRef)
    → (found : Option MemberId) × FindsField classes c name kind found

abbrev pub MethodsAreFound : Type 0
MethodsAreFound = (classes : List ClassRecord) (c : ClassId) (name : List ℕ) (kind : MethodType)
    → (found : Option MemberId) × FindsMethod classes c name kind found

-- of these classes, in this order, the first that declares a method which runs for m
abbrev pub RunnersAreFound : Type 0
RunnersAreFound = (classes : List ClassRecord) (m : MemberId) (walk : List ClassId)
    → (found : Option MemberId) × FindsOn (RunsFor classes m) walk found

abbrev pub CallsSelect : Type 0
CallsSelect = (classes : List ClassRecord) (receiver : ClassId) (m : MemberId) → (selected : Option MemberId) × Selects classes receiver m selected

-- ---- Searches of lists.

-- the first item that is so stands at this place
pub record IsFirstItem {X : Type 0} (P : X → Type 0) (items : List X) (place : ℕ) (item : X) : Type 0 where
  pub at : slice_get items place ≡ Some item
  pub holds : P item
  pub first : HasItemBefore place P items → ⊥

-- there is a first item that is so, or none is
abbrev pub HasFirstOrNone : {X : Type 0} → (X → Type 0) → List X → Type 0
HasFirstOrNone {X} P items = ((place : ℕ) × (item : X) × IsFirstItem P items place item) ⊎ (HasItem P items → ⊥)

-- so many items in front are so, and the next one isn't, where there is a next one
pub record IsLongestFront {X : Type 0} (P : X → Type 0) (items : List X) (n : ℕ) : Type 0 where
  pub within : n ≤ length items
  pub each : (i : ℕ) (x : X) → i < n → slice_get items i ≡ Some x → P x
  pub ends : (x : X) → slice_get items n ≡ Some x → P x → ⊥

-- of catch entries, by any test
abbrev pub HandlersAreFound : Type 0
HandlersAreFound = (test : Caught → Bool) (handlers : List Caught) → HasFirstOrNone (λ h. IsTrue (test h)) handlers

-- of values, by any test
abbrev pub FrontsAreLongest : Type 0
FrontsAreLongest = (test : Value → Bool) (values : List Value) → (n : ℕ) × IsLongestFront (λ v. IsTrue (test v)) values n
