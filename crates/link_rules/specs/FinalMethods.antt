-- Final methods that a method overrides, and the least place of a method that overrides one.
use Rattle.std.specs.Prelude.{◌≡◌, ◌≢◌, ℕ, ◌<◌, ◌≤◌, IsTrue, List, min, Option, Some, None, slice_get}
use Rattle.jk_model.specs.Flags.{has, FINAL}
use Rattle.jk_model.specs.declared.descriptors.MethodType.{MethodType}
use Rattle.jk_model.specs.declared.identifiers.ClassId.{ClassId}
use Rattle.jk_model.specs.declared.identifiers.MemberId.{MemberId}
use Rattle.jk_model_classes.specs.declared.records.ClassRecord.{ClassRecord}
use Rattle.jk_model_classes.specs.declared.records.MethodRecord.{MethodRecord}
use Rattle.jk_model_classes.specs.Classes.{IsSubclass, record_of}
use Rattle.jk_model_classes.specs.Items.{HasItem, HasItemBefore}
use Rattle.jk_model_classes.specs.Lookups.{IsOverriddenIn, MethodIs}
use Rattle.jk_model_classes.specs.LinkRules.{HasFinalOverridden, LinkScope}
use Rattle.link_rules.specs.LinkFaults.{IsLeastNumber}

-- a final method of this name and type that the methods of the class override
abbrev pub IsFinalFor : List ClassRecord → ClassId → List ℕ → MethodType → MemberId → Type 0
IsFinalFor classes class name kind m =
    (final : MethodRecord) × MethodIs classes m final × (final.name ≡ name) × (final.kind ≡ kind) × IsTrue (has final.flags FINAL)
    × IsOverriddenIn classes m final.flags class

-- it is overridden so, where a method of this name and type is given
abbrev pub IsFinalIn : List ClassRecord → ClassId → MemberId → Type 0
IsFinalIn classes class m = (final : MethodRecord) × MethodIs classes m final × IsTrue (has final.flags FINAL) × IsOverriddenIn classes m final.flags class

-- a method with this record overrides this final one, if it is one
abbrev pub OverridesAt : List ClassRecord → ClassId → MemberId → MethodRecord → Type 0
OverridesAt classes class m method = IsFinalFor classes class method.name method.kind m

-- it overrides a final one of class d
abbrev pub OverridesIn : List ClassRecord → ClassId → ClassId → MethodRecord → Type 0
OverridesIn classes class d method = (i : ℕ) × OverridesAt classes class (record { class = d; index = i }) method

-- it overrides a final one of class d, and that is so
abbrev pub OverridesSo : (ClassId → Type 0) → List ClassRecord → ClassId → ClassId → MethodRecord → Type 0
OverridesSo IsSo classes class d method = IsSo d × OverridesIn classes class d method

-- it overrides a final one of a class properly above that is so
abbrev pub OverridesWhere : (ClassId → Type 0) → List ClassRecord → ClassId → MethodRecord → Type 0
OverridesWhere IsSo classes class method = (d : ClassId) × IsSubclass classes class d × (d ≢ class) × OverridesSo IsSo classes class d method

-- a class stands before this one, or not
abbrev pub IsOutside : ClassId → ClassId → Type 0
IsOutside first d = d.0 < first.0

abbrev pub IsInside : ClassId → ClassId → Type 0
IsInside first d = first.0 ≤ d.0

-- they have one name and one type
abbrev pub IsNamedAs : MethodRecord → MethodRecord → Type 0
IsNamedAs final method = (final.name ≡ method.name) × (final.kind ≡ method.kind)

-- these are the methods of the class
abbrev pub HasMethods : List ClassRecord → ClassId → List MethodRecord → Type 0
HasMethods classes c methods = (r : ClassRecord) × (record_of classes c ≡ Some r) × (r.methods ≡ methods)

abbrev pub earlier_place : Option ℕ → Option ℕ → Option ℕ
earlier_place None b = b
earlier_place (Some i) None = Some i
earlier_place (Some i) (Some j) = Some (min i j)

abbrev pub scope_of : List ClassRecord → ClassId → LinkScope
scope_of classes self = record { meaning = λ name. None; classes = classes; self = self }

-- the place of the first item that is so; none where none is
abbrev pub IsFirstPlace : {X : Type 0} → (X → Type 0) → List X → Option ℕ → Type 0
IsFirstPlace {X} P items None = HasItem P items → ⊥
IsFirstPlace {X} P items (Some i) = ((x : X) × (slice_get items i ≡ Some x) × P x) × (HasItemBefore i P items → ⊥)

-- the least number of a method of the class that overrides a final one of a class above
abbrev pub IsFinalFault : List ClassRecord → ClassId → Option ℕ → Type 0
IsFinalFault classes class number = (s : LinkScope) → s.classes ≡ classes → s.self ≡ class → IsLeastNumber (HasFinalOverridden s) number
