-- Types of values, and which value fits which, where more classes are put behind.
use Rattle.std.specs.Prelude.{◌≡◌, List, ◌++◌}
use Rattle.jk_model.specs.declared.values.Value.{Value}
use Rattle.jk_model_classes.specs.declared.records.ClassRecord.{ClassRecord}
use Rattle.jk_model_classes.specs.declared.records.TypeRef.{TypeRef}
use Rattle.jk_model_typing.specs.Scopes.{CodeScope}
use Rattle.jk_model_domains.specs.Objects.{NamedObject}
use Rattle.jk_model_domains.specs.ValueTypes.{HoldsDeclared}
use Rattle.class_growth.specs.ClosedClasses.{HasType}
use Rattle.class_growth.specs.ScopesOver.{with_more}

-- What is made of a type is the same, where the type's class was there.
abbrev pub IsSameForTypes : {X : Type 0} → (List ClassRecord → TypeRef → X) → Type 0
IsSameForTypes made = (classes more : List ClassRecord) (t : TypeRef) → HasType classes t → made (classes ++ more) t ≡ made classes t

-- What fits still fits.
abbrev pub StillFits : {X : Type 0} → (List ClassRecord → X → X → Type 0) → Type 0
StillFits {X} Fit = (classes more : List ClassRecord) (a b : X) → Fit classes a b → Fit (classes ++ more) a b

-- The same of values, in a method's frame over one heap.
abbrev pub StillHolds : {X Y : Type 0} → (CodeScope → List NamedObject → X → Y → Type 0) → Type 0
StillHolds {X} {Y} Holds =
    (s : CodeScope) (more : List ClassRecord) (heap : List NamedObject) (x : X) (y : Y) → Holds s heap x y → Holds (with_more s more) heap x y

-- a value in a field, an element or a static field, where the class of the declared type was there
abbrev pub DeclaredStillHolds : Type 0
DeclaredStillHolds =
    (classes more : List ClassRecord) (heap : List NamedObject) (v : Value) (declared : TypeRef) → HasType classes declared
    → HoldsDeclared classes heap v declared → HoldsDeclared (classes ++ more) heap v declared
