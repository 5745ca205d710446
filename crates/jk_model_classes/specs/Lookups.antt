-- How members are found, who may access them, and which method a call runs (the Java Virtual Machine Specification,
-- 5.4.3, 5.4.4 and 6, invokevirtual).
use Rattle.std.specs.Prelude.{◌≡◌, ◌≢◌, ℕ, ◌<◌, ◌≤◌, ◌⊎◌, ◌++◌, ◌∷◌, [], not, IsTrue, List, Contains, Option, Some, None, slice_get, MatchOption}
use Rattle.std.specs.List.{AllByRecursion}
use Rattle.jk_model.specs.Flags.{has, PUBLIC, PRIVATE, PROTECTED, STATIC, ABSTRACT}
use Rattle.jk_model.specs.declared.descriptors.MethodType.{MethodType}
use Rattle.jk_model.specs.declared.identifiers.ClassId.{ClassId}
use Rattle.jk_model.specs.declared.identifiers.MemberId.{MemberId}
use Rattle.jk_model_classes.specs.declared.records.ClassRecord.{ClassRecord}
use Rattle.jk_model_classes.specs.declared.records.FieldRecord.{FieldRecord}
use Rattle.jk_model_classes.specs.declared.records.MethodRecord.{MethodRecord}
use Rattle.jk_model_classes.specs.declared.records.TypeRef.{TypeRef}
use Rattle.jk_model_classes.specs.declared.records.Member.{Member}
use Rattle.jk_model_classes.specs.declared.records.Member.TheVariants.{Field, Method}
use Rattle.jk_model_classes.specs.Classes.{record_of, IsInterface, IsSubclass, superclasses, field_walk, method_walk}
use Rattle.jk_model_classes.specs.Items.{HasItemBefore}

-- ---- Members of classes.

abbrev pub FieldIs : List ClassRecord → MemberId → FieldRecord → Type 0
FieldIs classes m field =
    (r : ClassRecord) × (record_of classes m.class ≡ Some r) × (slice_get r.fields m.index ≡ Some field)

abbrev pub MethodIs : List ClassRecord → MemberId → MethodRecord → Type 0
MethodIs classes m method =
    (r : ClassRecord) × (record_of classes m.class ≡ Some r) × (slice_get r.methods m.index ≡ Some method)

-- the member is a field of this name and type
abbrev pub IsFieldOf : List ClassRecord → List ℕ → TypeRef → MemberId → Type 0
IsFieldOf classes name kind m = (field : FieldRecord) × FieldIs classes m field × (field.name ≡ name) × (field.kind ≡ kind)

-- the member is a method of this name and type
abbrev pub IsMethodOf : List ClassRecord → List ℕ → MethodType → MemberId → Type 0
IsMethodOf classes name kind m =
    (method : MethodRecord) × MethodIs classes m method × (method.name ≡ name) × (method.kind ≡ kind)

-- what a field, or a method, is looked for by
pub record FieldSought : Type 0 where
  pub name : List ℕ
  pub kind : TypeRef

pub record MethodSought : Type 0 where
  pub name : List ℕ
  pub kind : MethodType

-- ---- The first class of a walk that has such a member, and its first such member.

-- the class has such a member
abbrev pub Declares : (MemberId → Type 0) → ClassId → Type 0
Declares Suits c = (i : ℕ) × Suits (record { class = c; index = i })

-- the first such member of its class
pub record IsFirstOf (Suits : MemberId → Type 0) (m : MemberId) : Type 0 where
  pub suits : Suits m
  pub first : (i : ℕ) → i < m.index → Suits (record { class = m.class; index = i }) → ⊥

-- the first such member of its class at this place or after it
pub record IsFirstFrom (Suits : MemberId → Type 0) (from : ℕ) (m : MemberId) : Type 0 where
  pub suits : Suits m
  pub not_before : from ≤ m.index
  pub first : (i : ℕ) → from ≤ i → i < m.index → Suits (record { class = m.class; index = i }) → ⊥

-- the place of the first such member of a class at this place or after it; nothing where there is none
abbrev pub FindsFrom : (MemberId → Type 0) → ClassId → ℕ → Option ℕ → Type 0
FindsFrom Suits c from found =
    MatchOption found
    ((i : ℕ) → from ≤ i → Suits (record { class = c; index = i }) → ⊥)
    (λ i. IsFirstFrom Suits from (record { class = c; index = i }))

pub record IsFirstOn (Suits : MemberId → Type 0) (walk : List ClassId) (m : MemberId) : Type 0 where
  pub member : IsFirstOf Suits m
  -- its class is on the walk, and none before it has such a member
  pub place : ℕ
  pub visited : slice_get walk place ≡ Some m.class
  pub earlier : HasItemBefore place (Declares Suits) walk → ⊥

-- no class of the walk has such a member
abbrev pub IsNowhereOn : (MemberId → Type 0) → List ClassId → Type 0
IsNowhereOn Suits walk = (c : ClassId) → Contains walk c → Declares Suits c → ⊥

abbrev pub FindsOn : (MemberId → Type 0) → List ClassId → Option MemberId → Type 0
FindsOn Suits walk found = MatchOption found (IsNowhereOn Suits walk) (IsFirstOn Suits walk)

-- the field that a reference to a class finds by a name and a type
abbrev pub FindsField : List ClassRecord → ClassId → List ℕ → TypeRef → Option MemberId → Type 0
FindsField classes c name kind found = FindsOn (IsFieldOf classes name kind) (field_walk classes c) found

-- the method that a reference to a class or an interface finds by a name and a type
abbrev pub FindsMethod : List ClassRecord → ClassId → List ℕ → MethodType → Option MemberId → Type 0
FindsMethod classes c name kind found = FindsOn (IsMethodOf classes name kind) (method_walk classes c) found

-- ---- Packages. 47 is `/`.

-- A name's package is its beginning up to the last `/`, that one included, or nothing.
pub record IsPackageOf (name prefix : List ℕ) : Type 0 where
  pub simple : List ℕ
  pub joined : name ≡ prefix ++ simple
  pub no_slash : AllByRecursion (λ u. u ≢ 47) simple
  pub ends : (prefix ≡ []) ⊎ ((front : List ℕ) × (prefix ≡ front ++ 47 ∷ []))

-- A runtime package is a package with a home.
pub record AreInOnePackage (classes : List ClassRecord) (a b : ClassId) : Type 0 where
  pub of_a : ClassRecord
  pub a_is : record_of classes a ≡ Some of_a
  pub of_b : ClassRecord
  pub b_is : record_of classes b ≡ Some of_b
  pub prefix : List ℕ
  pub a_in : IsPackageOf of_a.name prefix
  pub b_in : IsPackageOf of_b.name prefix
  pub home : of_a.home ≡ of_b.home

-- ---- Access.

abbrev pub FlagsAre : List ClassRecord → Member → ℕ → Type 0
FlagsAre classes (Field m) flags = (field : FieldRecord) × FieldIs classes m field × (flags ≡ field.flags)
FlagsAre classes (Method m) flags = (method : MethodRecord) × MethodIs classes m method × (flags ≡ method.flags)

abbrev pub class_of : Member → ClassId
class_of (Field m) = m.class
class_of (Method m) = m.class

-- none of public, protected and private
abbrev pub IsUnmarked : ℕ → Type 0
IsUnmarked flags = IsTrue (not (has flags PUBLIC)) × IsTrue (not (has flags PROTECTED)) × IsTrue (not (has flags PRIVATE))

-- A member with these flags, of class c, may be accessed from a class.
abbrev pub AllowsFrom : List ClassRecord → ClassId → ClassId → ℕ → Type 0
AllowsFrom classes from c flags =
    IsTrue (has flags PUBLIC)
    ⊎ (IsTrue (has flags PROTECTED) × (IsSubclass classes from c ⊎ AreInOnePackage classes from c))
    ⊎ (IsUnmarked flags × AreInOnePackage classes from c)
    ⊎ (IsTrue (has flags PRIVATE) × (from ≡ c))

abbrev pub MayAccess : List ClassRecord → ClassId → Member → Type 0
MayAccess classes from member =
    (flags : ℕ) × FlagsAre classes member flags × AllowsFrom classes from (class_of member) flags

-- a class may be accessed where it is public or in the same runtime package
abbrev pub MayAccessClass : List ClassRecord → ClassId → ClassId → Type 0
MayAccessClass classes from c =
    ((r : ClassRecord) × (record_of classes c ≡ Some r) × IsTrue (has r.flags PUBLIC)) ⊎ AreInOnePackage classes from c

-- ---- Overriding, and the method that a call runs.

-- A method of class d overrides one of class c of the same name and type that is public or protected, or unmarked
-- and in the same runtime package. Nothing is asked of the overriding one.
abbrev pub IsOverriddenIn : List ClassRecord → MemberId → ℕ → ClassId → Type 0
IsOverriddenIn classes m flags d =
    IsTrue (has flags PUBLIC) ⊎ IsTrue (has flags PROTECTED) ⊎ (IsUnmarked flags × AreInOnePackage classes d m.class)

-- An instance method that is m, or overrides it, or has its name and type where m is one of an interface.
pub record RunsFor (classes : List ClassRecord) (m other : MemberId) : Type 0 where
  pub method : MethodRecord
  pub m_is : MethodIs classes m method
  pub other_method : MethodRecord
  pub other_is : MethodIs classes other other_method
  pub is_instance : IsTrue (not (has other_method.flags STATIC))
  pub suits :
      (other ≡ m)
      ⊎ ((other_method.name ≡ method.name) × (other_method.kind ≡ method.kind)
      × (IsInterface classes m.class ⊎ IsOverriddenIn classes m method.flags other.class))

abbrev pub IsAbstract : List ClassRecord → MemberId → Type 0
IsAbstract classes m = (method : MethodRecord) × MethodIs classes m method × IsTrue (has method.flags ABSTRACT)

-- a method that was found, unless it is abstract
abbrev pub IsUnlessAbstract : List ClassRecord → Option MemberId → Option MemberId → Type 0
IsUnlessAbstract classes None selected = selected ≡ None
IsUnlessAbstract classes (Some found) selected =
    (IsAbstract classes found × (selected ≡ None)) ⊎ ((IsAbstract classes found → ⊥) × (selected ≡ Some found))

-- What a call of method m on an object of the receiver class runs: of the receiver and its parents upwards, the
-- first that declares a method which runs for m; nothing where there is none, or where it is abstract.
abbrev pub Selects : List ClassRecord → ClassId → MemberId → Option MemberId → Type 0
Selects classes receiver m selected =
    (found : Option MemberId) × FindsOn (RunsFor classes m) (superclasses classes receiver) found
    × IsUnlessAbstract classes found selected
