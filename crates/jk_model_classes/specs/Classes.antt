-- What stands above a class: its parents upwards, its interfaces with theirs, and the orders in which members are
-- looked for. A class is a place in the list of all records, and stands after its parent and its interfaces. So no
-- path upwards from the class at place n has more than n + 1 classes, which is the height to which each walk goes.
use Rattle.std.specs.Prelude.{◌≡◌, ℕ, zero, suc, ◌+◌, ◌<◌, ⊤, Bool, false, IsTrue, List, [], ◌∷◌, ◌++◌, length, flat_map, Contains, Option, Some, None, slice_get, slice_set, not, filter, ◌==◌, if◌then◌else◌}
use Rattle.std.specs.List.{AllByRecursion}
use Rattle.std.specs.Option.{option_map_or}
use Rattle.jk_model.specs.Flags.{has, INTERFACE}
use Rattle.jk_model.specs.declared.identifiers.ClassId.{ClassId}
use Rattle.jk_model_classes.specs.declared.records.ClassRecord.{ClassRecord}
use Rattle.jk_model_classes.specs.declared.records.Link.{Link}

-- ---- The parts of a record, by the class's number: nothing of a number that no class has.

abbrev pub record_of : List ClassRecord → ClassId → Option ClassRecord
record_of classes c = slice_get classes c.0

abbrev pub HasClass : List ClassRecord → ClassId → Type 0
HasClass classes c = c.0 < length classes

-- the parent alone, or nothing
abbrev pub parents_of : List ClassRecord → ClassId → List ClassId
parents_of classes c = option_map_or (λ (r : ClassRecord). option_map_or (λ p. p ∷ []) r.parent []) (record_of classes c) []

-- the interfaces that the class lists
abbrev pub listed_interfaces : List ClassRecord → ClassId → List ClassId
listed_interfaces classes c = option_map_or (λ (r : ClassRecord). r.interfaces) (record_of classes c) []

abbrev pub IsInterface : List ClassRecord → ClassId → Type 0
IsInterface classes c = (r : ClassRecord) × (record_of classes c ≡ Some r) × IsTrue (has r.flags INTERFACE)

-- the class has these links from now on, and all else is as before
abbrev pub GetsLinks : List ClassRecord → ClassId → List Link → List ClassRecord → Type 0
GetsLinks old c links new =
    (r : ClassRecord) × (record_of old c ≡ Some r) × (new ≡ slice_set old c.0 (record r { links = links }))

-- ---- The list of all records: each class stands after its parent and its interfaces.

abbrev pub IsBelow : ℕ → ClassId → Type 0
IsBelow n c = c.0 < n

abbrev pub ParentIsBelow : ℕ → Option ClassId → Type 0
ParentIsBelow n None = ⊤
ParentIsBelow n (Some p) = IsBelow n p

-- the record may stand at place n
abbrev pub StandsAbove : ℕ → ClassRecord → Type 0
StandsAbove n r = ParentIsBelow n r.parent × AllByRecursion (IsBelow n) r.interfaces

abbrev pub AreOrdered : List ClassRecord → Type 0
AreOrdered classes = (c : ClassId) (r : ClassRecord) → record_of classes c ≡ Some r → StandsAbove c.0 r

-- ---- The parents upwards, from the class itself on.

abbrev pub superclasses_within : ℕ → List ClassRecord → ClassId → List ClassId
superclasses_within zero classes c = []
superclasses_within (suc height) classes c = c ∷ flat_map (superclasses_within height classes) (parents_of classes c)

abbrev pub superclasses : List ClassRecord → ClassId → List ClassId
superclasses classes c = superclasses_within (c.0 + 1) classes c

-- a is b, or stands below it through parents; a number that no class has is below itself alone
abbrev pub IsSubclass : List ClassRecord → ClassId → ClassId → Type 0
IsSubclass classes a b = Contains (superclasses classes a) b

-- ---- An interface and those above it: itself, and then the interfaces that it lists, each with those above it. One
-- that is reached on two paths is there twice.

abbrev pub with_interfaces_within : ℕ → List ClassRecord → ClassId → List ClassId
with_interfaces_within zero classes i = []
with_interfaces_within (suc height) classes i =
    i ∷ flat_map (with_interfaces_within height classes) (listed_interfaces classes i)

abbrev pub with_interfaces : List ClassRecord → ClassId → List ClassId
with_interfaces classes i = with_interfaces_within (i.0 + 1) classes i

-- the interfaces that a class lists, in order and each with those above it
abbrev pub own_interfaces : List ClassRecord → ClassId → List ClassId
own_interfaces classes c = flat_map (with_interfaces classes) (listed_interfaces classes c)

-- A class implements an interface where the interface, or one below it, is listed by the class or by a class above
-- it. An interface implements itself and those above it; so would a class below a parent that is an interface, which C19
-- refuses.
abbrev pub Implements : List ClassRecord → ClassId → ClassId → Type 0
Implements classes a i =
    IsInterface classes i
    × Contains (flat_map (λ c. c ∷ own_interfaces classes c) (superclasses classes a)) i

-- ---- The orders in which members are looked for (the Java Virtual Machine Specification, 5.4.3).

-- java/lang/Object is the first of the system classes, which stand in front of all others
abbrev pub OBJECT : ClassId
OBJECT = record { 0 = 0 }

-- A field: the class itself, then its interfaces in order and each with those above it, then its parent in the
-- same way, and so on upwards.
abbrev pub field_walk : List ClassRecord → ClassId → List ClassId
field_walk classes c = flat_map (λ d. d ∷ own_interfaces classes d) (superclasses classes c)

-- A method of a class: the class itself and its parents upwards, then the interfaces of each of these, from the
-- class upwards, in order and each with those above it.
abbrev pub class_method_walk : List ClassRecord → ClassId → List ClassId
class_method_walk classes c = superclasses classes c ++ flat_map (own_interfaces classes) (superclasses classes c)

-- A method of an interface: itself, then its interfaces in order and each with those above it, then
-- java/lang/Object.
abbrev pub interface_method_walk : List ClassRecord → ClassId → List ClassId
interface_method_walk classes c = with_interfaces classes c ++ OBJECT ∷ []

abbrev pub is_interface_record : Option ClassRecord → Bool
is_interface_record o = option_map_or (λ (r : ClassRecord). has r.flags INTERFACE) o false

abbrev pub method_walk : List ClassRecord → ClassId → List ClassId
method_walk classes c =
    if is_interface_record (record_of classes c) then interface_method_walk classes c else class_method_walk classes c

-- ---- A walk reaches some classes on several paths. Looked at once each, at the place where they come first, they
-- are these.

abbrev pub firsts : List ClassId → List ClassId
firsts [] = []
firsts (c ∷ walk) = c ∷ filter (λ d. not (d.0 == c.0)) (firsts walk)
