-- Worked examples: a ring of two objects, a text that is given twice, an array that holds itself and a capability, an object with transient
-- fields, and one with fields of its parent, each with a copy; and an array that holds what may not be copied. `src/examples.rt` says what the
-- definitions make of them.
use Rattle.std.specs.Prelude.{ℕ, ◌+◌, pos, List, [], ◌∷◌, ◌++◌, Option, Some, None, codes, replicate}
use Rattle.jk_model.specs.Flags.{INTERFACE, PUBLIC, TRANSIENT}
use Rattle.jk_model.specs.declared.identifiers.ClassId.{ClassId}
use Rattle.jk_model.specs.declared.values.Value.{Value}
use Rattle.jk_model.specs.declared.values.Value.TheVariants as Held
use Rattle.jk_model_classes.specs.declared.records.BaseRef.{BaseRef}
use Rattle.jk_model_classes.specs.declared.records.BaseRef.TheVariants as Base
use Rattle.jk_model_classes.specs.declared.records.ClassRecord.{ClassRecord}
use Rattle.jk_model_classes.specs.declared.records.FieldRecord.{FieldRecord}
use Rattle.jk_model_classes.specs.declared.records.Link.TheVariants.{Nothing}
use Rattle.jk_model_classes.specs.declared.records.TypeRef.{TypeRef}
use Rattle.jk_model_classes.specs.Classes.{OBJECT}
use Rattle.jk_model_classes.specs.Worlds.{NamedClass}
use Rattle.jk_model_domains.specs.Objects.{NamedObject, Object, Array, Plain, Text, class_type}
use Rattle.jk_model_graphs.specs.Reach.{Graph}
use Rattle.jk_model_heaps.specs.Heaps.{named}
use Rattle.jk_model_heaps.specs.SystemClasses.{SERIALIZABLE}

-- ---- Four classes of a folder, with the numbers 45 to 48. Of the system classes before them two have a meaning here.

abbrev pub field : List ℕ → ℕ → TypeRef → FieldRecord
field name flags kind = record { name = name; flags = flags; kind = kind; constant = Nothing }

abbrev pub class_of : List ℕ → Option ClassId → List FieldRecord → ClassRecord
class_of name parent fields = record {
  name = name;
  home = None;
  flags = PUBLIC;
  parent = parent;
  interfaces = [];
  fields = fields;
  methods = [];
  links = [];
  references = [];
}

abbrev pub NODE : ClassId
NODE = record { 0 = 45 }

abbrev pub HOLDER : ClassId
HOLDER = record { 0 = 46 }

abbrev pub BASE : ClassId
BASE = record { 0 = 47 }

abbrev pub SUB : ClassId
SUB = record { 0 = 48 }

abbrev pub int_type : TypeRef
int_type = record { dims = 0; base = Base.Int }

abbrev pub long_type : TypeRef
long_type = record { dims = 0; base = Base.Long }

abbrev pub serializable : ClassRecord
serializable = record (class_of (codes "java/io/Serializable") (Some OBJECT) []) { flags = PUBLIC + INTERFACE }

-- class Node implements java.io.Serializable { Node next; int v; } and class Holder { int x; transient int y; transient Node o; }
-- class Base implements java.io.Serializable { int a; transient long t; Node n; transient Holder h; }
-- class Sub extends Base { long b; transient long u; }
abbrev pub classes : List ClassRecord
classes =
    class_of (codes "java/lang/Object") None []
    ∷ serializable
    ∷ replicate 43 (class_of (codes "another") (Some OBJECT) [])
    ++ record (class_of (codes "Node") (Some OBJECT) (field (codes "next") PUBLIC (class_type NODE) ∷ field (codes "v") PUBLIC int_type ∷ []))
    { interfaces = SERIALIZABLE ∷ [] }
    ∷ class_of (codes "Holder") (Some OBJECT)
    (field (codes "x") PUBLIC int_type
    ∷ field (codes "y") (PUBLIC + TRANSIENT) int_type
    ∷ field (codes "o") (PUBLIC + TRANSIENT) (class_type NODE)
    ∷ [])
    ∷ record (class_of (codes "Base") (Some OBJECT)
    (field (codes "a") PUBLIC int_type
    ∷ field (codes "t") (PUBLIC + TRANSIENT) long_type
    ∷ field (codes "n") PUBLIC (class_type NODE)
    ∷ field (codes "h") (PUBLIC + TRANSIENT) (class_type HOLDER)
    ∷ []))
    { interfaces = SERIALIZABLE ∷ [] }
    ∷ class_of (codes "Sub") (Some BASE) (field (codes "b") PUBLIC long_type ∷ field (codes "u") (PUBLIC + TRANSIENT) long_type ∷ [])
    ∷ []

-- ---- What names mean in two domains that share the first two classes or all four, and in one whose Node is another class.

abbrev pub meaning : List ℕ → ClassId → NamedClass
meaning name class = record { name = name; class = class }

abbrev pub both_shared : List NamedClass
both_shared = meaning (codes "Node") NODE ∷ meaning (codes "Holder") HOLDER ∷ []

abbrev pub all_shared : List NamedClass
all_shared = both_shared ++ meaning (codes "Base") BASE ∷ meaning (codes "Sub") SUB ∷ []

abbrev pub own_node : List NamedClass
own_node = meaning (codes "Node") HOLDER ∷ []

-- ---- A heap into which copies are put. Its own object has a name that another heap uses too.

abbrev pub target : List NamedObject
target = named 0 (Text (codes "own")) ∷ []

-- ---- A ring of two.

-- a node, by the name of the next one
abbrev pub node : ℕ → ℕ → Object
node next v = Plain NODE (Held.Obj next ∷ Held.Int (pos v) ∷ [])

abbrev pub ring : Graph
ring = record { heap = named 0 (node 1 5) ∷ named 1 (node 0 7) ∷ []; values = Held.Obj 0 ∷ [] }

-- a heap behind whose objects a copy of the ring stands
abbrev pub with_ring : List NamedObject → Graph
with_ring before = record { heap = before ++ named 8 (node 9 5) ∷ named 9 (node 8 7) ∷ []; values = Held.Obj 8 ∷ [] }

abbrev pub ring_pairs : List (ℕ × ℕ)
ring_pairs = (0, 8) ∷ (1, 9) ∷ []

-- ---- A text that is given twice.

abbrev pub given_twice : Graph
given_twice = record { heap = named 3 (Text (codes "x")) ∷ []; values = Held.Obj 3 ∷ Held.Obj 3 ∷ [] }

abbrev pub one_text : Graph
one_text = record { heap = target ++ named 8 (Text (codes "x")) ∷ []; values = Held.Obj 8 ∷ Held.Obj 8 ∷ [] }

abbrev pub text_pairs : List (ℕ × ℕ)
text_pairs = (3, 8) ∷ []

-- the same as a tree: two texts
abbrev pub two_texts : Graph
two_texts = record {
  heap = target ++ named 8 (Text (codes "x")) ∷ named 9 (Text (codes "x")) ∷ [];
  values = Held.Obj 8 ∷ Held.Obj 9 ∷ [];
}

-- ---- An array that holds itself, and a capability.

abbrev pub array : List Value → Object
array items = Array (class_type OBJECT) items

abbrev pub capability : Value
capability = Held.Cap (record { 0 = 7 })

abbrev pub self_holder : Graph
self_holder = record { heap = named 4 (array (Held.Obj 4 ∷ capability ∷ [])) ∷ []; values = Held.Obj 4 ∷ capability ∷ Held.Null ∷ [] }

abbrev pub self_holder_copied : Graph
self_holder_copied = record {
  heap = target ++ named 8 (array (Held.Obj 8 ∷ capability ∷ [])) ∷ [];
  values = Held.Obj 8 ∷ capability ∷ Held.Null ∷ [];
}

abbrev pub array_pairs : List (ℕ × ℕ)
array_pairs = (4, 8) ∷ []

-- ---- An object with transient fields, one of which names a node.

abbrev pub holder : Graph
holder = record {
  heap = named 1 (Plain HOLDER (Held.Int (pos 3) ∷ Held.Int (pos 4) ∷ Held.Obj 2 ∷ [])) ∷ named 2 (node 2 5) ∷ [];
  values = Held.Obj 1 ∷ [];
}

abbrev pub holder_copied : Graph
holder_copied = record {
  heap = target ++ named 8 (Plain HOLDER (Held.Int (pos 3) ∷ Held.Int (pos 0) ∷ Held.Null ∷ [])) ∷ [];
  values = Held.Obj 8 ∷ [];
}

abbrev pub holder_pairs : List (ℕ × ℕ)
holder_pairs = (1, 8) ∷ []

-- ---- An object with two fields of its own and four of its parent, of which three are transient. One of these names a Holder.

abbrev pub of_sub : Graph
of_sub = record {
  heap = named 1 (Plain SUB (Held.Int (pos 1) ∷ Held.Long (pos 2) ∷ Held.Obj 2 ∷ Held.Obj 3 ∷ Held.Long (pos 4) ∷ Held.Long (pos 5) ∷ []))
      ∷ named 2 (node 2 5)
      ∷ named 3 (Plain HOLDER (Held.Int (pos 3) ∷ Held.Int (pos 4) ∷ Held.Null ∷ []))
      ∷ [];
  values = Held.Obj 1 ∷ [];
}

abbrev pub of_sub_copied : Graph
of_sub_copied = record {
  heap = target
      ++ named 8 (Plain SUB (Held.Int (pos 1) ∷ Held.Long (pos 0) ∷ Held.Obj 9 ∷ Held.Null ∷ Held.Long (pos 4) ∷ Held.Long (pos 0) ∷ []))
      ∷ named 9 (node 9 5)
      ∷ [];
  values = Held.Obj 8 ∷ [];
}

abbrev pub of_sub_pairs : List (ℕ × ℕ)
of_sub_pairs = (1, 8) ∷ (2, 9) ∷ []

-- ---- An array of Holders, which may be copied where both domains know that class. Its item may not be.

abbrev pub holders : Graph
holders = record {
  heap = named 1 (Array (class_type HOLDER) (Held.Null ∷ Held.Obj 2 ∷ []))
      ∷ named 2 (Plain HOLDER (Held.Int (pos 3) ∷ Held.Int (pos 4) ∷ Held.Null ∷ []))
      ∷ [];
  values = Held.Obj 1 ∷ [];
}

-- ---- Arrays without items: of a type's elements.

abbrev pub empty_array : BaseRef → Object
empty_array base = Array (record { dims = 0; base = base }) []
