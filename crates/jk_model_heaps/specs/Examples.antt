-- Worked examples: interfaces, one of them remote, and classes that implement them; capabilities of two domains; a heap with an object of
-- each sort; a domain as it begins; and a called frame. `src/examples.rt` states what the definitions say of them.
use Rattle.std.specs.Prelude.{ℕ, ◌+◌, Bool, true, false, pos, List, [], ◌∷◌, ◌++◌, Some, None, codes}
use Rattle.jk_model.specs.Flags.{ABSTRACT, INTERFACE, PUBLIC}
use Rattle.jk_model.specs.declared.identifiers.ClassId.{ClassId}
use Rattle.jk_model.specs.declared.identifiers.MemberId.{MemberId}
use Rattle.jk_model.specs.declared.values.Value.{Value}
use Rattle.jk_model.specs.declared.values.Value.TheVariants as Held
use Rattle.jk_model_classes.specs.declared.records.BaseRef.TheVariants as Base
use Rattle.jk_model_classes.specs.declared.records.ClassRecord.{ClassRecord}
use Rattle.jk_model_classes.specs.declared.records.LinkedCode.{LinkedCode}
use Rattle.jk_model_classes.specs.declared.records.TypeRef.{TypeRef}
use Rattle.jk_model_classes.specs.Classes.{OBJECT}
use Rattle.jk_model_typing.specs.FrameTypes.{array_type}
use Rattle.jk_model_frames.specs.Frames.{FrameState}
use Rattle.jk_model_domains.specs.NumberRows.{ARITHMETIC_EXCEPTION}
use Rattle.jk_model_domains.specs.Objects.{NamedObject, Array, Plain, Task, Text, PRINT_STREAM}
use Rattle.jk_model_heaps.specs.Capabilities.{CapRange, Capability, KnownCapabilities}
use Rattle.jk_model_heaps.specs.ExampleClasses.{system_records}
use Rattle.jk_model_heaps.specs.Heaps.{named}
use Rattle.jk_model_heaps.specs.SystemClasses.{NOT_COPIABLE_EXCEPTION, OUT_OF_MEMORY_ERROR, QUOTA_EXCEPTION, REMOTE, REMOTE_EXCEPTION, REVOKED_EXCEPTION, SECURITY_EXCEPTION, STACK_OVERFLOW_ERROR, THREAD_DEATH}
use Rattle.jk_model_heaps.specs.Workings.{Inside, Setting}

-- ---- Classes: those of the system, and after them an interface that is remote and one that isn't, a class that implements both, and a
-- class below that.

abbrev class_with : List ℕ → ℕ → ClassId → List ClassId → ClassRecord
class_with name flags parent interfaces = record {
  name = name;
  home = Some (record { 0 = 0 });
  flags = flags;
  parent = Some parent;
  interfaces = interfaces;
  fields = [];
  methods = [];
  links = [];
  references = [];
}

abbrev pub BOX : ClassId
BOX = record { 0 = 45 }

abbrev pub MARK : ClassId
MARK = record { 0 = 46 }

abbrev pub IMPL : ClassId
IMPL = record { 0 = 47 }

abbrev pub LOWER : ClassId
LOWER = record { 0 = 48 }

abbrev pub box : ClassRecord
box = class_with (codes "Box") (PUBLIC + INTERFACE + ABSTRACT) OBJECT (REMOTE ∷ [])

abbrev pub mark : ClassRecord
mark = class_with (codes "Mark") (PUBLIC + INTERFACE + ABSTRACT) OBJECT []

abbrev pub impl : ClassRecord
impl = class_with (codes "Impl") PUBLIC OBJECT (BOX ∷ MARK ∷ [])

abbrev pub lower : ClassRecord
lower = class_with (codes "Lower") PUBLIC IMPL []

abbrev pub classes : List ClassRecord
classes = system_records ++ box ∷ mark ∷ impl ∷ lower ∷ []

abbrev pub array_of : ℕ → ClassId → TypeRef
array_of dims c = array_type dims (Base.Class c)

-- ---- Capabilities. The first domain has the numbers 0 and 1 and has made both, one of them for an object of a class that isn't there. The
-- second has the numbers 2 to 4 and has made one, which is revoked.

-- a class that isn't there
abbrev pub ELSEWHERE : ClassId
ELSEWHERE = record { 0 = 99 }

abbrev capability_of : ClassId → Bool → Capability
capability_of class revoked = record { target = 7; class = class; revoked = revoked }

abbrev pub ranges : List CapRange
ranges =
    record { owner = record { 0 = 0 }; first = 0; count = 2; made = capability_of IMPL false ∷ capability_of ELSEWHERE false ∷ [] }
    ∷ record { owner = record { 0 = 1 }; first = 2; count = 3; made = capability_of IMPL true ∷ [] }
    ∷ []

-- what stands in for the class that isn't there, and for one that is there, which nobody asks
abbrev pub known : KnownCapabilities
known = record {
  ranges = ranges;
  stand_ins = record { class = ELSEWHERE; interfaces = BOX ∷ [] } ∷ record { class = IMPL; interfaces = MARK ∷ [] } ∷ [];
}

-- ---- An object of a class, an array of such objects, a text and a handle of a segment.

abbrev pub one_of_each : List NamedObject
one_of_each =
    named 1 (Plain IMPL [])
    ∷ named 2 (Array (array_of 0 IMPL) [])
    ∷ named 3 (Text (codes "text"))
    ∷ named 4 (Task (record { 0 = 1 }))
    ∷ []

-- ---- A domain as it begins: with its PrintStream, and the standing throwables under the names 1 to 8. They take 44 words.

abbrev pub throwable_named : ℕ → ClassId → NamedObject
throwable_named a c = named a (Plain c (Held.Null ∷ []))

abbrev pub first_inside : Inside
first_inside = record {
  own = record { classes = []; literals = []; out = 0; standing = 1 ∷ 2 ∷ 3 ∷ 4 ∷ 5 ∷ 6 ∷ 7 ∷ 8 ∷ [] };
  heap =
      named 0 (Plain PRINT_STREAM [])
      ∷ throwable_named 1 OUT_OF_MEMORY_ERROR
      ∷ throwable_named 2 STACK_OVERFLOW_ERROR
      ∷ throwable_named 3 REVOKED_EXCEPTION
      ∷ throwable_named 4 QUOTA_EXCEPTION
      ∷ throwable_named 5 NOT_COPIABLE_EXCEPTION
      ∷ throwable_named 6 REMOTE_EXCEPTION
      ∷ throwable_named 7 THREAD_DEATH
      ∷ throwable_named 8 SECURITY_EXCEPTION
      ∷ [];
  heap_at = None;
  stack_at = None;
}

-- the same with an ArithmeticException as well
abbrev pub with_exception : Inside
with_exception = record first_inside { heap = first_inside.heap ++ throwable_named 9 ARITHMETIC_EXCEPTION ∷ [] }

-- a heap of so many words
abbrev pub setting : ℕ → Setting
setting quota = record {
  classes = classes;
  caps = known;
  name = codes "a";
  segment = record { 0 = 1 };
  quota = quota;
  chunks = 0;
}

-- ---- A call with an int, a long and an int.

abbrev pub CALLED : MemberId
CALLED = record { class = IMPL; index = 0 }

-- with room for so many locals
abbrev pub code_with : ℕ → LinkedCode
code_with max_locals = record { max_stack = 2; max_locals = max_locals; instrs = []; handlers = [] }

abbrev pub int_long_int : List Value
int_long_int = Held.Int (pos 1) ∷ Held.Long (pos 2) ∷ Held.Int (pos 3) ∷ []

-- the frame as it begins, with these locals
abbrev pub begun_with : ℕ → List Value → FrameState
begun_with max_locals locals = record {
  head = record { method = Some CALLED; at = 0; need = None; initialises = None; max_locals = max_locals; max_stack = 2 };
  locals = locals;
  stack = [];
}
