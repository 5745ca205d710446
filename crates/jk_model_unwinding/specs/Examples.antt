-- Worked examples: a class with methods that catch, an interface, a throwable that implements it, and segments with initialiser frames on
-- top. `src/examples.rt` states what the definitions say of them.
use Rattle.std.specs.Prelude.{ℕ, ◌+◌, pos, List, [], ◌∷◌, ◌++◌, Some, None, codes}
use Rattle.jk_model.specs.declared.identifiers.ClassId.{ClassId}
use Rattle.jk_model.specs.declared.opcodes.TheConstants.{NOP}
use Rattle.jk_model.specs.declared.values.Value.{Value}
use Rattle.jk_model.specs.declared.values.Value.TheVariants as Held
use Rattle.jk_model.specs.Flags.{ABSTRACT, INTERFACE, STATIC}
use Rattle.jk_model.specs.Instructions.{plain}
use Rattle.jk_model.specs.SystemTable.{public}
use Rattle.jk_model_classes.specs.declared.records.Body.TheVariants.{Linked}
use Rattle.jk_model_classes.specs.declared.records.Caught.{Caught}
use Rattle.jk_model_classes.specs.declared.records.ClassRecord.{ClassRecord}
use Rattle.jk_model_classes.specs.declared.records.LinkedCode.{LinkedCode}
use Rattle.jk_model_classes.specs.declared.records.MethodRecord.{MethodRecord}
use Rattle.jk_model_classes.specs.Classes.{OBJECT}
use Rattle.jk_model_frames.specs.Frames.{FrameState}
use Rattle.jk_model_domains.specs.declared.states.ClassState.{ClassState}
use Rattle.jk_model_domains.specs.NumberRows.{ARITHMETIC_EXCEPTION}
use Rattle.jk_model_domains.specs.Objects.{NamedObject, Plain}
use Rattle.jk_model_domains.specs.OwnStates.{ClassPart}
use Rattle.jk_model_heaps.specs.ExampleClasses.{system_records}
use Rattle.jk_model_heaps.specs.Heaps.{named}
use Rattle.jk_model_heaps.specs.SystemClasses.{EXCEPTION_IN_INITIALIZER_ERROR, OUT_OF_MEMORY_ERROR}
use Rattle.jk_model_heaps.specs.Workings.{Inside, Setting}

-- ---- Classes: those of the system, whose fields are texts here and which have no interfaces and methods, and four more.

-- java/lang/RuntimeException
abbrev pub RUNTIME_EXCEPTION : ClassId
RUNTIME_EXCEPTION = record { 0 = 17 }

abbrev pub MAIN : ClassId
MAIN = record { 0 = 45 }

abbrev pub MARK : ClassId
MARK = record { 0 = 46 }

abbrev pub MINE : ClassId
MINE = record { 0 = 47 }

abbrev pub LOWER : ClassId
LOWER = record { 0 = 48 }

-- over the first instruction, to this place
abbrev pub handler : ClassId → ℕ → Caught
handler c place = record { start = 0; end = 1; handler = place; class = Some c }

-- the same without a class
abbrev pub handler_of_any : ℕ → Caught
handler_of_any place = record { start = 0; end = 1; handler = place; class = None }

-- three instructions
abbrev pub code : List Caught → LinkedCode
code handlers = record {
  max_stack = 1;
  max_locals = 0;
  instrs = plain 0 NOP (pos 0) (pos 0) ∷ plain 1 NOP (pos 0) (pos 0) ∷ plain 2 NOP (pos 0) (pos 0) ∷ [];
  handlers = handlers;
}

-- catches at the second instruction what is a RuntimeException, and at the third what is an ArithmeticException
abbrev pub careful : LinkedCode
careful = code (handler RUNTIME_EXCEPTION 1 ∷ handler ARITHMETIC_EXCEPTION 2 ∷ [])

-- catches at the third what an initialiser failed by
abbrev pub initialising : LinkedCode
initialising = code (handler EXCEPTION_IN_INITIALIZER_ERROR 2 ∷ [])

-- catches at the second instruction what implements an interface
abbrev pub marking : LinkedCode
marking = code (handler MARK 1 ∷ [])

-- the same, and at the third all else
abbrev pub sweeping : LinkedCode
sweeping = code (handler MARK 1 ∷ handler_of_any 2 ∷ [])

-- catches at the second what an initialiser failed by, and at the third want of memory
abbrev pub sparing : LinkedCode
sparing = code (handler EXCEPTION_IN_INITIALIZER_ERROR 1 ∷ handler OUT_OF_MEMORY_ERROR 2 ∷ [])

abbrev pub method : List ℕ → LinkedCode → MethodRecord
method name body = record {
  name = name;
  flags = STATIC;
  kind = record { params = []; result = None };
  params = [];
  result = None;
  body = Linked body;
}

abbrev class_with : List ℕ → ℕ → ClassId → List ClassId → List MethodRecord → ClassRecord
class_with name flags parent interfaces methods = record {
  name = name;
  home = Some (record { 0 = 0 });
  flags = flags;
  parent = Some parent;
  interfaces = interfaces;
  fields = [];
  methods = methods;
  links = [];
  references = [];
}

abbrev pub main : ClassRecord
main =
    class_with (codes "Main") public OBJECT []
    (method (codes "careful") careful
    ∷ method (codes "initialising") initialising
    ∷ method (codes "marking") marking
    ∷ method (codes "sweeping") sweeping
    ∷ method (codes "sparing") sparing
    ∷ [])

-- an interface, a throwable that implements it, and a class below the first one
abbrev pub classes : List ClassRecord
classes =
    system_records
    ++ main
    ∷ class_with (codes "Mark") (public + INTERFACE + ABSTRACT) OBJECT [] []
    ∷ class_with (codes "Mine") public RUNTIME_EXCEPTION (MARK ∷ []) []
    ∷ class_with (codes "Lower") public MAIN [] []
    ∷ []

-- ---- Frames.

-- of a method of the class, at an instruction, with these entries on its stack
abbrev pub frame : ℕ → ℕ → List Value → FrameState
frame index at stack = record {
  head = record {
    method = Some (record { class = MAIN; index = index });
    at = at;
    need = None;
    initialises = None;
    max_locals = 0;
    max_stack = 1;
  };
  locals = [];
  stack = stack;
}

-- the initialiser frame of the class, which has no `<clinit>`, and needs java/lang/Object
abbrev pub initialiser : FrameState
initialiser = record {
  head = record { method = None; at = 0; need = Some OBJECT; initialises = Some MAIN; max_locals = 0; max_stack = 0 };
  locals = [];
  stack = [];
}

-- that of the class below it, which needs it first
abbrev pub lower_initialiser : FrameState
lower_initialiser = record {
  head = record { method = None; at = 0; need = Some MAIN; initialises = Some LOWER; max_locals = 0; max_stack = 0 };
  locals = [];
  stack = [];
}

-- ---- A domain in which the class has a state, with throwables of these classes, which are named from 1 on and have no message.

abbrev pub part : ClassState → ClassPart
part state = record { class = MAIN; state = state; statics = [] }

abbrev pub thrown : ℕ → ClassId → NamedObject
thrown a c = named a (Plain c (Held.Null ∷ []))

abbrev pub domain : ClassState → List NamedObject → Inside
domain state heap = record {
  own = record { classes = part state ∷ []; literals = []; out = 0; standing = [] };
  heap = heap;
  heap_at = None;
  stack_at = None;
}

-- the same where the object 2 is the standing OutOfMemoryError
abbrev pub standing_domain : ClassState → List NamedObject → Inside
standing_domain state heap = record (domain state heap) { own = record (domain state heap).own { standing = 2 ∷ [] } }

-- the same where the class below it has that state too
abbrev pub two_classes : ClassState → List NamedObject → Inside
two_classes state heap =
    record (domain state heap) {
      own = record (domain state heap).own { classes = part state ∷ record (part state) { class = LOWER } ∷ [] };
    }

-- a heap of so many words
abbrev pub setting : ℕ → Setting
setting quota = record {
  classes = classes;
  caps = record { ranges = []; stand_ins = [] };
  name = codes "a";
  segment = record { 0 = 1 };
  quota = quota;
  chunks = 0;
}
