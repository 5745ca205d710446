-- Worked examples: three domains ann, bob and cid and a thread with segments of theirs, whose frames stand at an instruction that no handler
-- covers; and a thread of ann that calls a capability of ann. `src/examples.rt` says what the definitions make of them.
use Rattle.std.specs.Prelude.{ℕ, ◌+◌, ◌*◌, false, List, [], ◌∷◌, ◌++◌, Some, None, codes, replicate}
use Rattle.jk_model.specs.Flags.{ABSTRACT, INTERFACE, PUBLIC}
use Rattle.jk_model.specs.declared.descriptors.Base.TheVariants as Written
use Rattle.jk_model.specs.declared.identifiers.ClassId.{ClassId}
use Rattle.jk_model.specs.declared.identifiers.DomainId.{DomainId}
use Rattle.jk_model.specs.declared.identifiers.MemberId.{MemberId}
use Rattle.jk_model.specs.declared.identifiers.ThreadNo.{ThreadNo}
use Rattle.jk_model.specs.declared.values.Value.{Value}
use Rattle.jk_model.specs.declared.values.Value.TheVariants as Held
use Rattle.jk_model_classes.specs.declared.records.Body.{Body}
use Rattle.jk_model_classes.specs.declared.records.Body.TheVariants as Does
use Rattle.jk_model_classes.specs.declared.records.ClassRecord.{ClassRecord}
use Rattle.jk_model_classes.specs.declared.records.LinkedCode.{LinkedCode}
use Rattle.jk_model_classes.specs.declared.records.MethodRecord.{MethodRecord}
use Rattle.jk_model_classes.specs.Classes.{OBJECT}
use Rattle.jk_model_classes.specs.Worlds.{NamedClass}
use Rattle.jk_model_typing.specs.FrameTypes.{STRING}
use Rattle.jk_model_domains.specs.Objects.{NamedObject, PRINT_STREAM, Plain, Text, class_type}
use Rattle.jk_model_frames.specs.Frames.{FrameState, called_frame}
use Rattle.jk_model_heaps.specs.CalledFrames.{call_head}
use Rattle.jk_model_heaps.specs.Capabilities.{CapRange, Capability}
use Rattle.jk_model_heaps.specs.Heaps.{named}
use Rattle.jk_model_heaps.specs.SystemClasses.{NOT_COPIABLE_EXCEPTION, OUT_OF_MEMORY_ERROR, QUOTA_EXCEPTION, REMOTE, REMOTE_EXCEPTION, REVOKED_EXCEPTION, SECURITY_EXCEPTION, STACK_OVERFLOW_ERROR, THREAD_DEATH}
use Rattle.jk_model_heaps.specs.Workings.{Inside}
use Rattle.jk_model_unwinding.specs.Examples.{MAIN, frame, thrown}
use Rattle.jk_model_unwinding.specs.Examples.{classes as classes_of_frames}
use Rattle.jk_model_sharing.specs.Examples.{ann, bob, cid, quotas, segment}
use Rattle.jk_model_sharing.specs.Segments.{SharedSegment}
use Rattle.jk_model_machine_state.specs.Machines.{DomainState, Machine, Segment, Thread}

-- ---- Classes: those of the examples on handlers, and three more, with the numbers 46 to 48.

-- java/lang/Exception
abbrev pub EXCEPTION : ClassId
EXCEPTION = record { 0 = 15 }

abbrev pub BOOM : ClassId
BOOM = record { 0 = 49 }

abbrev pub ECHO : ClassId
ECHO = record { 0 = 50 }

abbrev pub SERVER : ClassId
SERVER = record { 0 = 51 }

abbrev pub class_below : ClassId → List ℕ → ℕ → List ClassId → List MethodRecord → ClassRecord
class_below parent name flags interfaces methods = record {
  name = name;
  home = Some ann;
  flags = flags;
  parent = Some parent;
  interfaces = interfaces;
  fields = [];
  methods = methods;
  links = [];
  references = [];
}

-- void echo(String)
abbrev pub echo_with : ℕ → Body → MethodRecord
echo_with flags body = record {
  name = codes "echo";
  flags = flags;
  kind = record { params = record { dims = 0; base = Written.Class (codes "java/lang/String") } ∷ []; result = None };
  params = class_type STRING ∷ [];
  result = None;
  body = body;
}

-- which no example runs
abbrev pub echo_code : LinkedCode
echo_code = record { max_stack = 1; max_locals = 2; instrs = []; handlers = [] }

-- class Boom extends Exception { }
abbrev pub boom : ClassRecord
boom = class_below EXCEPTION (codes "Boom") PUBLIC [] []

-- interface Echo extends jk.Remote { void echo(String s); } and class Server implements Echo, both public
abbrev pub echo : ClassRecord
echo = class_below OBJECT (codes "Echo") (PUBLIC + INTERFACE + ABSTRACT) (REMOTE ∷ []) (echo_with (PUBLIC + ABSTRACT) Does.Absent ∷ [])

abbrev pub server : ClassRecord
server = class_below OBJECT (codes "Server") PUBLIC (ECHO ∷ []) (echo_with PUBLIC (Does.Linked echo_code) ∷ [])

abbrev pub classes : List ClassRecord
classes = classes_of_frames ++ boom ∷ echo ∷ server ∷ []

-- ---- Domains. Each has 64 words, of which its PrintStream and its standing throwables take 44, and knows the first of these classes.

abbrev pub opening_heap : List NamedObject
opening_heap =
    named 0 (Plain PRINT_STREAM [])
    ∷ thrown 1 OUT_OF_MEMORY_ERROR
    ∷ thrown 2 STACK_OVERFLOW_ERROR
    ∷ thrown 3 REVOKED_EXCEPTION
    ∷ thrown 4 QUOTA_EXCEPTION
    ∷ thrown 5 NOT_COPIABLE_EXCEPTION
    ∷ thrown 6 REMOTE_EXCEPTION
    ∷ thrown 7 THREAD_DEATH
    ∷ thrown 8 SECURITY_EXCEPTION
    ∷ []

abbrev pub inside_with : List NamedObject → Inside
inside_with more = record {
  own = record { classes = []; literals = []; out = 0; standing = 1 ∷ 2 ∷ 3 ∷ 4 ∷ 5 ∷ 6 ∷ 7 ∷ 8 ∷ [] };
  heap = opening_heap ++ more;
  heap_at = None;
  stack_at = None;
}

abbrev pub meaning : List ℕ → ClassId → NamedClass
meaning name class = record { name = name; class = class }

abbrev pub range_with : DomainId → List Capability → CapRange
range_with d made = record { owner = d; first = 1 + 2 * d.0; count = 2; made = made }

-- with these objects beside those of its opening
abbrev pub domain_with : DomainId → List ℕ → List NamedObject → DomainState
domain_with d name more = record {
  number = d;
  name = name;
  quotas = quotas;
  steps_left = None;
  table = meaning (codes "Main") MAIN ∷ [];
  offers = [];
  caps = range_with d [];
  inside = Some (inside_with more);
}

abbrev pub ann_with : List NamedObject → DomainState
ann_with more = domain_with ann (codes "ann") more

abbrev pub bob_with : List NamedObject → DomainState
bob_with more = domain_with bob (codes "bob") more

-- it knows Boom too
abbrev pub cid_with : List NamedObject → DomainState
cid_with more = record (domain_with cid (codes "cid") more) { table = meaning (codes "Main") MAIN ∷ meaning (codes "Boom") BOOM ∷ [] }

-- ---- Machines, with one thread or none.

abbrev pub one : ThreadNo
one = record { 0 = 1 }

abbrev pub thread_with : List Segment → Thread
thread_with segments = record { number = one; domain = ann; segments = segments }

abbrev pub machine_with : List DomainState → List Thread → Machine
machine_with domains threads = record {
  heap_pages = None;
  stack_pages = None;
  classes = classes;
  domains = domains;
  names = [];
  threads = threads;
  next_thread = 2;
  next_segment = 4;
}

abbrev pub with_frames : SharedSegment → List FrameState → Segment
with_frames shared frames = record { shared = shared; frames = frames }

-- a frame that has called, with these entries on its stack: no handler covers its place
abbrev pub calling : List Value → FrameState
calling stack = frame 1 1 stack

-- ---- A thread of ann alone: the capability 1, for a Server, stands on its stack, and a text of one unit above it.

abbrev pub server_of_ann : Capability
server_of_ann = record { target = 9; class = SERVER; revoked = false }

abbrev pub text : ℕ → ℕ → NamedObject
text a n = named a (Text (replicate n 97))

abbrev pub ann_serving : List NamedObject → DomainState
ann_serving more = record (ann_with (named 9 (Plain SERVER []) ∷ text 10 1 ∷ more)) { caps = range_with ann (server_of_ann ∷ []) }

abbrev pub calls_itself : Machine
calls_itself = machine_with (ann_serving [] ∷ [])
    (thread_with (with_frames (segment 1 ann) (calling (Held.Cap (record { 0 = 1 }) ∷ Held.Obj 10 ∷ []) ∷ []) ∷ []) ∷ [])

-- the method of Echo, and that of Server
abbrev pub echo_of : ClassId → MemberId
echo_of c = record { class = c; index = 0 }

-- a frame of Server's method on the copy of the text, on top of the thread
abbrev pub called_itself : Machine
called_itself = record (machine_with (ann_serving (text 11 1 ∷ []) ∷ [])
    (thread_with (with_frames (segment 1 ann) (calling [] ∷ [])
    ∷ with_frames (segment 4 ann) (called_frame (call_head (echo_of SERVER) echo_code) (Held.Obj 9 ∷ Held.Obj 11 ∷ []) ∷ []) ∷ []) ∷ []))
    { next_segment = 5 }
