-- Worked examples: what a domain has inside before and after methods of system classes. `src/examples.rt` states what the definitions say
-- of them.
use Rattle.std.specs.Prelude.{ℕ, ℤ, pos, List, [], ◌∷◌, map, None, codes}
use Rattle.jk_model.specs.declared.values.Value.{Value}
use Rattle.jk_model.specs.declared.values.Value.TheVariants as Held
use Rattle.jk_model_classes.specs.declared.records.BaseRef.TheVariants as Base
use Rattle.jk_model_classes.specs.declared.records.ClassRecord.{ClassRecord}
use Rattle.jk_model_classes.specs.Classes.{OBJECT}
use Rattle.jk_model_typing.specs.FrameTypes.{STRING, THROWABLE, array_type}
use Rattle.jk_model_frames.specs.Frames.{FrameState}
use Rattle.jk_model_domains.specs.Objects.{NamedObject, Array, Plain, Text, class_type}
use Rattle.jk_model_heaps.specs.ExampleClasses.{system_records}
use Rattle.jk_model_heaps.specs.Heaps.{named}
use Rattle.jk_model_heaps.specs.SystemClasses.{STRING_BUFFER}
use Rattle.jk_model_heaps.specs.Workings.{Inside, Setting}

-- ---- Where the methods run.

abbrev pub classes : List ClassRecord
classes = system_records

-- a heap of so many words
abbrev pub setting : ℕ → Setting
setting quota = record {
  classes = classes;
  caps = record { ranges = []; stand_ins = [] };
  name = codes "a";
  segment = record { 0 = 1 };
  quota = quota;
  chunks = 0;
}

-- a domain with these objects alone
abbrev pub with_objects : List NamedObject → Inside
with_objects heap = record {
  own = record { classes = []; literals = []; out = 0; standing = [] };
  heap = heap;
  heap_at = None;
  stack_at = None;
}

-- ---- A buffer of the text `ab`, which takes 11 words with it, and the same after a 7 was appended.

abbrev pub buffer_before : Inside
buffer_before = with_objects (named 1 (Plain STRING_BUFFER (Held.Obj 2 ∷ [])) ∷ named 2 (Text (codes "ab")) ∷ [])

abbrev pub buffer_after : Inside
buffer_after =
    with_objects
    (named 1 (Plain STRING_BUFFER (Held.Obj 3 ∷ [])) ∷ named 2 (Text (codes "ab")) ∷ named 3 (Text (codes "ab7")) ∷ [])

-- ---- A frame at its fourth instruction, with these entries on its stack.

abbrev pub frame_with : List Value → FrameState
frame_with stack = record {
  head = record { method = None; at = 3; need = None; initialises = None; max_locals = 0; max_stack = 4 };
  locals = [];
  stack = stack;
}

-- ---- An array of ints, and the same after its first three were copied one place further.

abbrev pub ints : List ℕ → List Value
ints items = map (λ (n : ℕ). Held.Int (pos n)) items

abbrev pub with_ints : List ℕ → Inside
with_ints items = with_objects (named 1 (Array (array_type 0 Base.Int) (ints items)) ∷ [])

-- ---- An array of objects, the second of which is no text, and an array of texts that has these items.

abbrev pub objects_and_texts : List Value → Inside
objects_and_texts items =
    with_objects
    (named 1 (Array (class_type OBJECT) (Held.Obj 3 ∷ Held.Obj 4 ∷ Held.Obj 5 ∷ []))
    ∷ named 2 (Array (class_type STRING) items)
    ∷ named 3 (Text (codes "a"))
    ∷ named 4 (Plain OBJECT [])
    ∷ named 5 (Text (codes "b"))
    ∷ [])

-- the arguments of arraycopy
abbrev pub copy_arguments : ℕ → ℤ → ℕ → ℤ → ℤ → List Value
copy_arguments source from target to count =
    Held.Obj source ∷ Held.Int from ∷ Held.Obj target ∷ Held.Int to ∷ Held.Int count ∷ []

-- ---- Texts, one of them empty and one longer than another; the first and the empty one take 10 words.

abbrev pub texts : Inside
texts = with_objects (named 1 (Text (codes "ab")) ∷ named 2 (Text []) ∷ [])

abbrev pub joined_texts : Inside
joined_texts = with_objects (named 1 (Text (codes "ab")) ∷ named 2 (Text []) ∷ named 3 (Text (codes "ab")) ∷ [])

abbrev pub unlike_texts : Inside
unlike_texts = with_objects (named 1 (Text (codes "ac")) ∷ named 2 (Text (codes "abc")) ∷ named 3 (Text (codes "a")) ∷ [])

-- ---- The buffer of the text `ab` after null was appended.

abbrev pub buffer_with_null : Inside
buffer_with_null =
    with_objects
    (named 1 (Plain STRING_BUFFER (Held.Obj 3 ∷ [])) ∷ named 2 (Text (codes "ab")) ∷ named 3 (Text (codes "abnull")) ∷ [])

-- ---- A buffer without a text, which takes 5 words, the same with an empty text beside it, and after a 7 was appended.

abbrev pub bare_buffer : Inside
bare_buffer = with_objects (named 1 (Plain STRING_BUFFER (Held.Null ∷ [])) ∷ [])

abbrev pub bare_and_empty : Inside
bare_and_empty = with_objects (named 1 (Plain STRING_BUFFER (Held.Null ∷ [])) ∷ named 2 (Text []) ∷ [])

abbrev pub bare_and_seven : Inside
bare_and_seven = with_objects (named 1 (Plain STRING_BUFFER (Held.Obj 2 ∷ [])) ∷ named 2 (Text (codes "7")) ∷ [])

-- ---- A new buffer and a text, and the same after the buffer was begun with the text.

abbrev pub new_buffer : Inside
new_buffer = with_objects (named 1 (Plain STRING_BUFFER (Held.Null ∷ [])) ∷ named 2 (Text (codes "ab")) ∷ [])

-- ---- A throwable without a message.

abbrev pub no_message : Inside
no_message = with_objects (named 1 (Plain THROWABLE (Held.Null ∷ [])) ∷ [])

-- ---- Arrays of four ints, two truth values, two bytes, two objects and two texts, and a text. The second of the objects is an array.

abbrev pub arrays : Inside
arrays =
    with_objects
    (named 1 (Array (array_type 0 Base.Int) (ints (1 ∷ 2 ∷ 3 ∷ 4 ∷ [])))
    ∷ named 2 (Array (array_type 0 Base.Bool) (ints (0 ∷ 1 ∷ [])))
    ∷ named 3 (Array (array_type 0 Base.Byte) (ints (0 ∷ 1 ∷ [])))
    ∷ named 4 (Array (class_type OBJECT) (Held.Obj 6 ∷ Held.Obj 1 ∷ []))
    ∷ named 5 (Array (class_type STRING) (Held.Null ∷ Held.Null ∷ []))
    ∷ named 6 (Text (codes "a"))
    ∷ [])

-- the arguments of arraycopy, whatever the first and the third are
abbrev pub copy_of : Value → ℤ → Value → ℤ → ℤ → List Value
copy_of source from target to count = source ∷ Held.Int from ∷ target ∷ Held.Int to ∷ Held.Int count ∷ []
