-- Worked examples: a thread of ann, whose domain has so many steps left, with flags of its segment; one in which ann called bob; and starts in ann.
-- `src/examples.rt` says what the definitions make of them.
use Rattle.std.specs.Prelude.{ℕ, true, ◌+◌, List, [], ◌∷◌, ◌++◌, Some, None, codes, replicate}
use Rattle.jk_model.specs.Flags.{PUBLIC, STATIC}
use Rattle.jk_model.specs.declared.descriptors.Base.TheVariants as Written
use Rattle.jk_model.specs.declared.identifiers.ClassId.{ClassId}
use Rattle.jk_model_classes.specs.declared.records.Body.TheVariants as Does
use Rattle.jk_model_classes.specs.declared.records.ClassRecord.{ClassRecord}
use Rattle.jk_model_classes.specs.declared.records.LinkedCode.{LinkedCode}
use Rattle.jk_model_classes.specs.declared.records.MethodRecord.{MethodRecord}
use Rattle.jk_model_classes.specs.Classes.{OBJECT}
use Rattle.jk_model_typing.specs.FrameTypes.{STRING, array_type}
use Rattle.jk_model_classes.specs.declared.records.BaseRef.TheVariants as Base
use Rattle.jk_model_frames.specs.Frames.{FrameState}
use Rattle.jk_model_unwinding.specs.Examples.{frame}
use Rattle.jk_model_sharing.specs.Examples.{ann, bob, quotas, segment}
use Rattle.jk_model_sharing.specs.Segments.{SharedSegment, with_stop}
use Rattle.jk_model_machine_state.specs.Machines.{DomainState, Machine}
use Rattle.jk_model_crossings.specs.Examples.{ann_with, bob_with, calling, class_below, classes, machine_with, meaning, thread_with, with_frames}
use Rattle.jk_model_runs.specs.Starts.{StartWords}

-- ---- Steps.

-- of nine that it might take in all, so many are left
abbrev pub with_steps : ℕ → DomainState → DomainState
with_steps n d = record d { quotas = record d.quotas { steps = Some 9 }; steps_left = Some n }

-- a frame that needs java/lang/Object, which is done; it catches nothing
abbrev pub needing : FrameState
needing = record (frame 1 0 []) { head = record (frame 1 0 []).head { need = Some OBJECT } }

-- ann's one segment is this, with such a frame
abbrev pub stepping : ℕ → SharedSegment → Machine
stepping n shared = machine_with (with_steps n (ann_with []) ∷ []) (thread_with (with_frames shared (needing ∷ []) ∷ []) ∷ [])

-- ann has so many steps left and bob one; bob's segment, which ann called, is to be stopped
abbrev pub stopped_callee : ℕ → Machine
stopped_callee n = machine_with (with_steps n (ann_with []) ∷ with_steps 1 (bob_with []) ∷ [])
    (thread_with (with_frames (segment 1 ann) (calling [] ∷ []) ∷ with_frames (with_stop true (segment 2 bob)) (needing ∷ []) ∷ []) ∷ [])

-- ---- Starts of the class Go, with the number 52, which ann knows. Its `main` has one local and no code that an example would run.

abbrev pub GO : ClassId
GO = record { 0 = 52 }

abbrev pub main_code : LinkedCode
main_code = record { max_stack = 0; max_locals = 1; instrs = []; handlers = [] }

abbrev pub main : MethodRecord
main = record {
  name = codes "main";
  flags = PUBLIC + STATIC;
  kind = record { params = record { dims = 1; base = Written.Class (codes "java/lang/String") } ∷ []; result = None };
  params = array_type 1 (Base.Class STRING) ∷ [];
  result = None;
  body = Does.Linked main_code;
}

abbrev pub go : ClassRecord
go = class_below OBJECT (codes "Go") PUBLIC [] (main ∷ [])

-- ann may have so many threads, none of which lives, and so many chunks; of its 64 words 20 are free
abbrev pub startable : ℕ → ℕ → Machine
startable threads chunks =
    record (machine_with (record (ann_with []) {
      quotas = record quotas { threads = threads; chunks = chunks };
      table = meaning (codes "Go") GO ∷ [];
    } ∷ []) []) { classes = classes ++ go ∷ [] }

abbrev pub start_of : List ℕ → List ℕ → List (List ℕ) → StartWords
start_of domain class words = record { domain = domain; class = class; words = words }

-- four words of one unit: the array takes 8 words, and each text 5
abbrev pub four_words : List (List ℕ)
four_words = replicate 4 (codes "w")
