-- What a start finds, the array of its words, and the one frame of its first segment.
use Rattle.std.specs.Prelude.{◌≡◌, ℕ, ◌+◌, List, [], ◌∷◌, map, Some}
use Rattle.jk_model.specs.declared.frames.FrameHead.{FrameHead}
use Rattle.jk_model.specs.declared.identifiers.ClassId.{ClassId}
use Rattle.jk_model.specs.declared.identifiers.DomainId.{DomainId}
use Rattle.jk_model.specs.declared.identifiers.MemberId.{MemberId}
use Rattle.jk_model.specs.declared.identifiers.SegmentNo.{SegmentNo}
use Rattle.jk_model.specs.declared.values.Value.{Value}
use Rattle.jk_model.specs.declared.values.Value.TheVariants as Held
use Rattle.jk_model_classes.specs.declared.records.ClassRecord.{ClassRecord}
use Rattle.jk_model_classes.specs.declared.records.LinkedCode.{LinkedCode}
use Rattle.jk_model_typing.specs.FrameTypes.{STRING}
use Rattle.jk_model_domains.specs.Objects.{Array, NamedObject, Object, Text, class_type}
use Rattle.jk_model_frames.specs.Frames.{called_frame, segment_chunks}
use Rattle.jk_model_heaps.specs.CalledFrames.{call_head}
use Rattle.jk_model_heaps.specs.Heaps.{named}
use Rattle.jk_model_machine_state.specs.Machines.{Machine}
use Rattle.jk_model_runs.specs.Starts.{HasMain, HasManyThreads, IsMain, LacksChunks, LacksWords, StartWords}
use Rattle.frame_store.specs.FrameContents.{Changes, FrameContent}
use Rattle.object_store.specs.HeapContents.{HeapContent}
use Rattle.heap_loops.specs.ObjectsMade.{MakesObjects}

-- ---- The frame with which a thread begins.

-- it begins the method, and needs the class first
abbrev pub first_head : ClassId → MemberId → LinkedCode → FrameHead
first_head class main code = record (call_head main code) { need = Some class }

-- This is the head of the frame that begins the `main` of the class.
pub record BeginsMain (m : Machine) (class : ClassId) (head : FrameHead) : Type 0 where
  pub main : MemberId
  pub code : LinkedCode
  pub is_main : IsMain m class main code
  pub head_is : head ≡ first_head class main code

abbrev pub HasNoMain : Machine → ClassId → Type 0
HasNoMain m class = (main : MemberId) (code : LinkedCode) → IsMain m class main code → ⊥

-- No rule refuses the start, and its thread's first frame has this head, in this domain.
pub record MayStart (m : Machine) (start : StartWords) (d : DomainId) (head : FrameHead) : Type 0 where
  pub has_main : HasMain m start
  pub few : HasManyThreads m has_main.in_class.in_domain.domain → ⊥
  pub words : LacksWords m has_main.in_class.in_domain.domain has_main.in_class.in_domain.inside start.words → ⊥
  pub chunks : LacksChunks m has_main.in_class.in_domain.domain has_main.main has_main.code → ⊥
  pub number : has_main.in_class.in_domain.domain.number ≡ d
  pub head_is : head ≡ first_head has_main.in_class.class has_main.main has_main.code

-- ---- What is made in the stores.

abbrev pub object_in : NamedObject → Object
object_in e = e.object

abbrev pub value_of : NamedObject → Value
value_of e = Held.Obj e.name

-- the array of this name, with these texts as its items
abbrev pub words_array : ℕ → List NamedObject → NamedObject
words_array array texts = named array (Array (class_type STRING) (map value_of texts))

-- A text is made for each word, and an array of them under this name.
pub record MakesStartWords (old new : HeapContent) (classes : List ClassRecord) (d : DomainId) (words : List (List ℕ)) (array : ℕ) : Type 0 where
  pub texts : List NamedObject
  pub are_words : map object_in texts ≡ map Text words
  pub makes : MakesObjects old new classes d (words_array array texts ∷ texts)

-- A segment of a domain begins with one frame, whose first local is this value.
abbrev pub BeginsSegment : FrameContent → FrameContent → DomainId → SegmentNo → FrameHead → Value → Type 0
BeginsSegment old new d s head v =
    Changes old new s d (Some (record { domain = d; frames = called_frame head (v ∷ []) ∷ [] }))
    (old.used d + segment_chunks (called_frame head (v ∷ []) ∷ []))
