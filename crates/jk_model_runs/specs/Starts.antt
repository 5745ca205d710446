-- A start, as a relation: which line it prints, and to which machine it leads. There is one case a rule, in the order of the rules S1 to S6,
-- and each holds only where those before it don't.
use Rattle.std.specs.Prelude.{◌≡◌, ℕ, suc, ◌+◌, ◌<◌, ◌≤◌, ◌&&◌, IsTrue, List, [], ◌∷◌, ◌++◌, length, map, sum_by, Some, None, codes}
use Rattle.jk_model.specs.declared.descriptors.MethodType.{MethodType}
use Rattle.jk_model.specs.declared.identifiers.ClassId.{ClassId}
use Rattle.jk_model.specs.declared.identifiers.DomainId.{DomainId}
use Rattle.jk_model.specs.declared.identifiers.MemberId.{MemberId}
use Rattle.jk_model.specs.declared.output.Line.{Line}
use Rattle.jk_model.specs.declared.output.Line.TheVariants.{Started, StartRefused}
use Rattle.jk_model.specs.declared.values.Value.TheVariants as Held
use Rattle.jk_model.specs.Descriptors.{IsMethodText}
use Rattle.jk_model.specs.Flags.{has, PUBLIC, STATIC}
use Rattle.jk_model_classes.specs.declared.records.Body.TheVariants as Does
use Rattle.jk_model_classes.specs.declared.records.LinkedCode.{LinkedCode}
use Rattle.jk_model_classes.specs.declared.records.MethodRecord.{MethodRecord}
use Rattle.jk_model_classes.specs.Layouts.{HEADER_WORDS}
use Rattle.jk_model_classes.specs.Lookups.{FindsMethod, MethodIs}
use Rattle.jk_model_classes.specs.Worlds.{class_named}
use Rattle.jk_model_typing.specs.FrameTypes.{STRING}
use Rattle.jk_model_domains.specs.Objects.{NamedObject, Array, Text, class_type}
use Rattle.jk_model_frames.specs.Frames.{FrameState, head_chunks}
use Rattle.jk_model_heaps.specs.CalledFrames.{IsCalledFrame, call_head}
use Rattle.jk_model_heaps.specs.Heaps.{Lacks, Makes, named}
use Rattle.jk_model_heaps.specs.Workings.{Inside, with_heap}
use Rattle.jk_model_machine_state.specs.Machines.{DomainState, Machine, free_chunks, live_domain, started_in, with_inside}
use Rattle.jk_model_machine_state.specs.Places.{first_segment, with_segment_drawn}

-- ---- What is started: the domain of a name, a class by its name there, and its public static method `main`.

-- the public static method `main([Ljava/lang/String;)V` that is found from a class
pub record IsMain (m : Machine) (class : ClassId) (main : MemberId) (code : LinkedCode) : Type 0 where
  pub type : MethodType
  pub text : IsMethodText (codes "([Ljava/lang/String;)V") type
  pub found : FindsMethod m.classes class (codes "main") type (Some main)
  pub method : MethodRecord
  pub is_method : MethodIs m.classes main method
  pub flags : IsTrue (has method.flags PUBLIC && has method.flags STATIC)
  pub body : method.body ≡ Does.Linked code

-- what a script says of a start
pub record StartWords : Type 0 where
  pub domain : List ℕ
  pub class : List ℕ
  pub words : List (List ℕ)

pub record HasDomain (m : Machine) (start : StartWords) : Type 0 where
  pub domain : DomainState
  pub found : live_domain m start.domain ≡ Some domain
  pub inside : Inside
  pub is_inside : domain.inside ≡ Some inside

pub record HasClass (m : Machine) (start : StartWords) : Type 0 where
  pub in_domain : HasDomain m start
  pub class : ClassId
  pub is_named : class_named in_domain.domain.table start.class ≡ Some class

pub record HasMain (m : Machine) (start : StartWords) : Type 0 where
  pub in_class : HasClass m start
  pub main : MemberId
  pub code : LinkedCode
  pub is_main : IsMain m in_class.class main code

-- ---- What it needs: threads of the domain, words for the array of start words and their texts, chunks for a segment and a frame.

abbrev pub HasManyThreads : Machine → DomainState → Type 0
HasManyThreads m d = d.quotas.threads ≤ started_in m d.number

-- the array, and a text for each word
abbrev pub start_words_cost : List (List ℕ) → ℕ
start_words_cost words = (HEADER_WORDS + length words) + sum_by (λ (w : List ℕ). HEADER_WORDS + length w) words

abbrev pub LacksWords : Machine → DomainState → Inside → List (List ℕ) → Type 0
LacksWords m d inside words = Lacks m.classes d.quotas.heap inside.heap (start_words_cost words)

abbrev pub LacksChunks : Machine → DomainState → MemberId → LinkedCode → Type 0
LacksChunks m d main code = free_chunks m d < 1 + head_chunks (call_head main code)

-- ---- What it makes: different new texts, one for each word, equal words too, and an array of them.

pub record MakesWords (m : Machine) (d : DomainState) (heap : List NamedObject) (words : List (List ℕ)) (new : List NamedObject) : Type 0 where
  pub array : ℕ
  pub texts : List NamedObject
  pub are_words : map (λ (e : NamedObject). e.object) texts ≡ map Text words
  pub makes : Makes m.classes d.quotas.heap heap
      (named array (Array (class_type STRING) (map (λ (e : NamedObject). Held.Obj e.name) texts)) ∷ texts) new

-- another thread with one segment of the domain, which stands at this frame
abbrev pub with_new_thread : DomainId → FrameState → Machine → Machine
with_new_thread d frame m = with_segment_drawn (record m {
  threads = m.threads ++ record { number = record { 0 = m.next_thread }; domain = d; segments = first_segment m d frame ∷ [] } ∷ [];
  next_thread = suc m.next_thread;
})

-- ---- The cases.

-- A start is refused by the rule of this number, or leads to another machine.
pub data Starts (m : Machine) (start : StartWords) : List Line → Machine → Type 0 where
  -- S1: no live domain has the name
  no_domain : live_domain m start.domain ≡ None → Starts m start (StartRefused start.domain 1 ∷ []) m
  -- S2: the domain doesn't know the class
  no_class : (h : HasDomain m start) → class_named h.domain.table start.class ≡ None → Starts m start (StartRefused start.domain 2 ∷ []) m
  -- S3: no public static `main` is found from the class
  no_main : (h : HasClass m start) → ((main : MemberId) (code : LinkedCode) → IsMain m h.class main code → ⊥)
      → Starts m start (StartRefused start.domain 3 ∷ []) m
  -- S4: as many live threads were started in the domain as its quota has
  many_threads : (h : HasMain m start) → HasManyThreads m h.in_class.in_domain.domain → Starts m start (StartRefused start.domain 4 ∷ []) m
  -- S5: the array of start words and its texts don't fit
  many_words : (h : HasMain m start) → (HasManyThreads m h.in_class.in_domain.domain → ⊥)
      → LacksWords m h.in_class.in_domain.domain h.in_class.in_domain.inside start.words → Starts m start (StartRefused start.domain 5 ∷ []) m
  -- S6: a segment and the frame don't fit
  few_chunks : (h : HasMain m start) → (HasManyThreads m h.in_class.in_domain.domain → ⊥)
      → (LacksWords m h.in_class.in_domain.domain h.in_class.in_domain.inside start.words → ⊥)
      → LacksChunks m h.in_class.in_domain.domain h.main h.code → Starts m start (StartRefused start.domain 6 ∷ []) m
  -- a new thread stands at `main`, whose frame needs the class first
  begins : (h : HasMain m start) → (HasManyThreads m h.in_class.in_domain.domain → ⊥)
      → (LacksChunks m h.in_class.in_domain.domain h.main h.code → ⊥)
      → (heap : List NamedObject) (words : MakesWords m h.in_class.in_domain.domain h.in_class.in_domain.inside.heap start.words heap)
      → (frame : FrameState) → IsCalledFrame h.main h.code (Held.Obj words.array ∷ []) frame
      → Starts m start (Started (record { 0 = m.next_thread }) start.domain ∷ [])
      (with_new_thread h.in_class.in_domain.domain.number (record frame { head = record frame.head { need = Some h.in_class.class } })
      (with_inside h.in_class.in_domain.domain.number (with_heap h.in_class.in_domain.inside heap) m))
