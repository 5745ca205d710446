-- What a method of the system may rest on where it is done, and what it answers: what its row says, or what is granted or denied where the
-- row asks for something.
use Rattle.std.specs.Prelude.{◌≡◌, List, Option, Some, Result}
use Rattle.std.specs.List.{AllByRecursion}
use Rattle.jk_model.specs.declared.identifiers.DomainId.{DomainId}
use Rattle.jk_model.specs.declared.steps.Raise.{Raise}
use Rattle.jk_model.specs.declared.values.Value.{Value}
use Rattle.jk_model_classes.specs.Worlds.{DomainRecord, domain_of}
use Rattle.jk_model_domains.specs.Objects.{NamedObject}
use Rattle.jk_model_heaps.specs.Heaps.{heap_words}
use Rattle.jk_model_heaps.specs.Workings.{Inside, Request, Setting, with_heap}
use Rattle.jk_model_sealing.specs.SealedInsides.{IsKnownValue}
use Rattle.jk_model_sharing.specs.Answers.{Answers}
use Rattle.jk_model_sharing.specs.SharedStates.{SharedState, caps_of}
use Rattle.jk_model_system_rows.specs.declared.meanings.SystemMeaning.{SystemMeaning}
use Rattle.jk_model_system_rows.specs.Answers.{Wants, with_answer}
use Rattle.jk_model_system_rows.specs.SystemRows.{SystemRow}
use Rattle.class_init.specs.KeptStates.{KeptState}
use Rattle.frame_store.specs.FrameContents.{FrameContent}
use Rattle.object_store.specs.HeapContents.{HeapBecomes, HeapContent}
use Rattle.row_laws.specs.GivenValues.{GivenFor}
use Rattle.step_contents.specs.Conditions.{MayChange}
use Rattle.step_contents.specs.Contents.{contents_of, here_at}
use Rattle.step_contents.specs.Contents.{Here as Within}
use Rattle.step_contents.specs.Settings.{AreKnown}
use Rattle.system_calls.specs.declared.here.Here.{Here}
use Rattle.system_calls.specs.DoneRows.{IsFor, answer_of}

abbrev pub among : Here → SharedState → Within
among h shared = here_at h.world.now shared h.domain h.segment

-- What is given is as the meaning asks; each name is one of the heap, and each capability was given out.
pub record MayAnswer (heaps : HeapContent) (shared : SharedState) (h : Here) (meaning : SystemMeaning) (given : List Value) : Type 0 where
  pub own : KeptState
  pub frames : FrameContent
  pub may : MayChange (contents_of heaps frames own) (among h shared)
  pub given_for : GivenFor (heaps.heap h.domain) meaning given
  pub known : AllByRecursion (IsKnownValue (caps_of shared) (heaps.heap h.domain)) given

-- The setting is the one that is there, and the inside has the heap that is there.
pub record IsAround (heaps : HeapContent) (shared : SharedState) (h : Here) (x : Setting) (inside : Inside) : Type 0 where
  pub own : IsFor heaps h.world.now.classes h.domain x inside
  pub caps : AreKnown h.world.now.classes shared x.caps
  pub segment : x.segment ≡ h.segment
  pub names : DomainRecord
  pub is_domain : domain_of h.world.now h.domain ≡ Some names
  pub name : x.name ≡ names.name

-- What a method does: it changes its domain's heap to this, what domains share to that, and answers so.
pub record Doing : Type 0 where
  pub meaning : SystemMeaning
  pub given : List Value
  pub heap : List NamedObject
  pub shared : SharedState
  pub new_shared : SharedState
  pub result : Result (Option Value) Raise

-- It is what a row says: the answer, or the request that is granted or denied.
pub data IsByRow (x : Setting) (d : DomainId) (inside : Inside) (k : Doing) : Type 0 where
  answers : SystemRow x k.meaning k.given inside (with_answer (with_heap inside k.heap) (answer_of k.result)) → k.new_shared ≡ k.shared
      → IsByRow x d inside k
  asks : (request : Request) → SystemRow x k.meaning k.given inside (with_answer inside (Wants request))
      → Answers k.shared d request k.result k.new_shared → k.heap ≡ inside.heap → IsByRow x d inside k

-- The method is done.
pub record MethodDone (old new : HeapContent) (shared new_shared : SharedState) (h : Here) (meaning : SystemMeaning) (given : List Value)
    (result : Result (Option Value) Raise) : Type 0 where
  pub becomes : HeapBecomes old new h.domain (new.heap h.domain) (heap_words h.world.now.classes (new.heap h.domain))
  pub row : (x : Setting) (inside : Inside) → IsAround old shared h x inside
      → IsByRow x h.domain inside (record {
        meaning = meaning;
        given = given;
        heap = new.heap h.domain;
        shared = shared;
        new_shared = new_shared;
        result = result;
      })
