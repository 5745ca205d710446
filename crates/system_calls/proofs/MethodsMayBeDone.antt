-- Where a domain may change, its objects are laid out and know what they name, and so a method of the system may be done there.
use Rattle.std.proofs.Common.{◌≡◌, ℕ, List, Option, IsSome, refl, sym, ap, subst}
use Rattle.std.specs.List.{AllByRecursion}
use Rattle.jk_model.specs.declared.values.Value.{Value}
use Rattle.jk_model.proofs.EachItem.{all_weaker}
use Rattle.jk_model_domains.specs.Objects.{Object, Array}
use Rattle.jk_model_domains.specs.ValueTypes.{HoldsDeclared}
use Rattle.jk_model_heaps.specs.Capabilities.{CapRange}
use Rattle.jk_model_heaps.specs.Heaps.{named}
use Rattle.jk_model_heaps.specs.Workings.{Inside, Setting}
use Rattle.jk_model_sealing.specs.SealedInsides.{IsKnownValue, IsSealedObject}
use Rattle.jk_model_sharing.specs.SharedStates.{SharedState, caps_of}
use Rattle.class_init.specs.KeptStates.{KeptState}
use Rattle.frame_store.specs.FrameContents.{FrameContent}
use Rattle.heap_laws.proofs.LaidOut.{sealed_laid_out}
use Rattle.heap_laws.proofs.ObjectsAfterChanges.{found_stands}
use Rattle.object_store.specs.HeapContents.{HeapContent, IsLive}
use Rattle.step_contents.specs.Conditions.{MayChange, around}
use Rattle.step_contents.specs.Contents.{contents_of, inside_in}
use Rattle.step_contents.specs.Settings.{IsSetting}
use Rattle.thread_segments.specs.KnownStubs.{KnowsStubs}
use Rattle.system_calls.specs.declared.here.Here.{Here}
use Rattle.system_calls.specs.DoneRows.{IsReady}
use Rattle.system_calls.specs.FoundArrays.{KnowsItems, NamesObject}
use Rattle.system_calls.specs.MethodsDone.{IsAround, among}

module _ (heaps : HeapContent) (shared : SharedState) (h : Here) (own : KeptState) (frames : FrameContent)
    (may : MayChange (contents_of heaps frames own) (among h shared)) where
  pub object_sealed : (a : ℕ) (o : Object) → IsLive heaps h.domain a o → IsSealedObject (around may.domain) (heaps.heap h.domain) o
  object_sealed a o live = may.sealed.objects (named a o) (found_stands a o (heaps.heap h.domain) live)

  pub ready : IsReady heaps h.world.now.classes h.domain
  ready = record {
    admitted = subst (λ (q : Option ℕ). IsSome q) (sym may.domain.has_quota) refl;
    used = may.domain.used;
    laid_out = λ a o live. sealed_laid_out (around may.domain) (heaps.heap h.domain) o (object_sealed a o live);
  }

  pub items_known : KnowsItems heaps (caps_of shared) h.domain
  items_known a t items live =
      all_weaker
      (λ (v : Value). HoldsDeclared h.world.now.classes (heaps.heap h.domain) v t × IsKnownValue (caps_of shared) (heaps.heap h.domain) v)
      (IsKnownValue (caps_of shared) (heaps.heap h.domain)) items (λ v k. k.1) (object_sealed a (Array t items) live).2

  pub stubs_known : KnowsStubs shared h.world.now.classes
  stubs_known =
      record { stubs = may.domain.shares.stubs; each = λ k given. (may.domain.shares.capabilities k given).0 }

-- a known name is one of the heap
pub names_there : (heaps : HeapContent) (h : Here) (caps : List CapRange) (v : Value) → IsKnownValue caps (heaps.heap h.domain) v
    → NamesObject heaps h.domain v
names_there heaps h caps v known = λ a is. subst (IsKnownValue caps (heaps.heap h.domain)) is known

pub all_named : (heaps : HeapContent) (h : Here) (caps : List CapRange) (given : List Value)
    → AllByRecursion (IsKnownValue caps (heaps.heap h.domain)) given → AllByRecursion (NamesObject heaps h.domain) given
all_named heaps h caps given known =
    all_weaker (IsKnownValue caps (heaps.heap h.domain)) (NamesObject heaps h.domain) given (names_there heaps h caps) known

-- the setting there is the one around it
pub is_around : (heaps : HeapContent) (shared : SharedState) (h : Here) (own : KeptState) (frames : FrameContent) (x : Setting) (inside : Inside)
    → IsSetting (contents_of heaps frames own) (among h shared) x → inside ≡ inside_in (contents_of heaps frames own) (among h shared)
    → IsAround heaps shared h x inside
is_around heaps shared h own frames x inside is here = record {
  own = record { classes = is.classes; quota = is.quota; heap = ap (λ (i : Inside). i.heap) here };
  caps = is.caps;
  segment = is.segment;
  names = is.names;
  is_domain = is.is_domain;
  name = is.name;
}
