-- Parts without domains and threads, over stores without either, are sound, and their machine is the first one.
use Rattle.std.proofs.Common.{◌≡◌, ℕ, List, [], ◌∷◌, length, slice_get, Contains, Option, Some, None, codes, refl, sym, ap, subst, ◌∙◌, arith}
use Rattle.jk_model.specs.declared.descriptors.MethodType.{MethodType}
use Rattle.jk_model.specs.declared.identifiers.DomainId.{DomainId}
use Rattle.jk_model.specs.declared.identifiers.SegmentNo.{SegmentNo}
use Rattle.jk_model.specs.Descriptors.{IsMethodText}
use Rattle.jk_model_classes.specs.SystemRecords.{AreSystemRecords}
use Rattle.jk_model_classes.specs.Worlds.{DomainRecord, IsWorld, WorldRecord}
use Rattle.jk_model_heaps.specs.Heaps.{heap_words}
use Rattle.jk_model_sharing.specs.SharedStates.{SharedState, first_state}
use Rattle.jk_model_machine_state.specs.Machines.{DomainState, IsFirstMachine, Machine}
use Rattle.jk_model_machine_state.specs.Places.{LiveDomain}
use Rattle.class_growth.proofs.SystemClassesClosed.{system_alone}
use Rattle.class_init.specs.KeptStates.{KeptState}
use Rattle.frame_store.specs.FrameContents.{FrameContent, IsContent}
use Rattle.list_lemmas.proofs.ItemsOfLists.{Contains-none}
use Rattle.object_store.specs.HeapContents.{HeapContent, HasNoObject, IsHeapContent}
use Rattle.machine_laws.specs.SealedSteps.{FirstMachinesAreKnown}
use Rattle.machine_parts.specs.FittingParts.{AreFittingParts}
use Rattle.machine_parts.specs.MachineParts.{domain_states, machine_of}
use Rattle.kernel_parts.specs.SoundKernels.{AreKernelParts, AreSoundParts, KernelContent, kernel_machine, parts_of}

no_states : (heap : HeapContent) (frames : FrameContent) (ds : List DomainRecord) → domain_states heap frames ds [] [] ≡ []
no_states heap frames [] = refl
no_states heap frames (d ∷ ds) = refl

nothing_at : {X : Type 0} (i : ℕ) (x : X) (xs : List X) → xs ≡ [] → slice_get xs i ≡ Some x → ⊥
nothing_at i x [] none at = absurd cc
nothing_at i x (y ∷ xs) none at = absurd cc

module _ (w : WorldRecord) (heap : HeapContent) (frames : FrameContent) (kind : MethodType) where
  abbrev content : List (Option KeptState) → SharedState → KernelContent
  content owns shared = record { world = w; owns = owns; shared = shared; heap = heap; frames = frames; main_kind = kind }

  abbrev first : KernelContent
  first = content [] first_state

  module _ (system : AreSystemRecords w.classes) (none : w.domains ≡ []) where
    is_first : IsFirstMachine heap.pages frames.pages (kernel_machine first)
    is_first = record {
      heap_pool = refl;
      stack_pool = refl;
      system = system;
      no_domains = no_states heap frames w.domains;
      no_names = refl;
      no_threads = refl;
      threads_from = refl;
      segments_from = refl;
    }

    pub first_machine : (owns : List (Option KeptState)) (shared : SharedState) → owns ≡ [] → shared ≡ first_state
        → IsFirstMachine heap.pages frames.pages (kernel_machine (content owns shared))
    first_machine owns shared no_owns begun =
        subst (λ (os : List (Option KeptState)). IsFirstMachine heap.pages frames.pages (kernel_machine (content os shared))) (sym no_owns)
        (subst (λ (s : SharedState). IsFirstMachine heap.pages frames.pages (kernel_machine (content [] s))) (sym begun) is_first)

    module _ (known : FirstMachinesAreKnown) (world : IsWorld w (length w.domains)) (heaps : IsHeapContent heap) (stored : IsContent frames)
        (quotas : (d : DomainId) → (heap.quota d ≡ None) × (frames.quota d ≡ None)) (segments : (s : SegmentNo) → frames.segment s ≡ None)
        (main : IsMethodText (codes "([Ljava/lang/String;)V") kind) where
      none_lives : (d : DomainId) → LiveDomain (kernel_machine first) d → ⊥
      none_lives d l = nothing_at d.0 l.domain (kernel_machine first).domains (no_states heap frames w.domains) l.is_domain

      empty : (d : DomainId) → HasNoObject heap d
      empty d = (heaps.unused d (quotas d).0).0

      fits : AreFittingParts (parts_of first)
      fits = record {
        domains = record {
          shared = sym (ap length none);
          owns = sym (ap length none);
          numbered = λ i names at. absurd (nothing_at i names w.domains none at);
          same_number = λ i names s at there. absurd (nothing_at i names w.domains none at);
          same_life = λ i names own at there. absurd (nothing_at i names w.domains none at);
        };
        live = record {
          words = λ d l. absurd (none_lives d l);
          chunks = λ d l. absurd (none_lives d l);
          no_others = λ d never. quotas d;
        };
        used = record {
          words = λ d. (empty d).unused ∙ ap (heap_words w.classes) (sym (empty d).heap);
          chunks = λ d. (stored.unused d (quotas d).1).0;
        };
        segments = record {
          each = λ t s there in_it. absurd (Contains-none t there);
          no_others = λ n g at. (let both : None ≡ Some g = sym (segments n) ∙ at in absurd cc);
        };
        stubs = record {
          known = record {
            each = λ s there. absurd (Contains-none s there);
            apart = λ s r there other same. absurd (Contains-none s there);
          };
          all = λ c r at home remote. absurd (home (system_alone w.classes system c r at).1);
          made = λ d c there made. absurd (Contains-none d there);
        };
        calm = λ d a. (empty d).mark a;
      }

      sound : AreSoundParts first
      sound =
          let all = known heap.pages frames.pages (kernel_machine first) is_first in
          record {
            fitting = fits;
            sealed = all.0.0;
            sound = all.1;
            world = world;
            few_classes = omega (arith, system.as_many);
            rooms = λ i names own at there. absurd (nothing_at i names w.domains none at);
            main = main;
          }

      kept : AreKernelParts first
      kept = record { sound = sound; stubs = λ s there. absurd (Contains-none s there) }

      pub first_parts : (owns : List (Option KeptState)) (shared : SharedState) → owns ≡ [] → shared ≡ first_state
          → AreKernelParts (content owns shared)
      first_parts owns shared no_owns begun =
          subst (λ (os : List (Option KeptState)). AreKernelParts (content os shared)) (sym no_owns)
          (subst (λ (s : SharedState). AreKernelParts (content [] s)) (sym begun) kept)
