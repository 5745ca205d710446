-- What holds of the parts after a step: they fit, what is known of the machine is known still, and all else that loading and steps ask stays.
use Rattle.std.proofs.Common.{◌≡◌, ℕ, inl, inr, List, slice_get, slice_set, Contains, Some, sym, ap, subst, ◌∙◌}
use Rattle.std.proofs.lemmas.Option.{same_Some, slice_get_within}
use Rattle.jk_model.specs.declared.identifiers.ThreadNo.{ThreadNo}
use Rattle.jk_model_classes.specs.declared.sharing.Stub.{Stub}
use Rattle.jk_model_classes.specs.Worlds.{DomainRecord}
use Rattle.jk_model_sharing.specs.SharedStates.{SharedState}
use Rattle.list_lemmas.proofs.ItemsByPlace.{slice_get-set_cases, slice_get-set_same}
use Rattle.class_init.specs.KeptStates.{HasRooms, KeptState}
use Rattle.frame_store.specs.FrameContents.{FrameContent}
use Rattle.machine_laws.specs.KnownMachines.{IsKnownMachine}
use Rattle.machine_parts.specs.FittingParts.{AreFittingParts}
use Rattle.object_store.specs.HeapContents.{HeapContent}
use Rattle.domain_ends.specs.TidyParts.{AreTidyParts}
use Rattle.kernel_parts.specs.SoundKernels.{AreKernelParts, KernelContent, kernel_machine, parts_of}
use Rattle.kernel_turns.specs.RunningPlaces.{RunsAt}
use Rattle.kernel_turns.specs.SteppedParts.{HasRoomsForLiterals}

-- all of a known machine's parts but what is said of the machine
pub tidy_known : (k : KernelContent) → AreTidyParts k → IsKnownMachine (kernel_machine k) → AreKernelParts k
tidy_known k tidy known = record {
  sound = record {
    fitting = tidy.fitting;
    sealed = known.0.0;
    sound = known.1;
    world = tidy.world;
    few_classes = tidy.few_classes;
    rooms = tidy.rooms;
    main = tidy.main;
  };
  stubs = tidy.stubs;
}

module _ (k : KernelContent) (t : ThreadNo) (at : RunsAt k t) (own : KeptState) (shared : SharedState) (heap : HeapContent) (frames : FrameContent) where
  -- the own state, the shared state and the stores are these
  abbrev pub becoming : KernelContent
  becoming = record k { owns = slice_set k.owns at.segment.domain.0 (Some own); shared = shared; heap = heap; frames = frames }

  pub own_there : slice_get (slice_set k.owns at.segment.domain.0 (Some own)) at.segment.domain.0 ≡ Some (Some own)
  own_there =
      slice_get-set_same k.owns at.segment.domain.0 (Some own) (slice_get_within k.owns at.segment.domain.0 (Some at.own) at.is_own)

  module _ (tidy : AreTidyParts k) where
    rooms_again : (names : DomainRecord) → slice_get k.world.domains at.segment.domain.0 ≡ Some names → own.rooms ≡ at.own.rooms
        → HasRoomsForLiterals own → HasRooms k.world.classes names.table own
    rooms_again names is same literals =
        let was = tidy.rooms at.segment.domain.0 names at.own is at.is_own in
        record {
          texts = λ text leads. subst (λ (rooms : List (List ℕ)). Contains rooms text) (sym same) (was.texts text leads);
          rooms_differ = subst
              (λ (rooms : List (List ℕ)).
              (i j : ℕ) (text : List ℕ) → slice_get rooms i ≡ Some text → slice_get rooms j ≡ Some text → i ≡ j)
              (sym same)
              was.rooms_differ;
          literals = literals;
        }

    pub kept_tidy : AreFittingParts (parts_of becoming) → shared.stubs ≡ k.shared.stubs → own.rooms ≡ at.own.rooms → HasRoomsForLiterals own
        → AreTidyParts becoming
    kept_tidy fitting stubs same literals = record {
      fitting = fitting;
      world = tidy.world;
      few_classes = tidy.few_classes;
      rooms = λ i names o named stands. elim (slice_get-set_cases k.owns at.segment.domain.0 i (Some own) (Some o) stands) [
        | inl (place, is) ↦
            let one : own ≡ o = same_Some own o is in
            subst (HasRooms k.world.classes names.table) one
            (rooms_again names (ap (slice_get k.world.domains) place ∙ named) same literals)
        | inr old ↦ tidy.rooms i names o named old
      ];
      main = tidy.main;
      stubs = λ s there. tidy.stubs s (subst (λ (ss : List Stub). Contains ss s) stubs there);
    }
