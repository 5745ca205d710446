-- A call of a method of the system: its meaning is the one that is known, and it is given what stands on top of the stack.
use Rattle.std.proofs.Common.{◌≡◌, List, ◌++◌, length, Some, sym, ap, subst, ◌∙◌}
use Rattle.std.specs.List.{AllByRecursion}
use Rattle.std.proofs.lemmas.Option.{same_Some}
use Rattle.list_lemmas.proofs.EndsOfLists.{one_split}
use Rattle.jk_model.specs.declared.identifiers.MemberId.{MemberId}
use Rattle.jk_model.specs.declared.values.Value.{Value}
use Rattle.jk_model.proofs.EachItem.{all_back}
use Rattle.jk_model_frames.specs.Frames.{FrameState}
use Rattle.jk_model_domains.specs.NumberRows.{IsOnTop}
use Rattle.jk_model_domains.specs.Objects.{NamedObject}
use Rattle.jk_model_heaps.specs.Workings.{Inside, Setting}
use Rattle.jk_model_call_rows.specs.CallRows.{CallsSystem}
use Rattle.jk_model_sealing.specs.SealedInsides.{IsKnownValue, IsSealedInside}
use Rattle.jk_model_sharing.specs.SharedStates.{SharedState, caps_of}
use Rattle.jk_model_system_rows.specs.declared.meanings.SystemMeaning.{SystemMeaning}
use Rattle.jk_model_system_rows.specs.Meanings.{meaning_of}
use Rattle.class_init.specs.KeptStates.{KeptState}
use Rattle.frame_store.specs.FrameContents.{FrameContent, TopFrame}
use Rattle.number_ops.proofs.TopFrames.{same_top}
use Rattle.object_store.specs.HeapContents.{HeapContent}
use Rattle.heap_laws.specs.RunningFrames.{RunsWell}
use Rattle.row_laws.specs.GivenValues.{GivenFor}
use Rattle.row_laws.proofs.CallsOfSystem.{operands_found}
use Rattle.step_contents.specs.Conditions.{MayChange, MayDo, around, working}
use Rattle.step_contents.specs.Contents.{contents_of}
use Rattle.step_contents.specs.PlacesInCode.{PlaceInCode}
use Rattle.step_contents.specs.Settings.{IsSetting}
use Rattle.step_contents.proofs.InstructionsBegin.{runs_code, runs_well, top_frame}
use Rattle.system_calls.specs.declared.here.Here.{Here}
use Rattle.system_calls.specs.GivenOnTop.{HasGiven, IsGiven, given_count}
use Rattle.system_calls.specs.MethodsDone.{MayAnswer, among}
use Rattle.system_calls.proofs.GivenByKind.{as_many}

module _ (heaps : HeapContent) (frames : FrameContent) (own : KeptState) (shared : SharedState) (h : Here) (at : PlaceInCode)
    (may : MayDo (contents_of heaps frames own) (among h shared) at) where
  pub same_heap : may.run.inside.heap ≡ heaps.heap h.domain
  same_heap = ap (λ (i : Inside). i.heap) may.holds.inside

  pub top : TopFrame frames h.segment may.frame
  top = top_frame may

  -- the domain may change
  pub may_change : MayChange (contents_of heaps frames own) (among h shared)
  may_change = record {
    domain = may.domain;
    sealed = subst (IsSealedInside (around may.domain) may.domain.quota) may.holds.inside may.sealed.inside;
  }

  module _ (x : Setting) (is : IsSetting (contents_of heaps frames own) (among h shared) x)
      (call : CallsSystem x at.scope at.instr (working may)) where
    abbrev pub runs : RunsWell (around may.domain) x (working may)
    runs = runs_well may x is

    found : (meaning : SystemMeaning) × (meaning_of call.member ≡ Some meaning) × GivenFor may.run.inside.heap meaning call.call.given
    found = operands_found (around may.domain) x (working may) runs (runs_code may) call

    -- the method has a meaning
    pub has_meaning : (m : MemberId) → call.member ≡ m → (meaning : SystemMeaning) × (meaning_of m ≡ Some meaning)
    has_meaning m member = (found.0, ap meaning_of (sym member) ∙ found.1)

    module _ (m : MemberId) (member : call.member ≡ m) (meaning : SystemMeaning) (means : meaning_of m ≡ Some meaning) where
      one_meaning : found.0 ≡ meaning
      one_meaning = same_Some found.0 meaning (sym found.1 ∙ ap meaning_of member ∙ means)

      pub given_for : GivenFor (heaps.heap h.domain) meaning call.call.given
      given_for =
          subst (λ (heap : List NamedObject). GivenFor heap meaning call.call.given) same_heap
          (subst (λ (k : SystemMeaning). GivenFor may.run.inside.heap k call.call.given) one_meaning found.2)

      many : length call.call.given ≡ given_count meaning
      many = as_many (heaps.heap h.domain) meaning call.call.given given_for

      pub has_given : HasGiven frames h.segment (given_count meaning)
      has_given = (call.call.given, record { frame = may.frame; top = top; on_top = call.call.on_top }, many)

      -- what was read is what is given
      module _ (given : List Value) (read : IsGiven frames h.segment given) (as_long : length given ≡ given_count meaning) where
        pub given_is : call.call.given ≡ given
        given_is =
            let same : may.frame ≡ read.frame = same_top frames h.segment may.frame read.frame top read.top in
            let whole : call.call.on_top.0 ++ call.call.given ≡ read.on_top.0 ++ given =
            sym call.call.on_top.1 ∙ ap (λ (f : FrameState). f.stack) same ∙ read.on_top.1 in
            (one_split call.call.on_top.0 read.on_top.0 call.call.given given whole (many ∙ sym as_long)).1

        all_known : AllByRecursion (IsKnownValue (caps_of shared) may.run.inside.heap) call.call.given
        all_known =
            all_back (IsKnownValue (caps_of shared) may.run.inside.heap) call.call.on_top.0 call.call.given
            (subst (AllByRecursion (IsKnownValue (caps_of shared) may.run.inside.heap)) call.call.on_top.1 runs.known.1)

        pub may_answer : MayAnswer heaps shared h meaning given
        may_answer = record {
          own = own;
          frames = frames;
          may = may_change;
          given_for = subst (GivenFor (heaps.heap h.domain) meaning) given_is given_for;
          known =
              subst (AllByRecursion (IsKnownValue (caps_of shared) (heaps.heap h.domain))) given_is
              (subst (λ (heap : List NamedObject). AllByRecursion (IsKnownValue (caps_of shared) heap) call.call.given) same_heap all_known);
        }

        pub on_top : IsOnTop may.frame given
        on_top = (call.call.on_top.0, call.call.on_top.1 ∙ ap (λ (xs : List Value). call.call.on_top.0 ++ xs) given_is)
