-- The turns of the quick loop, whichever own states, shared states and settings they are looked at in.
use Rattle.std.proofs.Common.{inl, inr, ◌≡◌, ℕ, ◌+◌, Some, slice_get, sym, subst}
use Rattle.jk_model.specs.declared.identifiers.DomainId.{DomainId}
use Rattle.jk_model.specs.declared.identifiers.SegmentNo.{SegmentNo}
use Rattle.jk_model.specs.declared.identifiers.ThreadNo.{ThreadNo}
use Rattle.jk_model.specs.declared.instructions.Instr.{Instr}
use Rattle.jk_model_classes.specs.Worlds.{WorldRecord}
use Rattle.jk_model_heaps.specs.Workings.{Setting}
use Rattle.jk_model_sharing.specs.SharedStates.{SharedState}
use Rattle.class_init.specs.KeptStates.{KeptState}
use Rattle.frame_store.specs.FrameContents.{FrameContent, HasTop}
use Rattle.object_store.specs.HeapContents.{HeapContent}
use Rattle.row_laws.specs.HeapRowLaws.{HeapRowsKeep}
use Rattle.step_contents.specs.Contents.{contents_of, here_at}
use Rattle.step_contents.specs.InstructionKinds.{HasRow}
use Rattle.step_contents.specs.PlacesInCode.{IsPlaceIn, PlaceInCode}
use Rattle.step_contents.specs.Settings.{IsSetting}
use Rattle.step_contents.specs.StandingTops.{StandsThere}
use Rattle.exception_unwind.proofs.KnownDomains.{some_setting}
use Rattle.segment_steps.specs.ActingSegments.{MayAct}
use Rattle.segment_steps.specs.InFrameTurns.{IsReadyAt, MayActOnceStored, RunsInFrame, StoresPlace, TakesNoTurn, TakesTurn}
use Rattle.segment_steps.specs.declared.meeting.Runs.{Runs}
use Rattle.segment_steps.proofs.FramesInTurn.{Midway, accessed, acts_once_stored, begins, computed, ends, has_row, ready, rests, rests_stored, stands_last, still_top}

-- The top frame stands there after so many steps.
pub record SoFar (first : HeapContent) (old : FrameContent) (heaps : HeapContent) (now : FrameContent) (w : WorldRecord) (d : DomainId) (s : SegmentNo)
    (at : PlaceInCode) (done : ℕ) : Type 0 where
  pub place : IsPlaceIn w.classes at
  pub midway : (own : KeptState) (shared : SharedState) (may : MayAct (contents_of first old own) (here_at w shared d s)) (x : Setting) (t : ThreadNo)
      → IsSetting (contents_of first old own) (here_at w shared d s) x → Midway may x t heaps now at done

-- the frame stands at a place
abbrev pub at_instr : PlaceInCode → ℕ → Instr → PlaceInCode
at_instr at n instr = record { head = record at.head { at = n }; scope = at.scope; instr = instr }

module _ (first : HeapContent) (old : FrameContent) (w : WorldRecord) (d : DomainId) (s : SegmentNo) where
  abbrev runs_by : ThreadNo → Runs
  runs_by t = record { thread = t; domain = d; segment = s }

  -- ---- At first.

  pub begun : (at : PlaceInCode) → StandsThere old w.classes s at → SoFar first old first old w d s at 0
  begun at stands = record {
    place = stands.place;
    midway = λ own shared may x t set. begins (contents_of first old own) (here_at w shared d s) may x t set at stands;
  }

  module _ (heaps : HeapContent) (now : FrameContent) (at : PlaceInCode) (done : ℕ) (far : SoFar first old heaps now w d s at done) where
    -- ---- What a turn asks, by some way in which the segment may act.

    module _ (own : KeptState) (shared : SharedState) (may : MayAct (contents_of first old own) (here_at w shared d s)) where
      abbrev some : (x : Setting) × IsSetting (contents_of first old own) (here_at w shared d s) x
      some = some_setting (contents_of first old own) (here_at w shared d s) may.domain

      -- whichever thread it is
      abbrev t : ThreadNo
      t = record { 0 = 0 }

      abbrev m : Midway may some.0 t heaps now at done
      m = far.midway own shared may some.0 t some.1

      pub row_there : HasRow at
      row_there = has_row {r = runs_by t} may some.0 heaps now at done far.place m

      pub ready_there : IsReadyAt now w.classes s at
      ready_there = ready {r = runs_by t} may some.0 heaps now at done far.place m

      pub top_there : HasTop now s
      top_there = still_top {r = runs_by t} may some.0 heaps now at done far.place m

      pub may_once_stored : MayActOnceStored heaps now w d s at
      may_once_stored = (own, shared, acts_once_stored {r = runs_by t} may some.0 heaps now at done far.place m)

    -- ---- What comes of a turn.

    pub gone_on : HeapRowsKeep → (after : HeapContent) (new : FrameContent) (n : ℕ) (instr : Instr) → TakesTurn heaps after now new w d s at n
        → slice_get at.scope.code.instrs n ≡ Some instr → SoFar first old after new w d s (at_instr at n instr) (done + 1)
    gone_on rows after new n instr (inl (same, did)) there = record {
      place = record { method = far.place.method; is_method = far.place.is_method; is_scope = far.place.is_scope; stands = there };
      midway = λ own shared may x t set.
          subst (λ (h : HeapContent). Midway may x t h new (at_instr at n instr) (done + 1)) (sym same)
          (computed {r = runs_by t} may x heaps now at done far.place (far.midway own shared may x t set) rows new n did instr there);
    }
    gone_on rows after new n instr (inr did) there = record {
      place = record { method = far.place.method; is_method = far.place.is_method; is_scope = far.place.is_scope; stands = there };
      midway = λ own shared may x t set.
          accessed {r = runs_by t} may x heaps now at done far.place (far.midway own shared may x t set) rows after new n did instr there;
    }

    pub rested : (after : HeapContent) (new : FrameContent) → TakesNoTurn heaps after now new s at → SoFar first old after new w d s at done
    rested after new (same, how) = record {
      place = far.place;
      midway = λ own shared may x t set.
          subst (λ (h : HeapContent). Midway may x t h new at done) (sym same)
          (elim how [
            | inl stays ↦ rests {r = runs_by t} may x heaps now at done far.place (far.midway own shared may x t set) new stays
            | inr stores ↦ rests_stored {r = runs_by t} may x heaps now at done far.place (far.midway own shared may x t set) new stores
          ]);
    }

    -- ---- At the end the place is stored.

    pub ended : (new : FrameContent) → StoresPlace now new s at → (own : KeptState) (shared : SharedState)
        → RunsInFrame (contents_of first old own) (contents_of heaps new own) (here_at w shared d s) done
    ended new stores own shared = λ t x may set.
        ends {r = runs_by t} may x heaps now at done far.place (far.midway own shared may x t set) new stores

    pub stands_then : (own : KeptState) (shared : SharedState) → MayAct (contents_of first old own) (here_at w shared d s) → (new : FrameContent)
        → StoresPlace now new s at → StandsThere new w.classes s at
    stands_then own shared may new stores =
        let set = some_setting (contents_of first old own) (here_at w shared d s) may.domain in
        let thread : ThreadNo = record { 0 = 0 } in
        stands_last {r = runs_by thread} may set.0 heaps now at done far.place (far.midway own shared may set.0 thread set.1) new stores
