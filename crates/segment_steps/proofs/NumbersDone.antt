-- An instruction on numbers was done: the frame, and nothing else, is as its row says.
use Rattle.std.proofs.Common.{◌≡◌, ℕ, Option, refl, sym, ap, subst, ◌∙◌}
use Rattle.std.proofs.lemmas.Option.{same_Some}
use Rattle.jk_model.specs.declared.frames.FrameHead.{FrameHead}
use Rattle.jk_model.specs.declared.identifiers.MemberId.{MemberId}
use Rattle.jk_model.specs.declared.instructions.Instr.{Instr}
use Rattle.jk_model.specs.declared.steps.After.{After}
use Rattle.jk_model.specs.declared.steps.After.TheVariants as Next
use Rattle.jk_model.specs.declared.steps.Raise.{Raise}
use Rattle.jk_model.specs.declared.values.Value.{Value}
use Rattle.jk_model_classes.specs.Worlds.{WorldRecord}
use Rattle.jk_model_domains.specs.NumberRows.{NumberRow, divides_by_zero, exchanges, jumps, returns, returns_nothing, switches, uses_local}
use Rattle.jk_model_frames.specs.Frames.{FrameState, head_chunks}
use Rattle.jk_model_heaps.specs.Workings.{Outcome, Setting, Working}
use Rattle.jk_model_running.specs.Executions.{Executes, IsOutcome, numbers}
use Rattle.jk_model_sharing.specs.SharedStates.{SharedState}
use Rattle.jk_model_typing.specs.Scopes.{CodeScope, IsScopeOf}
use Rattle.typing_lemmas.proofs.OneScope.{one-scope}
use Rattle.frame_store.specs.FrameContents.{FrameContent, SetsTop}
use Rattle.number_laws.proofs.HeadsStay.{number-head}
use Rattle.number_laws.specs.FrameLaws.{with_head}
use Rattle.number_ops.specs.NumberSteps.{DoesNumbers}
use Rattle.number_ops.proofs.TopFrames.{same_top}
use Rattle.heap_laws.specs.FittingOutcomes.{FitsOutcome}
use Rattle.heap_laws.specs.KeptInsides.{IsKept}
use Rattle.row_laws.proofs.NumberRowsKept.{number_kept}
use Rattle.step_contents.specs.Conditions.{around, working}
use Rattle.step_contents.specs.Contents.{Becomes, Contents, contents_of, with_frame}
use Rattle.step_contents.specs.PlacesInCode.{PlaceInCode}
use Rattle.step_contents.specs.Settings.{IsSetting}
use Rattle.step_contents.proofs.InstructionsBegin.{runs_code, runs_well}
use Rattle.segment_steps.specs.ActingSegments.{MayAct}
use Rattle.segment_steps.specs.StepsAlone.{StandsReady}
use Rattle.segment_steps.specs.declared.meeting.Runs.{Runs}
use Rattle.segment_steps.proofs.ChangesInTurn.{top_set}
use Rattle.segment_steps.proofs.StandingHere.{becomes_still, here, may_do, same_frames}

module _ (old : Contents) (world : WorldRecord) (shared : SharedState) (r : Runs) (at : PlaceInCode)
    (st : StandsReady old.frames world.classes old.own.state r at) (new : FrameContent) (after : After)
    (did : DoesNumbers old.frames new world.classes r.segment at.head at.instr after) where
  frame_same : did.0 ≡ st.frame
  frame_same = same_top old.frames r.segment did.0 st.frame did.4 st.top

  abbrev pub left : FrameState
  left = did.1

  scope_same : did.3 ≡ at.scope
  scope_same =
      let method : did.2 ≡ st.place.method = same_Some did.2 st.place.method (sym did.6 ∙ st.place.is_method) in
      one-scope world.classes st.place.method did.3 at.scope (subst (λ (m : MemberId). IsScopeOf world.classes m did.3) method did.7)
      st.place.is_scope

  pub row : NumberRow at.scope st.frame.head.at at.instr st.frame left after
  row =
      let P : CodeScope → FrameState → FrameHead → Type 0 = λ s f h. NumberRow s h.at at.instr (with_head f h) left after in
      subst (P at.scope st.frame) st.head
      (subst (λ (f : FrameState). P at.scope f at.head) frame_same (subst (λ (s : CodeScope). P s did.0 at.head) scope_same did.8))

  pub head_stays : left.head ≡ st.frame.head
  head_stays = number-head at.scope st.frame.head.at at.instr st.frame left after row

  sets : SetsTop old.frames new r.segment left
  sets =
      subst (λ (h : FrameHead). SetsTop old.frames new r.segment (with_head left h))
      (ap (λ (f : FrameState). f.head) frame_same ∙ sym head_stays) did.9

  module _ (may : MayAct old (here old world shared r at st)) where
    abbrev pub left_working : Working
    left_working = record { inside = may.run.inside; frame = left }

    pub becomes : Becomes old (contents_of old.heaps new old.own) (here old world shared r at st) may.run
        (with_frame st.top.lower left may.run.inside)
    becomes =
        top_set old old.heaps old.frames new old.own (here old world shared r at st) may.run st.top.lower st.frame left may.run.inside
        (becomes_still old world shared r at st may old.frames (same_frames old.frames)) (ap head_chunks head_stays) sets

    module _ (x : Setting) (is : IsSetting old (here old world shared r at st) x) (outcome : Outcome) (next : IsOutcome after outcome) where
      pub executes : Executes x at.scope at.instr (working (may_do old world shared r at st may)) left_working outcome
      executes = numbers after row refl next

      pub kept : IsKept (around may.domain) x (working (may_do old world shared r at st may)) left_working
          × FitsOutcome (around may.domain) x at.scope left_working outcome
      kept =
          let doing = may_do old world shared r at st may in
          number_kept (around may.domain) x (working doing) (runs_well doing x is) (runs_code doing) left after outcome row next

-- ---- It goes on, raises something or returns.

pub nothing_else : (s : CodeScope) (place : ℕ) (i : Instr) (f g : FrameState) (after : After) → NumberRow s place i f g after
    → ((n : ℕ) → after ≡ Next.Goto n → ⊥) → ((raise : Raise) → after ≡ Next.Raise raise → ⊥)
    → ((v : Option Value) → after ≡ Next.Return v → ⊥) → ⊥
nothing_else s place i f g after (exchanges taken pushed h rep) goes raises gives = goes _ refl
nothing_else s place i f g after (uses_local h) goes raises gives = goes _ refl
nothing_else s place i f g after (jumps taken holds next h rep at) goes raises gives = goes _ refl
nothing_else s place i f g after (switches key next h rep at) goes raises gives = goes _ refl
nothing_else s place i f g after (divides_by_zero taken divides top same) goes raises gives = raises _ refl
nothing_else s place i f g after (returns v h rep) goes raises gives = gives _ refl
nothing_else s place i f g after (returns_nothing op same) goes raises gives = gives _ refl
