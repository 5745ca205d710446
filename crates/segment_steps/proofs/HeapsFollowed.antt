-- An instruction on objects was done: its frame goes on, or something is raised.
use Rattle.std.proofs.Common.{◌≡◌, ℕ, List, Some, None, slice_get, refl, sym, ap, subst, ◌∙◌}
use Rattle.std.proofs.lemmas.Option.{none-some}
use Rattle.jk_model.specs.declared.frames.FrameHead.{FrameHead}
use Rattle.jk_model.specs.declared.instructions.Instr.{Instr}
use Rattle.jk_model.specs.declared.steps.After.{After}
use Rattle.jk_model.specs.declared.steps.After.TheVariants as Next
use Rattle.jk_model.specs.declared.steps.Raise.{Raise}
use Rattle.jk_model_classes.specs.Worlds.{WorldRecord}
use Rattle.jk_model_frames.specs.Frames.{FrameState}
use Rattle.jk_model_heaps.specs.CalledFrames.{at_place}
use Rattle.jk_model_heaps.specs.Workings.{GoesOn, Outcome, Raises, Run, Setting, Working}
use Rattle.jk_model_heap_rows.specs.HeapRows.{HeapRow}
use Rattle.jk_model_running.specs.Executions.{heap}
use Rattle.jk_model_sharing.specs.SharedStates.{SharedState}
use Rattle.jk_model_typing.specs.Scopes.{CodeScope}
use Rattle.class_init.specs.KeptStates.{HasRooms, KeptState}
use Rattle.frame_store.specs.FrameContents.{FrameContent, HasTop, SetsTop, TopFrame}
use Rattle.heap_laws.specs.FittingOutcomes.{FitsOutcome}
use Rattle.heap_laws.specs.KeptInsides.{IsKept}
use Rattle.heap_laws.specs.RaisableObjects.{MayBeRaised}
use Rattle.heap_ops.specs.HeapSteps.{HeapDone}
use Rattle.object_store.specs.HeapContents.{HeapContent}
use Rattle.row_laws.specs.HeapRowLaws.{HeapRowsKeep}
use Rattle.row_laws.proofs.StandsHere.{code_here}
use Rattle.step_contents.specs.AnsweredSteps.{IsAnswered}
use Rattle.step_contents.specs.Conditions.{MayDo, MayRaise, around, working}
use Rattle.step_contents.specs.Contents.{Becomes, Contents, Here, contents_of, with_frame}
use Rattle.step_contents.specs.PlacesInCode.{PlaceInCode}
use Rattle.step_contents.specs.Settings.{IsSetting}
use Rattle.step_contents.proofs.InstructionsBegin.{is_some_setting, runs_code, runs_well, some_setting}
use Rattle.segment_steps.specs.ActingSegments.{MayAct}
use Rattle.segment_steps.specs.RaisingHere.{RaisedHere}
use Rattle.step_contents.specs.StandingTops.{StandsThere}
use Rattle.segment_steps.specs.StepsAlone.{StandsReady, Stepped}
use Rattle.segment_steps.specs.declared.meeting.Runs.{Runs}
use Rattle.segment_steps.specs.declared.went.Went.{Went}
use Rattle.segment_steps.specs.declared.went.Went.TheVariants as Goes
use Rattle.segment_steps.proofs.ChangesInTurn.{are_frames}
use Rattle.segment_steps.proofs.ContentsStay.{StaySame, contents_stay}
use Rattle.segment_steps.proofs.InstructionsLeave.{goes_at, may_raise, raisable, raised_at, stands_then, top_left}
use Rattle.segment_steps.proofs.KnownAfterwards.{rooms_after}
use Rattle.segment_steps.proofs.KnownAfterwards.{IsKept as IsKeptWell}
use Rattle.segment_steps.proofs.NumbersInFrame.{scope_at}
use Rattle.segment_steps.proofs.StandingHere.{here, may_do}

-- a row by which something is raised leaves all as it was
abbrev pub RaisesStay : Type 0
RaisesStay =
    (x : Setting) (s : CodeScope) (i : Instr) (w new : Working) (raise : Raise) → HeapRow x s i w new (Raises raise) → new ≡ w

module _ (old : Contents) (world : WorldRecord) (shared : SharedState) (r : Runs) (at : PlaceInCode)
    (st : StandsReady old.frames world.classes old.own.state r at) (heaps : HeapContent) (frames : FrameContent) (own : KeptState)
    (rows : HeapRowsKeep) (may : MayAct old (here old world shared r at st)) (x : Setting) (is : IsSetting old (here old world shared r at st) x)
  where
    abbrev h : Here
    h = here old world shared r at st

    abbrev mid : Contents
    mid = contents_of heaps frames own

    abbrev doing : MayDo old h at
    doing = may_do old world shared r at st may

    record IsLeft (outcome : Outcome) : Type 0 where
      w : Working
      row : HeapRow x at.scope at.instr (working doing) w outcome
      becomes : Becomes old mid h may.run (with_frame st.top.lower w.frame w.inside)
      kept : IsKept (around may.domain) x (working doing) w × FitsOutcome (around may.domain) x at.scope w outcome

    left_by : (w : Working) (outcome : Outcome) → HeapRow x at.scope at.instr (working doing) w outcome
        → Becomes old mid h may.run (with_frame st.top.lower w.frame w.inside) → IsLeft outcome
    left_by w outcome row becomes = record {
      w = w;
      row = row;
      becomes = becomes;
      kept = rows (around may.domain) x (working doing) w outcome (runs_well doing x is) (runs_code doing) row;
    }

    left_at : (n : ℕ) → HeapDone old mid h at (Next.Goto n) → IsLeft (GoesOn n)
    left_at n done = let d = done x doing is in subst IsLeft d.3 (left_by d.0 d.1 d.2 d.4)

    left_raising : (raise : Raise) → HeapDone old mid h at (Next.Raise raise) → IsLeft (Raises raise)
    left_raising raise done = let d = done x doing is in subst IsLeft d.3 (left_by d.0 d.1 d.2 d.4)

    -- ---- It goes on.

    pub top_there : (n : ℕ) → HeapDone old mid h at (Next.Goto n) → HasTop frames r.segment
    top_there n done =
        let l = left_at n done in (l.w.frame, top_left old world shared r at st may l.w l.kept.0.head heaps frames frames own l.becomes)

    pub went_on : (n : ℕ) → HeapDone old mid h at (Next.Goto n) → (new : FrameContent)
        → ((f : FrameState) → TopFrame frames r.segment f
        → SetsTop frames new r.segment (record f { head = record f.head { at = n; need = None } }))
        → Stepped x r.thread may (contents_of heaps new own) Goes.GoesOn
    went_on n done new goes =
        let l = left_at n done in
        goes_at old world shared r at st may l.w l.kept.0.head heaps frames new own l.becomes x is n (heap l.row) goes

    -- ---- It stands at an instruction there.

    pub next_there : (n : ℕ) → HeapDone old mid h at (Next.Goto n) → slice_get at.scope.code.instrs n ≡ None → ⊥
    next_there n done none =
        let l = left_at n done in
        let code = code_here world.classes (at_place l.w.frame n) l.kept.1.0 in
        let has : at.head.method ≡ Some code.method = ap (λ (k : FrameHead). k.method) (st.head ∙ sym l.kept.0.head) ∙ code.is_method in
        let scope : code.scope ≡ at.scope = scope_at world.classes at st.place code.method code.scope has code.is_scope in
        none-some code.instr (sym none ∙ sym (ap (λ (s : CodeScope). slice_get s.code.instrs n) scope) ∙ code.stands)

    pub stands_on : (n : ℕ) → HeapDone old mid h at (Next.Goto n) → (new : FrameContent)
        → ((f : FrameState) → TopFrame frames r.segment f
        → SetsTop frames new r.segment (record f { head = record f.head { at = n; need = None } }))
        → (instr : Instr) → slice_get at.scope.code.instrs n ≡ Some instr
        → StandsThere new world.classes r.segment (record { head = record at.head { at = n }; scope = at.scope; instr = instr })
    stands_on n done new goes instr there =
        let l = left_at n done in
        stands_then old world shared r at st may l.w l.kept.0.head heaps frames new own l.becomes n goes instr there

    -- ---- It raises something, and nothing changed.

    pub raised_nothing : (raise : Raise) → HeapDone old mid h at (Next.Raise raise) → RaisesStay → StaySame old mid
    raised_nothing raise done stays =
        let l = left_raising raise done in
        let same : l.w ≡ working doing = stays x at.scope at.instr (working doing) l.w raise l.row in
        let still : Becomes old mid h may.run (with_frame st.top.lower st.frame may.run.inside) =
        subst (λ (w : Working). Becomes old mid h may.run (with_frame st.top.lower w.frame w.inside)) same l.becomes in
        contents_stay old mid h may.run may.domain may.holds
        (subst (λ (fs : List FrameState). Becomes old mid h may.run (let run : Run = record { inside = may.run.inside; frames = fs } in run))
        (sym (are_frames old h may.run may.holds st.frame st.top)) still)

    -- ---- It raises something.

    module _ (raise : Raise) (done : HeapDone old mid h at (Next.Raise raise)) (keeps : IsKeptWell own) where
      l : IsLeft (Raises raise)
      l = left_raising raise done

      rooms : HasRooms world.classes may.domain.names.table own
      rooms = rooms_after old mid h l.w.inside l.becomes.inside may.domain keeps

      pub raising : MayRaise mid h
      raising = may_raise old world shared r at st may mid x is l.w l.kept.0 l.becomes rooms l.kept.1.0

      pub may_be_raised : MayBeRaised world.classes (heaps.heap r.domain) raise
      may_be_raised = raisable old world shared r at st may mid x is l.w l.kept.0 l.becomes rooms l.kept.1.0 raise l.kept.1.1

      pub raised : (new : Contents) (went : Went) → RaisedHere mid new h raise went → Stepped x r.thread may new went
      raised new went done_so =
          raised_at old world shared r at st may mid x is l.w l.kept.0 l.becomes rooms l.kept.1.0 new raise went (heap l.row) done_so

-- no other answer comes
two_answers : (after : After) (outcome : Outcome) → IsAnswered after outcome → ((n : ℕ) → after ≡ Next.Goto n → ⊥)
    → ((raise : Raise) → after ≡ Next.Raise raise → ⊥) → ⊥
two_answers (Next.Goto n) outcome is goes raises = goes n refl
two_answers (Next.Raise raise) outcome is goes raises = raises raise refl
two_answers after outcome is goes raises = is

pub nothing_else : (old new : Contents) (world : WorldRecord) (shared : SharedState) (r : Runs) (at : PlaceInCode)
    (st : StandsReady old.frames world.classes old.own.state r at) → MayAct old (here old world shared r at st) → (after : After)
    → HeapDone old new (here old world shared r at st) at after → ((n : ℕ) → after ≡ Next.Goto n → ⊥)
    → ((raise : Raise) → after ≡ Next.Raise raise → ⊥) → ⊥
nothing_else old new world shared r at st may after done goes raises =
    let to_do = may_do old world shared r at st may in
    let d = done (some_setting to_do) to_do (is_some_setting to_do) in
    two_answers after d.1 d.3 goes raises

-- where it doesn't go on, nothing changed
pub else_nothing : (old new : Contents) (world : WorldRecord) (shared : SharedState) (r : Runs) (at : PlaceInCode)
    (st : StandsReady old.frames world.classes old.own.state r at) → HeapRowsKeep → RaisesStay → MayAct old (here old world shared r at st)
    → (after : After) → HeapDone old new (here old world shared r at st) at after → ((n : ℕ) → after ≡ Next.Goto n → ⊥) → StaySame old new
else_nothing old new world shared r at st rows stays may (Next.Raise raise) done goes =
    let to_do = may_do old world shared r at st may in
    raised_nothing old world shared r at st new.heaps new.frames new.own rows may (some_setting to_do) (is_some_setting to_do) raise done stays
else_nothing old new world shared r at st rows stays may after done goes =
    absurd (nothing_else old new world shared r at st may after done goes (λ raise is. cc))

-- where something is raised, the top frame stands where it stood
pub still_there : (old new : Contents) (world : WorldRecord) (shared : SharedState) (r : Runs) (at : PlaceInCode)
    (st : StandsReady old.frames world.classes old.own.state r at) → HeapRowsKeep → RaisesStay → MayAct old (here old world shared r at st)
    → (raise : Raise) → HeapDone old new (here old world shared r at st) at (Next.Raise raise) → StandsThere new.frames world.classes r.segment at
still_there old new world shared r at st rows stays may raise done =
    let same = else_nothing old new world shared r at st rows stays may (Next.Raise raise) done (λ n is. cc) in
    subst (λ (frames : FrameContent). StandsThere frames world.classes r.segment at) (sym same.frames)
    (record { frame = st.frame; top = st.top; head = st.head; no_need = st.no_need; place = st.place })
