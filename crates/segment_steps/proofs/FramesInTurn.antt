-- Steps that stay in their frame, one after another: the store of frames has the top frame where it stood some steps ago, until the place where it
-- stands is stored. Besides is looked at the store in which that is so at once.
use Rattle.std.proofs.Common.{◌≡◌, ℕ, ◌+◌, ◌≤◌, List, [], ◌∷◌, ◌++◌, Contains, Option, Some, None, slice_get, refl, sym, ap, subst, ◌∙◌, arith}
use Rattle.std.proofs.lemmas.List.Sums.{sum_by_push}
use Rattle.list_lemmas.proofs.LastItems.{last_of}
use Rattle.jk_model.specs.declared.frames.FrameHead.{FrameHead}
use Rattle.jk_model.specs.declared.identifiers.ClassId.{ClassId}
use Rattle.jk_model.specs.declared.identifiers.ThreadNo.{ThreadNo}
use Rattle.jk_model.specs.declared.instructions.Instr.{Instr}
use Rattle.jk_model.specs.declared.steps.After.TheVariants as Next
use Rattle.jk_model_classes.specs.declared.records.ClassRecord.{ClassRecord}
use Rattle.jk_model_classes.specs.Worlds.{WorldRecord}
use Rattle.jk_model_frames.specs.Frames.{FrameState, frames_chunks, head_chunks}
use Rattle.jk_model_domains.specs.NumberRows.{NumberRow}
use Rattle.jk_model_domains.specs.ValueTypes.{FrameHolds}
use Rattle.jk_model_heaps.specs.CalledFrames.{at_place}
use Rattle.jk_model_heaps.specs.RunningCode.{InstrNeeds}
use Rattle.jk_model_heaps.specs.Workings.{GoesOn, Inside, Run, Setting, Working}
use Rattle.jk_model_running.specs.Executions.{Executes, heap as by_heap}
use Rattle.jk_model_sealing.specs.AnsweringFrames.{FramesAnswer}
use Rattle.jk_model_sharing.specs.SharedStates.{SharedState}
use Rattle.frame_store.specs.FrameContents.{Changes, FrameContent, HasTop, SetsTop, TopFrame, free_chunks}
use Rattle.heap_laws.specs.FittingOutcomes.{FitsOutcome}
use Rattle.heap_laws.specs.KeptInsides.{IsKept}
use Rattle.heap_ops.specs.HeapSteps.{HeapDone}
use Rattle.object_store.specs.HeapContents.{HeapContent}
use Rattle.number_laws.specs.FrameLaws.{with_head}
use Rattle.number_ops.specs.NumberSteps.{DoesNumbers}
use Rattle.number_ops.proofs.TopFrames.{same_top}
use Rattle.row_laws.specs.HeapRowLaws.{HeapRowsKeep}
use Rattle.row_laws.proofs.InstructionsKept.{instruction_kept}
use Rattle.step_contents.specs.Conditions.{MayDo, around, working}
use Rattle.step_contents.specs.Contents.{Becomes, Contents, Here, contents_of, here_at, with_frame}
use Rattle.step_contents.specs.InstructionKinds.{HasRow}
use Rattle.step_contents.specs.PlacesInCode.{IsPlaceIn, PlaceInCode}
use Rattle.step_contents.specs.Settings.{IsSetting}
use Rattle.step_contents.specs.StandingTops.{StandsThere}
use Rattle.step_contents.proofs.InstructionsBegin.{runs_code, runs_well}
use Rattle.exception_unwind.proofs.FramesChanged.{segment_of, sets_it, then_changes, top_there}
use Rattle.segment_steps.specs.ActingSegments.{MayAct}
use Rattle.segment_steps.specs.InFrameTurns.{Accesses, GoesOnInFrame, IsReadyAt, StaysAsItIs, StoresPlace}
use Rattle.segment_steps.specs.StepsAlone.{StandsReady}
use Rattle.segment_steps.specs.StepsInTurn.{HaveRooms, StepsInTurn, none}
use Rattle.segment_steps.specs.declared.meeting.Runs.{Runs}
use Rattle.segment_steps.proofs.ChangesInTurn.{becomes_then, free_after, inside_kept}
use Rattle.segment_steps.proofs.ContentsStay.{frames_stay}
use Rattle.segment_steps.proofs.GoingOnActing.{acts_again, step, waits_for_none}
use Rattle.segment_steps.proofs.KnownAfterwards.{setting_after}
use Rattle.segment_steps.proofs.NumbersBegin.{has_row as row_begins, numbers_ready}
use Rattle.segment_steps.proofs.NumbersDone.{becomes as numbers_become, executes as numbers_execute, head_stays}
use Rattle.segment_steps.proofs.NumbersInFrame.{needs_no_class}
use Rattle.segment_steps.proofs.AccessesInFrame.{access_needs_no_class}
use Rattle.segment_steps.proofs.ReframedStores.{between, reframed, reframes, stays_same}
use Rattle.segment_steps.proofs.HeapsFollowed.{next_there}
use Rattle.segment_steps.proofs.StandingHere.{becomes_same, same_frames}
use Rattle.segment_steps.proofs.StepsJoined.{one_step, set_same, steps_then}

-- the frame at another place
abbrev pub moved_to : ℕ → FrameState → FrameState
moved_to place f = record f { head = record f.head { at = place } }

pub top_of : (classes : List ClassRecord) (frames : List FrameState) → FramesAnswer classes frames
    → (callers : List FrameState) × (f : FrameState) × (frames ≡ callers ++ f ∷ [])
top_of classes [] answers = absurd answers
top_of classes (f ∷ frames) answers = last_of f frames

-- So many steps were done since this, and the top frame stands there.
pub record Midway {old : Contents} {here : Here} (may : MayAct old here) (x : Setting) (t : ThreadNo) (heaps : HeapContent) (now : FrameContent)
    (at : PlaceInCode) (done : ℕ) : Type 0 where
  -- the store in which the place is stored
  pub there : FrameContent
  pub acts : MayAct (contents_of heaps there old.own) here
  pub set : IsSetting (contents_of heaps there old.own) here x
  pub callers : List FrameState
  pub frame : FrameState
  pub are_frames : acts.run.frames ≡ callers ++ frame ∷ []
  pub head : at.head ≡ frame.head
  pub no_need : at.head.need ≡ None
  -- the place that is stored, and the store as it is
  pub place : ℕ
  pub behind : Changes there now here.segment here.domain (Some (segment_of here.domain (callers ++ moved_to place frame ∷ [])))
      (there.used here.domain)
  pub cost : frames_chunks acts.run.frames ≡ frames_chunks may.run.frames
  pub steps : StepsInTurn t old.own.rooms done x may.run acts.run
  pub becomes : Becomes old (contents_of heaps there old.own) here may.run acts.run

-- ---- At first.

module _ (old : Contents) (here : Here) (may : MayAct old here) (x : Setting) (t : ThreadNo) (set : IsSetting old here x) where
  pub begins : (at : PlaceInCode) → StandsThere old.frames here.world.classes here.segment at → Midway may x t old.heaps old.frames at 0
  begins at stands =
      let top = top_of here.world.classes may.run.frames may.answers in
      let on_top : TopFrame old.frames here.segment top.1 = record {
        segment = segment_of here.domain may.run.frames;
        is_there = may.holds.frames;
        lower = top.0;
        frames = top.2;
      } in
      let same : stands.frame ≡ top.1 = same_top old.frames here.segment stands.frame top.1 stands.top on_top in
      let known = may.holds.frames ∙ ap (λ (l : List FrameState). Some (segment_of here.domain l)) top.2 in
      record {
        there = old.frames;
        acts = may;
        set = set;
        callers = top.0;
        frame = top.1;
        are_frames = top.2;
        head = stands.head ∙ ap (λ (f : FrameState). f.head) same;
        no_need = stands.no_need;
        place = top.1.head.at;
        behind = stays_same old.frames here.segment here.domain (segment_of here.domain (top.0 ++ top.1 ∷ [])) known;
        cost = refl;
        steps = none x may.run;
        becomes = stays_so;
      }
    where
      stays_so : Becomes old (contents_of old.heaps old.frames old.own) here may.run may.run
      stays_so = becomes_same old here may.run may.domain may.holds old.frames (same_frames old.frames)

-- ---- In between.

module _ {old : Contents} {world : WorldRecord} {shared : SharedState} {r : Runs} (may : MayAct old (here_at world shared r.domain r.segment))
    (x : Setting) (heaps : HeapContent) (now : FrameContent) (at : PlaceInCode) (done : ℕ) (place : IsPlaceIn world.classes at)
    (m : Midway may x r.thread heaps now at done) where
  abbrev h : Here
  h = here_at world shared r.domain r.segment

  abbrev c : Contents
  c = contents_of heaps m.there old.own

  -- ---- The top frame, in the store in which it stands there, and in the other.

  abbrev top : TopFrame m.there r.segment m.frame
  top = record {
    segment = segment_of r.domain m.acts.run.frames;
    is_there = m.acts.holds.frames;
    lower = m.callers;
    frames = m.are_frames;
  }

  abbrev pub ready_if : ((k : ClassId) → InstrNeeds at.scope at.instr k → ⊥) → StandsReady m.there world.classes old.own.state r at
  ready_if never = record {
    frame = m.frame;
    top = top;
    head = m.head;
    no_need = m.no_need;
    place = place;
    ready = λ k needs. absurd (never k needs);
  }

  abbrev doing : MayDo c h at
  doing = record {
    domain = m.acts.domain;
    run = m.acts.run;
    holds = m.acts.holds;
    sealed = m.acts.sealed;
    callers = m.callers;
    frame = m.frame;
    are_frames = m.are_frames;
    head = m.head;
    no_need = m.no_need;
    place = place;
  }

  abbrev pub stands : StandsThere m.there world.classes r.segment at
  stands = record { frame = m.frame; top = top; head = m.head; no_need = m.no_need; place = place }

  stored_top : TopFrame now r.segment (moved_to m.place m.frame)
  stored_top = top_there now r.segment r.domain m.callers (moved_to m.place m.frame) m.behind.becomes

  pub still_top : HasTop now r.segment
  still_top = (moved_to m.place m.frame, stored_top)

  pub has_row : HasRow at
  has_row = row_begins doing

  there_was : m.there.segment r.segment ≡ Some (segment_of r.domain (m.callers ++ m.frame ∷ []))
  there_was = m.acts.holds.frames ∙ ap (λ (l : List FrameState). Some (segment_of r.domain l)) m.are_frames

  -- ---- What an instruction on numbers asks.

  pub ready : IsReadyAt now world.classes r.segment at
  ready of_numbers =
      let a = numbers_ready doing of_numbers in
      let same : a.frame ≡ m.frame = same_top m.there r.segment a.frame m.frame a.top top in
      let holds : FrameHolds a.scope a.heap m.frame a.before = subst (λ (f : FrameState). FrameHolds a.scope a.heap f a.before) same a.holds in
      record {
        frame = moved_to m.place m.frame;
        top = stored_top;
        ahead = ap (λ (k : FrameHead). let j : FrameHead = record k { at = at.head.at } in j) m.head;
        method = a.method;
        method_is = a.method_is;
        scope = a.scope;
        scope_is = a.scope_is;
        room = a.room;
        stands = a.stands;
        of_numbers = a.of_numbers;
        before = a.before;
        after = a.after;
        sized = a.sized;
        row = a.row;
        heap = a.heap;
        holds = record { locals = holds.locals; stack = holds.stack };
        keys = a.keys;
        goes_on = a.goes_on;
        short = a.short;
      }

  -- ---- Once its place is stored, the store is the one in which it stands there.

  settled_is : (let f : FrameState = moved_to m.place m.frame in
      let g : FrameState = record f { head = record f.head { at = at.head.at; need = None } } in g) ≡ m.frame
  settled_is =
      ap (λ (k : FrameHead). let g : FrameState = record m.frame { head = record m.frame.head { at = k.at; need = None } } in g) m.head
      ∙ ap (λ (o : Option ClassId). let g : FrameState = record m.frame { head = record m.frame.head { need = o } } in g)
      (sym (ap (λ (k : FrameHead). k.need) (sym m.head) ∙ m.no_need))

  pub is_there : (mid : FrameContent) → StoresPlace now mid r.segment at → mid ≡ m.there
  is_there mid stores =
      let sets : SetsTop now mid r.segment m.frame =
      subst (SetsTop now mid r.segment) settled_is (stores (moved_to m.place m.frame) stored_top) in
      let one = sets_it now r.segment r.domain m.callers (moved_to m.place m.frame) m.behind.becomes mid m.frame sets in
      let changes : Changes m.there mid r.segment r.domain (Some (segment_of r.domain (m.callers ++ m.frame ∷ []))) (now.used r.domain) =
      then_changes m.there now mid r.segment r.domain (Some (segment_of r.domain (m.callers ++ moved_to m.place m.frame ∷ [])))
      (Some (segment_of r.domain (m.callers ++ m.frame ∷ []))) (m.there.used r.domain) (now.used r.domain) m.behind one in
      frames_stay c (contents_of heaps mid old.own) h (m.callers ++ m.frame ∷ []) there_was
      (record {
        used = now.used r.domain;
        chunks = ap (λ (n : ℕ). n + frames_chunks (m.callers ++ m.frame ∷ [])) m.behind.uses;
        changes = changes;
      })

  pub acts_once_stored : (mid : FrameContent) → StoresPlace now mid r.segment at
      → MayAct (contents_of heaps mid old.own) h × StandsThere mid world.classes r.segment at
  acts_once_stored mid stores =
      subst (λ (fs : FrameContent). MayAct (contents_of heaps fs old.own) h × StandsThere fs world.classes r.segment at)
      (sym (is_there mid stores)) (m.acts, stands)

  -- ---- Nothing was done.

  pub rests : (new : FrameContent) → StaysAsItIs now new r.segment → Midway may x r.thread heaps new at done
  rests new same =
      let sets = sets_it now r.segment r.domain m.callers (moved_to m.place m.frame) m.behind.becomes new (moved_to m.place m.frame)
      (same (moved_to m.place m.frame) stored_top) in
      let changes = then_changes m.there now new r.segment r.domain (Some (segment_of r.domain (m.callers ++ moved_to m.place m.frame ∷ [])))
      (Some (segment_of r.domain (m.callers ++ moved_to m.place m.frame ∷ []))) (m.there.used r.domain) (now.used r.domain) m.behind sets in
      record {
        there = m.there;
        acts = m.acts;
        set = m.set;
        callers = m.callers;
        frame = m.frame;
        are_frames = m.are_frames;
        head = m.head;
        no_need = m.no_need;
        place = m.place;
        behind = subst (Changes m.there new r.segment r.domain (Some (segment_of r.domain (m.callers ++ moved_to m.place m.frame ∷ []))))
            m.behind.uses changes;
        cost = m.cost;
        steps = m.steps;
        becomes = m.becomes;
      }

  -- nothing but that the place was stored
  pub rests_stored : (new : FrameContent) → StoresPlace now new r.segment at → Midway may x r.thread heaps new at done
  rests_stored new stores =
      subst (λ (fs : FrameContent). Midway may x r.thread heaps fs at done) (sym (is_there new stores))
      (record {
        there = m.there;
        acts = m.acts;
        set = m.set;
        callers = m.callers;
        frame = m.frame;
        are_frames = m.are_frames;
        head = m.head;
        no_need = m.no_need;
        place = m.frame.head.at;
        behind = stays_same m.there r.segment r.domain (segment_of r.domain (m.callers ++ m.frame ∷ [])) there_was;
        cost = m.cost;
        steps = m.steps;
        becomes = m.becomes;
      })

  -- ---- The instruction was done, and the frame goes on. It stands where it stood yet in the store that the instruction left.

  module _ (rows : HeapRowsKeep) (never : (k : ClassId) → InstrNeeds at.scope at.instr k → ⊥) (after : HeapContent) (mid : FrameContent) (w : Working)
      (n : ℕ) (executes : Executes x at.scope at.instr (working doing) w (GoesOn n))
      (becomes : Becomes c (contents_of after mid old.own) h m.acts.run (with_frame m.callers w.frame w.inside)) where
    kept : IsKept (around m.acts.domain) x (working doing) w × FitsOutcome (around m.acts.domain) x at.scope w (GoesOn n)
    kept = instruction_kept rows (around m.acts.domain) x (working doing) w (GoesOn n) (runs_well doing x m.set) (runs_code doing) executes

    abbrev next : FrameContent
    next = reframed mid r.segment r.domain (m.callers ++ at_place w.frame n ∷ [])

    abbrev left : Run
    left = with_frame m.callers (at_place w.frame n) w.inside

    -- ---- The store in which it stands there.

    next_changes : Changes mid next r.segment r.domain (Some (segment_of r.domain (m.callers ++ at_place w.frame n ∷ []))) (mid.used r.domain)
    next_changes = reframes mid r.segment r.domain (m.callers ++ at_place w.frame n ∷ [])

    became : Becomes c (contents_of after next old.own) h m.acts.run left
    became = record {
      inside = inside_kept c after mid next old.own h w.inside refl becomes.inside;
      frames = record {
        used = mid.used r.domain;
        chunks = ap (λ (u : ℕ). u + frames_chunks m.acts.run.frames) becomes.frames.changes.uses ∙ becomes.frames.chunks ∙ ap
            (λ (k : ℕ). c.frames.used r.domain + k) one_cost;
        changes = then_changes c.frames mid next r.segment r.domain (Some (segment_of r.domain (m.callers ++ w.frame ∷ [])))
            (Some (segment_of r.domain (m.callers ++ at_place w.frame n ∷ []))) becomes.frames.used (mid.used r.domain) becomes.frames.changes
            next_changes;
      };
    }
      where
        one_cost : frames_chunks (m.callers ++ w.frame ∷ []) ≡ frames_chunks (m.callers ++ at_place w.frame n ∷ [])
        one_cost =
            sum_by_push (λ (f : FrameState). head_chunks f.head) m.callers w.frame
            ∙ sym (sum_by_push (λ (f : FrameState). head_chunks f.head) m.callers (at_place w.frame n))

    same_cost : frames_chunks left.frames ≡ frames_chunks m.acts.run.frames
    same_cost =
        let cost : FrameState → ℕ = λ (f : FrameState). head_chunks f.head in
        let was : frames_chunks m.acts.run.frames ≡ frames_chunks (m.callers ++ m.frame ∷ []) = ap frames_chunks m.are_frames in
        let one = sum_by_push cost m.callers m.frame in
        let two = sum_by_push cost m.callers (at_place w.frame n) in
        let same : head_chunks (at_place w.frame n).head ≡ head_chunks m.frame.head = ap head_chunks kept.0.head in
        omega (arith, was, one, two, same)

    free_still : free_chunks next r.domain ≡ free_chunks m.there r.domain
    free_still = free_after c (contents_of after next old.own) h m.acts.run.frames left.frames became.frames same_cost

    -- ---- All that is known after it.

    module _ (new : FrameContent) (p : ℕ)
        (behind : Changes mid new r.segment r.domain (Some (segment_of r.domain (m.callers ++ moved_to p w.frame ∷ []))) (mid.used r.domain))
        (instr : Instr) (stands_there : slice_get at.scope.code.instrs n ≡ Some instr) where
      pub moves : Midway may x r.thread after new (record { head = record at.head { at = n }; scope = at.scope; instr = instr }) (done + 1)
      moves = record {
        there = next;
        acts = acts_again c world shared r at (ready_if never) m.acts x m.set w n (contents_of after next old.own) kept.0 kept.1 became
            m.acts.domain.rooms;
        set = setting_after c (contents_of after next old.own) h w.inside became.inside free_still x m.set;
        callers = m.callers;
        frame = at_place w.frame n;
        are_frames = refl;
        head = ap (λ (k : FrameHead). let j : FrameHead = record k { at = n } in j) (m.head ∙ sym kept.0.head);
        no_need = m.no_need;
        place = p;
        behind = between mid next new r.segment r.domain (Some (segment_of r.domain (m.callers ++ at_place w.frame n ∷ [])))
            (Some (segment_of r.domain (m.callers ++ moved_to p w.frame ∷ []))) (mid.used r.domain) (mid.used r.domain) next_changes behind;
        cost = same_cost ∙ m.cost;
        steps = steps_then r.thread old.own.rooms done 1 x may.run m.acts.run left m.steps
            (subst (λ (y : Setting). StepsInTurn r.thread old.own.rooms 1 y m.acts.run left) (sym (set_same x may.run m.acts.run m.cost))
            (one_step r.thread old.own.rooms x m.acts.run left (waits_for_none c world shared r at (ready_if never) m.acts x m.set never)
            (step c world shared r at (ready_if never) m.acts x m.set w n executes) rooms_there
            (let fits : frames_chunks left.frames ≤ frames_chunks m.acts.run.frames + x.chunks = omega (arith, same_cost) in fits)));
        becomes = becomes_then old c (contents_of after next old.own) h may.run m.acts.run left m.becomes became;
      }
        where
          rooms_there : HaveRooms old.own.rooms left
          rooms_there l has =
              m.acts.domain.rooms.literals l (subst (λ (i : Inside). Contains i.own.literals l) became.inside.is_inside has)

  -- ---- An instruction on numbers was done.

  module _ (rows : HeapRowsKeep) (new : FrameContent) (n : ℕ) (did : GoesOnInFrame now new world.classes r.segment at n) where
    abbrev g : FrameState
    g = did.does.1

    abbrev mid : FrameContent
    mid = reframed m.there r.segment r.domain (m.callers ++ with_head did.does.1 m.frame.head ∷ [])

    never : (k : ClassId) → InstrNeeds at.scope at.instr k → ⊥
    never = needs_no_class at.scope at.instr did.numbers

    is_stored : did.does.0 ≡ moved_to m.place m.frame
    is_stored = same_top now r.segment did.does.0 (moved_to m.place m.frame) did.does.4 stored_top

    row : NumberRow did.does.3 at.head.at at.instr (with_head m.frame at.head) did.does.1 (Next.Goto n)
    row =
        subst (λ (k : FrameState). NumberRow did.does.3 at.head.at at.instr (with_head k at.head) did.does.1 (Next.Goto n)) is_stored did.does.8

    -- as it would be done in the store in which it stands there
    abbrev does_there : DoesNumbers m.there mid world.classes r.segment at.head at.instr (Next.Goto n)
    does_there = (
      m.frame,
      did.does.1,
      did.does.2,
      did.does.3,
      top,
      m.head ∙ ap (λ (k : FrameHead). let j : FrameHead = record m.frame.head { at = k.at } in j) (sym m.head),
      did.does.6,
      did.does.7,
      row,
      (m.frame, top, reframes m.there r.segment r.domain (m.callers ++ with_head did.does.1 m.frame.head ∷ [])),
    )

    head_still : did.does.1.head ≡ m.frame.head
    head_still = head_stays c world shared r at (ready_if never) mid (Next.Goto n) does_there

    behind_numbers : Changes mid new r.segment r.domain (Some (segment_of r.domain (m.callers ++ moved_to m.place did.does.1 ∷ []))) (mid.used r.domain)
    behind_numbers =
        let was : List FrameState = m.callers ++ moved_to m.place m.frame ∷ [] in
        let is : List FrameState = m.callers ++ with_head did.does.1 (moved_to m.place m.frame).head ∷ [] in
        let sets : SetsTop now new r.segment (with_head did.does.1 (moved_to m.place m.frame).head) =
        subst (λ (k : FrameState). SetsTop now new r.segment (with_head did.does.1 k.head)) is_stored did.does.9 in
        let last = sets_it now r.segment r.domain m.callers (moved_to m.place m.frame) m.behind.becomes new
        (with_head did.does.1 (moved_to m.place m.frame).head) sets in
        let all : Changes m.there new r.segment r.domain (Some (segment_of r.domain is)) (m.there.used r.domain) =
        subst (Changes m.there new r.segment r.domain (Some (segment_of r.domain is))) m.behind.uses
        (then_changes m.there now new r.segment r.domain (Some (segment_of r.domain was)) (Some (segment_of r.domain is)) (m.there.used r.domain)
        (now.used r.domain) m.behind last) in
        subst
        (λ (k : FrameHead). Changes mid new r.segment r.domain
        (Some (segment_of r.domain (m.callers ++ (let f : FrameState = record did.does.1 { head = record k { at = m.place } } in f) ∷ [])))
        (mid.used r.domain))
        (sym head_still)
        (between m.there mid new r.segment r.domain (Some (segment_of r.domain (m.callers ++ with_head did.does.1 m.frame.head ∷ [])))
        (Some (segment_of r.domain is)) (m.there.used r.domain) (m.there.used r.domain)
        (reframes m.there r.segment r.domain (m.callers ++ with_head did.does.1 m.frame.head ∷ [])) all)

    pub computed : (instr : Instr) → slice_get at.scope.code.instrs n ≡ Some instr
        → Midway may x r.thread heaps new (record { head = record at.head { at = n }; scope = at.scope; instr = instr }) (done + 1)
    computed =
        moves rows never heaps mid (record { inside = m.acts.run.inside; frame = did.does.1 }) n
        (numbers_execute c world shared r at (ready_if never) mid (Next.Goto n) does_there m.acts x m.set (GoesOn n) refl)
        (numbers_become c world shared r at (ready_if never) mid (Next.Goto n) does_there m.acts) new m.place behind_numbers

  -- ---- An access was done.

  module _ (rows : HeapRowsKeep) (after : HeapContent) (new : FrameContent) (n : ℕ)
      (did : Accesses heaps after now new world r.domain r.segment at n) where
    does_here : HeapDone c (contents_of after new old.own) h at (Next.Goto n)
    does_here =
        subst (λ (fs : FrameContent). HeapDone (contents_of heaps fs old.own) (contents_of after new old.own) h at (Next.Goto n))
        (is_there did.mid did.stores) (did.does old.own shared)

    pub accessed : (instr : Instr) → slice_get at.scope.code.instrs n ≡ Some instr
        → Midway may x r.thread after new (record { head = record at.head { at = n }; scope = at.scope; instr = instr }) (done + 1)
    accessed =
        let d = does_here x doing m.set in
        moves rows (access_needs_no_class at.scope at.instr did.access) after new d.0 n
        (subst (Executes x at.scope at.instr (working doing) d.0) d.3 (by_heap d.2)) d.4 new d.0.frame.head.at
        (stays_same new r.segment r.domain (segment_of r.domain (m.callers ++ d.0.frame ∷ [])) d.4.frames.changes.becomes)

  -- where it goes on there is an instruction
  pub next_of_access : HeapRowsKeep → (after : HeapContent) (new : FrameContent) (n : ℕ)
      → Accesses heaps after now new world r.domain r.segment at n → slice_get at.scope.code.instrs n ≡ None → ⊥
  next_of_access rows after new n did =
      next_there c world shared r at (ready_if (access_needs_no_class at.scope at.instr did.access)) after new old.own rows m.acts x m.set n
      (does_here rows after new n did)

  pub next_place : (n : ℕ) (instr : Instr) → slice_get at.scope.code.instrs n ≡ Some instr
      → IsPlaceIn world.classes (record { head = record at.head { at = n }; scope = at.scope; instr = instr })
  next_place n instr there = record { method = place.method; is_method = place.is_method; is_scope = place.is_scope; stands = there }

  -- ---- The last place is stored.

  module _ (new : FrameContent) (stores : StoresPlace now new r.segment at) where
    pub ends : (run : Run) × StepsInTurn r.thread old.own.rooms done x may.run run × Becomes old (contents_of heaps new old.own) h may.run run
    ends = (
      m.acts.run,
      m.steps,
      subst (λ (fs : FrameContent). Becomes old (contents_of heaps fs old.own) h may.run m.acts.run) (sym (is_there new stores)) m.becomes,
    )

    -- and there it stands then
    pub stands_last : StandsThere new world.classes r.segment at
    stands_last = subst (λ (fs : FrameContent). StandsThere fs world.classes r.segment at) (sym (is_there new stores)) stands
