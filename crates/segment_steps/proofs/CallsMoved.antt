-- A call of a method of the system that is still to be done, after what changed nothing.
use Rattle.std.proofs.Common.{List, refl, sym, subst}
use Rattle.jk_model.specs.declared.identifiers.MemberId.{MemberId}
use Rattle.jk_model.specs.declared.identifiers.ThreadNo.{ThreadNo}
use Rattle.jk_model.specs.declared.output.Line.{Line}
use Rattle.jk_model_heaps.specs.Workings.{Setting}
use Rattle.class_init.specs.KeptStates.{KeptState}
use Rattle.frame_store.specs.FrameContents.{FrameContent, IsSame}
use Rattle.object_store.specs.HeapContents.{HeapContent}
use Rattle.step_contents.specs.Conditions.{MayDo}
use Rattle.step_contents.specs.Contents.{Becomes, Contents, Here, LeftBehind, contents_of}
use Rattle.step_contents.specs.PlacesInCode.{PlaceInCode}
use Rattle.step_contents.specs.Settings.{IsSetting}
use Rattle.segment_steps.specs.ActingSegments.{ActsSo, MayAct}
use Rattle.segment_steps.specs.CallsOnSystem.{CallsMethod}
use Rattle.segment_steps.specs.FollowedCalls.{LeavesToSystem}
use Rattle.segment_steps.specs.StepsAlone.{StandsReady}
use Rattle.segment_steps.specs.declared.meeting.Runs.{Runs}
use Rattle.segment_steps.specs.declared.went.Went.{Went}
use Rattle.segment_steps.proofs.ChangesInTurn.{free_after, holds_after}
use Rattle.segment_steps.proofs.FramesMoved.{acts_before, moved, stands_still}
use Rattle.segment_steps.proofs.KnownAfterwards.{known_after, setting_after}
use Rattle.segment_steps.proofs.StandingHere.{becomes_same}

same_back : (a b : FrameContent) → IsSame a b → IsSame b a
same_back a b same = record {
  domains = record {
    pages = sym same.domains.pages;
    took_all = sym same.domains.took_all;
    quota = λ d. sym (same.domains.quota d);
    first_page = λ d. sym (same.domains.first_page d);
  };
  used = λ d. sym (same.used d);
  segment = λ s. sym (same.segment s);
}

-- ---- What may be done may be done.

module _ (c : Contents) (here : Here) (at : PlaceInCode) (frames : FrameContent) (same : IsSame c.frames frames) (may : MayDo c here at) where
  pub unchanged : Becomes c (contents_of c.heaps frames c.own) here may.run may.run
  unchanged = becomes_same c here may.run may.domain may.holds frames same

  abbrev do_moved : MayDo (contents_of c.heaps frames c.own) here at
  do_moved = record {
    domain = known_after c (contents_of c.heaps frames c.own) here may.run.inside unchanged.inside may.domain may.domain.rooms;
    run = may.run;
    holds = holds_after c (contents_of c.heaps frames c.own) here may.run may.run unchanged;
    sealed = may.sealed;
    callers = may.callers;
    frame = may.frame;
    are_frames = may.are_frames;
    head = may.head;
    no_need = may.no_need;
    place = may.place;
  }

  setting_moved : (x : Setting) → IsSetting c here x → IsSetting (contents_of c.heaps frames c.own) here x
  setting_moved x is =
      setting_after c (contents_of c.heaps frames c.own) here may.run.inside unchanged.inside
      (free_after c (contents_of c.heaps frames c.own) here may.run.frames may.run.frames unchanged.frames refl) x is

calls_moved : (heaps : HeapContent) (frames new : FrameContent) (own : KeptState) (here : Here) (at : PlaceInCode) (m : MemberId) → IsSame frames new
    → CallsMethod (contents_of heaps frames own) here at m → CallsMethod (contents_of heaps new own) here at m
calls_moved heaps frames new own here at m same calls = λ x may is.
    let back = same_back frames new same in
    calls x (do_moved (contents_of heaps new own) here at frames back may) (setting_moved (contents_of heaps new own) here at frames back may x is)

-- ---- After an instruction of call that left it to be done.

module _ (old new : Contents) (h : Here) (at : PlaceInCode) (m : MemberId) (left : LeavesToSystem old new h at m) where
  abbrev mid : Contents
  mid = contents_of old.heaps new.frames old.own

  -- what holds with the stores as they were holds with those that are left
  carry : (P : Contents → Type 0) → P mid → P new
  carry P p =
      subst (λ (o : KeptState). P (contents_of new.heaps new.frames o)) (sym left.own)
      (subst (λ (hs : HeapContent). P (contents_of hs new.frames old.own)) (sym left.heaps) p)

  back : (P : Contents → Type 0) → P new → P mid
  back P p =
      subst (λ (hs : HeapContent). P (contents_of hs new.frames old.own)) left.heaps
      (subst (λ (o : KeptState). P (contents_of new.heaps new.frames o)) left.own p)

  pub may_still_act : MayAct old h → MayAct new h
  may_still_act may = carry (λ (c : Contents). MayAct c h) (moved old h new.frames left.frames may)

  pub stands_ready_still : (r : Runs) → StandsReady old.frames h.world.classes old.own.state r at
      → StandsReady new.frames h.world.classes new.own.state r at
  stands_ready_still r st =
      subst (λ (o : KeptState). StandsReady new.frames h.world.classes o.state r at) (sym left.own)
      (stands_still old.frames new.frames h.world.classes old.own.state r at left.frames st)

  pub calls_it_still : CallsMethod new h at m
  calls_it_still =
      carry (λ (c : Contents). CallsMethod c h at m) (calls_moved old.heaps old.frames new.frames old.own h at m left.frames left.calls)

  pub acts_as_before : (t : ThreadNo) (after : LeftBehind) (went : Went) (GoOut : List Line → Type 0) → ActsSo new h t after went GoOut
      → ActsSo old h t after went GoOut
  acts_as_before t after went GoOut acts =
      acts_before old h new.frames left.frames t after went GoOut (back (λ (c : Contents). ActsSo c h t after went GoOut) acts)
