-- An object on its way through the frames of a segment: so many are left, the others stand as they did, and what is known of the segment
-- where something is raised is known of the frame that comes next.
use Rattle.std.proofs.Common.{inl, inr, ◌≡◌, ◌⊎◌, ℕ, ◌+◌, ◌<◌, ◌≤◌, List, [], ◌∷◌, ◌++◌, length, Contains, Some, None, refl, sym, ap, subst, ◌∙◌, append_assoc, arith}
use Rattle.std.proofs.lemmas.List.{append-nil, length-append}
use Rattle.list_lemmas.proofs.ItemsOfLists.{Contains-here, Contains-there}
use Rattle.list_lemmas.proofs.LastItems.{last_of}
use Rattle.jk_model.specs.declared.identifiers.ClassId.{ClassId}
use Rattle.jk_model_classes.specs.declared.records.Caught.{Caught}
use Rattle.jk_model_classes.specs.declared.records.ClassRecord.{ClassRecord}
use Rattle.jk_model_frames.specs.Frames.{FrameState}
use Rattle.jk_model_domains.specs.Objects.{NamedObject, Plain}
use Rattle.jk_model_domains.specs.OwnStates.{HasState}
use Rattle.jk_model_heaps.specs.declared.shapes.Unwound.TheVariants as Ended
use Rattle.jk_model_heaps.specs.Workings.{Inside, Run, Setting}
use Rattle.jk_model_sealing.specs.FittingFrames.{FramesFit, HasTyping}
use Rattle.jk_model_sealing.specs.SealedInsides.{IsSealedInside}
use Rattle.jk_model_unwinding.specs.Unwinding.{Catches, CatchesNot, LeavesFrame, LeavesFrames, Unwinds, at_handler}
use Rattle.class_init.specs.KeptStates.{KeptState}
use Rattle.frame_store.specs.FrameContents.{IsContent, Pops, SetsTop, TopFrame}
use Rattle.object_store.specs.HeapContents.{HeapContent, IsName}
use Rattle.heap_laws.specs.RaisableObjects.{IsThrowable, MayMeetRaise}
use Rattle.step_contents.specs.Conditions.{MayChange, MayRaise, around}
use Rattle.step_contents.specs.Contents.{Becomes, Contents, FramesBecome, Here, InsideBecomes, contents_of}
use Rattle.step_contents.specs.Settings.{IsSetting}
use Rattle.row_laws.proofs.StandsHere.{code_here}
use Rattle.row_laws.proofs.UnwindingFramesLeft.{LeftSealed, frames_left}
use Rattle.row_laws.proofs.HandlersFit.{MayCatch, frame_may}
use Rattle.row_laws.proofs.RoomToCatch.{room_to_catch}
use Rattle.exception_unwind.specs.LeftFrames.{FrameIsLeft}
use Rattle.exception_unwind.specs.Trials.{HasPlace}
use Rattle.exception_unwind.proofs.FramesChanged.{frames_popped, frames_set, same_frames, top_there}
use Rattle.exception_unwind.proofs.InsidesChanged.{inside_then, nothing_changed, with_frames}
use Rattle.exception_unwind.proofs.KnownDomains.{known_quota, known_setting, may_still_change, setting_stays}

-- The inside is looked at without the frames that are there now.
pub record Midway (old now : Contents) (here : Here) (x : Setting) (run : Run) (a gone thrown : ℕ) : Type 0 where
  pub lower : List FrameState
  pub upper : List FrameState
  pub are_frames : run.frames ≡ lower ++ upper
  pub many : length upper ≡ gone
  pub inside : Inside
  pub leaves : LeavesFrames x upper run.inside a inside thrown
  pub becomes : InsideBecomes old (contents_of now.heaps old.frames now.own) here inside
  pub frames : FramesBecome old now here run.frames lower

pub begins : (old : Contents) (here : Here) (x : Setting) (may : MayRaise old here) (a : ℕ) → Midway old old here x may.run a 0 a
begins old here x may a = record {
  lower = may.run.frames;
  upper = [];
  are_frames = sym (append-nil may.run.frames);
  many = refl;
  inside = may.run.inside;
  leaves = (refl, refl);
  becomes = subst (InsideBecomes old old here) (sym may.holds.inside) (nothing_changed old here may.domain);
  frames = same_frames old here may.run.frames may.holds.frames;
}

no_frames : (frames : List FrameState) → length frames ≡ 0 → frames ≡ []
no_frames [] e = refl
no_frames (f ∷ frames) e = absurd (omega (arith, e))

in_middle : (below : List FrameState) (f : FrameState) (upper : List FrameState) → Contains (below ++ f ∷ upper) f
in_middle [] f upper = Contains-here f upper
in_middle (g ∷ below) f upper = Contains-there f g (below ++ f ∷ upper) (in_middle below f upper)

module _ (old now : Contents) (here : Here) (x : Setting) (may : MayRaise old here) (set : IsSetting old here x) (a gone thrown : ℕ)
    (throws : IsThrowable here.world.classes (old.heaps.heap here.domain) a) (m : Midway old now here x may.run a gone thrown) where
  -- the contents that the domain's inside is looked at in
  abbrev pub looked : Contents
  looked = contents_of now.heaps old.frames now.own

  left : LeftSealed (around may.domain) x (known_setting old here may.domain x set) may.run.inside m.inside thrown
  left =
      frames_left (around may.domain) x (known_setting old here may.domain x set) m.upper may.run.inside m.inside a thrown
      (subst (λ (q : ℕ). IsSealedInside (around may.domain) q may.run.inside) (known_quota old here may.domain x set) may.sealed.inside)
      (subst (λ (i : Inside). IsThrowable here.world.classes i.heap a) (sym may.holds.inside) throws) m.leaves

  -- ---- What is known of the domain.

  pub is_thrown : IsThrowable here.world.classes (now.heaps.heap here.domain) thrown
  is_thrown = subst (λ (i : Inside). IsThrowable here.world.classes i.heap thrown) m.becomes.is_inside left.thrown

  pub is_name : IsName now.heaps here.domain thrown
  is_name = (Plain is_thrown.0 is_thrown.1, is_thrown.2)

  pub may_change : MayChange looked here
  may_change =
      may_still_change old here now.heaps now.own m.inside m.becomes may.domain
      (left.literals ∙ ap (λ (i : Inside). i.own.literals) may.holds.inside)
      (subst (λ (q : ℕ). IsSealedInside (around may.domain) q m.inside) (sym (known_quota old here may.domain x set)) left.inside.sealed)

  pub is_set : IsSetting looked here x
  is_set = setting_stays old here now.heaps now.own m.inside m.becomes x set

  -- ---- The frame that comes next.

  pub record HasNext : Type 0 where
    pub below : List FrameState
    pub frame : FrameState
    pub is : m.lower ≡ below ++ frame ∷ []

  some_last : (frames : List FrameState) → 1 ≤ length frames → (below : List FrameState) × (f : FrameState) × (frames ≡ below ++ f ∷ [])
  some_last [] some = absurd (omega (arith, some))
  some_last (f ∷ frames) some = last_of f frames

  pub next : gone < length may.run.frames → HasNext
  next more =
      let whole : length may.run.frames ≡ length m.lower + length m.upper = ap length m.are_frames ∙ length-append m.lower m.upper in
      let last = some_last m.lower (omega (arith, whole, m.many, more)) in
      record { below = last.0; frame = last.1; is = last.2 }

  module _ (n : HasNext) where
    frames_are : FramesBecome old now here may.run.frames (n.below ++ n.frame ∷ [])
    frames_are = subst (FramesBecome old now here may.run.frames) n.is m.frames

    pub is_top : TopFrame now.frames here.segment n.frame
    is_top = top_there now.frames here.segment here.domain n.below n.frame frames_are.changes.becomes

    whole : may.run.frames ≡ n.below ++ n.frame ∷ m.upper
    whole = m.are_frames ∙ ap (λ (l : List FrameState). l ++ m.upper) n.is ∙ append_assoc n.below (n.frame ∷ []) m.upper

    may_catch : MayCatch here.world.classes may.run.inside.heap n.frame
    may_catch =
        frame_may here.world.classes may.run.inside.heap n.below m.upper n.frame
        (subst (FramesFit (MayMeetRaise here.world.classes may.run.inside.heap) here.world.classes may.run.inside.heap) whole
        may.sealed.frames.fit)

    typed_by : MayCatch here.world.classes may.run.inside.heap n.frame → (n.frame.head.method ≡ None) ⊎ HasTyping x.classes n.frame
    typed_by (inl none) = inl none
    typed_by (inr has) = inr (subst (λ (classes : List ClassRecord). HasTyping classes n.frame) (sym set.classes) has.typing)

    pub typed : (n.frame.head.method ≡ None) ⊎ HasTyping x.classes n.frame
    typed = typed_by may_catch

    pub has_place : HasPlace x.classes n.frame
    has_place = elim typed [ inl none ↦ inl none | inr typing ↦ inr (code_here x.classes n.frame typing) ]

    pub has_room : (heap : List NamedObject) (h : Caught) → Catches x heap n.frame thrown h → 1 ≤ n.frame.head.max_stack
    has_room heap h catches = elim typed [
      | inl none ↦ absurd (let is : None ≡ Some catches.code.method = sym none ∙ catches.code.is_method in cc)
      | inr typing ↦ room_to_catch x heap n.frame thrown h typing catches
    ]

    pub has_state : (c : ClassId) → n.frame.head.initialises ≡ Some c → HasState now.own.state c
    has_state c is =
        let on : Contains may.run.frames n.frame = subst (λ (l : List FrameState). Contains l n.frame) (sym whole) (in_middle n.below n.frame m.upper) in
        subst (λ (i : Inside). HasState i.own c) m.becomes.is_inside (left.states c (may.states n.frame c on is))

    -- it doesn't catch, and is left
    pub goes_on : (new : Contents) (b : ℕ) → IsContent now.frames → CatchesNot x (now.heaps.heap here.domain) n.frame thrown
        → FrameIsLeft looked (contents_of new.heaps old.frames new.own) here n.frame.head thrown b → Pops now.frames new.frames here.segment
        → Midway old new here x may.run a (gone + 1) b
    goes_on new b holds not leaves pops =
        let done = leaves x n.frame may_change is_set refl in
        record {
          lower = n.below;
          upper = n.frame ∷ m.upper;
          are_frames = whole;
          many = omega (arith, m.many);
          inside = done.0;
          leaves = (
            m.inside,
            thrown,
            m.leaves,
            subst (λ (i : Inside). CatchesNot x i.heap n.frame thrown) (sym m.becomes.is_inside) not,
            subst (λ (i : Inside). LeavesFrame x n.frame i thrown done.0 b) (sym m.becomes.is_inside) done.1,
          );
          becomes = inside_then old looked (contents_of new.heaps old.frames new.own) here m.inside done.0 m.becomes done.2;
          frames = frames_popped old now new here may.run.frames n.below n.frame frames_are holds pops;
        }

    -- it catches
    pub is_caught : (new : Contents) (h : Caught) → new.heaps ≡ now.heaps → new.own ≡ now.own
        → Catches x (now.heaps.heap here.domain) n.frame thrown h → SetsTop now.frames new.frames here.segment (at_handler n.frame h thrown)
        → (run : Run) × Unwinds x may.run a Ended.Caught run × Becomes old new here may.run run
    is_caught new h same_heaps same_own catches sets =
        let g : FrameState = at_handler n.frame h thrown in
        let changed = frames_set old now new here may.run.frames n.below n.frame frames_are g refl sets in
        let inside : InsideBecomes old (contents_of new.heaps old.frames new.own) here m.inside =
        subst (λ (k : KeptState). InsideBecomes old (contents_of new.heaps old.frames k) here m.inside) (sym same_own)
        (subst (λ (hs : HeapContent). InsideBecomes old (contents_of hs old.frames now.own) here m.inside) (sym same_heaps) m.becomes) in (
          record { inside = m.inside; frames = n.below ++ g ∷ [] },
          record {
            lower = n.below;
            catcher = n.frame;
            upper = m.upper;
            are_frames = whole;
            met = thrown;
            leaves = m.leaves;
            handler = h;
            catches = subst (λ (i : Inside). Catches x i.heap n.frame thrown h) (sym m.becomes.is_inside) catches;
            left = refl;
          },
          record {
            inside = with_frames old new here m.inside (changed.changes.domains.first_page here.domain) inside;
            frames = changed;
          },
        )

  -- ---- No frame is left.

  pub is_uncaught : gone ≡ length may.run.frames → (run : Run) × Unwinds x may.run a (Ended.Uncaught thrown) run × Becomes old now here may.run run
  is_uncaught all =
      let count : length may.run.frames ≡ length m.lower + length m.upper = ap length m.are_frames ∙ length-append m.lower m.upper in
      let none : m.lower ≡ [] = no_frames m.lower (omega (arith, count, m.many, all)) in
      let are : may.run.frames ≡ m.upper = m.are_frames ∙ ap (λ (l : List FrameState). l ++ m.upper) none in
      let changed : FramesBecome old now here may.run.frames [] = subst (FramesBecome old now here may.run.frames) none m.frames in (
        record { inside = m.inside; frames = [] },
        (subst (λ (frames : List FrameState). LeavesFrames x frames may.run.inside a m.inside thrown) (sym are) m.leaves, refl),
        record {
          inside = with_frames old now here m.inside (changed.changes.domains.first_page here.domain) m.becomes;
          frames = changed;
        },
      )
