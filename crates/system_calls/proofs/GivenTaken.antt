-- What is given is taken off one by one, and an answer is put in its place.
use Rattle.std.proofs.Common.{◌≡◌, ℕ, ◌<◌, List, [], ◌∷◌, ◌++◌, length, Option, Some, None, refl, sym, ap, subst, ◌∙◌, arith}
use Rattle.std.proofs.lemmas.List.{append-nil, length-append}
use Rattle.jk_model.specs.declared.identifiers.SegmentNo.{SegmentNo}
use Rattle.jk_model.specs.declared.values.Value.{Value}
use Rattle.jk_model_frames.specs.Frames.{FrameState}
use Rattle.frame_store.specs.FrameContents.{FrameContent, HasEntry, HasFreeEntry, SetsTop, TopFrame}
use Rattle.number_laws.proofs.FrameParts.{with_stack}
use Rattle.number_ops.proofs.TopFrames.{same_top, stays, then_sets, top_after}
use Rattle.number_ops.proofs.EntriesTaken.{TakenSoFar}
use Rattle.system_calls.specs.GivenOnTop.{HasGiven, HasRoomAfter, PutsFor, TakesOff}

pub none_taken : (c : FrameContent) (s : SegmentNo) (count : ℕ) → HasGiven c s count → TakenSoFar c c s 0
none_taken c s count (given, h, many) = record {
  frame = h.frame;
  top = h.top;
  below = h.frame.stack;
  gone = [];
  stack = sym (append-nil h.frame.stack);
  as_many = refl;
  sets = stays c s h.frame h.top;
}

-- one more is there
pub more_there : (old now : FrameContent) (s : SegmentNo) (count done : ℕ) → HasGiven old s count → TakenSoFar old now s done → done < count
    → HasEntry now s 0
more_there old now s count done (given, h, many) so_far low =
    let same : h.frame ≡ so_far.frame = same_top old s h.frame so_far.frame h.top so_far.top in
    let whole : h.on_top.0 ++ given ≡ so_far.below ++ so_far.gone = sym h.on_top.1 ∙ ap (λ (f : FrameState). f.stack) same ∙ so_far.stack in (
      with_stack so_far.frame so_far.below,
      top_after old now s (with_stack so_far.frame so_far.below) so_far.sets,
      omega (arith, ap length whole, length-append h.on_top.0 given, length-append so_far.below so_far.gone, many, so_far.as_many),
    )

-- ---- The answer.

pub room_left : (old now : FrameContent) (s : SegmentNo) (count : ℕ) (v : Value) → HasGiven old s count → HasRoomAfter old s count (Some v)
    → TakesOff old now s count → HasFreeEntry now s
room_left old now s count v (given, h, many) room off =
    let below = h.on_top.0 in
    let g = with_stack h.frame below in
    let fits = room h.frame below given h.top h.on_top.1 many in (
      g,
      top_after old now s g (off h.frame below given h.top h.on_top.1 many),
      omega (arith, fits, length-append below (v ∷ [])),
    )

pub put_for : (old now new : FrameContent) (s : SegmentNo) (count : ℕ) (v : Value) → TakesOff old now s count
    → ((f : FrameState) → TopFrame now s f → SetsTop now new s (with_stack f (f.stack ++ v ∷ []))) → PutsFor old new s count (Some v)
put_for old now new s count v off push = λ f below taken top stack many.
    let first = off f below taken top stack many in
    then_sets old now new s (with_stack f below) (with_stack f (below ++ v ∷ [])) first
    (push (with_stack f below) (top_after old now s (with_stack f below) first))

pub none_put : (old new : FrameContent) (s : SegmentNo) (count : ℕ) (answer : Option Value) → answer ≡ None → TakesOff old new s count
    → PutsFor old new s count answer
none_put old new s count answer is off =
    subst (PutsFor old new s count) (sym is)
    (λ f below taken top stack many.
    subst (λ (xs : List Value). SetsTop old new s (with_stack f xs)) (sym (append-nil below)) (off f below taken top stack many))
