-- Entries that are taken off the top frame's stack one by one are taken off together.
use Rattle.std.proofs.Common.{◌≡◌, ℕ, ◌+◌, ◌≤◌, List, [], ◌∷◌, ◌++◌, length, sym, ap, subst, ◌∙◌, append_assoc, arith}
use Rattle.std.specs.List.{AllByRecursion}
use Rattle.list_lemmas.proofs.EndsOfLists.{one_split}
use Rattle.jk_model.proofs.EachItem.{all_back}
use Rattle.jk_model.specs.declared.identifiers.SegmentNo.{SegmentNo}
use Rattle.jk_model.specs.declared.values.Value.{Value}
use Rattle.jk_model_frames.specs.Frames.{FrameState}
use Rattle.frame_store.specs.FrameContents.{FrameContent, IsContent, IsSized, SetsTop, TakesEntry, TopFrame}
use Rattle.number_laws.proofs.FrameParts.{with_stack}
use Rattle.number_ops.proofs.TopFrames.{same_top, then_sets}

-- So many entries are off, and others may be taken off.
pub record TakenSoFar (old now : FrameContent) (s : SegmentNo) (done : ℕ) : Type 0 where
  pub frame : FrameState
  pub top : TopFrame old s frame
  pub below : List Value
  pub gone : List Value
  pub stack : frame.stack ≡ below ++ gone
  pub as_many : length gone ≡ done
  pub sets : SetsTop old now s (with_stack frame below)

pub one_more_taken : (old now new : FrameContent) (s : SegmentNo) (done : ℕ) (v : Value) → (so_far : TakenSoFar old now s done)
    → TakesEntry now new s (with_stack so_far.frame so_far.below) v → TakenSoFar old new s (done + 1)
one_more_taken old now new s done v so_far takes = record {
  frame = so_far.frame;
  top = so_far.top;
  below = takes.0;
  gone = v ∷ so_far.gone;
  stack = so_far.stack ∙ ap (λ (xs : List Value). xs ++ so_far.gone) takes.1 ∙ append_assoc takes.0 (v ∷ []) so_far.gone;
  as_many = omega (arith, so_far.as_many);
  sets = then_sets old now new s (with_stack so_far.frame so_far.below) (with_stack so_far.frame takes.0) so_far.sets takes.2;
}

pub all_taken : (old new : FrameContent) (s : SegmentNo) (count done : ℕ) → TakenSoFar old new s done → done ≡ count
    → (f : FrameState) (below taken : List Value) → TopFrame old s f → f.stack ≡ below ++ taken → length taken ≡ count
    → SetsTop old new s (record f { stack = below })
all_taken old new s count done so_far end f below taken top stack many =
    let same : f ≡ so_far.frame = same_top old s f so_far.frame top so_far.top in
    let whole : below ++ taken ≡ so_far.below ++ so_far.gone = sym stack ∙ ap (λ (x : FrameState). x.stack) same ∙ so_far.stack in
    let both = one_split below so_far.below taken so_far.gone whole (many ∙ sym end ∙ sym so_far.as_many) in
    let as_frame : SetsTop old new s (with_stack f so_far.below) = subst (λ (x : FrameState). SetsTop old new s (with_stack x so_far.below)) (sym same)
    so_far.sets in
    subst (λ (xs : List Value). SetsTop old new s (with_stack f xs)) (sym both.0) as_frame

-- no frame has more entries than its head says
pub stack_fits : (c : FrameContent) (s : SegmentNo) (f : FrameState) → IsContent c → TopFrame c s f → length f.stack ≤ f.head.max_stack
stack_fits c s f is top =
    let all = subst (AllByRecursion IsSized) top.frames (is.sized s top.segment top.is_there) in
    (all_back IsSized top.lower (f ∷ []) all).0.stack
