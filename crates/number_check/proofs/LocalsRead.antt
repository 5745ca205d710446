-- The locals of the top frame, read one after another, as many as its head says.
use Rattle.std.proofs.Common.{◌≡◌, ℕ, zero, suc, ◌+◌, ◌<◌, ◌≤◌, List, [], ◌∷◌, ◌++◌, length, take, Some, slice_get, ap, ◌∙◌, add-one, arith}
use Rattle.std.proofs.lemmas.List.{take_all}
use Rattle.std.proofs.lemmas.Option.{same_Some}
use Rattle.list_lemmas.proofs.LastItems.{take_next}
use Rattle.jk_model.specs.declared.frames.FrameHead.{FrameHead}
use Rattle.jk_model.specs.declared.identifiers.SegmentNo.{SegmentNo}
use Rattle.jk_model.specs.declared.values.Value.{Value}
use Rattle.jk_model_frames.specs.Frames.{FrameState}
use Rattle.frame_store.specs.FrameContents.{FrameContent, HasLocal, HasTop, IsContent, TopFrame}
use Rattle.number_check.proofs.OneTopFrame.{top_sized}

module _ (c : FrameContent) (s : SegmentNo) (head : FrameHead) (content : IsContent c)
    (is_head : (f : FrameState) → TopFrame c s f → head ≡ f.head) where
  as_many : (f : FrameState) → TopFrame c s f → length f.locals ≡ head.max_locals
  as_many f top = omega (arith, (top_sized c s f content top).locals, ap (λ (h : FrameHead). h.max_locals) (is_head f top))

  pub has_local : (i : ℕ) → HasTop c s → i < head.max_locals → HasLocal c s i
  has_local i (f, top) lt = (f, top, omega (arith, lt, as_many f top))

  pub one_more_local : (i : ℕ) (v : Value) (before after : List Value) → ((f : FrameState) → TopFrame c s f → slice_get f.locals i ≡ Some v)
      → ((f : FrameState) → TopFrame c s f → before ≡ take i f.locals) → after ≡ before ++ v ∷ []
      → (f : FrameState) → TopFrame c s f → after ≡ take (i + 1) f.locals
  one_more_local i v before after local so_far push f top =
      let more : take (i + 1) f.locals ≡ take i f.locals ++ v ∷ [] = rw add-one (take_next f.locals i v (local f top)) in
      let same = so_far f top in
      cc

  pub all_locals : (i : ℕ) (values : List Value) → ((f : FrameState) → TopFrame c s f → values ≡ take i f.locals) → head.max_locals ≤ i
      → (f : FrameState) → TopFrame c s f → values ≡ f.locals
  all_locals i values so_far least f top = so_far f top ∙ take_all i f.locals (omega (arith, least, as_many f top))
