-- The top frame of a segment goes on after its call, with the answer on its stack.
use Rattle.std.proofs.Common.{◌≡◌, ◌+◌, List, [], ◌∷◌, ◌++◌, append-nil, Option, Some, None, sym, subst}
use Rattle.jk_model.specs.declared.identifiers.ClassId.{ClassId}
use Rattle.jk_model.specs.declared.identifiers.SegmentNo.{SegmentNo}
use Rattle.jk_model.specs.declared.values.Value.{Value}
use Rattle.jk_model_frames.specs.Frames.{FrameState}
use Rattle.jk_model_heaps.specs.CalledFrames.{resumed}
use Rattle.frame_store.specs.FrameContents.{FrameContent, SetsTop, TopFrame}
use Rattle.number_ops.proofs.TopFrames.{then_sets, top_after}

module _ (old mid : FrameContent) (s : SegmentNo) (f : FrameState) (none : f.head.need ≡ None)
    (goes : SetsTop old mid s (record f { head = record f.head { at = f.head.at + 1; need = None } })) where
  gone_on : SetsTop old mid s (record f { head = record f.head { at = f.head.at + 1 } })
  gone_on =
      subst (λ (o : Option ClassId). SetsTop old mid s
      (let g : FrameState = record f { head = record f.head { at = f.head.at + 1; need = o } } in g)) (sym none) goes

  pub goes_on_with_none : SetsTop old mid s (resumed None f)
  goes_on_with_none =
      subst (λ (stack : List Value). SetsTop old mid s
      (let g : FrameState = record f { head = record f.head { at = f.head.at + 1 }; stack = stack } in g)) (sym (append-nil f.stack)) gone_on

  pub goes_on_with : (new : FrameContent) (v : Value)
      → ((g : FrameState) → TopFrame mid s g → SetsTop mid new s (record g { stack = g.stack ++ v ∷ [] }))
      → SetsTop old new s (resumed (Some v) f)
  goes_on_with new v pushes =
      let g : FrameState = record f { head = record f.head { at = f.head.at + 1 } } in
      then_sets old mid new s g (resumed (Some v) f) gone_on (pushes g (top_after old mid s g gone_on))
