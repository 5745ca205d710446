-- Which values stand where on top of the stack.
use Rattle.std.proofs.Common.{◌≡◌, ℕ, ◌-◌, List, ◌∷◌, ◌++◌, length, Some, slice_get, sym, ap, subst, ◌∙◌, append_assoc, arith}
use Rattle.std.proofs.lemmas.List.{length-append}
use Rattle.std.proofs.lemmas.Option.{same_Some}
use Rattle.list_lemmas.proofs.ItemsByPlace.{slice_get-seam}
use Rattle.jk_model.specs.declared.identifiers.SegmentNo.{SegmentNo}
use Rattle.jk_model.specs.declared.values.Value.{Value}
use Rattle.jk_model_frames.specs.Frames.{FrameState}
use Rattle.jk_model_domains.specs.NumberRows.{IsOnTop}
use Rattle.frame_store.specs.FrameContents.{FrameContent, TopFrame}
use Rattle.number_ops.proofs.TopFrames.{same_top}
use Rattle.heap_ops.specs.TopEntries.{HasEntries, StandsBelow}

module _ (c : FrameContent) (s : SegmentNo) where
  -- a value with these above it
  pub stands_below : (f : FrameState) (first : List Value) (v : Value) (above : List Value) → TopFrame c s f → IsOnTop f (first ++ v ∷ above)
      → StandsBelow c s (length above) v
  stands_below f first v above top on_top =
      let stack : f.stack ≡ (on_top.0 ++ first) ++ v ∷ above = on_top.1 ∙ sym (append_assoc on_top.0 first (v ∷ above)) in
      let many = length-append (on_top.0 ++ first) (v ∷ above) in
      let long = ap length stack in
      let place : length (on_top.0 ++ first) ≡ length f.stack - 1 - length above = omega (arith, long, many) in
      let there : slice_get f.stack (length (on_top.0 ++ first)) ≡ Some v =
      ap (λ (xs : List Value). slice_get xs (length (on_top.0 ++ first))) stack ∙ slice_get-seam (on_top.0 ++ first) v above in
      record {
        frame = f;
        top = top;
        within = omega (arith, long, many);
        at = subst (λ (k : ℕ). slice_get f.stack k ≡ Some v) place there;
      }

  -- one value stands there
  pub same_below : (above : ℕ) (v w : Value) → StandsBelow c s above v → StandsBelow c s above w → v ≡ w
  same_below above v w h k =
      let same : h.frame ≡ k.frame = same_top c s h.frame k.frame h.top k.top in
      same_Some v w (sym h.at ∙ ap (λ (f : FrameState). slice_get f.stack (length f.stack - 1 - above)) same ∙ k.at)

  pub entries_there : (f : FrameState) (taken : List Value) (count : ℕ) → TopFrame c s f → IsOnTop f taken → length taken ≡ count
      → HasEntries c s count
  entries_there f taken count top on_top many = record {
    frame = f;
    top = top;
    below = on_top.0;
    entries = taken;
    stack = on_top.1;
    many = many;
  }
