-- Entries on top of a segment's operand stack are read.
use Rattle.std.proofs.Common.{◌≡◌, ℕ, ◌-◌, ◌<◌, List, ◌++◌, length, slice_get, Some, sym, ap, ◌∙◌, arith}
use Rattle.std.proofs.lemmas.List.{length-append}
use Rattle.std.proofs.lemmas.Option.{slice_get_within}
use Rattle.jk_model.specs.declared.identifiers.SegmentNo.{SegmentNo}
use Rattle.jk_model.specs.declared.values.Value.{Value}
use Rattle.jk_model_frames.specs.Frames.{FrameState}
use Rattle.list_lemmas.proofs.ItemsByPlace.{slice_get-back}
use Rattle.list_lemmas.proofs.ItemsOfLists.{each-by_place}
use Rattle.frame_store.specs.FrameContents.{FrameContent, HasEntry, TopFrame}
use Rattle.domain_crossing.specs.MovedArguments.{HasOnTop}
use Rattle.domain_crossing.specs.NoObjects.{IsNoObject, NameNoObject}

-- ---- Reading.

entry_on_top : (below values : List Value) (k : ℕ) → k < length values
    → slice_get (below ++ values) (length (below ++ values) - 1 - k) ≡ slice_get values (length values - 1 - k)
entry_on_top below values k low =
    slice_get-back below values (length values - 1 - k) (length (below ++ values) - 1 - k) (omega (arith, length-append below values, low))

module _ (c : FrameContent) (s : SegmentNo) (values : List Value) (on : HasOnTop c s values) where
  pub has_entry : (k : ℕ) → k < length values → HasEntry c s k
  has_entry k low =
      let all = ap length on.stack in
      (on.frame, on.top, omega (arith, all, length-append on.below values, low))

  pub peeked : (k : ℕ) (v : Value) → k < length values
      → ((f : FrameState) → TopFrame c s f → slice_get f.stack (length f.stack - 1 - k) ≡ Some v) → slice_get values (length values - 1 - k) ≡ Some v
  peeked k v low read =
      sym (entry_on_top on.below values k low)
      ∙ ap (λ (stack : List Value). slice_get stack (length stack - 1 - k)) (sym on.stack) ∙ read on.frame on.top

  -- the lowest first
  pub peeked_at : (i : ℕ) (v : Value) → i < length values
      → ((f : FrameState) → TopFrame c s f → slice_get f.stack (length f.stack - 1 - (length values - 1 - i)) ≡ Some v) → slice_get values i ≡ Some v
  peeked_at i v low read =
      let back : length values - 1 - (length values - 1 - i) ≡ i = omega (arith, low) in
      ap (slice_get values) (sym back) ∙ peeked (length values - 1 - i) v (omega (arith, low)) read

-- where none from the top on is an object, none is
pub none_is_object : (values : List Value)
    → ((k : ℕ) → k < length values → (v : Value) → slice_get values (length values - 1 - k) ≡ Some v → IsNoObject v) → NameNoObject values
none_is_object values none =
    each-by_place IsNoObject values
    (λ i v at.
    let low = slice_get_within values i v at in
    let back : length values - 1 - (length values - 1 - i) ≡ i = omega (arith, low) in
    none (length values - 1 - i) (omega (arith, low)) v (ap (slice_get values) back ∙ at))
