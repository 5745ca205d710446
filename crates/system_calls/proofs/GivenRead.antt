-- Values on top of the operand stack are read one by one, lowest first.
use Rattle.std.proofs.Common.{◌≡◌, ℕ, ◌+◌, ◌-◌, ◌<◌, List, [], ◌∷◌, ◌++◌, length, take, set, Some, slice_get, sym, ap, ◌∙◌, add-one, arith}
use Rattle.std.proofs.lemmas.List.{length-append, take_all, take_more_set}
use Rattle.list_lemmas.proofs.ItemsByPlace.{slice_get-behind}
use Rattle.list_lemmas.proofs.LastItems.{take_next}
use Rattle.jk_model.specs.declared.identifiers.SegmentNo.{SegmentNo}
use Rattle.jk_model.specs.declared.values.Value.{Value}
use Rattle.jk_model_frames.specs.Frames.{FrameState}
use Rattle.frame_store.specs.FrameContents.{FrameContent, HasEntry, TopFrame}
use Rattle.system_calls.specs.GivenOnTop.{HasGiven, IsGiven}

-- So many of them are read.
abbrev pub ReadSoFar : FrameContent → SegmentNo → ℕ → List Value → ℕ → Type 0
ReadSoFar c s count values i =
    (f : FrameState) (below given : List Value) → TopFrame c s f → f.stack ≡ below ++ given → length given ≡ count
    → take i values ≡ take i given

module _ (c : FrameContent) (s : SegmentNo) (count : ℕ) where
  pub value_there : HasGiven c s count → (i : ℕ) → i < count → HasEntry c s (count - 1 - i)
  value_there (given, is, many) i low = (
    is.frame,
    is.top,
    omega (arith, ap length is.on_top.1, length-append is.on_top.0 given, many),
  )

  pub one_more_read : (values : List Value) (i place : ℕ) (v : Value) → i < count → i < length values → place ≡ count - 1 - i
      → ((f : FrameState) → TopFrame c s f → slice_get f.stack (length f.stack - 1 - place) ≡ Some v)
      → ReadSoFar c s count values i → ReadSoFar c s count (set values i v) (i + 1)
  one_more_read values i place v low within is peeked before = λ f below given top stack many.
      let at : length f.stack - 1 - place ≡ length below + i =
      omega (arith, ap length stack, length-append below given, many) in
      let there : slice_get given i ≡ Some v =
      sym (slice_get-behind below given i)
      ∙ ap (λ (xs : List Value). slice_get xs (length below + i)) (sym stack)
      ∙ ap (slice_get f.stack) (sym at)
      ∙ peeked f top in
      let next : take (i + 1) given ≡ take i given ++ v ∷ [] = ap (λ (n : ℕ). take n given) (add-one i) ∙ take_next given i v there in
      take_more_set values i v within ∙ ap (λ (xs : List Value). xs ++ v ∷ []) (before f below given top stack many) ∙ sym next

  pub all_read : HasGiven c s count → (values : List Value) (i : ℕ) → i ≡ count → ReadSoFar c s count values i
      → IsGiven c s (take count values)
  all_read (given, is, many) values i end read =
      let same : take count values ≡ given =
      ap (λ (n : ℕ). take n values) (sym end)
      ∙ read is.frame is.on_top.0 given is.top is.on_top.1 many
      ∙ ap (λ (n : ℕ). take n given) (end ∙ sym many)
      ∙ take_all (length given) given (omega arith) in
      record {
        frame = is.frame;
        top = is.top;
        on_top = (is.on_top.0, is.on_top.1 ∙ ap (λ (xs : List Value). is.on_top.0 ++ xs) (sym same));
      }
