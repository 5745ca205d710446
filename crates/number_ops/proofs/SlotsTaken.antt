-- Entries that were taken by their slots are those that were on top.
use Rattle.std.proofs.Common.{◌≡◌, ℕ, ℤ, inl, inr, List, [], ◌∷◌, ◌++◌, length, refl, sym, ap, subst, ◌∙◌, append_assoc}
use Rattle.jk_model.specs.declared.identifiers.SegmentNo.{SegmentNo}
use Rattle.jk_model.specs.declared.values.Value.{Value}
use Rattle.jk_model.specs.declared.values.Value.TheVariants.{Long}
use Rattle.jk_model_frames.specs.Frames.{FrameState}
use Rattle.jk_model_domains.specs.NumberRows.{value_slots, values_slots}
use Rattle.frame_store.specs.FrameContents.{FrameContent}
use Rattle.number_laws.proofs.SlotsOfValues.{same_length, two_slots}
use Rattle.number_ops.specs.TopChanges.{OnTop, OnTopWithRoom, Turns}
use Rattle.number_ops.proofs.EntriesOnTop.{less_on_top, on_top_after, room_after, taken_is}
use Rattle.number_ops.proofs.TopFrames.{same_top}

-- ---- Two slots that are taken one entry after the other.

pub top_of_two : (c : FrameContent) (s : SegmentNo) (taken : List Value) → OnTop c s taken → values_slots taken ≡ 2
    → (v : Value) × OnTop c s (v ∷ [])
top_of_two c s taken h e =
    elim (two_slots taken e) [
      | inl long ↦ (Long long.0, subst (OnTop c s) long.1 h)
      | inr two ↦ (two.1, less_on_top c s (two.0 ∷ []) (two.1 ∷ []) (subst (OnTop c s) two.2 h))
    ]

-- The entry on top was of one slot, and so is the one below it.
pub record SecondOnTop (d : FrameContent) (s : SegmentNo) (top : Value) : Type 0 where
  pub value : Value
  pub on : OnTop d s (value ∷ [])
  pub one : value_slots value ≡ 1
  pub top_one : value_slots top ≡ 1

pub second_on_top : (c d : FrameContent) (s : SegmentNo) (taken : List Value) (top : Value) → OnTop c s taken → values_slots taken ≡ 2
    → Turns c d s (top ∷ []) [] → ((n : ℤ) → top ≡ Long n → ⊥) → SecondOnTop d s top
second_on_top c d s taken top h e turns short =
    elim (two_slots taken e) [
      | inl long ↦
          (let same : (Long long.0 ∷ []) ≡ (top ∷ []) = taken_is c d s [] (Long long.0 ∷ []) (top ∷ []) (subst (OnTop c s) long.1 h) turns refl in
          let is : top ≡ Long long.0 = cc in
          absurd (short long.0 is))
      | inr two ↦
          (let on = subst (OnTop c s) two.2 h in
          let same : (two.1 ∷ []) ≡ (top ∷ []) = taken_is c d s (two.0 ∷ []) (two.1 ∷ []) (top ∷ []) on turns refl in
          let is : two.1 ≡ top = cc in
          record {
            value = two.0;
            on = on_top_after c d s (two.0 ∷ []) (two.1 ∷ []) (top ∷ []) on turns refl;
            one = two.3;
            top_one = ap value_slots (sym is) ∙ two.4;
          })
    ]

pub popped_is : (c d : FrameContent) (s : SegmentNo) (v w : Value) → OnTop c s (v ∷ []) → Turns c d s (w ∷ []) [] → v ≡ w
popped_is c d s v w h turns =
    let same : (v ∷ []) ≡ (w ∷ []) = taken_is c d s [] (v ∷ []) (w ∷ []) h turns refl in
    cc

pub slots_popped : (c d : FrameContent) (s : SegmentNo) (vs ts ws : List Value) (n : ℕ) → OnTopWithRoom c s (vs ++ ts) n
    → Turns c d s ws [] → values_slots ts ≡ values_slots ws → length ts ≡ length ws
slots_popped c d s vs ts ws n h turns e =
    let same : h.frame ≡ turns.before = same_top c s h.frame turns.before h.top turns.becomes.top in
    let whole : (h.below ++ vs) ++ ts ≡ turns.replaces.below ++ ws =
    append_assoc h.below vs ts ∙ sym h.stack ∙ ap (λ (x : FrameState). x.stack) same ∙ turns.replaces.before in
    same_length (h.below ++ vs) ts turns.replaces.below ws whole e

-- Two runs of entries were taken one after the other.
pub record BothPopped (e : FrameContent) (s : SegmentNo) (skipped copied below top : List Value) (n : ℕ) : Type 0 where
  pub many_copied : length copied ≡ length top
  pub many_skipped : length skipped ≡ length below
  pub room : OnTopWithRoom e s [] n

pub first_popped : (c d : FrameContent) (s : SegmentNo) (skipped copied top : List Value) (n : ℕ)
    → OnTopWithRoom c s (skipped ++ copied) n → Turns c d s top [] → values_slots copied ≡ values_slots top → OnTopWithRoom d s skipped n
first_popped c d s skipped copied top n h turns e =
    room_after c d s skipped copied top n h turns (slots_popped c d s skipped copied top n h turns e)

pub both_popped : (c d e : FrameContent) (s : SegmentNo) (skipped copied below top : List Value) (n : ℕ)
    → OnTopWithRoom c s (skipped ++ copied) n → Turns c d s top [] → Turns d e s below [] → values_slots copied ≡ values_slots top
    → values_slots skipped ≡ values_slots below → BothPopped e s skipped copied below top n
both_popped c d e s skipped copied below top n h first second et eb =
    let next = first_popped c d s skipped copied top n h first et in
    let many = slots_popped d e s [] skipped below n next second eb in
    record {
      many_copied = slots_popped c d s skipped copied top n h first et;
      many_skipped = many;
      room = room_after d e s [] skipped below n next second many;
    }
