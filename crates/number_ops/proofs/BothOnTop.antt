-- The two entries on top of a top frame's operand stack, where they stand and once they are taken together.
use Rattle.std.proofs.Common.{◌≡◌, ℤ, ◌+◌, ◌-◌, [], ◌∷◌, ◌++◌, length, Some, slice_get, refl, sym, ap, subst, ◌∙◌, arith}
use Rattle.std.proofs.lemmas.List.{append-nil, length-append}
use Rattle.std.proofs.lemmas.Option.{same_Some}
use Rattle.list_lemmas.proofs.ItemsByPlace.{slice_get-seam}
use Rattle.jk_model.specs.declared.identifiers.SegmentNo.{SegmentNo}
use Rattle.jk_model.specs.declared.values.Value.{Value}
use Rattle.jk_model.specs.declared.values.Value.TheVariants.{Int}
use Rattle.jk_model_frames.specs.Frames.{FrameState}
use Rattle.frame_store.specs.FrameContents.{DropsEntries, ExchangesEntries, FrameContent, HasEntries, HasEntry, TopFrame}
use Rattle.number_laws.proofs.FrameParts.{with_stack}
use Rattle.number_ops.specs.TopChanges.{OnTop, Turns}
use Rattle.number_ops.proofs.EntriesOnTop.{less_on_top}

module _ (c : FrameContent) (s : SegmentNo) (v w : Value) (on : OnTop c s (v ∷ w ∷ [])) where
  many : length on.frame.stack ≡ length on.on_top.0 + 2
  many = ap length on.on_top.1 ∙ length-append on.on_top.0 (v ∷ w ∷ [])

  pub lower_there : HasEntry c s 1
  lower_there = (on.frame, on.top, omega (arith, many))

  pub both_there : HasEntries c s 2
  both_there = (on.frame, on.top, omega (arith, many))

  -- what is found below the top entry is the lower one
  pub lower_is : (u : Value) → ((f : FrameState) → TopFrame c s f → slice_get f.stack (length f.stack - 1 - 1) ≡ Some u) → u ≡ v
  lower_is u found =
      let place : length on.frame.stack - 1 - 1 ≡ length on.on_top.0 = omega (arith, many) in
      let there : slice_get on.frame.stack (length on.frame.stack - 1 - 1) ≡ Some v =
      rw place (rw on.on_top.1 (slice_get-seam on.on_top.0 v (w ∷ []))) in
      same_Some u v (sym (found on.frame on.top) ∙ there)

  pub both_taken : (d : FrameContent) → ((f : FrameState) → TopFrame c s f → DropsEntries c d s f 2) → Turns c d s (v ∷ w ∷ []) []
  both_taken d drops =
      record {
        before = on.frame;
        after = with_stack on.frame on.on_top.0;
        becomes = record { top = on.top; sets = drops on.frame on.top on.on_top.0 (v ∷ w ∷ []) on.on_top.1 refl };
        replaces = record { below = on.on_top.0; before = on.on_top.1; after = ap (with_stack on.frame) (sym (append-nil on.on_top.0)) };
      }

  pub both_replaced : (d : FrameContent) (u : Value) → ((f : FrameState) → TopFrame c s f → ExchangesEntries c d s f 2 u)
      → Turns c d s (v ∷ w ∷ []) (u ∷ [])
  both_replaced d u exchanges =
      record {
        before = on.frame;
        after = with_stack on.frame (on.on_top.0 ++ u ∷ []);
        becomes = record { top = on.top; sets = exchanges on.frame on.top on.on_top.0 (v ∷ w ∷ []) on.on_top.1 refl };
        replaces = record { below = on.on_top.0; before = on.on_top.1; after = refl };
      }

-- the ints that were read are those on top
pub ints_on_top : (c : FrameContent) (s : SegmentNo) (x y a b : ℤ) → OnTop c s (Int x ∷ Int y ∷ [])
    → ((n : ℤ) (v : Value) → OnTop c s (Int n ∷ v ∷ []) → a ≡ n) → ((n : ℤ) → OnTop c s (Int n ∷ []) → b ≡ n)
    → OnTop c s (Int a ∷ Int b ∷ [])
ints_on_top c s x y a b on lower top =
    let first : a ≡ x = lower x (Int y) on in
    let second : b ≡ y = top y (less_on_top c s (Int x ∷ []) (Int y ∷ []) on) in
    subst (λ (m : ℤ). OnTop c s (Int m ∷ Int b ∷ [])) (sym first) (subst (λ (n : ℤ). OnTop c s (Int x ∷ Int n ∷ [])) (sym second) on)
