-- The top frame of a segment, when several entries go off its operand stack.
use Rattle.std.proofs.Common.{◌≡◌, ℕ, zero, suc, ◌-◌, ◌<◌, ◌≤◌, List, [], ◌∷◌, ◌++◌, length, take, drop, set, refl, sym, ap, arith, ◌∙◌}
use Rattle.std.proofs.lemmas.List.{length-drop, take-append-drop}
use Rattle.jk_model.specs.declared.values.Value.{Value}
use Rattle.jk_model_frames.specs.Frames.{FrameState}
use Rattle.frame_store.specs.declared.domain_frames.DomainFrames.{DomainFrames}
use Rattle.number_table.specs.ChainMoves.{place}
use Rattle.frame_store.specs.DomainMoves.{depth_of, frames_of, lower_of, top_of, value_at, HasTop}
use Rattle.frame_store.specs.Builds.{length-build}
use Rattle.frame_store.proofs.TopIsWritten.{frames_more}

last_set : {X : Type 0} (xs : List X) (y v : X) (n : ℕ) → n ≡ length xs → set (xs ++ y ∷ []) n v ≡ xs ++ v ∷ []
last_set [] y v zero e = refl
last_set [] y v (suc n) e = absurd (omega arith)
last_set (x ∷ xs) y v zero e = absurd (omega arith)
last_set (x ∷ xs) y v (suc n) e = ap (λ zs. x ∷ zs) (last_set xs y v n (omega arith))

-- the top frame is written where it stands among the frames of its segment
pub top_set : (d : DomainFrames) (i : ℕ) → HasTop d i → (f : FrameState) → set (frames_of d i) (depth_of d i - 1) f ≡ lower_of d i ++ f ∷ []
top_set d i top f =
    ap (λ (fs : List FrameState). set fs (depth_of d i - 1) f) (frames_more d i top)
    ∙ last_set (lower_of d i) (top_of d i) f (depth_of d i - 1) (sym (length-build (λ k. value_at d (place d.frames i k)) (depth_of d i - 1)))

pub last_low : (d : DomainFrames) (i : ℕ) → HasTop d i → depth_of d i - 1 < depth_of d i
last_low d i top = let some = top.1 in omega arith

-- so many of a stack's entries are on top of it
pub record SomeOnTop (stack : List Value) (count : ℕ) : Type 0 where
  pub below : List Value
  pub given : List Value
  pub are : stack ≡ below ++ given
  pub many : length given ≡ count

pub some_on_top : (stack : List Value) (count : ℕ) → count ≤ length stack → SomeOnTop stack count
some_on_top stack count enough =
    record {
      below = take (length stack - count) stack;
      given = drop (length stack - count) stack;
      are = sym (take-append-drop (length stack - count) stack);
      many = omega (arith, length-drop (length stack - count) stack);
    }
