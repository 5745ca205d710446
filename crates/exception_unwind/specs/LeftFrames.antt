-- What a frame that is left makes of the domain.
use Rattle.std.specs.Prelude.{◌≡◌, ℕ}
use Rattle.jk_model.specs.declared.frames.FrameHead.{FrameHead}
use Rattle.jk_model_frames.specs.Frames.{FrameState}
use Rattle.jk_model_heaps.specs.Workings.{Inside, Setting}
use Rattle.jk_model_unwinding.specs.Unwinding.{LeavesFrame, LeavesInitialiser}
use Rattle.step_contents.specs.Conditions.{MayChange}
use Rattle.step_contents.specs.Contents.{Contents, Here, InsideBecomes, inside_in}
use Rattle.step_contents.specs.Settings.{IsSetting}

-- the object leaves the initialiser of a class, which is broken by now
abbrev pub InitialiserIsLeft : Contents → Contents → Here → ℕ → ℕ → Type 0
InitialiserIsLeft old new here a b =
    (x : Setting) → MayChange old here → IsSetting old here x
    → (inside : Inside) × LeavesInitialiser x (inside_in old here) a inside b × InsideBecomes old new here inside

-- the object leaves a frame with this head
abbrev pub FrameIsLeft : Contents → Contents → Here → FrameHead → ℕ → ℕ → Type 0
FrameIsLeft old new here head a b =
    (x : Setting) (f : FrameState) → MayChange old here → IsSetting old here x → f.head ≡ head
    → (inside : Inside) × LeavesFrame x f (inside_in old here) a inside b × InsideBecomes old new here inside
