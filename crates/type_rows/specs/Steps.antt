-- What the steps of a row do to a stack and to a frame.
use Rattle.std.specs.Prelude.{◌≡◌, ℕ, ◌≤◌, ◌⊎◌, Bool, false, IsTrue, List, ◌++◌, length}
use Rattle.std.specs.List.{AllByRecursion}
use Rattle.jk_model.specs.declared.identifiers.ClassId.{ClassId}
use Rattle.jk_model.specs.declared.identifiers.MemberId.{MemberId}
use Rattle.jk_model_classes.specs.declared.records.LinkedCode.{LinkedCode}
use Rattle.jk_model_typing.specs.declared.frames.VType.{VType}
use Rattle.jk_model_typing.specs.declared.frames.Demand.{Demand}
use Rattle.jk_model_typing.specs.declared.frames.FrameType.{FrameType}
use Rattle.jk_model_typing.specs.FrameTypes.{IsFrameOf, IsUsable, slots}
use Rattle.jk_model_typing.specs.Groups.{Shape}
use Rattle.jk_model_typing.specs.Rows.{AllMeet, ConstructsObject, ConstructsThis, Does}
use Rattle.jk_model_typing.specs.Scopes.{CodeScope}

-- a stack that a frame of this code may have
abbrev pub IsStackOf : LinkedCode → List VType → Type 0
IsStackOf code stack = (slots stack ≤ code.max_stack) × AllByRecursion IsUsable stack

-- the entries that meet the demands were taken; or there are none
pub record IsTaken (s : CodeScope) (demands : List Demand) (before : List VType) (yes : Bool) (after : List VType) : Type 0 where
  pub holds : IsTrue yes → (taken : List VType) × (before ≡ after ++ taken) × AllMeet s demands taken
  pub fails : yes ≡ false → (below taken : List VType) → before ≡ below ++ taken → AllMeet s demands taken → ⊥

-- from this place on, a stack has so many slots
pub record IsTopAt (stack : List VType) (n k : ℕ) : Type 0 where
  pub below : List VType
  pub top : List VType
  pub stack_is : stack ≡ below ++ top
  pub place : k ≡ length below
  pub slots_are : slots top ≡ n

abbrev pub HasNoTop : List VType → ℕ → Type 0
HasNoTop stack n = (below top : List VType) → stack ≡ below ++ top → slots top ≡ n → ⊥

-- the frame became what the shape says and the code has room for; or there is no such frame
pub record IsDone (s : CodeScope) (place : ℕ) (shape : Shape) (before : FrameType) (yes : Bool) (after : FrameType) : Type 0 where
  pub holds : IsTrue yes → Does s place shape before after × IsFrameOf s.code after
  pub fails : yes ≡ false → (other : FrameType) → Does s place shape before other → IsFrameOf s.code other → ⊥

-- where the slots begin that are skipped, and those that are copied
pub record IsCopyAt (stack : List VType) (skipped copied at top : ℕ) : Type 0 where
  pub below : List VType
  pub between : List VType
  pub tops : List VType
  pub stack_is : stack ≡ below ++ between ++ tops
  pub at_is : at ≡ length below
  pub top_is : top ≡ length (below ++ between)
  pub skipped_are : slots between ≡ skipped
  pub copied_are : slots tops ≡ copied

abbrev pub HasNoCopy : List VType → ℕ → ℕ → Type 0
HasNoCopy stack skipped copied =
    (below between tops : List VType) → stack ≡ below ++ between ++ tops → slots between ≡ skipped → slots tops ≡ copied → ⊥

-- a constructor was called at the receiver, which was taken from this frame
abbrev pub Constructed : CodeScope → ClassId → MemberId → VType → FrameType → FrameType → Type 0
Constructed s c m receiver before after =
    ConstructsObject s c m receiver before before.stack after ⊎ ConstructsThis s c receiver before before.stack after

pub record IsConstructed (s : CodeScope) (c : ClassId) (m : MemberId) (receiver : VType) (before : FrameType) (yes : Bool)
    (after : FrameType) : Type 0 where
  pub holds : IsTrue yes → Constructed s c m receiver before after × IsStackOf s.code after.stack
  pub fails : yes ≡ false → (other : FrameType) → Constructed s c m receiver before other → IsStackOf s.code other.stack → ⊥
