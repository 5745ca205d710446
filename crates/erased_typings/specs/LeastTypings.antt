-- The least typing of a method with more classes behind those that it was judged among.
use Rattle.std.specs.Prelude.{◌≡◌, ℕ, ◌≤◌, ◌⊎◌, List, ◌++◌, length, take, Option}
use Rattle.jk_model.specs.declared.identifiers.MemberId.{MemberId}
use Rattle.jk_model.specs.SystemTable.{system_classes}
use Rattle.jk_model_classes.specs.declared.records.ClassRecord.{ClassRecord}
use Rattle.jk_model_classes.specs.Classes.{AreOrdered}
use Rattle.jk_model_classes.specs.SystemRecords.{AreSystemRecords}
use Rattle.jk_model_typing.specs.declared.frames.FrameType.{FrameType}
use Rattle.jk_model_typing.specs.Typing.{IsLeastTyping}
use Rattle.class_growth.specs.ClosedClasses.{IsClosed}

-- Closed classes, the system classes among them: the least typing stays the least with more behind, where all are in order.
abbrev pub LeastTypingsStay : Type 0
LeastTypingsStay =
    (classes more : List ClassRecord) (m : MemberId) (frames : List (Option FrameType)) → AreOrdered (classes ++ more) → IsClosed classes
    → length system_classes ≤ length classes → IsLeastTyping classes m frames → IsLeastTyping (classes ++ more) m frames

-- The least typing among some first classes that mention no other, or among all, is the least one among all.
abbrev pub FirstClassesDecide : Type 0
FirstClassesDecide =
    (classes : List ClassRecord) (stood : ℕ) (m : MemberId) (frames : List (Option FrameType)) → AreOrdered classes
    → AreSystemRecords (take (length system_classes) classes) → (stood ≡ length classes) ⊎ IsClosed (take stood classes)
    → IsLeastTyping (take stood classes) m frames → IsLeastTyping classes m frames
