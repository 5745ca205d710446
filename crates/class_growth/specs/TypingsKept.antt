-- Scopes, rows and typings, where more classes are put behind. Rows and typings stay where the classes that were there are in
-- order and closed, so that an instruction finds the members and classes that it found before.
use Rattle.std.specs.Prelude.{ℕ, List, ◌++◌, Contains, Option}
use Rattle.jk_model.specs.declared.identifiers.MemberId.{MemberId}
use Rattle.jk_model.specs.declared.instructions.Instr.{Instr}
use Rattle.jk_model_classes.specs.declared.records.ClassRecord.{ClassRecord}
use Rattle.jk_model_classes.specs.Classes.{HasClass, AreOrdered}
use Rattle.jk_model_classes.specs.SystemRecords.{AreSystemRecords}
use Rattle.jk_model_typing.specs.declared.frames.FrameType.{FrameType}
use Rattle.jk_model_typing.specs.Rows.{Row}
use Rattle.jk_model_typing.specs.Scopes.{CodeScope, IsScopeOf}
use Rattle.jk_model_typing.specs.Typing.{FitsAt, IsStart, GoesWell, IsTyping}
use Rattle.class_growth.specs.ClosedClasses.{HasClassesOf, IsClosed}
use Rattle.class_growth.specs.ScopesOver.{among}

-- ---- Closed classes.

-- the system classes by themselves are closed
abbrev pub SystemClassesAreClosed : Type 0
SystemClassesAreClosed = (classes : List ClassRecord) → AreSystemRecords classes → IsClosed classes

-- they stay closed where each class that a new record mentions is there too
abbrev pub ClosedClassesStay : Type 0
ClosedClassesStay =
    (classes more : List ClassRecord) → IsClosed classes
    → ((r : ClassRecord) → Contains more r → HasClassesOf (classes ++ more) r) → IsClosed (classes ++ more)

-- ---- Scopes.

abbrev pub ScopesStay : Type 0
ScopesStay =
    (classes more : List ClassRecord) (m : MemberId) (s : CodeScope) → IsScopeOf classes m s
    → IsScopeOf (classes ++ more) m (among s (classes ++ more))

-- of a method of a class that was there
abbrev pub ScopesWereThere : Type 0
ScopesWereThere =
    (classes more : List ClassRecord) (m : MemberId) (s : CodeScope) → HasClass classes m.class → IsScopeOf (classes ++ more) m s
    → IsScopeOf classes m (among s classes)

-- ---- What is judged in a scope of closed, ordered classes.

abbrev pub StaysInScope : (CodeScope → Type 0) → Type 0
StaysInScope Judged =
    (classes more : List ClassRecord) (m : MemberId) (s : CodeScope) → AreOrdered classes → IsClosed classes → IsScopeOf classes m s
    → Judged s → Judged (among s (classes ++ more))

abbrev pub RowsStay : Type 0
RowsStay = (place : ℕ) (i : Instr) (before after : FrameType) → StaysInScope (λ s. Row s place i before after)

abbrev pub StartsStay : Type 0
StartsStay = (f : FrameType) → StaysInScope (λ s. IsStart s f)

abbrev pub FitsStay : Type 0
FitsStay = (frames : List (Option FrameType)) (place : ℕ) (f : FrameType) → StaysInScope (λ s. FitsAt s frames place f)

abbrev pub GoingWellStays : Type 0
GoingWellStays =
    (frames : List (Option FrameType)) (place : ℕ) (i : Instr) (f : FrameType) → StaysInScope (λ s. GoesWell s frames place i f)

-- ---- Typings.

abbrev pub TypingsStay : Type 0
TypingsStay =
    (classes more : List ClassRecord) (m : MemberId) (frames : List (Option FrameType)) → AreOrdered classes → IsClosed classes
    → IsTyping classes m frames → IsTyping (classes ++ more) m frames
