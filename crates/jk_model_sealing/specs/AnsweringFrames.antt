-- Which frames answer which calls: what stands above a call answers with the call's result type. This holds in every run from the first
-- machine on; of a machine in which one domain is replayed alone it isn't asked.
use Rattle.std.specs.Prelude.{◌≡◌, ◌≢◌, ◌⊎◌, ⊤, List, [], ◌∷◌, Option, Some, None}
use Rattle.jk_model.specs.declared.identifiers.MemberId.{MemberId}
use Rattle.jk_model_classes.specs.declared.records.ClassRecord.{ClassRecord}
use Rattle.jk_model_classes.specs.declared.records.MethodRecord.{MethodRecord}
use Rattle.jk_model_classes.specs.declared.records.TypeRef.{TypeRef}
use Rattle.jk_model_classes.specs.Lookups.{MethodIs}
use Rattle.jk_model_frames.specs.Frames.{FrameState}
use Rattle.jk_model_heaps.specs.RunningCode.{NamesMethod, RunsCode}

-- the call at which the frame stands wants a result of this type, or none
abbrev pub AwaitsResult : List ClassRecord → FrameState → Option TypeRef → Type 0
AwaitsResult classes f result =
    (code : RunsCode classes f) × (member : MemberId) × (called : MethodRecord) × NamesMethod code.scope code.instr member called
    × (called.result ≡ result)

-- the frame's method has a result of this type, or none
abbrev pub GivesResult : List ClassRecord → FrameState → Option TypeRef → Type 0
GivesResult classes f result =
    (m : MemberId) × (method : MethodRecord) × (f.head.method ≡ Some m) × MethodIs classes m method × (method.result ≡ result)

abbrev pub FrameAnswers : List ClassRecord → FrameState → FrameState → Type 0
FrameAnswers classes f above = (result : Option TypeRef) × AwaitsResult classes f result × GivesResult classes above result

-- each frame but the lowest initialises a class, or answers the frame below it
abbrev pub EachAnswers : List ClassRecord → List FrameState → Type 0
EachAnswers classes [] = ⊤
EachAnswers classes (f ∷ []) = ⊤
EachAnswers classes (f ∷ above ∷ more) = ((above.head.initialises ≢ None) ⊎ FrameAnswers classes f above) × EachAnswers classes (above ∷ more)

-- the frames of one segment: there is one, and the lowest initialises no class
abbrev pub FramesAnswer : List ClassRecord → List FrameState → Type 0
FramesAnswer classes [] = ⊥
FramesAnswer classes (f ∷ more) = (f.head.initialises ≡ None) × EachAnswers classes (f ∷ more)
