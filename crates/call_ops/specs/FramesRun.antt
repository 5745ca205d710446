-- What becomes of the frames of a segment where a method runs, by the answer.
use Rattle.std.specs.Prelude.{◌≡◌, ◌<◌, ℕ, List, length}
use Rattle.jk_model.specs.declared.identifiers.MemberId.{MemberId}
use Rattle.jk_model.specs.declared.identifiers.SegmentNo.{SegmentNo}
use Rattle.jk_model.specs.declared.steps.After.{After}
use Rattle.jk_model.specs.declared.steps.After.TheVariants as Next
use Rattle.jk_model.specs.declared.steps.Raise.TheVariants as Raised
use Rattle.jk_model.specs.declared.steps.Standing.TheVariants as Stands
use Rattle.jk_model_classes.specs.declared.records.ClassRecord.{ClassRecord}
use Rattle.jk_model_classes.specs.declared.records.MethodRecord.{MethodRecord}
use Rattle.jk_model_classes.specs.Lookups.{MethodIs}
use Rattle.jk_model_typing.specs.Scopes.{CodeScope, IsScopeOf}
use Rattle.jk_model_heaps.specs.CalledFrames.{call_head}
use Rattle.frame_store.specs.FrameContents.{FrameContent, Calls, HasArguments, HasRoomFor, IsSame}

-- where the method has code, the top frame has so much to give it
abbrev pub MayRun : List ClassRecord → FrameContent → SegmentNo → MemberId → ℕ → Type 0
MayRun classes c s m given = (scope : CodeScope) → IsScopeOf classes m scope → HasArguments c s (call_head m scope.code) given

-- the method has so many parameters
abbrev pub HasParams : List ClassRecord → MemberId → ℕ → Type 0
HasParams classes m n = (method : MethodRecord) × MethodIs classes m method × (n ≡ length method.params)

-- where the method has code, that has a first instruction
abbrev pub HasFirst : List ClassRecord → MemberId → Type 0
HasFirst classes m = (scope : CodeScope) → IsScopeOf classes m scope → 0 < length scope.code.instrs

-- the method has code, and its frame is on top
abbrev pub PutsFrame : List ClassRecord → FrameContent → FrameContent → SegmentNo → MemberId → ℕ → Type 0
PutsFrame classes old new s m given =
    (scope : CodeScope) × IsScopeOf classes m scope × HasRoomFor old s (call_head m scope.code) × Calls old new s (call_head m scope.code) given

-- the method has code, and its frame's chunks don't fit
abbrev pub LacksChunks : List ClassRecord → FrameContent → FrameContent → SegmentNo → MemberId → Type 0
LacksChunks classes old new s m =
    (scope : CodeScope) × IsScopeOf classes m scope × (HasRoomFor old s (call_head m scope.code) → ⊥) × IsSame old new

-- the method has no code
abbrev pub HasNoCode : List ClassRecord → FrameContent → FrameContent → MemberId → Type 0
HasNoCode classes old new m = ((scope : CodeScope) → IsScopeOf classes m scope → ⊥) × IsSame old new

abbrev pub Ran : List ClassRecord → FrameContent → FrameContent → SegmentNo → MemberId → ℕ → After → Type 0
Ran classes old new s m given (Next.Goto n) = (n ≡ 0) × PutsFrame classes old new s m given
Ran classes old new s m given (Next.Raise r) = (r ≡ Raised.Standing Stands.StackOverflowError) × LacksChunks classes old new s m
Ran classes old new s m given (Next.Call n) = (n ≡ m) × HasNoCode classes old new m
Ran classes old new s m given after = ⊥
