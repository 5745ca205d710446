-- The code of a class's methods: short code, code whose typing would be too large, and code without a typing.
use Rattle.std.specs.Prelude.{◌≡◌, ℕ, ◌+◌, ◌*◌, ◌^◌, ◌<◌, List, Option, Some, None, length, slice_get}
use Rattle.jk_model.specs.declared.identifiers.ClassId.{ClassId}
use Rattle.jk_model.specs.declared.identifiers.MemberId.{MemberId}
use Rattle.jk_model_classes.specs.declared.records.Body.TheVariants.{Linked}
use Rattle.jk_model_classes.specs.declared.records.ClassRecord.{ClassRecord}
use Rattle.jk_model_classes.specs.declared.records.LinkedCode.{LinkedCode}
use Rattle.jk_model_classes.specs.declared.records.MethodRecord.{MethodRecord}
use Rattle.jk_model_classes.specs.Classes.{record_of}
use Rattle.jk_model_classes.specs.Items.{Spot, Member, Entry}
use Rattle.jk_model_typing.specs.declared.frames.FrameType.{FrameType}
use Rattle.jk_model_typing.specs.Scopes.{CodeScope, IsScopeOf}
use Rattle.jk_model_typing.specs.Typing.{IsLeastTyping, IsTyping, MOST_SLOTS}
use Rattle.placed_rules.specs.PlacedFaults.{class_at}

-- it is so at a member, by the member's number
abbrev pub AtMember : (ℕ → Type 0) → Spot → Type 0
AtMember Broken (Member n) = Broken n
AtMember Broken (Entry i) = ⊥

-- ---- Code is short.

abbrev pub IsShort : MethodRecord → Type 0
IsShort method = (code : LinkedCode) → method.body ≡ Linked code → length code.instrs < 2 ^ 16

abbrev pub AreShort : List MethodRecord → Type 0
AreShort methods = (i : ℕ) (method : MethodRecord) → slice_get methods i ≡ Some method → IsShort method

-- the code of the n classes from this one on is short
abbrev pub AreShortFrom : List ClassRecord → ClassId → ℕ → Type 0
AreShortFrom classes first n = (k : ℕ) (r : ClassRecord) → k < n → record_of classes (class_at first k) ≡ Some r → AreShort r.methods

-- ---- C24.

abbrev pub IsOver : MethodRecord → Type 0
IsOver method =
    (code : LinkedCode) × (method.body ≡ Linked code) × (MOST_SLOTS < length code.instrs * (code.max_locals + code.max_stack))

-- ---- C23.

-- where the method has code, this has a least typing
abbrev pub IsTypedAt : List ClassRecord → MemberId → Type 0
IsTypedAt classes m = (s : CodeScope) → IsScopeOf classes m s → (frames : List (Option FrameType)) × IsLeastTyping classes m frames

-- the method has code without a typing
abbrev pub IsUntypedAt : List ClassRecord → MemberId → MethodRecord → Type 0
IsUntypedAt classes m method =
    (code : LinkedCode) × (method.body ≡ Linked code) × ((frames : List (Option FrameType)) → IsTyping classes m frames → ⊥)

abbrev pub method_of : ClassId → ℕ → MemberId
method_of class i = record { class = class; index = i }

-- the first n methods of the class are typed where they have code
abbrev pub AreTypedBefore : List ClassRecord → ClassId → ℕ → Type 0
AreTypedBefore classes class n = (i : ℕ) → i < n → IsTypedAt classes (method_of class i)

-- the place of the first of the class's methods whose code has no typing; none where each is typed
abbrev pub IsFirstUntyped : List ClassRecord → ClassId → List MethodRecord → Option ℕ → Type 0
IsFirstUntyped classes class methods None = AreTypedBefore classes class (length methods)
IsFirstUntyped classes class methods (Some i) =
    ((method : MethodRecord) × (slice_get methods i ≡ Some method) × IsUntypedAt classes (method_of class i) method)
    × AreTypedBefore classes class i
