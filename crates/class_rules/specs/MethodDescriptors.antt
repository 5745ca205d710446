-- What a method's type must be for its arguments, and for an `<init>`.
use Rattle.std.specs.Prelude.{◌≡◌, ℕ, ◌≤◌, Bool, List, IsTrue, None}
use Rattle.jk_model.specs.declared.descriptors.MethodType.{MethodType}
use Rattle.jk_model.specs.Descriptors.{IsMethodText, method_slots}
use Rattle.jk_model_classes.specs.MemberDescriptors.{MAX_SLOTS}

-- the arguments take few slots, with or without a receiver, and an `<init>` has no result
abbrev pub MayTake : Bool → Bool → MethodType → Type 0
MayTake receiver is_init t = (method_slots t receiver ≤ MAX_SLOTS) × (IsTrue is_init → t.result ≡ None)

-- the units are the descriptor of such a type
abbrev pub FitsMethod : Bool → Bool → List ℕ → MethodType → Type 0
FitsMethod receiver is_init units t = IsMethodText units t × MayTake receiver is_init t
