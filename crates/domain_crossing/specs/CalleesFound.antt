-- What a call of a method through a capability runs, or what is raised in its place.
use Rattle.std.specs.Prelude.{◌≡◌, false, true, IsTrue, List, None, Some, Result, Ok, Err}
use Rattle.jk_model.specs.Flags.{has, PUBLIC}
use Rattle.jk_model.specs.declared.frames.FrameHead.{FrameHead}
use Rattle.jk_model.specs.declared.identifiers.ClassId.{ClassId}
use Rattle.jk_model.specs.declared.identifiers.MemberId.{MemberId}
use Rattle.jk_model.specs.declared.steps.Raise.{Raise}
use Rattle.jk_model.specs.declared.steps.Raise.TheVariants as Raised
use Rattle.jk_model.specs.declared.steps.Standing.TheVariants as Stands
use Rattle.jk_model_classes.specs.declared.records.Body.TheVariants as Does
use Rattle.jk_model_classes.specs.declared.records.ClassRecord.{ClassRecord}
use Rattle.jk_model_classes.specs.declared.records.LinkedCode.{LinkedCode}
use Rattle.jk_model_classes.specs.declared.records.MethodRecord.{MethodRecord}
use Rattle.jk_model_classes.specs.Lookups.{MethodIs, Selects}
use Rattle.jk_model_classes.specs.Stubs.{IsRemoteInterfaceOf}
use Rattle.jk_model_heaps.specs.CalledFrames.{call_head}
use Rattle.jk_model_heaps.specs.Capabilities.{OwnedCapability}
use Rattle.jk_model_heaps.specs.SystemClasses.{ABSTRACT_METHOD_ERROR, ILLEGAL_ACCESS_ERROR, INCOMPATIBLE_CLASS_CHANGE_ERROR}
use Rattle.domain_crossing.specs.declared.callees.Callee.{Callee}

-- At an object of a class: how the frame of the method begins, or the class of what is raised.
pub data FindsHead (classes : List ClassRecord) (class : ClassId) (method : MemberId) : Result FrameHead ClassId → Type 0 where
  not_shown : (IsRemoteInterfaceOf classes class method.class → ⊥) → FindsHead classes class method (Err INCOMPATIBLE_CLASS_CHANGE_ERROR)
  no_method : IsRemoteInterfaceOf classes class method.class → Selects classes class method None
      → FindsHead classes class method (Err ABSTRACT_METHOD_ERROR)
  no_code : (m : MemberId) (r : MethodRecord) → IsRemoteInterfaceOf classes class method.class → Selects classes class method (Some m)
      → MethodIs classes m r → ((code : LinkedCode) → r.body ≡ Does.Linked code → ⊥) → FindsHead classes class method (Err ABSTRACT_METHOD_ERROR)
  not_public : (m : MemberId) (r : MethodRecord) (code : LinkedCode) → IsRemoteInterfaceOf classes class method.class
      → Selects classes class method (Some m) → MethodIs classes m r → r.body ≡ Does.Linked code → (IsTrue (has r.flags PUBLIC) → ⊥)
      → FindsHead classes class method (Err ILLEGAL_ACCESS_ERROR)
  found : (m : MemberId) (r : MethodRecord) (code : LinkedCode) → IsRemoteInterfaceOf classes class method.class
      → Selects classes class method (Some m) → MethodIs classes m r → r.body ≡ Does.Linked code → IsTrue (has r.flags PUBLIC)
      → FindsHead classes class method (Ok (call_head m code))

-- Through a capability: at its target, unless it is revoked.
pub data FindsCallee (classes : List ClassRecord) (c : OwnedCapability) (method : MemberId) : Result Callee Raise → Type 0 where
  is_revoked : c.capability.revoked ≡ true → FindsCallee classes c method (Err (Raised.Standing Stands.Revoked))
  fails : (e : ClassId) → c.capability.revoked ≡ false → FindsHead classes c.capability.class method (Err e)
      → FindsCallee classes c method (Err (Raised.Fresh e))
  runs : (head : FrameHead) → c.capability.revoked ≡ false → FindsHead classes c.capability.class method (Ok head)
      → FindsCallee classes c method (Ok (record { owner = c.owner; target = c.capability.target; head = head }))
