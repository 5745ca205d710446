-- What a call comes to, as code says it.
use Rattle.std.specs.Prelude.{◌≡◌, ◌≢◌, ◌⊎◌, ◌≤◌, ℕ, List}
use Rattle.jk_model.specs.declared.identifiers.ClassId.{ClassId}
use Rattle.jk_model.specs.declared.identifiers.MemberId.{MemberId}
use Rattle.jk_model.specs.declared.opcodes.TheConstants.{INVOKEINTERFACE, INVOKESPECIAL, INVOKESTATIC, INVOKEVIRTUAL}
use Rattle.jk_model.specs.declared.values.Value.{Value}
use Rattle.jk_model_classes.specs.declared.records.ClassRecord.{ClassRecord}
use Rattle.jk_model_classes.specs.declared.records.MethodRecord.{MethodRecord}
use Rattle.jk_model_domains.specs.Objects.{NamedObject}
use Rattle.jk_model_call_rows.specs.CallRows.{AtReceiver}
use Rattle.jk_model_call_rows.specs.Targets as def
use Rattle.jk_model_call_rows.specs.Targets.{InterfaceTarget, SpecialTarget, VirtualTarget}
use Rattle.call_ops.specs.declared.targets.Target.{Target}
use Rattle.call_ops.specs.declared.targets.Target.TheVariants as To

-- the same target in the definitions; what is called through a capability is the method that was named
abbrev pub target_of : MemberId → Target → def.Target
target_of named (To.Runs m) = def.Target.Runs m
target_of named (To.Fails c) = def.Target.Fails c
target_of named (To.Crosses k) = def.Target.Through k named

-- invokevirtual, invokespecial, invokeinterface
abbrev pub IsOfReceiver : ℕ → Type 0
IsOfReceiver op = (INVOKEVIRTUAL ≤ op) × (op ≤ INVOKEINTERFACE) × (op ≢ INVOKESTATIC)

-- an instruction with this opcode, in a method of this class, comes to this where so much is given, the receiver first
abbrev pub ComesTo : List ClassRecord → List NamedObject → ℕ → ClassId → MemberId → MethodRecord → List Value → def.Target → Type 0
ComesTo classes heap op self m method given target =
    ((op ≡ INVOKEVIRTUAL) × AtReceiver (λ receiver. VirtualTarget classes heap receiver m) given target)
    ⊎ ((op ≡ INVOKESPECIAL) × AtReceiver (λ receiver. SpecialTarget classes self m method) given target)
    ⊎ ((op ≡ INVOKEINTERFACE) × AtReceiver (λ receiver. InterfaceTarget classes heap receiver m) given target)
