-- The code of a method, and what is answered of it.
use Rattle.std.specs.Prelude.{◌≡◌, ℕ, ◌+◌, ◌<◌, ◌↔◌, Bool, not, IsTrue, List, Option, Some, None}
use Rattle.jk_model.specs.declared.class_file.ClassFile.{ClassFile}
use Rattle.jk_model.specs.declared.class_file.PoolEntry.{PoolEntry}
use Rattle.jk_model.specs.declared.class_file.MemberInfo.{MemberInfo}
use Rattle.jk_model.specs.declared.class_file.Attribute.{Attribute}
use Rattle.jk_model.specs.declared.class_file.Code.{Code}
use Rattle.jk_model.specs.declared.descriptors.MethodType.{MethodType}
use Rattle.jk_model.specs.ClassFile.{CodeLayout}
use Rattle.jk_model.specs.Descriptors.{IsMethodText, method_slots, receiver_slots}
use Rattle.jk_model.specs.Flags.{STATIC, has}
use Rattle.jk_model_classes.specs.ClassNames.{HasText}
use Rattle.jk_model_classes.specs.Items.{HasItem}
use Rattle.jk_model_classes.specs.MemberAttributes.{IsCodeAttribute}
use Rattle.class_rules.specs.Attributes.{CountFlags, needs_code}
use Rattle.class_rules.specs.Codes.{IsJudgment}
use Rattle.class_rules.specs.declared.codes.CodeJudgment.{CodeJudgment}
use Rattle.class_rules.specs.declared.texts.MethodShape.{MethodShape}

-- one of these attributes is a Code that says this
abbrev pub HasCodeBody : List PoolEntry → List Attribute → Code → Type 0
HasCodeBody pool attributes code = HasItem (λ (a : Attribute). IsCodeAttribute pool a × CodeLayout a.body code) attributes

-- the arguments of a method with these flags, its receiver included, take more slots
abbrev pub TakesMore : List PoolEntry → ℕ → MemberInfo → ℕ → Type 0
TakesMore pool flags method max =
    (t : MethodType) × HasText (λ units. IsMethodText units t) pool method.descriptor × (max < method_slots t (not (has flags STATIC)))

-- a method of this shape takes more slots, with its receiver where it isn't static
abbrev pub HasMoreSlots : Option MethodShape → Bool → ℕ → Type 0
HasMoreSlots None static max = ⊥
HasMoreSlots (Some shape) static max = max < shape.slots + receiver_slots (not static)

-- the method has code, and it says this
abbrev pub IsCodeOf : ClassFile → MemberInfo → Code → Type 0
IsCodeOf c method code =
    (flags : ℕ) × CountFlags c.pool method flags × IsTrue (needs_code flags) × HasCodeBody c.pool method.attributes code

-- What is answered of the code of a method, whose arguments take so many slots.
pub record IsMethodJudgment (c : ClassFile) (method : MemberInfo) (code : Code) (j : CodeJudgment) : Type 0 where
  pub flags : ℕ
  pub counted : CountFlags c.pool method flags
  pub arguments : ℕ
  pub takes : (code.max_locals < arguments) ↔ TakesMore c.pool flags method code.max_locals
  pub judged : IsJudgment c.pool arguments code j

-- what is answered of a method: nothing where it has no code
abbrev pub IsMethodJudged : ClassFile → MemberInfo → Option CodeJudgment → Type 0
IsMethodJudged c method None = (code : Code) → IsCodeOf c method code → ⊥
IsMethodJudged c method (Some j) =
    (code : Code) × IsCodeOf c method code × ((other : Code) → IsCodeOf c method other → code ≡ other) × IsMethodJudgment c method code j
