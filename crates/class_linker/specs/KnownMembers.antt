-- Members that break no rule.
use Rattle.std.specs.Prelude.{◌≡◌, ◌<◌, ◌^◌, ℕ, IsTrue, not, List, length, Some, slice_get}
use Rattle.jk_model.specs.declared.class_file.ClassFile.{ClassFile}
use Rattle.jk_model.specs.declared.class_file.PoolEntry.{PoolEntry}
use Rattle.jk_model.specs.declared.class_file.MemberInfo.{MemberInfo}
use Rattle.jk_model.specs.declared.class_file.Attribute.{Attribute}
use Rattle.jk_model.specs.declared.class_file.Code.{Code}
use Rattle.jk_model.specs.ClassFile.{CodeLayout}
use Rattle.jk_model.specs.Flags.{ABSTRACT, has}
use Rattle.jk_model_classes.specs.ClassFlags.{MethodFlags}
use Rattle.jk_model_classes.specs.Items.{HasItem}
use Rattle.jk_model_classes.specs.MemberAttributes.{HasBadConstant, IsCodeAttribute}
use Rattle.class_linker.specs.KnownCodes.{IsGoodCode}
use Rattle.class_linker.specs.KnownDescriptors.{HasSomeText, IsFieldAt, IsMethodAt}
use Rattle.class_linker.specs.KnownTypes.{Meaning}

pub record IsGoodField (meaning : Meaning) (pool : List PoolEntry) (field : MemberInfo) : Type 0 where
  pub name : HasSomeText pool field.name
  pub kind : IsFieldAt meaning pool field.descriptor
  pub constant : HasBadConstant pool field → ⊥

-- the bytes can't but be the body of a Code
pub record IsKnownBody (body : List ℕ) : Type 0 where
  pub short : length body < 2 ^ 31
  pub some : ((code : Code) → CodeLayout body code → ⊥) → ⊥

-- there can't but be a Code
abbrev pub HasSomeBody : List PoolEntry → List Attribute → Type 0
HasSomeBody pool attributes = (HasItem (IsCodeAttribute pool) attributes → ⊥) → ⊥

-- and each has a body
abbrev pub HasBodies : List PoolEntry → List Attribute → Type 0
HasBodies pool attributes = (k : ℕ) (a : Attribute) → slice_get attributes k ≡ Some a → IsCodeAttribute pool a → IsKnownBody a.body

-- A method that isn't abstract has a Code, and its code is good.
pub record HasGoodCode (c : ClassFile) (method : MemberInfo) : Type 0 where
  pub some : HasSomeBody c.pool method.attributes
  pub code : (code : Code) → HasItem (λ (a : Attribute). IsCodeAttribute c.pool a × CodeLayout a.body code) method.attributes → IsGoodCode c.pool code

pub record IsGoodMethod (c : ClassFile) (meaning : Meaning) (method : MemberInfo) : Type 0 where
  pub name : HasSomeText c.pool method.name
  pub kind : IsMethodAt meaning c.pool method.descriptor
  pub bodies : HasBodies c.pool method.attributes
  pub code : (flags : ℕ) → MethodFlags c method flags → IsTrue (not (has flags ABSTRACT)) → HasGoodCode c method
