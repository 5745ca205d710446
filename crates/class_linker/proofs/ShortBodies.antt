-- The bodies of attributes of a class file that can be written are short.
use Rattle.std.proofs.Common.{◌≡◌, ℕ, ◌<◌, ◌^◌, length, Some, arith, slice_get}
use Rattle.jk_model.specs.declared.class_file.ClassFile.{ClassFile}
use Rattle.jk_model.specs.declared.class_file.MemberInfo.{MemberInfo}
use Rattle.jk_model.specs.declared.class_file.Attribute.{Attribute}
use Rattle.jk_model.specs.ReadFaults.{IsWritable}
use Rattle.model_lemmas.proofs.PartsAreShort.{body_within, attribute_within, attributes_within, member_within, methods_within}

pub short_body : (c : ClassFile) → IsWritable c → (i : ℕ) (m : MemberInfo) → slice_get c.methods i ≡ Some m → (j : ℕ) (a : Attribute)
    → slice_get m.attributes j ≡ Some a → length a.body < 2 ^ 31
short_body c writable i m at j a there =
    let n = length a.body in
    let in_attributes = attribute_within n m.attributes j a there (body_within n a (omega arith)) in
    let in_methods = member_within n c.methods i m at (attributes_within n m in_attributes) in
    omega (arith, methods_within n c in_methods, writable.short)
