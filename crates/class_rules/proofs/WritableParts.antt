-- A record that can be written has few members and entries, good entries, and short bodies of attributes.
use Rattle.std.proofs.Common.{length, arith}
use Rattle.jk_model.specs.declared.class_file.ClassFile.{ClassFile}
use Rattle.jk_model.specs.ReadFaults.{IsWritable}
use Rattle.model_lemmas.proofs.PartsAreShort.{body_within, attribute_within, attributes_within, member_within, methods_within}
use Rattle.class_rules.specs.Attributes.{HaveShort}

pub short_bodies : (c : ClassFile) → IsWritable c → HaveShort c.methods
short_bodies c writable i m at j a there =
    let n = length a.body in
    let in_attributes = attribute_within n m.attributes j a there (body_within n a (omega arith)) in
    let in_methods = member_within n c.methods i m at (attributes_within n m in_attributes) in
    omega (arith, methods_within n c in_methods, writable.short)
