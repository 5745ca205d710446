-- Bytes that end within the version go on as a class file.
use Rattle.std.proofs.Common.{◌≡◌, ℕ, ◌++◌, refl, subst, arith}
use Rattle.jk_model.specs.ClassFile.{u4}
use Rattle.class_reader.proofs.FirstFaultFound.{version_cut}
use Rattle.class_reader.proofs.class.version_of.Goals as goal

pub returns-in_default-pair_of : goal.returns-in_default-pair_of
returns-in_default-pair_of c =
    let bytes = c.args.bytes.now in
    let rest = c.in-Ok.rest.now in
    let parts = subst (λ (n : ℕ). bytes ≡ u4 n ++ rest) c.if-magic.false c.in-Ok.ensures.layout in
    rw c.truncated-in_default-pair_of.ensures
    (version_cut bytes rest (λ i. omega (arith, c.type_inv.bytes i)) parts c.in_default-pair_of.ensures.gives, refl)
