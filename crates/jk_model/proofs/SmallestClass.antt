-- The 53 bytes of the smallest class are a class file.
use Rattle.std.proofs.Common.{refl, inl, inr, arith}
use Rattle.std.specs.Prelude.{codes}
use Rattle.jk_model.specs.declared.class_file.PoolEntry.TheVariants.{Utf8}
use Rattle.jk_model.specs.ClassFile.{IsClass}
use Rattle.jk_model.specs.Examples.{smallest_bytes, smallest}
use Rattle.jk_model.proofs.PlainBytesAreTexts.{plain_is_bytes, plain_is_text}

pub smallest_is_class : IsClass smallest_bytes smallest
smallest_is_class = record {
  layout = record {
    sections = refl;
    version = (omega arith, omega arith);
    pool = (
      tt,
      omega arith,
      (tt, (omega arith, ((omega arith, plain_is_bytes (codes "A") refl), (omega arith, ((omega arith, plain_is_bytes (codes "java/lang/Object") refl), tt))))),
    );
    header = (omega arith, omega arith, omega arith);
    interfaces = (omega arith, tt);
    fields = (omega arith, tt);
    methods = (omega arith, tt);
    attributes = (omega arith, tt);
  };
  version = (inr (refl, omega arith), inl (omega arith));
  entries = (
    tt,
    (
      (Utf8 (codes "A"), refl, tt),
      (
        plain_is_text (codes "A") refl,
        (
          (Utf8 (codes "java/lang/Object"), refl, tt),
          (plain_is_text (codes "java/lang/Object") refl, tt),
        ),
      ),
    ),
  );
}
