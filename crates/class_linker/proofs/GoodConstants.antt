-- A ConstantValue that breaks no rule names a constant.
use Rattle.std.proofs.Common.{◌≡◌, ℕ, List, inr, Some, slice_get}
use Rattle.std.specs.Prelude.{IsTrue}
use Rattle.jk_model.specs.declared.class_file.ClassFile.{ClassFile}
use Rattle.jk_model.specs.declared.class_file.PoolEntry.{PoolEntry}
use Rattle.jk_model.specs.declared.class_file.PoolEntry.TheVariants.{Integer, Long as LongEntry, Str, Utf8}
use Rattle.jk_model.specs.declared.class_file.MemberInfo.{MemberInfo}
use Rattle.jk_model.specs.declared.descriptors.Base.{Base}
use Rattle.jk_model.specs.declared.descriptors.Base.TheVariants.{Byte, Char, Double, Float, Int, Long, Short, Bool as Boolean, Class}
use Rattle.jk_model.specs.ClassFile.{IsGoodEntry, IsUtf8Entry}
use Rattle.jk_model.proofs.EachItem.{all_at}
use Rattle.jk_model.specs.Flags.{STATIC, has}
use Rattle.jk_model_classes.specs.MemberAttributes.{HasBadConstant, IsConstantOf}
use Rattle.jk_model_classes.specs.Worlds.{NamedClass}
use Rattle.class_linker.specs.KnownConstants.{HasNoBadConstant, HasTextOf, IsConstantKind}
use Rattle.class_linker.specs.KnownDescriptors.{HasSomeText}
use Rattle.class_linker.specs.LinkedFiles.{IsLinkable}

kind_of : (base : Base) (e : PoolEntry) → IsConstantOf base e → IsConstantKind e
kind_of base (Integer n) h = tt
kind_of base (LongEntry n) h = tt
kind_of base (Str t) h = tt
kind_of Byte _ h = absurd h
kind_of Char _ h = absurd h
kind_of Double _ h = absurd h
kind_of Float _ h = absurd h
kind_of Int _ h = absurd h
kind_of Long _ h = absurd h
kind_of Short _ h = absurd h
kind_of Boolean _ h = absurd h
kind_of (Class name) _ h = absurd h

pub no_bad_constant : (pool : List PoolEntry) (field : MemberInfo) → (HasBadConstant pool field → ⊥) → IsTrue (has field.flags STATIC)
    → HasNoBadConstant pool field.attributes
no_bad_constant pool field good static k a at called none =
    good (
      static,
      inr (
        k,
        a,
        at,
        (
          called,
          λ is. none is.entry.0 (record {
            index = is.index;
            fits = is.bytes.0;
            bytes = is.bytes.1;
            at = is.entry.1;
            constant = kind_of is.base is.entry.0 is.entry.2;
          }),
        ),
      ),
    )

text_there : (c : ClassFile) (names : List NamedClass) → IsLinkable c names → (text : ℕ) → (e : PoolEntry) → slice_get c.pool text ≡ Some e
    → IsUtf8Entry e → HasSomeText c.pool text
text_there c names h text (Utf8 bytes) at is none =
    let good = all_at (IsGoodEntry c.pool) c.pool text (Utf8 bytes) h.writable.is_class.entries at in
    none good.0 (bytes, at, good.1)
text_there c names h text _ at is none = absurd is

pub text_of_entry : (c : ClassFile) (names : List NamedClass) → IsLinkable c names → (i : ℕ) (e : PoolEntry) → slice_get c.pool i ≡ Some e → HasTextOf c.pool e
text_of_entry c names h i (Str text) at =
    let good = all_at (IsGoodEntry c.pool) c.pool i (Str text) h.writable.is_class.entries at in
    text_there c names h text good.0 good.1 good.2
text_of_entry c names h i _ at = tt
