-- The class file of a complete class.
use Rattle.std.proofs.Common.{◌≡◌, inl, false, is_some, List, [], Option, Some, None, refl, arith}
use Rattle.jk_model.specs.declared.class_file.ClassFile.{ClassFile}
use Rattle.jk_model.specs.declared.class_file.PoolEntry.{PoolEntry}
use Rattle.jk_model.specs.ClassFile.{IsU2, IsClass, class_bytes}
use Rattle.asm_reader.specs.declared.items.ClassLine.{ClassLine}
use Rattle.asm_reader.specs.declared.items.LineReading.{LineReading}
use Rattle.jkasm.specs.declared.class_builder.ClassBuilder.{ClassBuilder}
use Rattle.jkasm.specs.declared.class_builder.Header.{Header}
use Rattle.jkasm.specs.declared.method_builder.MethodBuilder.{MethodBuilder}
use Rattle.jkasm.specs.Building.{IsHeader, IsHeaderOf, IsUnfinished, IsBuilt}
use Rattle.jkasm.specs.Constants.{PoolConstant, HasJust}
use Rattle.jkasm.specs.Outline.{MethodText, Outline}
use Rattle.jkasm.specs.PoolGrowth.{IsFilePool}
use Rattle.jkasm.specs.WholeText.{SaysOutline}

-- the class file of a builder, with this header and pool
abbrev pub class_of : ClassBuilder → Header → List PoolEntry → ClassFile
class_of b h pool = record {
  minor = 0;
  major = 48;
  pool = pool;
  flags = h.flags;
  this_class = h.this_class;
  super_class = h.super_class;
  interfaces = h.interfaces;
  fields = b.fields;
  methods = b.methods;
  attributes = [];
}

-- the numbers of a header have two bytes
abbrev pub HasShortNumbers : Header → Type 0
HasShortNumbers h = IsU2 h.flags × IsU2 h.this_class × IsU2 h.super_class

-- the class file of a complete outline
abbrev pub IsFileOf : Outline → List PoolConstant → ClassFile → Type 0
IsFileOf o constants c = IsClass (class_bytes c) c × SaysOutline o constants c

said : (pool : List PoolEntry) (class : Option ClassLine) (h : Header) → IsHeader pool class (Some h)
    → (line : ClassLine) × (class ≡ Some line) × IsHeaderOf pool line h
said pool None h is = absurd cc
said pool (Some line) h is = (line, refl, is)

ended : (pool : List PoolEntry) (u : Option MethodText) (later : List LineReading) (b : Option MethodBuilder) → IsUnfinished pool u later b
    → is_some b ≡ false → u ≡ None
ended pool None later b is none = refl
ended pool (Some m) later None is none = absurd is
ended pool (Some m) later (Some b) is none = absurd cc

pub complete_class : (o : Outline) (later : List LineReading) (constants : List PoolConstant) (b : ClassBuilder) (h : Header)
    → IsBuilt o later b → HasJust b.pool constants → b.header ≡ Some h → is_some b.unfinished ≡ false → IsFilePool b.pool → HasShortNumbers h
    → IsFileOf o constants (class_of b h b.pool)
complete_class o later constants b h built just has none file numbers =
    let (line, class_is, header) = said b.pool o.class h (rw has at built.header) in (
      record {
        layout = record {
          sections = refl;
          version = (omega arith, omega arith);
          pool = file.layout;
          header = numbers;
          interfaces = header.fits;
          fields = built.fields_fit;
          methods = built.methods_fit;
          attributes = (omega arith, tt);
        };
        version = (inl (omega arith), inl (omega arith));
        entries = file.good;
      },
      record {
        line = line;
        class_is = class_is;
        ended = ended b.pool o.unfinished later b.unfinished built.unfinished none;
        says = record {
          version = (refl, refl);
          pool = just;
          flags = header.flags;
          name = header.name;
          parent = header.parent;
          interfaces = header.interfaces;
          fields = built.fields;
          methods = built.methods;
          attributes = refl;
        };
      },
    )
