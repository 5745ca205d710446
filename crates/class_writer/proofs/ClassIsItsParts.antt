-- A record can be written where its parts fit, its version is accepted, and its pool is good.
use Rattle.std.proofs.Common.{refl}
use Rattle.std.specs.List.{AllByRecursion}
use Rattle.jk_model.specs.declared.class_file.ClassFile.{ClassFile}
use Rattle.jk_model.specs.ClassFile.{AreSlots, BeginsUnusable, IsGoodEntry, IsVersion}
use Rattle.jk_model.specs.ReadFaults.{IsWritable}
use Rattle.class_writer.specs.Room.{IsShort}

pub writable : (c : ClassFile) → IsShort c → IsVersion c.major c.minor → BeginsUnusable AreSlots c.pool → AllByRecursion (IsGoodEntry c.pool) c.pool
    → IsWritable c
writable c short version slots good =
    let p = short.parts in
    record {
      is_class = record {
        layout = record {
          sections = refl;
          version = p.version;
          pool = (slots, p.pool.0, p.pool.1);
          header = p.header;
          interfaces = p.interfaces;
          fields = p.fields;
          methods = p.methods;
          attributes = p.attributes;
        };
        version = version;
        entries = good;
      };
      short = short.bytes;
    }
