-- The room that is left for more bytes.
use Rattle.std.specs.Prelude.{◌≡◌, ℕ, ◌+◌, ◌<◌, ◌^◌, length, Option, Some, None}
use Rattle.byte_fields.specs.Layouts.{AreCounted}
use Rattle.jk_model.specs.declared.class_file.ClassFile.{ClassFile}
use Rattle.jk_model.specs.ClassFile.{IsU2, IsEntry, AreInterfaces, AreMembers, AreAttributes, class_bytes}

-- What is left of a room after so many bytes, which are there only where this holds. None is left where it
-- doesn't hold, and where the bytes are more than the room.
abbrev pub Leaves : Type 0 → ℕ → ℕ → Option ℕ → Type 0
Leaves Holds len room (Some left) = Holds × (len + left ≡ room)
Leaves Holds len room None = Holds → room < len

-- the numbers, texts and lists of a record fit their places and counts
pub record HasParts (c : ClassFile) : Type 0 where
  pub version : IsU2 c.minor × IsU2 c.major
  pub pool : AreCounted IsEntry c.pool
  pub header : IsU2 c.flags × IsU2 c.this_class × IsU2 c.super_class
  pub interfaces : AreInterfaces c.interfaces
  pub fields : AreMembers c.fields
  pub methods : AreMembers c.methods
  pub attributes : AreAttributes c.attributes

-- they do, and the file is shorter than 2^31 bytes
pub record IsShort (c : ClassFile) : Type 0 where
  pub parts : HasParts c
  pub bytes : length (class_bytes c) < 2 ^ 31
