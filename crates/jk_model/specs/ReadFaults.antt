-- Why bytes are no class file that is accepted: the first fault that is met in reading them from front to
-- back. The pool is judged before what follows it is read. And which records can be written as a file.
use Rattle.std.specs.Prelude.{◌≡◌, ℕ, ◌<◌, ◌≤◌, ◌^◌, ◌≢◌, ◌⊎◌, List, [], ◌++◌, length, take}
use Rattle.jk_model.specs.declared.class_file.ClassFile.{ClassFile}
use Rattle.jk_model.specs.declared.output.Rule.{Rule}
use Rattle.jk_model.specs.declared.output.Rule.TheVariants.{C1, C2, C3, C4, C5}
use Rattle.jk_model.specs.ClassFile.{u2, u4, IsU2, class_bytes, Layout, IsClass, IsVersion}
use Rattle.jk_model.specs.ConstantPool.{StopsAtTag, HasBadText, HasBadIndex}

-- the number that each class file begins with (the Java Virtual Machine Specification, 4.1)
abbrev pub MAGIC : ℕ
MAGIC = 0xCAFEBABE

-- There are four bytes, and the first four are another number.
abbrev pub HasBadMagic : List ℕ → Type 0
HasBadMagic bytes = (4 ≤ length bytes) × (take 4 bytes ≢ u4 MAGIC)

-- the magic number, this version, and these bytes after them
pub record BeginsWithVersion (bytes : List ℕ) (major minor : ℕ) (rest : List ℕ) : Type 0 where
  pub numbers : IsU2 minor × IsU2 major
  pub sections : bytes ≡ u4 MAGIC ++ u2 minor ++ u2 major ++ rest

-- the version isn't one from 45.3 to 50.0
abbrev pub HasBadVersion : List ℕ → Type 0
HasBadVersion bytes =
    (major : ℕ) × (minor : ℕ) × (rest : List ℕ) × BeginsWithVersion bytes major minor rest × (IsVersion major minor → ⊥)

-- The version is accepted, and the pool after it has a fault at this index: while its entries are read, or
-- once all of them are.
abbrev pub HasBadPool : List ℕ → ℕ → Type 0
HasBadPool bytes i =
    (major : ℕ) × (minor : ℕ) × (rest : List ℕ) × BeginsWithVersion bytes major minor rest × IsVersion major minor
    × (StopsAtTag rest i ⊎ HasBadText rest i ⊎ HasBadIndex rest i)

-- The bytes are too few for the magic number, or stop within the layout of a class file.
abbrev pub StopsEarly : List ℕ → Type 0
StopsEarly bytes =
    (length bytes < 4) ⊎ ((c : ClassFile) × (more : List ℕ) × (more ≢ []) × Layout (bytes ++ more) c)

-- The bytes end before the record does, and neither the version nor the pool was at fault before that.
pub record IsTruncated (bytes : List ℕ) : Type 0 where
  pub early : StopsEarly bytes
  pub version : HasBadVersion bytes → ⊥
  pub pool : (i : ℕ) → HasBadPool bytes i → ⊥

-- Bytes follow a class file, from place n on.
abbrev pub TrailsClass : List ℕ → ℕ → Type 0
TrailsClass bytes n = (c : ClassFile) × (n < length bytes) × IsClass (take n bytes) c

-- The one of the rules C1 to C5 that the bytes of a file break, and the number that goes with it.
abbrev pub BreaksReading : List ℕ → Rule → ℕ → Type 0
BreaksReading bytes C1 n = HasBadMagic bytes × (n ≡ 0)
BreaksReading bytes C2 n = HasBadVersion bytes × (n ≡ 4)
BreaksReading bytes C3 n = IsTruncated bytes × (n ≡ length bytes)
BreaksReading bytes C4 n = TrailsClass bytes n
BreaksReading bytes C5 n = HasBadPool bytes n
BreaksReading bytes _ n = ⊥

-- ---- Writing: each list fits its count, the version is accepted, the entries of the pool are good and
-- stand where a reader puts them, and the file is shorter than 2^31 bytes.

pub record IsWritable (c : ClassFile) : Type 0 where
  pub is_class : IsClass (class_bytes c) c
  pub short : length (class_bytes c) < 2 ^ 31
