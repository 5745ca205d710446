-- What the steps of reading answer, by cases.
use Rattle.std.specs.Prelude.{◌≡◌, ℕ, ◌+◌, ◌⊎◌, List, ◌++◌, length, Result, Ok, Err, MatchResult}
use Rattle.jk_model.specs.declared.class_file.ClassFile.{ClassFile}
use Rattle.jk_model.specs.declared.class_file.Code.{Code}
use Rattle.jk_model.specs.ClassFile.{pool_bytes, IsClass, IsVersion, CodeLayout, IsCutCode, TrailsCode, HasBadCodeLength}
use Rattle.jk_model.specs.ConstantPool.{HasPool, IsCutPool, StopsAtTag, HasBadText, HasBadIndex}
use Rattle.jk_model.specs.ReadFaults.{HasBadMagic, HasBadVersion, HasBadPool, IsTruncated, TrailsClass, BeginsWithVersion}
use Rattle.const_pool.specs.declared.pool.Pool.{Pool}
use Rattle.const_pool.specs.declared.pool.PoolError.{PoolError}
use Rattle.const_pool.specs.declared.pool.PoolError.TheVariants as pool
use Rattle.class_reader.specs.declared.class.ReadRefusal.{ReadRefusal}
use Rattle.class_reader.specs.declared.class.ReadRefusal.TheVariants.{BadMagic, BadVersion, Truncated, Trailing, BadPool, OutOfMemory}
use Rattle.class_reader.specs.declared.code.CodeRefusal.{CodeRefusal}
use Rattle.class_reader.specs.declared.code.CodeRefusal.TheVariants as code

-- it is this refusal, unless it is the other, that memory ran out
abbrev pub IsRefused : {T E : Type 0} → Result T E → E → E → Type 0
IsRefused r e memory = MatchResult r (λ _. ⊥) (λ d. (d ≡ e) ⊎ (d ≡ memory))

-- the bytes begin with such a front, and go on with this rest
pub record BeginsWith (Is : List ℕ → Type 0) (bytes rest : List ℕ) : Type 0 where
  pub front : List ℕ
  pub is : Is front
  pub parts : bytes ≡ front ++ rest

-- ---- A class file.

-- the bytes begin with the magic number and this version, which is accepted
abbrev pub HasVersion : List ℕ → ℕ → ℕ → Type 0
HasVersion bytes major minor = ((rest : List ℕ) × BeginsWithVersion bytes major minor rest) × IsVersion major minor

abbrev pub HasSomeVersion : List ℕ → Type 0
HasSomeVersion bytes = (major : ℕ) × (minor : ℕ) × HasVersion bytes major minor

-- what is answered of the magic number and the version
abbrev pub IsVersionAnswer : List ℕ → Result (ℕ × ℕ) ReadRefusal → Type 0
IsVersionAnswer bytes (Ok (minor, major)) = HasVersion bytes major minor
IsVersionAnswer bytes (Err BadMagic) = HasBadMagic bytes
IsVersionAnswer bytes (Err BadVersion) = HasBadVersion bytes
IsVersionAnswer bytes (Err (Truncated n)) = IsTruncated bytes × (n ≡ length bytes)
IsVersionAnswer bytes (Err (Trailing n)) = ⊥
IsVersionAnswer bytes (Err (BadPool i)) = ⊥
IsVersionAnswer bytes (Err OutOfMemory) = ⊥

-- the pool has a fault at this index
abbrev pub HasPoolFault : List ℕ → ℕ → Type 0
HasPoolFault bytes i = StopsAtTag bytes i ⊎ HasBadText bytes i ⊎ HasBadIndex bytes i

-- what is answered of these bytes, which should begin with a pool, in a file of this length
abbrev pub IsPoolAnswer : ℕ → List ℕ → Result Pool ReadRefusal → Type 0
IsPoolAnswer len bytes (Ok p) = HasPool bytes p.entries × (p.end ≡ 8 + length (pool_bytes p.entries))
IsPoolAnswer len bytes (Err BadMagic) = ⊥
IsPoolAnswer len bytes (Err BadVersion) = ⊥
IsPoolAnswer len bytes (Err (Truncated n)) = IsCutPool bytes × (n ≡ len)
IsPoolAnswer len bytes (Err (Trailing n)) = ⊥
IsPoolAnswer len bytes (Err (BadPool i)) = HasPoolFault bytes i
IsPoolAnswer len bytes (Err OutOfMemory) = Unit {0}

-- how a fault of the pool is answered, in a file of this length
abbrev pub pool_refusal : ℕ → PoolError → ReadRefusal
pool_refusal len (pool.BadTag i) = BadPool i
pool_refusal len (pool.BadIndex i) = BadPool i
pool_refusal len (pool.BadUtf i) = BadPool i
pool_refusal len pool.Truncated = Truncated len
pool_refusal len pool.OutOfMemory = OutOfMemory

-- What is answered of the bytes of a file. Memory is taken for nothing before the pool.
abbrev pub IsClassAnswer : List ℕ → Result ClassFile ReadRefusal → Type 0
IsClassAnswer bytes (Ok c) = IsClass bytes c
IsClassAnswer bytes (Err BadMagic) = HasBadMagic bytes
IsClassAnswer bytes (Err BadVersion) = HasBadVersion bytes
IsClassAnswer bytes (Err (Truncated n)) = IsTruncated bytes × (n ≡ length bytes)
IsClassAnswer bytes (Err (Trailing n)) = TrailsClass bytes n
IsClassAnswer bytes (Err (BadPool i)) = HasBadPool bytes i
IsClassAnswer bytes (Err OutOfMemory) = HasSomeVersion bytes

-- what is answered of the class file in front, and of the bytes after it
abbrev pub IsClassFront : List ℕ → Result (ClassFile × List ℕ) ReadRefusal → Type 0
IsClassFront bytes (Ok (c, rest)) = BeginsWith (λ w. IsClass w c) bytes rest
IsClassFront bytes (Err e) = IsClassAnswer bytes (Err e)

-- ---- The body of a Code attribute.

abbrev pub IsCodeAnswer : List ℕ → Result Code CodeRefusal → Type 0
IsCodeAnswer body (Ok c) = CodeLayout body c
IsCodeAnswer body (Err code.Cut) = IsCutCode body
IsCodeAnswer body (Err (code.Trailing n)) = TrailsCode body n
IsCodeAnswer body (Err (code.CodeLength n)) = HasBadCodeLength body n
IsCodeAnswer body (Err code.OutOfMemory) = Unit {0}

-- what is answered of the body in front, and of the bytes after it
abbrev pub IsCodeFront : List ℕ → Result (Code × List ℕ) CodeRefusal → Type 0
IsCodeFront body (Ok (c, rest)) = BeginsWith (λ w. CodeLayout w c) body rest
IsCodeFront body (Err e) = IsCodeAnswer body (Err e)
