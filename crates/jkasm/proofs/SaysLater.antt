-- What an entry says stays so as the pool grows.
use Rattle.std.proofs.Common.{◌≡◌, ℕ, List, Some, slice_get}
use Rattle.jk_model.specs.declared.class_file.PoolEntry.{PoolEntry}
use Rattle.jk_model.specs.declared.class_file.PoolEntry.TheVariants as entries
use Rattle.asm_reader.specs.declared.items.Constant.TheVariants.{Int, Long, Text}
use Rattle.jkasm.specs.Constants.{PoolConstant, Utf8, Class, Value, NameAndType, Reference, Says, Utf8At, ClassAt, NameAndTypeAt, reference}
use Rattle.jkasm.specs.PoolGrowth.{Extends}
use Rattle.jkasm.proofs.ItemsOfBoth.{get_front}

pub entry_later : (old new : List PoolEntry) (i : ℕ) (e : PoolEntry) → Extends old new → slice_get old i ≡ Some e → slice_get new i ≡ Some e
entry_later old new i e (more, grown) at = rw grown (get_front old more i e at)

pub utf8_later : (old new : List PoolEntry) (i : ℕ) (bytes : List ℕ) → Extends old new → Utf8At old i bytes → Utf8At new i bytes
utf8_later old new i bytes grown at = entry_later old new i (entries.Utf8 bytes) grown at

pub class_later : (old new : List PoolEntry) (i : ℕ) (name : List ℕ) → Extends old new → ClassAt old i name → ClassAt new i name
class_later old new i name grown (n, at, text) =
    (n, entry_later old new i (entries.Class n) grown at, utf8_later old new n name grown text)

pub pair_later : (old new : List PoolEntry) (i : ℕ) (name descriptor : List ℕ) → Extends old new
    → NameAndTypeAt old i name descriptor → NameAndTypeAt new i name descriptor
pair_later old new i name descriptor grown (n, d, at, text, other) = (
  n,
  d,
  entry_later old new i (entries.NameAndType n d) grown at,
  utf8_later old new n name grown text,
  utf8_later old new d descriptor grown other,
)

pub says_later : (old new : List PoolEntry) (i : ℕ) (c : PoolConstant) → Extends old new → Says old i c → Says new i c
says_later old new i (Utf8 bytes) grown h = utf8_later old new i bytes grown h
says_later old new i (Class name) grown h = class_later old new i name grown h
says_later old new i (Value (Int n)) grown h = entry_later old new i _ grown h
says_later old new i (Value (Long n)) grown h = entry_later old new i _ grown h
says_later old new i (Value (Text text)) grown (n, at, is) =
    (n, entry_later old new i (entries.Str n) grown at, utf8_later old new n text grown is)
says_later old new i (NameAndType name descriptor) grown h = pair_later old new i name descriptor grown h
says_later old new i (Reference kind class name descriptor) grown (k, n, at, is, pair) = (
  k,
  n,
  entry_later old new i (reference kind k n) grown at,
  class_later old new k class grown is,
  pair_later old new n name descriptor grown pair,
)
