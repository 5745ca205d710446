-- Which entry says a constant, where its parts are in the pool, and that texts are good entries.
use Rattle.std.proofs.Common.{◌≡◌, ℕ, ◌<◌, ◌^◌, true, List, [], ◌∷◌, length, Some, refl, sym, ◌∙◌, ap, arith}
use Rattle.std.specs.Prelude.{ℤ}
use Rattle.std.specs.Int.{w32, w64, cast_unsigned}
use Rattle.std.specs.List.{list_all}
use Rattle.std.proofs.lemmas.Bool.{and_parts}
use Rattle.std.proofs.lemmas.Bool.Decides.{nat_tests}
use Rattle.jk_model.specs.declared.class_file.PoolEntry.{PoolEntry}
use Rattle.jk_model.specs.declared.class_file.PoolEntry.TheVariants as entries
use Rattle.jk_model.specs.ClassFile.{IsEntry, IsGoodEntry, NamesEntry, IsClassEntry, IsPairEntry}
use Rattle.jk_model.specs.Text.{IsModifiedUtf8}
use Rattle.jk_model.proofs.PlainBytesAreTexts.{is_plain, plain_is_text}
use Rattle.asm_reader.specs.declared.items.Constant.TheVariants.{Int, Long, Text}
use Rattle.asm_reader.specs.declared.items.MemberKind.{MemberKind}
use Rattle.asm_reader.specs.declared.items.MemberKind.TheVariants.{Field, Method, InterfaceMethod}
use Rattle.jkasm.specs.declared.pool.key.Key.{Key}
use Rattle.jkasm.specs.declared.pool.key.Key.TheVariants as keys
use Rattle.jkasm.specs.Constants.{Utf8, Class, Value, NameAndType, Reference, Utf8At, ClassAt, NameAndTypeAt, reference}
use Rattle.jkasm.specs.PoolGrowth.{IsPoolText, is_text_byte}
use Rattle.jkasm.specs.PoolKeys.{entry_of, slots_of}
use Rattle.jkasm.proofs.EachSaidOnce.{class_entry, text_entry, pair_entry, reference_entry}
use Rattle.jkasm.proofs.PutTakesConstant.{IsEntryOf}
use Rattle.jkasm.proofs.SaysLater.{utf8_later, class_later, pair_later}

-- ---- Texts.

text_is_plain : (bytes : List ℕ) → list_all is_text_byte bytes ≡ true → list_all is_plain bytes ≡ true
text_is_plain [] h = refl
text_is_plain (b ∷ bytes) h =
    let (here, others) = and_parts (is_text_byte b) (list_all is_text_byte bytes) h in
    let one : is_plain b ≡ true = plain_byte b here in
    let more : list_all is_plain bytes ≡ true = text_is_plain bytes others in
    rw (one, more) refl
  where
    plain_byte : (b : ℕ) → is_text_byte b ≡ true → is_plain b ≡ true
    plain_byte b h = grind (arith, nat_tests)

pub pool_text_is_utf8 : (bytes : List ℕ) → IsPoolText bytes → IsModifiedUtf8 bytes
pool_text_is_utf8 bytes (short, all) = plain_is_text bytes (text_is_plain bytes all)

-- ---- The entries of constants.

pub utf8_entry_of : (pool : List PoolEntry) (key : Key) (bytes : List ℕ) → entry_of key ≡ entries.Utf8 bytes → length (slots_of key) ≡ 1
    → IsEntryOf pool key (Utf8 bytes)
utf8_entry_of pool key bytes e narrow = record {
  says = λ new i grown at. at ∙ ap (λ (x : PoolEntry). Some x) e;
  only = λ j differ said. said ∙ ap (λ (x : PoolEntry). Some x) (sym e);
  places = sym narrow;
}

pub class_entry_of : (pool : List PoolEntry) (n : ℕ) (name : List ℕ) → Utf8At pool n name → IsEntryOf pool (keys.Class n) (Class name)
class_entry_of pool n name text = record {
  says = λ new i grown at. (n, at, utf8_later pool new n name grown text);
  only = λ j differ said. class_entry pool differ n j name text said;
  places = refl;
}

pub int_entry_of : (pool : List PoolEntry) (u : ℕ) (n : ℤ) → u ≡ cast_unsigned w32 n → IsEntryOf pool (keys.Integer u) (Value (Int n))
int_entry_of pool u n e = record {
  says = λ new i grown at. at ∙ ap (λ (x : ℕ). Some (entries.Integer x)) e;
  only = λ j differ said. said ∙ ap (λ (x : ℕ). Some (entries.Integer x)) (sym e);
  places = refl;
}

pub long_entry_of : (pool : List PoolEntry) (u : ℕ) (n : ℤ) → u ≡ cast_unsigned w64 n → IsEntryOf pool (keys.Long u) (Value (Long n))
long_entry_of pool u n e = record {
  says = λ new i grown at. at ∙ ap (λ (x : ℕ). Some (entries.Long x)) e;
  only = λ j differ said. said ∙ ap (λ (x : ℕ). Some (entries.Long x)) (sym e);
  places = refl;
}

pub text_entry_of : (pool : List PoolEntry) (n : ℕ) (text : List ℕ) → Utf8At pool n text → IsEntryOf pool (keys.Str n) (Value (Text text))
text_entry_of pool n text is = record {
  says = λ new i grown at. (n, at, utf8_later pool new n text grown is);
  only = λ j differ said. text_entry pool differ n j text is said;
  places = refl;
}

pub pair_entry_of : (pool : List PoolEntry) (n d : ℕ) (name descriptor : List ℕ) → Utf8At pool n name → Utf8At pool d descriptor
    → IsEntryOf pool (keys.NameAndType n d) (NameAndType name descriptor)
pair_entry_of pool n d name descriptor text other = record {
  says = λ new i grown at. (n, d, at, utf8_later pool new n name grown text, utf8_later pool new d descriptor grown other);
  only = λ j differ said. pair_entry pool differ n d j name descriptor text other said;
  places = refl;
}

pub reference_entry_of : (pool : List PoolEntry) (key : Key) (kind : MemberKind) (k n : ℕ) (class name descriptor : List ℕ)
    → entry_of key ≡ reference kind k n → length (slots_of key) ≡ 1 → ClassAt pool k class → NameAndTypeAt pool n name descriptor
    → IsEntryOf pool key (Reference kind class name descriptor)
reference_entry_of pool key kind k n class name descriptor e narrow is pair = record {
  says = λ new i grown at. (
    k,
    n,
    at ∙ ap (λ (x : PoolEntry). Some x) e,
    class_later pool new k class grown is,
    pair_later pool new n name descriptor grown pair,
  );
  only = λ j differ said.
      reference_entry pool differ kind k n j class name descriptor is pair said ∙ ap (λ (x : PoolEntry). Some x) (sym e);
  places = sym narrow;
}

-- ---- References are good entries.

names_class : (pool : List PoolEntry) (k : ℕ) (class : List ℕ) → ClassAt pool k class → NamesEntry IsClassEntry pool k
names_class pool k class (n, at, is) = (entries.Class n, at, tt)

names_pair : (pool : List PoolEntry) (n : ℕ) (name descriptor : List ℕ) → NameAndTypeAt pool n name descriptor → NamesEntry IsPairEntry pool n
names_pair pool n name descriptor (m, d, at, is, other) = (entries.NameAndType m d, at, tt)

pub reference_is_good : (pool : List PoolEntry) (kind : MemberKind) (k n : ℕ) (class name descriptor : List ℕ) → ClassAt pool k class
    → NameAndTypeAt pool n name descriptor → IsGoodEntry pool (reference kind k n)
reference_is_good pool Field k n class name descriptor is pair = (names_class pool k class is, names_pair pool n name descriptor pair)
reference_is_good pool Method k n class name descriptor is pair = (names_class pool k class is, names_pair pool n name descriptor pair)
reference_is_good pool InterfaceMethod k n class name descriptor is pair = (names_class pool k class is, names_pair pool n name descriptor pair)

pub reference_is_entry : (kind : MemberKind) (k n : ℕ) → k < 2 ^ 16 → n < 2 ^ 16 → IsEntry (reference kind k n)
reference_is_entry Field k n h l = (h, l)
reference_is_entry Method k n h l = (h, l)
reference_is_entry InterfaceMethod k n h l = (h, l)
