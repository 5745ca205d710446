-- Entries that are read one after another make a pool, or say why there is none.
use Rattle.std.proofs.Common.{◌≡◌, ◌≢◌, ℕ, zero, suc, ◌+◌, ◌-◌, ◌*◌, ◌^◌, ◌<◌, ◌≤◌, ◌⊎◌, inr, Bool, true, false, cond, List, [], ◌∷◌, ◌++◌, length, take, drop, slice_index_or, Some, None, Ok, Err, refl, sym, ap, subst, ◌∙◌, append_assoc, append-nil, length-append, arith}
use Rattle.std.specs.List.{flat_map, AllByRecursion}
use Rattle.std.proofs.lemmas.Grind.{flat_map-append}
use Rattle.std.specs.Int.{w16}
use Rattle.std.proofs.lemmas.Bool.{ltb-true}
use Rattle.std.proofs.lemmas.List.{take_all}
use Rattle.std.proofs.lemmas.Nat.{be_bytes_2}
use Rattle.jk_model.specs.declared.class_file.PoolEntry.{PoolEntry}
use Rattle.jk_model.specs.declared.class_file.PoolEntry.TheVariants.{Unusable, Utf8, Integer, Float, Long, Double, Class, Str, FieldRef, MethodRef, InterfaceMethodRef, NameAndType}
use Rattle.jk_model.specs.ClassFile.{u2, entry_bytes, IsEntry, AreSlots}
use Rattle.jk_model.specs.ConstantPool.{BeginsWithPool, IsCutPool, AreFirstEntries, IsTag, IsWideTag}
use Rattle.jk_model.proofs.EachItem.{all_append}
use Rattle.jk_model.proofs.EmptyByLength.{not_nil_front}
use Rattle.const_pool.specs.declared.tags.Tag.{Tag}
use Rattle.const_pool.specs.declared.pool.PoolError.{PoolError}
use Rattle.const_pool.specs.declared.pool.PoolError.TheVariants.{BadTag, BadIndex, BadUtf, Truncated, OutOfMemory}
use Rattle.byte_fields.specs.declared.errors.ReadError.{ReadError}
use Rattle.byte_fields.specs.declared.errors.ReadError.TheVariants as reads
use Rattle.byte_fields.specs.Layouts.{IsBytes}
use Rattle.byte_fields.specs.Reading.{FailsInMemory, number_at}
use Rattle.byte_fields.specs.PartsAreBytes.{IsBytes-after}
use Rattle.byte_fields.specs.OneReading.{u2_reader}
use Rattle.byte_fields.specs.CutIsBeginning.{guard_none}
use Rattle.const_pool.specs.Reading.{read_error, tag_number, is_wide, body_at}
use Rattle.const_pool.specs.Answer.{second_index, group, IsSlot, IsTagAnswer, IsEntryAnswer, IsPoolAnswer}
use Rattle.const_pool.proofs.EntryReadsBack.{bodies}

-- ---- One entry.

pub front_is : (bytes : List ℕ) (n : ℕ) → 1 ≤ length bytes → slice_index_or bytes 0 0 ≡ n → bytes ≡ n ∷ take (length bytes - 1) (drop 1 bytes)
front_is [] n len e = absurd (omega arith)
front_is (a ∷ rest) n len e =
    let all : rest ≡ take (length (a ∷ rest) - 1) rest = sym (take_all (length (a ∷ rest) - 1) rest (omega arith)) in
    ap (λ (m : ℕ). m ∷ rest) e ∙ ap (λ (xs : List ℕ). n ∷ xs) all

room_fits : (wide : Bool) (index count : ℕ) → index < count → (wide ≡ true → index + 1 ≢ count)
    → index + suc (length (cond wide (Unusable ∷ []) [])) ≤ count
room_fits true index count less h = let other = h refl in omega arith
room_fits false index count less h = omega arith

-- what is read after a tag is read of the entry
pub entry_read : (index count : ℕ) (bytes : List ℕ) (t : Tag) (rest : List ℕ) (x : PoolEntry × List ℕ) → IsBytes bytes → index < count
    → IsTagAnswer index count bytes (Ok (t, rest)) → body_at t rest ≡ Some x → IsEntryAnswer index count bytes (Ok x)
entry_read index count bytes t rest x fits less (front, last) h =
    let read = (bodies t).takes rest x (IsBytes-after bytes (tag_number t ∷ []) rest front fits) h in
    (read.1.slot, front ∙ read.0.parts, rw read.1.wide (room_fits (is_wide t) index count less last))

-- why nothing is read after a tag is why the entry isn't read
pub entry_fails : (index count : ℕ) (bytes : List ℕ) (t : Tag) (rest : List ℕ) (e : ReadError) → IsBytes bytes → index < count
    → IsTagAnswer index count bytes (Ok (t, rest)) → FailsInMemory e (body_at t rest) → IsEntryAnswer index count bytes (Err (read_error e))
entry_fails index count bytes t rest reads.EndsEarly fits less (front, last) h =
    let cut = (bodies t).cut rest (IsBytes-after bytes (tag_number t ∷ []) rest front fits) h in (
      cut.value,
      cut.more,
      cut.some,
      cut.fits.slot,
      ap (λ (w : List ℕ). w ++ cut.more) front ∙ cut.spelled,
      rw cut.fits.wide (room_fits (is_wide t) index count less last),
    )
entry_fails index count bytes t rest reads.OutOfMemory fits less tag h = tt

-- no bytes at all go on as an entry
pub nothing_read : (index count : ℕ) (bytes : List ℕ) → index < count → length bytes < 1 → IsEntryAnswer index count bytes (Err Truncated)
nothing_read index count [] less short = (Integer 0, entry_bytes (Integer 0), λ e. absurd cc, omega arith, refl, omega arith)
nothing_read index count (b ∷ bytes) less short = absurd (omega arith)

-- ---- Entries after index 0, by those that have bytes.

abbrev AreSame : List PoolEntry → Type 0
AreSame es = (heads : List PoolEntry) × AllByRecursion IsSlot heads × (es ≡ flat_map group heads)

slots_heads : (es : List PoolEntry) → AreSlots es → AllByRecursion IsEntry es → AreSame es
slots_heads [] h k = ([], tt, refl)
slots_heads (Unusable ∷ es) h k = absurd h
slots_heads (Utf8 text ∷ es) h k = let r = slots_heads es h k.1 in (Utf8 text ∷ r.0, (k.0, r.1), ap (λ (xs : List PoolEntry). Utf8 text ∷ xs) r.2)
slots_heads (Integer n ∷ es) h k = let r = slots_heads es h k.1 in (Integer n ∷ r.0, (k.0, r.1), ap (λ (xs : List PoolEntry). Integer n ∷ xs) r.2)
slots_heads (Float n ∷ es) h k = let r = slots_heads es h k.1 in (Float n ∷ r.0, (k.0, r.1), ap (λ (xs : List PoolEntry). Float n ∷ xs) r.2)
slots_heads (Long n ∷ []) h k = absurd h
slots_heads (Long n ∷ Unusable ∷ es) h k =
    let r = slots_heads es h k.1.1 in (Long n ∷ r.0, (k.0, r.1), ap (λ (xs : List PoolEntry). Long n ∷ Unusable ∷ xs) r.2)
slots_heads (Long n ∷ _ ∷ es) h k = absurd h
slots_heads (Double n ∷ []) h k = absurd h
slots_heads (Double n ∷ Unusable ∷ es) h k =
    let r = slots_heads es h k.1.1 in (Double n ∷ r.0, (k.0, r.1), ap (λ (xs : List PoolEntry). Double n ∷ Unusable ∷ xs) r.2)
slots_heads (Double n ∷ _ ∷ es) h k = absurd h
slots_heads (Class name ∷ es) h k = let r = slots_heads es h k.1 in (Class name ∷ r.0, (k.0, r.1), ap (λ (xs : List PoolEntry). Class name ∷ xs) r.2)
slots_heads (Str text ∷ es) h k = let r = slots_heads es h k.1 in (Str text ∷ r.0, (k.0, r.1), ap (λ (xs : List PoolEntry). Str text ∷ xs) r.2)
slots_heads (FieldRef class pair ∷ es) h k =
    let r = slots_heads es h k.1 in (FieldRef class pair ∷ r.0, (k.0, r.1), ap (λ (xs : List PoolEntry). FieldRef class pair ∷ xs) r.2)
slots_heads (MethodRef class pair ∷ es) h k =
    let r = slots_heads es h k.1 in (MethodRef class pair ∷ r.0, (k.0, r.1), ap (λ (xs : List PoolEntry). MethodRef class pair ∷ xs) r.2)
slots_heads (InterfaceMethodRef class pair ∷ es) h k =
    let r = slots_heads es h k.1 in (InterfaceMethodRef class pair ∷ r.0, (k.0, r.1), ap (λ (xs : List PoolEntry). InterfaceMethodRef class pair ∷ xs) r.2)
slots_heads (NameAndType name descriptor ∷ es) h k =
    let r = slots_heads es h k.1 in (NameAndType name descriptor ∷ r.0, (k.0, r.1), ap (λ (xs : List PoolEntry). NameAndType name descriptor ∷ xs) r.2)

abbrev AreRight : List PoolEntry → Type 0
AreRight es = AreSlots es × AllByRecursion IsEntry es

heads_slots : (heads : List PoolEntry) → AllByRecursion IsSlot heads → AreRight (flat_map group heads)
heads_slots [] h = (tt, tt)
heads_slots (Unusable ∷ es) h = absurd h.0
heads_slots (Utf8 text ∷ es) h = let r = heads_slots es h.1 in (r.0, (h.0, r.1))
heads_slots (Integer n ∷ es) h = let r = heads_slots es h.1 in (r.0, (h.0, r.1))
heads_slots (Float n ∷ es) h = let r = heads_slots es h.1 in (r.0, (h.0, r.1))
heads_slots (Long n ∷ es) h = let r = heads_slots es h.1 in (r.0, (h.0, (tt, r.1)))
heads_slots (Double n ∷ es) h = let r = heads_slots es h.1 in (r.0, (h.0, (tt, r.1)))
heads_slots (Class name ∷ es) h = let r = heads_slots es h.1 in (r.0, (h.0, r.1))
heads_slots (Str text ∷ es) h = let r = heads_slots es h.1 in (r.0, (h.0, r.1))
heads_slots (FieldRef class pair ∷ es) h = let r = heads_slots es h.1 in (r.0, (h.0, r.1))
heads_slots (MethodRef class pair ∷ es) h = let r = heads_slots es h.1 in (r.0, (h.0, r.1))
heads_slots (InterfaceMethodRef class pair ∷ es) h = let r = heads_slots es h.1 in (r.0, (h.0, r.1))
heads_slots (NameAndType name descriptor ∷ es) h = let r = heads_slots es h.1 in (r.0, (h.0, r.1))

-- index 0, and these entries, each with the index after it
abbrev pub from_heads : List PoolEntry → List PoolEntry
from_heads heads = Unusable ∷ flat_map group heads

pub heads_first : (heads : List PoolEntry) → AllByRecursion IsSlot heads → AreFirstEntries (from_heads heads)
heads_first heads h = let r = heads_slots heads h in (r.0, (tt, r.1))

pub first_heads : (entries : List PoolEntry) → AreFirstEntries entries
    → (heads : List PoolEntry) × AllByRecursion IsSlot heads × (entries ≡ from_heads heads)
first_heads [] h = absurd h.0
first_heads (Unusable ∷ es) h =
    let r = slots_heads es h.0 h.1.1 in
    (r.0, r.1, ap (λ (xs : List PoolEntry). Unusable ∷ xs) r.2)
first_heads (_ ∷ es) h = absurd h.0

-- an unusable index has no bytes
nothing_second : (e : PoolEntry) (es : List PoolEntry) → flat_map entry_bytes (second_index e ++ es) ≡ flat_map entry_bytes es
nothing_second (Long n) es = refl
nothing_second (Double n) es = refl
nothing_second _ es = refl

pub heads_bytes : (heads : List PoolEntry) → flat_map entry_bytes (from_heads heads) ≡ flat_map entry_bytes heads
heads_bytes [] = refl
heads_bytes (e ∷ heads) =
    let whole : flat_map entry_bytes (from_heads (e ∷ heads)) ≡ entry_bytes e ++ flat_map entry_bytes (second_index e ++ flat_map group heads) = refl in
    let same : flat_map entry_bytes (flat_map group heads) ≡ flat_map entry_bytes heads = heads_bytes heads in
    whole ∙ ap (λ (w : List ℕ). entry_bytes e ++ w) (nothing_second e (flat_map group heads) ∙ same)

-- ---- What is read so far.

pub record IsSoFar (count : ℕ) (bytes : List ℕ) (entries : List PoolEntry) (left : List ℕ) : Type 0 where
  pub heads : List PoolEntry
  pub slots : AllByRecursion IsSlot heads
  pub same : entries ≡ from_heads heads
  pub parts : bytes ≡ flat_map entry_bytes heads ++ left
  pub few : length entries ≤ count

pub begins : (count : ℕ) (bytes : List ℕ) (entries : List PoolEntry) → 0 < count → entries ≡ Unusable ∷ [] → IsSoFar count bytes entries bytes
begins count bytes entries some e = record { heads = []; slots = tt; same = e; parts = refl; few = rw e (omega arith) }

abbrev pub AllSlots : List PoolEntry → Type 0
AllSlots es = AllByRecursion IsSlot es

pub goes_on : (count : ℕ) (bytes : List ℕ) (entries : List PoolEntry) (left : List ℕ) (e : PoolEntry) (after : List ℕ)
    → IsSoFar count bytes entries left
    → IsSlot e → left ≡ entry_bytes e ++ after → length entries + length (group e) ≤ count
    → IsSoFar count bytes (entries ++ group e) after
goes_on count bytes entries left e after h slot read fits = record {
  heads = h.heads ++ e ∷ [];
  slots = all_append IsSlot h.heads (e ∷ []) h.slots (slot, tt);
  same = ap (λ (xs : List PoolEntry). xs ++ group e) h.same
      ∙ ap (λ (xs : List PoolEntry). Unusable ∷ (flat_map group h.heads ++ xs)) (sym (append-nil (group e)))
      ∙ ap (λ (xs : List PoolEntry). Unusable ∷ xs) (sym (flat_map-append group h.heads (e ∷ [])));
  parts =
      let more : flat_map entry_bytes (h.heads ++ e ∷ []) ≡ flat_map entry_bytes h.heads ++ entry_bytes e =
      flat_map-append entry_bytes h.heads (e ∷ []) ∙ ap (λ (w : List ℕ). flat_map entry_bytes h.heads ++ w) (append-nil (entry_bytes e)) in
      h.parts ∙ ap (λ (w : List ℕ). flat_map entry_bytes h.heads ++ w) read ∙ sym (append_assoc (flat_map entry_bytes h.heads) (entry_bytes e) after)
      ∙ ap (λ (w : List ℕ). w ++ after) (sym more);
  few = omega (arith, length-append entries (group e));
}

-- the bytes of a pool, by the entries that have some
pub spelled_heads : (count : ℕ) (heads : List PoolEntry) (left bytes : List ℕ) → bytes ≡ flat_map entry_bytes heads ++ left
    → u2 count ++ bytes ≡ (u2 count ++ flat_map entry_bytes (from_heads heads)) ++ left
spelled_heads count heads left bytes parts =
    ap (λ (w : List ℕ). u2 count ++ w) parts ∙ ap (λ (w : List ℕ). u2 count ++ (w ++ left)) (sym (heads_bytes heads))
    ∙ sym (append_assoc (u2 count) (flat_map entry_bytes (from_heads heads)) left)

pub is_done : (count : ℕ) (bytes : List ℕ) (entries : List PoolEntry) (left : List ℕ) → IsSoFar count bytes entries left → count < 2 ^ 16
    → count ≤ length entries → BeginsWithPool (u2 count ++ bytes) entries left
is_done count bytes entries left h short all =
    let first = subst AreFirstEntries (sym h.same) (heads_first h.heads h.slots) in
    let len : length entries ≡ count = omega (arith, h.few) in
    let parts : u2 count ++ bytes ≡ (u2 (length entries) ++ flat_map entry_bytes entries) ++ left =
    spelled_heads count h.heads left bytes h.parts ∙ ap (λ (es : List PoolEntry). (u2 count ++ flat_map entry_bytes es) ++ left) (sym h.same)
    ∙ ap (λ (n : ℕ). (u2 n ++ flat_map entry_bytes entries) ++ left) (sym len) in
    ((first.0, omega arith, first.1), parts)

-- ---- Where it stops.

-- so many entries more
abbrev fillers : ℕ → List PoolEntry
fillers zero = []
fillers (suc n) = Integer 0 ∷ fillers n

fillers_fit : (n : ℕ) → AllSlots (fillers n)
fillers_fit zero = tt
fillers_fit (suc n) = (omega arith, fillers_fit n)

fillers_len : (n : ℕ) → length (flat_map group (fillers n)) ≡ n
fillers_len zero = refl
fillers_len (suc n) = ap suc (fillers_len n)

-- bytes that are cut in an entry go on as a pool
pub cut_pool : (count : ℕ) (bytes : List ℕ) (entries : List PoolEntry) (left : List ℕ) (e : PoolEntry) (more : List ℕ)
    → IsSoFar count bytes entries left
    → count < 2 ^ 16 → more ≢ [] → IsSlot e → left ++ more ≡ entry_bytes e
    → length entries + length (group e) ≤ count → IsCutPool (u2 count ++ bytes)
cut_pool count bytes entries left e more h short some slot spelled fits =
    let k = count - (length entries + length (group e)) in
    let tail = fillers k in
    let all = h.heads ++ e ∷ tail in
    let pool = from_heads all in
    let slots = all_append IsSlot h.heads (e ∷ tail) h.slots (slot, fillers_fit k) in
    let first = heads_first all slots in
    let grouped : flat_map group all ≡ flat_map group h.heads ++ (group e ++ flat_map group tail) = flat_map-append group h.heads (e ∷ tail) in
    let entries_len : length entries ≡ suc (length (flat_map group h.heads)) = ap length h.same in
    let len : length pool ≡ count =
    omega (
      arith,
      ap length grouped,
      length-append (flat_map group h.heads) (group e ++ flat_map group tail),
      length-append (group e) (flat_map group tail),
      fillers_len k,
    ) in
    let rest = more ++ flat_map entry_bytes tail in
    let heads = flat_map entry_bytes h.heads in
    let after_heads : left ++ rest ≡ entry_bytes e ++ flat_map entry_bytes tail =
    sym (append_assoc left more (flat_map entry_bytes tail)) ∙ ap (λ (w : List ℕ). w ++ flat_map entry_bytes tail) spelled in
    let parts : bytes ++ rest ≡ flat_map entry_bytes all =
    ap (λ (w : List ℕ). w ++ rest) h.parts ∙ append_assoc heads left rest ∙ ap (λ (w : List ℕ). heads ++ w) after_heads
    ∙ sym (flat_map-append entry_bytes h.heads (e ∷ tail)) in
    let whole : (u2 count ++ bytes) ++ rest ≡ u2 (length pool) ++ flat_map entry_bytes pool =
    append_assoc (u2 count) bytes rest ∙ ap (λ (w : List ℕ). u2 count ++ w) (parts ∙ sym (heads_bytes all))
    ∙ ap (λ (n : ℕ). u2 n ++ flat_map entry_bytes pool) (sym len) in
    (pool, rest, not_nil_front more (flat_map entry_bytes tail) some, (first.0, omega arith, first.1), whole)

-- why no entry is read at an index is why no pool is read
pub stops : (count : ℕ) (bytes : List ℕ) (entries : List PoolEntry) (left : List ℕ) (x : PoolError)
    → IsSoFar count bytes entries left → count < 2 ^ 16
    → length entries < count → IsEntryAnswer (length entries) count left (Err x) → IsPoolAnswer (u2 count ++ bytes) (Err x)
stops count bytes entries left (BadTag i) h short less (at, (tag, more, front, cause)) =
    let first = subst AreFirstEntries (sym h.same) (heads_first h.heads h.slots) in
    let parts : u2 count ++ bytes ≡ (u2 count ++ flat_map entry_bytes entries) ++ (tag ∷ more) =
    spelled_heads count h.heads left bytes h.parts ∙ ap (λ (es : List PoolEntry). (u2 count ++ flat_map entry_bytes es) ++ left) (sym h.same)
    ∙ ap (λ (w : List ℕ). (u2 count ++ flat_map entry_bytes entries) ++ w) front in
    let len : length entries ≡ i = sym at in
    inr (
      count,
      entries,
      tag,
      more,
      short,
      first,
      parts,
      len,
      subst (λ (n : ℕ). n < count) len less,
      subst (λ (n : ℕ). (IsTag tag → ⊥) ⊎ (IsWideTag tag × (n + 1 ≡ count))) len cause,
    )
stops count bytes entries left (BadIndex i) h short less k = absurd k
stops count bytes entries left (BadUtf i) h short less k = absurd k
stops count bytes entries left Truncated h short less (e, more, some, slot, spelled, fits) =
    cut_pool count bytes entries left e more h short some slot spelled fits
stops count bytes entries left OutOfMemory h short less k = tt

-- ---- The count in front.

two_bytes : (b : ℕ) → b < 256 → IsBytes (b ∷ 1 ∷ [])
two_bytes b fits zero = fits
two_bytes b fits (suc zero) = omega arith
two_bytes b fits (suc (suc i)) = omega arith

high_byte : (b : ℕ) → b < 256 → u2 (suc (b * 256)) ≡ b ∷ 1 ∷ []
high_byte b fits = be_bytes_2 (b ∷ 1 ∷ []) (suc (b * 256)) refl (two_bytes b fits) (omega arith)

cut_count : (bytes : List ℕ) → IsBytes bytes → length bytes < 2 → IsCutPool bytes
cut_count [] fits short = (Unusable ∷ [], 0 ∷ 1 ∷ [], λ e. absurd cc, (tt, omega arith, (tt, tt)), refl)
cut_count (b ∷ []) fits short =
    let heads = fillers (b * 256) in
    let first = heads_first heads (fillers_fit (b * 256)) in
    let pool = from_heads heads in
    let len : length pool ≡ suc (b * 256) = ap suc (fillers_len (b * 256)) in
    let number : u2 (length pool) ≡ b ∷ 1 ∷ [] = ap u2 len ∙ high_byte b (fits 0) in (
      pool,
      1 ∷ flat_map entry_bytes pool,
      λ e. absurd cc,
      (first.0, omega (arith, fits 0), first.1),
      sym (ap (λ (w : List ℕ). w ++ flat_map entry_bytes pool) number),
    )
cut_count (b ∷ a ∷ bytes) fits short = absurd (omega arith)

pub no_count : (bytes : List ℕ) → IsBytes bytes → number_at w16 bytes ≡ None → IsCutPool bytes
no_count bytes fits h = cut_count bytes fits (ltb-true _ _ (guard_none _ _ h))

pub count_is : (bytes : List ℕ) (count : ℕ) (rest : List ℕ) → IsBytes bytes → number_at w16 bytes ≡ Some (count, rest)
    → bytes ≡ u2 count ++ rest
count_is bytes count rest fits h = (u2_reader.takes bytes (count, rest) fits h).0.parts
