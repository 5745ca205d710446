-- Bytes begin with one pool, or stop being one at one index, or are cut in one: each rules out the others.
use Rattle.std.proofs.Common.{◌≡◌, ℕ, zero, suc, ◌+◌, ◌^◌, ◌<◌, ◌≤◌, ◌⊎◌, inl, inr, List, [], ◌∷◌, ◌++◌, length, take, Some, Ok, Err, refl, sym, ap, subst, ◌∙◌, append_assoc, append-nil, length-append, arith}
use Rattle.std.specs.Prelude.{slice_get}
use Rattle.std.specs.List.{flat_map, AllByRecursion}
use Rattle.std.proofs.lemmas.Bool.{cases_lt}
use Rattle.std.proofs.lemmas.Grind.{flat_map-append}
use Rattle.std.proofs.lemmas.Option.{same_Some}
use Rattle.jk_model.specs.declared.class_file.PoolEntry.{PoolEntry}
use Rattle.jk_model.specs.ClassFile.{u2, entry_bytes, IsPool, pool_bytes, IsUtf8Entry, IsGoodEntry}
use Rattle.jk_model.specs.ConstantPool.{BeginsWithPool, HasPool, IsCutPool, IsTag, IsWideTag, HasBadTag, HasNoIndex, StopsAtTag, IsFirstBadEntry, HasBadIndex, HasBadText}
use Rattle.jk_model.proofs.EachItem.{all_at}
use Rattle.jk_model.proofs.EmptyByLength.{not_nil_back}
use Rattle.const_pool.specs.declared.pool.PoolError.{PoolError}
use Rattle.const_pool.specs.declared.pool.PoolError.TheVariants.{BadTag, BadIndex, BadUtf, Truncated, OutOfMemory}
use Rattle.const_pool.specs.Answer.{second_index, group, IsAnswer}
use Rattle.byte_fields.specs.OneReading.{one_u2}
use Rattle.const_pool.proofs.EntryReadsBack.{front_is_tag, same_entry}
use Rattle.const_pool.proofs.EntriesMakePool.{AllSlots, from_heads, first_heads, heads_bytes}

-- ---- Bytes as a count, entries that have bytes, and what is left.

record Parsed (bytes : List ℕ) (count : ℕ) (heads : List PoolEntry) (left : List ℕ) : Type 0 where
  pub short : count < 2 ^ 16
  pub slots : AllSlots heads
  pub parts : bytes ≡ u2 count ++ (flat_map entry_bytes heads ++ left)

-- how many indices the entries take after index 0
abbrev taken : List PoolEntry → ℕ
taken heads = length (flat_map group heads)

taken-append : (hs ks : List PoolEntry) → taken (hs ++ ks) ≡ taken hs + taken ks
taken-append hs ks = ap length (flat_map-append group hs ks) ∙ length-append (flat_map group hs) (flat_map group ks)

unspelled : (bytes : List ℕ) (count : ℕ) (entries heads : List PoolEntry) (left : List ℕ) → entries ≡ from_heads heads
    → bytes ≡ (u2 count ++ flat_map entry_bytes entries) ++ left → bytes ≡ u2 count ++ (flat_map entry_bytes heads ++ left)
unspelled bytes count entries heads left same parts =
    let bytes_same : flat_map entry_bytes entries ≡ flat_map entry_bytes heads = ap (flat_map entry_bytes) same ∙ heads_bytes heads in
    parts ∙ append_assoc (u2 count) (flat_map entry_bytes entries) left ∙ ap (λ (w : List ℕ). u2 count ++ (w ++ left)) bytes_same

record Pooled (bytes : List ℕ) (pool : List PoolEntry) (rest : List ℕ) : Type 0 where
  pub heads : List PoolEntry
  pub same : pool ≡ from_heads heads
  pub parsed : Parsed bytes (length pool) heads rest

pooled : (bytes : List ℕ) (pool : List PoolEntry) (rest : List ℕ) → BeginsWithPool bytes pool rest → Pooled bytes pool rest
pooled bytes pool rest h =
    let r = first_heads pool (h.0.0, h.0.2) in
    record { heads = r.0; same = r.2; parsed = record { short = h.0.1; slots = r.1; parts = unspelled bytes (length pool) pool r.0 rest r.2 h.1 } }

-- a bad tag after these entries
record BadAt (bytes : List ℕ) (i count : ℕ) : Type 0 where
  pub heads : List PoolEntry
  pub tag : ℕ
  pub more : List ℕ
  pub parsed : Parsed bytes count heads (tag ∷ more)
  pub at : suc (taken heads) ≡ i
  pub less : i < count
  pub cause : (IsTag tag → ⊥) ⊎ (IsWideTag tag × (i + 1 ≡ count))

bad_at : (bytes : List ℕ) (i : ℕ) → HasBadTag bytes i → (count : ℕ) × BadAt bytes i count
bad_at bytes i (count, entries, tag, more, short, first, parts, len, less, cause) =
    let r = first_heads entries first in (
      count,
      record {
        heads = r.0;
        tag = tag;
        more = more;
        parsed = record { short = short; slots = r.1; parts = unspelled bytes count entries r.0 (tag ∷ more) r.2 parts };
        at = sym (ap length r.2) ∙ len;
        less = less;
        cause = cause;
      },
    )

-- ---- Two readings of the same bytes.

-- the second entries are the first, and more
record Follows (hs ks : List PoolEntry) (r s : List ℕ) : Type 0 where
  pub extra : List PoolEntry
  pub slots : AllSlots extra
  pub longer : ks ≡ hs ++ extra
  pub left : r ≡ flat_map entry_bytes extra ++ s

compare : (hs ks : List PoolEntry) (r s : List ℕ) → AllSlots hs → AllSlots ks → flat_map entry_bytes hs ++ r ≡ flat_map entry_bytes ks ++ s
    → Follows hs ks r s ⊎ Follows ks hs s r
compare [] ks r s h k e = inl (record { extra = ks; slots = k; longer = refl; left = e })
compare (x ∷ hs) [] r s h k e = inr (record { extra = x ∷ hs; slots = h; longer = refl; left = sym e })
compare (x ∷ hs) (y ∷ ks) r s h k e =
    let front : entry_bytes x ++ (flat_map entry_bytes hs ++ r) ≡ entry_bytes y ++ (flat_map entry_bytes ks ++ s) =
    sym (append_assoc (entry_bytes x) (flat_map entry_bytes hs) r) ∙ e ∙ append_assoc (entry_bytes y) (flat_map entry_bytes ks) s in
    let one = same_entry x y (flat_map entry_bytes hs ++ r) (flat_map entry_bytes ks ++ s) h.0 k.0 front in
    elim (compare hs ks r s h.1 k.1 one.1) [
      | inl f ↦ inl (record {
        extra = f.extra;
        slots = f.slots;
        longer = ap (λ (e : PoolEntry). e ∷ ks) (sym one.0) ∙ ap (λ (es : List PoolEntry). x ∷ es) f.longer;
        left = f.left;
      })
      | inr f ↦ inr (record {
        extra = f.extra;
        slots = f.slots;
        longer = ap (λ (e : PoolEntry). e ∷ hs) one.0 ∙ ap (λ (es : List PoolEntry). y ∷ es) f.longer;
        left = f.left;
      })
    ]

record Compared (bytes : List ℕ) (c d : ℕ) (hs ks : List PoolEntry) (r s : List ℕ) : Type 0 where
  pub count : c ≡ d
  pub either : Follows hs ks r s ⊎ Follows ks hs s r

compared : (bytes : List ℕ) (c d : ℕ) (hs ks : List PoolEntry) (r s : List ℕ) → Parsed bytes c hs r → Parsed bytes d ks s
    → Compared bytes c d hs ks r s
compared bytes c d hs ks r s p q =
    let both = one_u2 c d (flat_map entry_bytes hs ++ r) (flat_map entry_bytes ks ++ s) p.short q.short (sym p.parts ∙ q.parts) in
    record { count = both.0; either = compare hs ks r s p.slots q.slots both.1 }

-- no entry stands where a bad tag is
bad_ends : (count i : ℕ) (hs extra : List PoolEntry) (tag : ℕ) (more s : List ℕ) → AllSlots extra → tag ∷ more ≡ flat_map entry_bytes extra ++ s
    → (IsTag tag → ⊥) ⊎ (IsWideTag tag × (i + 1 ≡ count))
    → suc (taken hs) ≡ i → suc (taken (hs ++ extra)) ≤ count → extra ≡ []
bad_ends count i hs [] tag more s slots left cause at fits = refl
bad_ends count i hs (e ∷ extra) tag more s slots left (inl never) at fits =
    let front = front_is_tag e tag more (flat_map entry_bytes extra ++ s) slots.0 (left ∙ append_assoc (entry_bytes e) (flat_map entry_bytes extra) s) in
    absurd (never front.0)
bad_ends count i hs (e ∷ extra) tag more s slots left (inr (wide, last)) at fits =
    let front = front_is_tag e tag more (flat_map entry_bytes extra ++ s) slots.0 (left ∙ append_assoc (entry_bytes e) (flat_map entry_bytes extra) s) in
    let two : length (second_index e) ≡ 1 = ap length (front.1 wide) in
    absurd (omega (arith, taken-append hs (e ∷ extra), length-append (second_index e) (flat_map group extra)))

none_more : (hs ks extra : List PoolEntry) → ks ≡ hs ++ extra → extra ≡ [] → ks ≡ hs
none_more hs ks extra e none = e ∙ ap (λ (es : List PoolEntry). hs ++ es) none ∙ append-nil hs

-- entries of the same count end at the bad tag or in front of it
bad_is_last : (bytes : List ℕ) (i count : ℕ) (d : ℕ) (ks : List PoolEntry) (s : List ℕ) → BadAt bytes i count → Parsed bytes d ks s
    → suc (taken ks) ≤ d
    → (count ≡ d) × (suc (taken ks) ≤ i)
bad_is_last bytes i count d ks s b q fits =
    let both = compared bytes count d b.heads ks (b.tag ∷ b.more) s b.parsed q in
    let within : suc (taken ks) ≤ count = omega (arith, both.count) in (
      both.count,
      elim both.either [
        | inl f ↦
            let none =
            bad_ends count i b.heads f.extra b.tag b.more s f.slots f.left b.cause b.at
            (subst (λ (es : List PoolEntry). suc (taken es) ≤ count) f.longer within) in
            let same : taken ks ≡ taken b.heads = ap taken (none_more b.heads ks f.extra f.longer none) in
            omega (arith, b.at)
        | inr f ↦
            let all : taken b.heads ≡ taken ks + taken f.extra = ap taken f.longer ∙ taken-append ks f.extra in
            omega (arith, b.at)
      ],
    )

pool_not_bad : (bytes : List ℕ) (pool : List PoolEntry) (rest : List ℕ) (i : ℕ) → BeginsWithPool bytes pool rest → HasBadTag bytes i → ⊥
pool_not_bad bytes pool rest i h k =
    let p = pooled bytes pool rest h in
    let b = bad_at bytes i k in
    let len : length pool ≡ suc (taken p.heads) = ap length p.same in
    let last = bad_is_last bytes i b.0 (length pool) p.heads rest b.1 p.parsed (omega arith) in
    omega (arith, b.1.less, last.0, last.1)

one_bad_tag : (bytes : List ℕ) (i j : ℕ) → HasBadTag bytes i → HasBadTag bytes j → i ≤ j
one_bad_tag bytes i j h k =
    let a = bad_at bytes i h in
    let b = bad_at bytes j k in
    let last = bad_is_last bytes j b.0 a.0 a.1.heads (a.1.tag ∷ a.1.more) b.1 a.1.parsed (omega (arith, a.1.at, a.1.less)) in
    omega (arith, last.1, a.1.at)

-- where the count is 0
no_index : (bytes : List ℕ) (count : ℕ) (heads : List PoolEntry) (left : List ℕ) → HasNoIndex bytes → Parsed bytes count heads left → 0 ≡ count
no_index bytes count heads left (more, e) p = (one_u2 0 count more (flat_map entry_bytes heads ++ left) (omega arith) p.short (sym e ∙ p.parts)).0

pub pool_not_stop : (bytes : List ℕ) (pool : List PoolEntry) (rest : List ℕ) (i : ℕ) → BeginsWithPool bytes pool rest → StopsAtTag bytes i → ⊥
pool_not_stop bytes pool rest i h (inl (none, at)) =
    let p = pooled bytes pool rest h in
    let empty = no_index bytes (length pool) p.heads rest none p.parsed in
    let len : length pool ≡ suc (taken p.heads) = ap length p.same in
    omega arith
pool_not_stop bytes pool rest i h (inr k) = pool_not_bad bytes pool rest i h k

none_not_bad : (bytes : List ℕ) (i : ℕ) → HasNoIndex bytes → HasBadTag bytes i → ⊥
none_not_bad bytes i none h =
    let b = bad_at bytes i h in
    let empty = no_index bytes b.0 b.1.heads (b.1.tag ∷ b.1.more) none b.1.parsed in
    omega (arith, b.1.less)

pub one_stop : (bytes : List ℕ) (i j : ℕ) → StopsAtTag bytes i → StopsAtTag bytes j → i ≡ j
one_stop bytes i j (inl (h, at)) (inl (k, at2)) = at ∙ sym at2
one_stop bytes i j (inl (h, at)) (inr k) = absurd (none_not_bad bytes j h k)
one_stop bytes i j (inr h) (inl (k, at)) = absurd (none_not_bad bytes i k h)
one_stop bytes i j (inr h) (inr k) = omega (arith, one_bad_tag bytes i j h k, one_bad_tag bytes j i k h)

no_extra : (extra : List PoolEntry) → taken extra ≡ 0 → extra ≡ []
no_extra [] h = refl
no_extra (e ∷ extra) h = absurd (omega arith)

-- entries that follow, of the same number, are the same
follows_none : (hs ks : List PoolEntry) (r s : List ℕ) → Follows hs ks r s → taken hs ≡ taken ks → (hs ≡ ks) × (r ≡ s)
follows_none hs ks r s f len =
    let none = no_extra f.extra (omega (arith, ap taken f.longer, taken-append hs f.extra)) in
    (sym (none_more hs ks f.extra f.longer none), f.left ∙ ap (λ (es : List PoolEntry). flat_map entry_bytes es ++ s) none)

pub one_pool : (bytes : List ℕ) (p q : List PoolEntry) (r s : List ℕ) → BeginsWithPool bytes p r → BeginsWithPool bytes q s → (p ≡ q) × (r ≡ s)
one_pool bytes p q r s h k =
    let a = pooled bytes p r h in
    let b = pooled bytes q s k in
    let both = compared bytes (length p) (length q) a.heads b.heads r s a.parsed b.parsed in
    let len_p : length p ≡ suc (taken a.heads) = ap length a.same in
    let len_q : length q ≡ suc (taken b.heads) = ap length b.same in
    let len : taken a.heads ≡ taken b.heads = omega (arith, both.count) in
    elim both.either [
      | inl f ↦ let same = follows_none a.heads b.heads r s f len in (a.same ∙ ap from_heads same.0 ∙ sym b.same, same.1)
      | inr f ↦ let same = follows_none b.heads a.heads s r f (sym len) in (a.same ∙ ap from_heads (sym same.0) ∙ sym b.same, sym same.1)
    ]

-- ---- Cut bytes are the front of a pool.

pool_more : (bytes : List ℕ) (pool : List PoolEntry) (rest more : List ℕ) → BeginsWithPool bytes pool rest
    → BeginsWithPool (bytes ++ more) pool (rest ++ more)
pool_more bytes pool rest more h = (h.0, ap (λ (w : List ℕ). w ++ more) h.1 ∙ append_assoc (pool_bytes pool) rest more)

stop_more : (bytes : List ℕ) (i : ℕ) (more : List ℕ) → StopsAtTag bytes i → StopsAtTag (bytes ++ more) i
stop_more bytes i more (inl ((rest, e), at)) = inl ((rest ++ more, ap (λ (w : List ℕ). w ++ more) e ∙ append_assoc (u2 0) rest more), at)
stop_more bytes i more (inr (count, entries, tag, rest, short, first, parts, len, less, cause)) =
    let spelled = ap (λ (w : List ℕ). w ++ more) parts ∙ append_assoc (u2 count ++ flat_map entry_bytes entries) (tag ∷ rest) more in
    inr (count, entries, tag, rest ++ more, short, first, spelled, len, less, cause)

all_of : (bytes : List ℕ) (pool : List PoolEntry) → IsPool pool → bytes ≡ pool_bytes pool → BeginsWithPool bytes pool []
all_of bytes pool h e = (h, e ∙ sym (append-nil (pool_bytes pool)))

pub pool_not_cut : (bytes : List ℕ) (pool : List PoolEntry) (rest : List ℕ) → BeginsWithPool bytes pool rest → IsCutPool bytes → ⊥
pool_not_cut bytes pool rest h (q, more, some, is, whole) =
    let same = one_pool (bytes ++ more) pool q (rest ++ more) [] (pool_more bytes pool rest more h) (all_of (bytes ++ more) q is whole) in
    not_nil_back rest more some same.1

pub stop_not_cut : (bytes : List ℕ) (i : ℕ) → StopsAtTag bytes i → IsCutPool bytes → ⊥
stop_not_cut bytes i h (q, more, some, is, whole) = pool_not_stop (bytes ++ more) q [] i (all_of (bytes ++ more) q is whole) (stop_more bytes i more h)

-- ---- One entry is the first that isn't good.

all_below : {A : Type 0} (P : A → Type 0) (xs : List A) (n i : ℕ) (x : A) → AllByRecursion P (take n xs) → slice_get xs i ≡ Some x → i < n → P x
all_below P [] n i x h e less = absurd cc
all_below P (y ∷ xs) zero i x h e less = absurd (omega arith)
all_below P (y ∷ xs) (suc n) zero x h e less = subst P (same_Some y x e) h.0
all_below P (y ∷ xs) (suc n) (suc i) x h e less = all_below P xs n i x h.1 e (omega arith)

good_not_bad : (pool : List PoolEntry) (i : ℕ) (e : PoolEntry) → AllByRecursion (IsGoodEntry pool) pool → IsFirstBadEntry pool i e → ⊥
good_not_bad pool i e h k = k.2 (all_at (IsGoodEntry pool) pool i e h k.0)

not_below : (pool : List PoolEntry) (i j : ℕ) (e f : PoolEntry) → IsFirstBadEntry pool i e → IsFirstBadEntry pool j f → i < j → ⊥
not_below pool i j e f h k less = h.2 (all_below (IsGoodEntry pool) pool j i e k.1 h.0 less)

one_bad : (pool : List PoolEntry) (i j : ℕ) (e f : PoolEntry) → IsFirstBadEntry pool i e → IsFirstBadEntry pool j f → (i ≡ j) × (e ≡ f)
one_bad pool i j e f h k =
    let same : i ≡ j =
    elim (cases_lt i j) [
      | inl below ↦ absurd (not_below pool i j e f h k below)
      | inr over ↦
          elim (cases_lt j i) [
            | inl above ↦ absurd (not_below pool j i f e k h above)
            | inr under ↦ omega arith
          ]
    ] in
    (same, same_Some e f (sym h.0 ∙ ap (slice_get pool) same ∙ k.0))

-- the first entry that isn't good, and its index, are those of the bytes
same_bad : (bytes : List ℕ) (p r : List PoolEntry × List ℕ) (i j : ℕ) (e f : PoolEntry) → BeginsWithPool bytes p.0 p.1 → BeginsWithPool bytes r.0 r.1
    → IsFirstBadEntry p.0 i e → IsFirstBadEntry r.0 j f → (i ≡ j) × (e ≡ f)
same_bad bytes p r i j e f h k bad bad2 =
    let same = (one_pool bytes p.0 r.0 p.1 r.1 h k).0 in
    one_bad r.0 i j e f (subst (λ (pool : List PoolEntry). IsFirstBadEntry pool i e) same bad) bad2

bad_not_good : (bytes : List ℕ) (p r : List PoolEntry × List ℕ) (i : ℕ) (e : PoolEntry) → BeginsWithPool bytes p.0 p.1
    → AllByRecursion (IsGoodEntry p.0) p.0 → BeginsWithPool bytes r.0 r.1 → IsFirstBadEntry r.0 i e → ⊥
bad_not_good bytes p r i e h good k bad =
    let same = (one_pool bytes p.0 r.0 p.1 r.1 h k).0 in
    good_not_bad r.0 i e (subst (λ (pool : List PoolEntry). AllByRecursion (IsGoodEntry pool) pool) same good) bad

-- ---- What one answer says of each pool and each cause.

pub ok_pool : (bytes : List ℕ) (found : List PoolEntry) (after : List ℕ) → IsAnswer bytes (Ok (found, after)) → (pool : List PoolEntry)
    → HasPool bytes pool → found ≡ pool
ok_pool bytes found after h pool ((left, k), good) = (one_pool bytes found pool after left h.0 k).0

pub ok_tag : (bytes : List ℕ) (found : List PoolEntry) (after : List ℕ) → IsAnswer bytes (Ok (found, after)) → (i : ℕ) → StopsAtTag bytes i → ⊥
ok_tag bytes found after h i k = pool_not_stop bytes found after i h.0 k

pub ok_index : (bytes : List ℕ) (found : List PoolEntry) (after : List ℕ) → IsAnswer bytes (Ok (found, after)) → (i : ℕ)
    → HasBadIndex bytes i → ⊥
ok_index bytes found after h i (pool, rest, e, k, bad, other) = bad_not_good bytes (found, after) (pool, rest) i e h.0 h.1 k bad

pub ok_text : (bytes : List ℕ) (found : List PoolEntry) (after : List ℕ) → IsAnswer bytes (Ok (found, after)) → (i : ℕ) → HasBadText bytes i → ⊥
ok_text bytes found after h i (pool, rest, e, k, bad, other) = bad_not_good bytes (found, after) (pool, rest) i e h.0 h.1 k bad

pub ok_cut : (bytes : List ℕ) (found : List PoolEntry) (after : List ℕ) → IsAnswer bytes (Ok (found, after)) → IsCutPool bytes → ⊥
ok_cut bytes found after h k = pool_not_cut bytes found after h.0 k

pub err_pool : (bytes : List ℕ) (x : PoolError) → IsAnswer bytes (Err x) → (pool : List PoolEntry) → HasPool bytes pool → x ≡ OutOfMemory
err_pool bytes (BadTag j) h pool ((after, k), good) = absurd (pool_not_stop bytes pool after j k h)
err_pool bytes (BadIndex j) (found, rest, e, begins, bad, other) pool ((after, k), good) =
    absurd (bad_not_good bytes (pool, after) (found, rest) j e k good begins bad)
err_pool bytes (BadUtf j) (found, rest, e, begins, bad, other) pool ((after, k), good) =
    absurd (bad_not_good bytes (pool, after) (found, rest) j e k good begins bad)
err_pool bytes Truncated h pool ((after, k), good) = absurd (pool_not_cut bytes pool after k h)
err_pool bytes OutOfMemory h pool k = refl

pub err_tag : (bytes : List ℕ) (x : PoolError) → IsAnswer bytes (Err x) → (i : ℕ) → StopsAtTag bytes i → (x ≡ BadTag i) ⊎ (x ≡ OutOfMemory)
err_tag bytes (BadTag j) h i k = inl (ap (λ (n : ℕ). BadTag n) (one_stop bytes j i h k))
err_tag bytes (BadIndex j) (found, rest, e, begins, bad, other) i k = absurd (pool_not_stop bytes found rest i begins k)
err_tag bytes (BadUtf j) (found, rest, e, begins, bad, other) i k = absurd (pool_not_stop bytes found rest i begins k)
err_tag bytes Truncated h i k = absurd (stop_not_cut bytes i k h)
err_tag bytes OutOfMemory h i k = inr refl

pub err_index : (bytes : List ℕ) (x : PoolError) → IsAnswer bytes (Err x) → (i : ℕ) → HasBadIndex bytes i
    → (x ≡ BadIndex i) ⊎ (x ≡ OutOfMemory)
err_index bytes (BadTag j) h i (pool, after, f, k, bad2, other2) = absurd (pool_not_stop bytes pool after j k h)
err_index bytes (BadIndex j) (found, rest, e, begins, bad, other) i (pool, after, f, k, bad2, other2) =
    inl (ap (λ (n : ℕ). BadIndex n) (same_bad bytes (found, rest) (pool, after) j i e f begins k bad bad2).0)
err_index bytes (BadUtf j) (found, rest, e, begins, bad, text) i (pool, after, f, k, bad2, other) =
    absurd (other (subst IsUtf8Entry (same_bad bytes (found, rest) (pool, after) j i e f begins k bad bad2).1 text))
err_index bytes Truncated h i (pool, after, f, k, bad2, other2) = absurd (pool_not_cut bytes pool after k h)
err_index bytes OutOfMemory h i k = inr refl

pub err_text : (bytes : List ℕ) (x : PoolError) → IsAnswer bytes (Err x) → (i : ℕ) → HasBadText bytes i → (x ≡ BadUtf i) ⊎ (x ≡ OutOfMemory)
err_text bytes (BadTag j) h i (pool, after, f, k, bad2, text2) = absurd (pool_not_stop bytes pool after j k h)
err_text bytes (BadIndex j) (found, rest, e, begins, bad, other) i (pool, after, f, k, bad2, text) =
    absurd (other (subst IsUtf8Entry (sym (same_bad bytes (found, rest) (pool, after) j i e f begins k bad bad2).1) text))
err_text bytes (BadUtf j) (found, rest, e, begins, bad, text) i (pool, after, f, k, bad2, text2) =
    inl (ap (λ (n : ℕ). BadUtf n) (same_bad bytes (found, rest) (pool, after) j i e f begins k bad bad2).0)
err_text bytes Truncated h i (pool, after, f, k, bad2, text2) = absurd (pool_not_cut bytes pool after k h)
err_text bytes OutOfMemory h i k = inr refl

pub err_cut : (bytes : List ℕ) (x : PoolError) → IsAnswer bytes (Err x) → IsCutPool bytes → (x ≡ Truncated) ⊎ (x ≡ OutOfMemory)
err_cut bytes (BadTag j) h k = absurd (stop_not_cut bytes j h k)
err_cut bytes (BadIndex j) (found, rest, e, begins, bad, other) k = absurd (pool_not_cut bytes found rest begins k)
err_cut bytes (BadUtf j) (found, rest, e, begins, bad, other) k = absurd (pool_not_cut bytes found rest begins k)
err_cut bytes Truncated h k = inl refl
err_cut bytes OutOfMemory h k = inr refl
