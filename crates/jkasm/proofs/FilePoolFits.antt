-- The constants of a file's pool fit a pool: there are no more of them than places, as each entry says one.
use Rattle.std.proofs.Common.{◌≡◌, ◌≢◌, ℕ, zero, suc, ◌<◌, ◌^◌, ◌≤◌, List, [], ◌∷◌, length, sum_by, Option, Some, slice_get, refl, ap, subst, arith}
use Rattle.std.specs.Prelude.{ℤ}
use Rattle.std.specs.Int.{w32, w64, cast_signed}
use Rattle.std.specs.List.{AllByRecursion}
use Rattle.std.proofs.lemmas.Int.{to_z-of_z}
use Rattle.list_lemmas.proofs.ItemsOfLists.{each-by_place as all_of_items}
use Rattle.jk_model.specs.declared.class_file.PoolEntry.{PoolEntry}
use Rattle.jk_model.specs.declared.class_file.PoolEntry.TheVariants as entries
use Rattle.jk_model.specs.ClassFile.{AreSlots, BeginsUnusable}
use Rattle.jk_model_classes.specs.Items.{HasItem}
use Rattle.jk_model.proofs.EachItem.{all_at}
use Rattle.asm_reader.specs.declared.items.Constant.TheVariants.{Int, Long, Text}
use Rattle.asm_reader.specs.declared.items.MemberKind.{MemberKind}
use Rattle.asm_reader.specs.declared.items.MemberKind.TheVariants.{Field, Method, InterfaceMethod}
use Rattle.jkasm.specs.ConstantRanges.{IsInRange, AreInRange}
use Rattle.jkasm.specs.Constants.{PoolConstant, Utf8, Class, Value, NameAndType, Reference, Says, HasJust, Utf8At, ClassAt, NameAndTypeAt, reference}
use Rattle.jkasm.specs.Limits.{FitPool, places_of}
use Rattle.jkasm.specs.PoolGrowth.{IsFilePool}
use Rattle.jkasm.proofs.EachSaidOnce.{reference_usable}
use Rattle.jkasm.proofs.NoRoomInFullPool.{sum_first}
use Rattle.jkasm.proofs.SlotsInTurn.{Slots, none, narrow, wide, IsWide, IsNarrow, slots_in_turn}

-- ---- What an entry says, as a function.

abbrev text_of : Option PoolEntry → List ℕ
text_of (Some (entries.Utf8 bytes)) = bytes
text_of _ = []

abbrev text_at : List PoolEntry → ℕ → List ℕ
text_at pool n = text_of (slice_get pool n)

abbrev class_of : List PoolEntry → Option PoolEntry → List ℕ
class_of pool (Some (entries.Class n)) = text_at pool n
class_of pool _ = []

abbrev reference_of : List PoolEntry → MemberKind → ℕ → Option PoolEntry → PoolConstant
reference_of pool kind k (Some (entries.NameAndType n d)) = Reference kind (class_of pool (slice_get pool k)) (text_at pool n) (text_at pool d)
reference_of pool kind k _ = Utf8 []

abbrev meaning : List PoolEntry → PoolEntry → PoolConstant
meaning pool (entries.Utf8 bytes) = Utf8 bytes
meaning pool (entries.Integer u) = Value (Int (cast_signed w32 u))
meaning pool (entries.Long u) = Value (Long (cast_signed w64 u))
meaning pool (entries.Class n) = Class (text_at pool n)
meaning pool (entries.Str n) = Value (Text (text_at pool n))
meaning pool (entries.NameAndType n d) = NameAndType (text_at pool n) (text_at pool d)
meaning pool (entries.FieldRef k n) = reference_of pool Field k (slice_get pool n)
meaning pool (entries.MethodRef k n) = reference_of pool Method k (slice_get pool n)
meaning pool (entries.InterfaceMethodRef k n) = reference_of pool InterfaceMethod k (slice_get pool n)
meaning pool _ = Utf8 []

module _ (pool : List PoolEntry) where
  text_meant : (n : ℕ) (bytes : List ℕ) → Utf8At pool n bytes → text_at pool n ≡ bytes
  text_meant n bytes at = rw at refl

  class_meant : (k : ℕ) (name : List ℕ) → ClassAt pool k name → class_of pool (slice_get pool k) ≡ name
  class_meant k name (n, at, is) = rw at (text_meant n name is)

  reference_meant : (kind : MemberKind) (k n : ℕ) (class name descriptor : List ℕ) → ClassAt pool k class
      → NameAndTypeAt pool n name descriptor → reference_of pool kind k (slice_get pool n) ≡ Reference kind class name descriptor
  reference_meant kind k n class name descriptor is (m, d, at, text, other) =
      let one = class_meant k class is in
      let two = text_meant m name text in
      let three = text_meant d descriptor other in
      rw (at, one, two, three) refl

  by_entry : (i : ℕ) (e x : PoolEntry) (c : PoolConstant) → slice_get pool i ≡ Some e → slice_get pool i ≡ Some x → meaning pool x ≡ c
      → meaning pool e ≡ c
  by_entry i e x c at there is =
      let same : x ≡ e = cc in
      subst (λ (y : PoolEntry). meaning pool y ≡ c) same is

  meant : (i : ℕ) (e : PoolEntry) (c : PoolConstant) → IsInRange c → Says pool i c → slice_get pool i ≡ Some e → meaning pool e ≡ c
  meant i e (Utf8 bytes) fits at there = by_entry i e (entries.Utf8 bytes) (Utf8 bytes) there at refl
  meant i e (Class name) fits (n, at, is) there = by_entry i e (entries.Class n) (Class name) there at (ap Class (text_meant n name is))
  meant i e (Value (Int n)) fits at there = by_entry i e _ (Value (Int n)) there at (ap (λ (x : ℤ). Value (Int x)) (to_z-of_z w32 n fits))
  meant i e (Value (Long n)) fits at there = by_entry i e _ (Value (Long n)) there at (ap (λ (x : ℤ). Value (Long x)) (to_z-of_z w64 n fits))
  meant i e (Value (Text text)) fits (n, at, is) there =
      by_entry i e (entries.Str n) (Value (Text text)) there at (ap (λ (x : List ℕ). Value (Text x)) (text_meant n text is))
  meant i e (NameAndType name descriptor) fits (n, d, at, is, other) there =
      let one = text_meant n name is in
      let two = text_meant d descriptor other in
      by_entry i e (entries.NameAndType n d) (NameAndType name descriptor) there at (rw (one, two) refl)
  meant i e (Reference Field class name descriptor) fits (k, n, at, is, pair) there =
      by_entry i e (entries.FieldRef k n) _ there at (reference_meant Field k n class name descriptor is pair)
  meant i e (Reference Method class name descriptor) fits (k, n, at, is, pair) there =
      by_entry i e (entries.MethodRef k n) _ there at (reference_meant Method k n class name descriptor is pair)
  meant i e (Reference InterfaceMethod class name descriptor) fits (k, n, at, is, pair) there =
      by_entry i e (entries.InterfaceMethodRef k n) _ there at (reference_meant InterfaceMethod k n class name descriptor is pair)

-- ---- What all slots of a pool say.

abbrev kept_of : (pool slots : List PoolEntry) → Slots slots → List PoolConstant
kept_of pool [] none = []
kept_of pool (e ∷ rest) (narrow _ is more) = meaning pool e ∷ kept_of pool rest more
kept_of pool (e ∷ _ ∷ rest) (wide _ is more) = meaning pool e ∷ kept_of pool rest more

reference_places : (pool : List PoolEntry) (kind : MemberKind) (k : ℕ) (pair : Option PoolEntry) → places_of (reference_of pool kind k pair) ≤ 1
reference_places pool kind k (Some (entries.NameAndType n d)) = omega arith
reference_places pool kind k _ = omega arith

narrow_places : (pool : List PoolEntry) (e : PoolEntry) → IsNarrow e → places_of (meaning pool e) ≤ 1
narrow_places pool (entries.Long u) is = absurd is
narrow_places pool (entries.FieldRef k n) is = reference_places pool Field k (slice_get pool n)
narrow_places pool (entries.MethodRef k n) is = reference_places pool Method k (slice_get pool n)
narrow_places pool (entries.InterfaceMethodRef k n) is = reference_places pool InterfaceMethod k (slice_get pool n)
narrow_places pool _ is = omega arith

wide_places : (pool : List PoolEntry) (e : PoolEntry) → IsWide e → places_of (meaning pool e) ≤ 2
wide_places pool (entries.Long u) is = omega arith
wide_places pool (entries.Double u) is = omega arith
wide_places pool _ is = absurd is

kept_places : (pool slots : List PoolEntry) → (s : Slots slots) → sum_by places_of (kept_of pool slots s) ≤ length slots
kept_places pool [] none = omega arith
kept_places pool (e ∷ rest) (narrow _ is more) =
    omega (arith, sum_first (meaning pool e) (kept_of pool rest more), narrow_places pool e is, kept_places pool rest more)
kept_places pool (e ∷ _ ∷ rest) (wide _ is more) =
    omega (arith, sum_first (meaning pool e) (kept_of pool rest more), wide_places pool e is, kept_places pool rest more)

kept_later : (c d : PoolConstant) (kept : List PoolConstant) → HasItem (λ k. k ≡ c) kept → HasItem (λ k. k ≡ c) (d ∷ kept)
kept_later c d kept (i, x, at, is) = (suc i, x, at, is)

has_meaning : (pool slots : List PoolEntry) → (s : Slots slots) → (i : ℕ) (e : PoolEntry) → slice_get slots i ≡ Some e → e ≢ entries.Unusable
    → HasItem (λ k. k ≡ meaning pool e) (kept_of pool slots s)
has_meaning pool [] none i e at ne = absurd cc
has_meaning pool (x ∷ rest) (narrow _ is more) zero e at ne =
    let same : x ≡ e = cc in
    (0, meaning pool x, refl, ap (meaning pool) same)
has_meaning pool (x ∷ rest) (narrow _ is more) (suc i) e at ne =
    kept_later (meaning pool e) (meaning pool x) (kept_of pool rest more) (has_meaning pool rest more i e at ne)
has_meaning pool (x ∷ _ ∷ rest) (wide _ is more) zero e at ne =
    let same : x ≡ e = cc in
    (0, meaning pool x, refl, ap (meaning pool) same)
has_meaning pool (x ∷ _ ∷ rest) (wide _ is more) (suc zero) e at ne =
    let unusable : e ≡ entries.Unusable = cc in
    absurd (ne unusable)
has_meaning pool (x ∷ _ ∷ rest) (wide _ is more) (suc (suc i)) e at ne =
    kept_later (meaning pool e) (meaning pool x) (kept_of pool rest more) (has_meaning pool rest more i e at ne)

-- ---- Each constant is among them.

says_entry : (pool : List PoolEntry) (i : ℕ) (c : PoolConstant) → Says pool i c
    → (e : PoolEntry) × (slice_get pool i ≡ Some e) × (e ≢ entries.Unusable)
says_entry pool i (Utf8 bytes) at = (entries.Utf8 bytes, at, λ e. cc)
says_entry pool i (Class name) (n, at, is) = (entries.Class n, at, λ e. cc)
says_entry pool i (Value (Int n)) at = (_, at, λ e. cc)
says_entry pool i (Value (Long n)) at = (_, at, λ e. cc)
says_entry pool i (Value (Text text)) (n, at, is) = (entries.Str n, at, λ e. cc)
says_entry pool i (NameAndType name descriptor) (n, d, at, is, other) = (entries.NameAndType n d, at, λ e. cc)
says_entry pool i (Reference kind class name descriptor) (k, n, at, is, pair) = (reference kind k n, at, reference_usable kind k n)

module _ (pool rest : List PoolEntry) (begins : entries.Unusable ∷ rest ≡ pool) (s : Slots rest) where
  is_kept : (i : ℕ) (c : PoolConstant) → IsInRange c → Says pool i c → HasItem (λ k. k ≡ c) (kept_of pool rest s)
  is_kept i c fits said =
      let (e, at, ne) = says_entry pool i c said in
      kept_at i e (rw begins at) ne (meant pool i e c fits said at)
    where
      kept_at : (j : ℕ) (e : PoolEntry) → slice_get (entries.Unusable ∷ rest) j ≡ Some e → e ≢ entries.Unusable → meaning pool e ≡ c
          → HasItem (λ k. k ≡ c) (kept_of pool rest s)
      kept_at zero e at ne is =
          let unusable : e ≡ entries.Unusable = cc in
          absurd (ne unusable)
      kept_at (suc j) e at ne is =
          subst (λ (d : PoolConstant). HasItem (λ k. k ≡ d) (kept_of pool rest s)) is (has_meaning pool rest s j e at ne)

fits_from : (pool : List PoolEntry) → IsFilePool pool → (constants : List PoolConstant) → HasJust pool constants → AreInRange constants
    → (begins : List PoolEntry) → begins ≡ pool → BeginsUnusable AreSlots begins → FitPool constants
fits_from pool file constants h fits [] e b = absurd b
fits_from pool file constants h fits (entries.Unusable ∷ rest) e b =
    let s : Slots rest = slots_in_turn rest b in
    let short : length pool < 2 ^ 16 = file.layout.1 in (
      kept_of pool rest s,
      all_of_items (λ c. HasItem (λ k. k ≡ c) (kept_of pool rest s)) constants
          (λ i c at.
          let (j, said) = h.all c (i, c, at, refl) in
          is_kept pool rest e s j c (all_at IsInRange constants i c fits at) said),
      omega (arith, kept_places pool rest s, ap length e),
    )
fits_from pool file constants h fits (_ ∷ rest) e b = absurd b

pub file_pool_fits : (pool : List PoolEntry) (constants : List PoolConstant) → IsFilePool pool → HasJust pool constants → AreInRange constants
    → FitPool constants
file_pool_fits pool constants file h fits = fits_from pool file constants h fits pool refl (file.layout.0)
