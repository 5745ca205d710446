-- Walks over the fields, the methods and the pool of a class file: the first item that a test refuses, and the
-- least spot that such items make.
use Rattle.std.specs.Prelude.{◌≡◌, ℕ, ◌+◌, ◌<◌, ◌⊎◌, ◌↔◌, IsTrue, Bool, true, false, List, Option, Some, None, slice_get, nat_lt, if◌then◌else◌}
use Rattle.std.specs.Fn.{Shared, FnReturnsAt}
use Rattle.jk_model.specs.declared.class_file.ClassFile.{ClassFile}
use Rattle.jk_model.specs.declared.class_file.PoolEntry.{PoolEntry}
use Rattle.jk_model.specs.declared.class_file.MemberInfo.{MemberInfo}
use Rattle.jk_model_classes.specs.Items.{HasItem, HasItemBefore, FieldAt, MethodAt, Spot, Member, Entry}
use Rattle.class_rules.specs.declared.members.FirstPlaces.{FirstPlaces}
use denote.Ref.{Bor}

-- ---- One list.

-- the least place of an item that is so, or none where no item is
abbrev pub IsLeastItem : {X : Type 0} → (X → Type 0) → List X → Option ℕ → Type 0
IsLeastItem P items None = HasItem P items → ⊥
IsLeastItem {X} P items (Some n) = ((x : X) × (slice_get items n ≡ Some x) × P x) × (HasItemBefore n P items → ⊥)

-- the first item of which a test answers yes, or none where it answers no of each
abbrev pub IsFirstPassed : {F X : Type 0} → Shared F (Bor X × Unit {0}) Bool → F → List X → Option ℕ → Type 0
IsFirstPassed {F} {X} g test items None = (i : ℕ) (x : X) → slice_get items i ≡ Some x → FnReturnsAt g test x false
IsFirstPassed {F} {X} g test items (Some n) =
    ((x : X) × (slice_get items n ≡ Some x) × FnReturnsAt g test x true)
    × ((i : ℕ) (x : X) → i < n → slice_get items i ≡ Some x → FnReturnsAt g test x false)

-- the lesser of two places
abbrev pub earlier : Option ℕ → Option ℕ → Option ℕ
earlier None b = b
earlier (Some i) None = Some i
earlier (Some i) (Some j) = if nat_lt j i then Some j else Some i

-- ---- A class file.

-- A rule that reads one thing at a time: A is what it refuses of the class itself, P of a field, Q of a method, and
-- R of an entry of the pool.
abbrev pub BreaksAt : (c : ClassFile) (A : Type 0) (P Q : MemberInfo → Type 0) (R : PoolEntry → Type 0) → Spot → Type 0
BreaksAt c A P Q R (Member n) =
    ((n ≡ 0) × A) ⊎ ((field : MemberInfo) × FieldAt c n field × P field) ⊎ ((method : MemberInfo) × MethodAt c n method × Q method)
BreaksAt c A P Q R (Entry i) = (entry : PoolEntry) × (slice_get c.pool i ≡ Some entry) × R entry

-- the rule reads one thing at a time, and refuses these
pub record ReadsEach (c : ClassFile) (A : Type 0) (P Q : MemberInfo → Type 0) (R : PoolEntry → Type 0) (rule : Spot → Type 0) : Type 0 where
  pub broken : (spot : Spot) → BreaksAt c A P Q R spot → rule spot
  pub only : (spot : Spot) → rule spot → BreaksAt c A P Q R spot

-- the first places where a rule is broken that reads one thing at a time
pub record AreFirstPlaces (c : ClassFile) (A : Type 0) (P Q : MemberInfo → Type 0) (R : PoolEntry → Type 0) (places : FirstPlaces) : Type 0 where
  pub class : IsTrue places.class ↔ A
  pub field : IsLeastItem P c.fields places.field
  pub method : IsLeastItem Q c.methods places.method
  pub entry : IsLeastItem R c.pool places.entry

-- the number of the least spot of these places: a field's, or else a method's, or else an entry's
abbrev pub member_or_entry : ℕ → Option ℕ → Option ℕ → Option ℕ → Option ℕ
member_or_entry fields (Some i) method entry = Some (i + 1)
member_or_entry fields None (Some i) entry = Some (fields + i + 1)
member_or_entry fields None None entry = entry

abbrev pub least_number : ℕ → FirstPlaces → Option ℕ
least_number fields places = if places.class then Some 0 else member_or_entry fields places.field places.method places.entry
