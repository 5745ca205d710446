-- Items of a list by their places: that there is one, that there are two, and the numbers of a class's members.
use Rattle.std.specs.Prelude.{◌≡◌, ℕ, ◌+◌, ◌<◌, ⊤, List, length, Some, slice_get}
use Rattle.jk_model.specs.declared.class_file.ClassFile.{ClassFile}
use Rattle.jk_model.specs.declared.class_file.MemberInfo.{MemberInfo}

-- some item is so
abbrev pub HasItem : {X : Type 0} → (X → Type 0) → List X → Type 0
HasItem {X} P items = (i : ℕ) × (x : X) × (slice_get items i ≡ Some x) × P x

-- two items at different places are so
abbrev pub HasTwoItems : {X : Type 0} → (X → Type 0) → List X → Type 0
HasTwoItems {X} P items =
    (i : ℕ) × (j : ℕ) × (x : X) × (y : X) × (i < j) × (slice_get items i ≡ Some x) × (slice_get items j ≡ Some y) × P x × P y

-- an item before this place is so
abbrev pub HasItemBefore : {X : Type 0} → ℕ → (X → Type 0) → List X → Type 0
HasItemBefore {X} place P items = (i : ℕ) × (x : X) × (i < place) × (slice_get items i ≡ Some x) × P x

-- The numbers of members: fields count from 1 in the order of the file, and methods follow on. 0 is the class itself.

abbrev pub FieldAt : ClassFile → ℕ → MemberInfo → Type 0
FieldAt c n field = (i : ℕ) × (n ≡ i + 1) × (slice_get c.fields i ≡ Some field)

abbrev pub MethodAt : ClassFile → ℕ → MemberInfo → Type 0
MethodAt c n method = (i : ℕ) × (n ≡ length c.fields + i + 1) × (slice_get c.methods i ≡ Some method)

-- Where a class file is at fault: at one of its members, or at an entry of its pool. Members come before entries.
pub data Spot : Type 0 where
  Member : ℕ → Spot
  Entry : ℕ → Spot

abbrev pub spot_number : Spot → ℕ
spot_number (Member n) = n
spot_number (Entry i) = i

abbrev pub IsBefore : Spot → Spot → Type 0
IsBefore (Member m) (Member n) = m < n
IsBefore (Member m) (Entry i) = ⊤
IsBefore (Entry i) (Member n) = ⊥
IsBefore (Entry i) (Entry j) = i < j
