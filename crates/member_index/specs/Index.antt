-- What the index of a class's members is: an entry for each of them, in the order of marks and places.
use Rattle.std.specs.Prelude.{◌≡◌, ◌==◌, ◌&&◌, Bool, ℕ, ◌+◌, ◌<◌, ◌≤◌, List, length, map, IsPermutation, IsSorted, slice_index_or}
use Rattle.std.specs.List.{enumerate_from}
use Rattle.std.specs.Ordering.{nat_cmp, ordering_then}
use Rattle.std.specs.declared.cmp.Ordering.{Ordering}
use Rattle.jk_model_classes.specs.declared.records.FieldRecord.{FieldRecord}
use Rattle.jk_model_classes.specs.declared.records.MethodRecord.{MethodRecord}
use Rattle.member_index.specs.declared.entries.Entry.{Entry}
use Rattle.member_index.specs.declared.marks.Marks.{Marks}
use Rattle.member_index.specs.Marks.{field_marks, field_sought, method_marks, method_sought}

-- by the names' fingerprints, then the types' marks, then the places
abbrev pub entry_cmp : Entry → Entry → Ordering
entry_cmp a b = ordering_then (ordering_then (nat_cmp a.marks.name b.marks.name) (nat_cmp a.marks.kind b.marks.kind)) (nat_cmp a.place b.place)

abbrev pub AreInOrder : List Entry → Type 0
AreInOrder entries = IsSorted entry_cmp entries

-- whether the entry has these marks
abbrev pub has_marks : Marks → Entry → Bool
has_marks marks entry = (entry.marks.name == marks.name) && (entry.marks.kind == marks.kind)

-- the entries of members with these marks, in the order of the members
abbrev pub entries_of : List Marks → List Entry
entries_of marks = map (λ p. record { marks = p.1; place = p.0 }) (enumerate_from 0 marks)

-- The index of members with these marks.
pub record IsIndexOf (marks : List Marks) (entries : List Entry) : Type 0 where
  pub in_order : AreInOrder entries
  pub whole : ∥ IsPermutation (entries_of marks) entries ∥₁

abbrev pub IsFieldIndex : List Entry → List FieldRecord → Type 0
IsFieldIndex index fields = IsIndexOf (map (λ field. field_marks (field_sought field)) fields) index

abbrev pub IsMethodIndex : List Entry → List MethodRecord → Type 0
IsMethodIndex index methods = IsIndexOf (map (λ method. method_marks (method_sought method)) methods) index

-- Entries that stand together: all those with these marks, from this place on.
pub record IsRunOf (entries : List Entry) (marks : Marks) (from : ℕ) (run : List Entry) : Type 0 where
  pub start : ℕ
  pub within : start + length run ≤ length entries
  pub stands : (k : ℕ) (d : Entry) → k < length run → slice_index_or run k d ≡ slice_index_or entries (start + k) d
  pub marked : (k : ℕ) (d : Entry) → k < length run → (slice_index_or run k d).marks ≡ marks
  pub not_before : (k : ℕ) (d : Entry) → k < length run → from ≤ (slice_index_or run k d).place
  pub all : (i : ℕ) (d : Entry) → i < length entries → (slice_index_or entries i d).marks ≡ marks
      → from ≤ (slice_index_or entries i d).place → (start ≤ i) × (i < start + length run)
