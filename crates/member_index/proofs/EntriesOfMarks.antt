-- The entries of members in file order, and in any order.
use Rattle.std.proofs.Common.{◌≡◌, ◌∙◌, ℕ, ◌+◌, ◌<◌, List, length, get_or, map, sym, ap, subst, ⊎_elim, arith}
use Rattle.std.proofs.lemmas.Grind.{merely, not_there}
use Rattle.std.proofs.lemmas.List.{get_or-map, length-map, same_lists}
use Rattle.std.proofs.lemmas.List.FromFn.{length-enumerate_from, get_or-enumerate_from}
use Rattle.std.proofs.lemmas.List.Sorted.{All-permutation, Contains-permutation}
use Rattle.std.proofs.lemmas.Option.{slice_get_cases}
use Rattle.std.proofs.Math.Logic.{∥∥₁_elim}
use Rattle.std.specs.Coded.{le_prop}
use Rattle.std.specs.List.{All, Contains, enumerate_from}
use Rattle.std.specs.List.Sorted.{IsPermutation}
use Rattle.member_index.specs.Index.{AreInOrder, entries_of, IsIndexOf}
use Rattle.member_index.specs.declared.entries.Entry.{Entry}
use Rattle.member_index.specs.declared.marks.Marks.{Marks}

pub length-entries_of : (marks : List Marks) → length (entries_of marks) ≡ length marks
length-entries_of marks = length-map (enumerate_from 0 marks) _ ∙ length-enumerate_from 0 marks

pub get_or-entries_of : (marks : List Marks) (i : ℕ) (d : Entry) (m : Marks) → i < length marks
    → get_or (entries_of marks) i d ≡ record { marks = get_or marks i m; place = i }
get_or-entries_of marks i d m i_in =
    let entry_at : ℕ × Marks → Entry = λ p. record { marks = p.1; place = p.0 } in
    let i_in_too : i < length (enumerate_from 0 marks) = omega (arith, length-enumerate_from 0 marks) in
    let same : 0 + i ≡ i = omega arith in
    get_or-map entry_at (enumerate_from 0 marks) i (0, m) d i_in_too
    ∙ ap entry_at (get_or-enumerate_from 0 marks i (0, m) i_in)
    ∙ ap (λ (k : ℕ). entry_at (k, get_or marks i m)) same

-- an entry of the index is that of the member at its place
pub entry_in_index : (marks : List Marks) (entries : List Entry) (k : ℕ) (d : Entry) → IsIndexOf marks entries → k < length entries
    → (get_or entries k d).place < length marks
entry_in_index marks entries k d index k_in =
    let each : All (λ (e : Entry). e.place < length marks) (entries_of marks) =
    λ i f i_in. let i_below : i < length marks = omega (arith, length-entries_of marks) in
    rw (get_or-entries_of marks i f f.marks i_below) i_below in
    ∥∥₁_elim index.whole le_prop (λ perm. All-permutation (λ (e : Entry). e.place < length marks) (entries_of marks) entries perm each k d k_in)

-- no member lacks its entry
pub index_has_entry : (marks : List Marks) (entries : List Entry) (i : ℕ) (m : Marks) → IsIndexOf marks entries → i < length marks
    → (Contains entries (record { marks = get_or marks i m; place = i }) → ⊥) → ⊥
index_has_entry marks entries i m index i_in absent =
    let e : Entry = record { marks = get_or marks i m; place = i } in
    let in_file_order : Contains (entries_of marks) e = (i, (omega (arith, length-entries_of marks)), get_or-entries_of marks i e m i_in) in
    not_there index.whole (λ perm. absent (Contains-permutation (entries_of marks) entries e perm in_file_order))

-- entries that stand at their places are those in file order
pub entries_are : {M : Type 0} (marks_of : M → Marks) (members : List M) (entries : List Entry) → length entries ≡ length members
    → ((k : ℕ) (d : Entry) (m : M) → k < length members → get_or entries k d ≡ record { marks = marks_of (get_or members k m); place = k })
    → entries ≡ entries_of (map marks_of members)
entries_are {M} marks_of members entries long each =
    let long_map = length-map members marks_of in
    same_lists entries (entries_of (map marks_of members)) (omega (arith, length-entries_of (map marks_of members)))
    (λ k d k_in.
    let k_in_members : k < length members = omega arith in
    let k_in_map : k < length (map marks_of members) = omega arith in
    let by_marks : Marks → Entry = λ m. record { marks = m; place = k } in
    ⊎_elim
    (λ found.
    let m : M = found.0 in
    each k d m k_in_members
    ∙ ap by_marks (sym (get_or-map marks_of members k m (marks_of m) k_in_members))
    ∙ sym (get_or-entries_of (map marks_of members) k d (marks_of m) k_in_map))
    (λ past. absurd (omega arith))
    (slice_get_cases members k).1)

-- entries in file order, sorted, are an index
pub index_from_sorted : (marks : List Marks) (entries sorted : List Entry) → entries ≡ entries_of marks → IsPermutation entries sorted → AreInOrder sorted
    → IsIndexOf marks sorted
index_from_sorted marks entries sorted are perm in_order = record {
  in_order = in_order;
  whole = merely (let P : List Entry → Type 0 = λ es. IsPermutation es sorted in subst P are perm);
}
