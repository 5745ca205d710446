-- The entries that two searches in order bound are a run.
use Rattle.std.proofs.Common.{◌≡◌, ◌∙◌, ℕ, ◌+◌, ◌-◌, ◌<◌, ◌≤◌, true, false, List, length, get_or, take, drop, ap, inr, ⊎_elim, arith}
use Rattle.std.proofs.lemmas.Bool.Decides.{nat_tests}
use Rattle.std.proofs.lemmas.Bool.{cases_lt}
use Rattle.std.proofs.lemmas.List.{get_or-take, get_or-drop, length-take-le, length-drop}
use Rattle.std.specs.List.Sorted.{IsPartitionedBy, IsPartitionPoint}
use Rattle.std.specs.Ordering.{is_lt}
use Rattle.member_index.specs.Index.{AreInOrder, IsRunOf, entry_cmp, has_marks}
use Rattle.member_index.specs.declared.entries.Entry.{Entry}
use Rattle.member_index.specs.declared.marks.Marks.{Marks}
use Rattle.member_index.proofs.OrderOfEntries.{IsAtMost, at_most_from_not_less, not_at_most_from_less, less_from_at_most, entries_rise}

-- no entry before the start is one of these marks from the place on or comes after them, and each from the start on is
abbrev pub StartsAt : List Entry → Marks → ℕ → ℕ → Type 0
StartsAt entries marks from start =
    let first : Entry = record { marks = marks; place = from } in
    IsPartitionPoint (λ e. is_lt (entry_cmp e first) ≡ true) (λ e. is_lt (entry_cmp e first) ≡ false) entries start

-- of the entries from the start on, these many have the marks, and no later one has
abbrev pub EndsAt : List Entry → Marks → ℕ → ℕ → Type 0
EndsAt entries marks start size =
    IsPartitionPoint (λ e. has_marks marks e ≡ true) (λ e. has_marks marks e ≡ false) (drop start entries) size

-- marks of one name and one type are the same
same_marks : (a b : Marks) → a.name ≡ b.name → a.kind ≡ b.kind → a ≡ b
same_marks a b name kind =
    let by_name : ℕ → Marks = λ n. record { name = n; kind = a.kind } in
    let by_kind : ℕ → Marks = λ k. record { name = b.name; kind = k } in
    ap by_name name ∙ ap by_kind kind

-- what a test of marks tells
marks_from_test : (marks : Marks) (e : Entry) → has_marks marks e ≡ true → e.marks ≡ marks
marks_from_test marks e h =
    same_marks e.marks marks (grind (arith, nat_tests)) (grind (arith, nat_tests))

not_marks_from_test : (marks : Marks) (e : Entry) → has_marks marks e ≡ false → e.marks ≡ marks → ⊥
not_marks_from_test marks e h same =
    let name : e.marks.name ≡ marks.name = cc in
    let kind : e.marks.kind ≡ marks.kind = cc in
    grind (arith, nat_tests)

-- an entry of these marks, from a place on
not_before_first : (marks : Marks) (from : ℕ) (e : Entry) → IsAtMost (record { marks = marks; place = from }) e → e.marks ≡ marks → from ≤ e.place
not_before_first marks from e at_most same =
    let name : e.marks.name ≡ marks.name = cc in
    let kind : e.marks.kind ≡ marks.kind = cc in
    omega arith

first_at_most : (marks : Marks) (from : ℕ) (e : Entry) → e.marks ≡ marks → from ≤ e.place → IsAtMost (record { marks = marks; place = from }) e
first_at_most marks from e same after =
    let name : marks.name ≡ e.marks.name = cc in
    let kind : marks.kind ≡ e.marks.kind = cc in
    inr (name, inr (kind, after))

-- what stands between two entries of the same marks has them too
test_between : (marks : Marks) (from : ℕ) (a b : Entry) → IsAtMost (record { marks = marks; place = from }) a → IsAtMost a b
    → has_marks marks b ≡ true → has_marks marks a ≡ true
test_between marks from a b first_a a_b h =
    let name : b.marks.name ≡ marks.name = grind (arith, nat_tests) in
    let kind : b.marks.kind ≡ marks.kind = grind (arith, nat_tests) in
    let same_name : a.marks.name ≡ marks.name = omega arith in
    let same_kind : a.marks.kind ≡ marks.kind = omega arith in
    grind (arith, nat_tests)

-- the first search may be made
pub parted_by_first : (entries : List Entry) (first : Entry) → AreInOrder entries → IsPartitionedBy (λ e. is_lt (entry_cmp e first)) entries
parted_by_first entries first in_order i j d i_first j_in h =
    less_from_at_most _ _ _ (entries_rise entries i j d in_order i_first j_in) h

-- the second search may be made among what the first leaves
pub parted_by_marks : (entries : List Entry) (marks : Marks) (from start : ℕ) → AreInOrder entries
    → StartsAt entries marks from start
    → IsPartitionedBy (has_marks marks) (drop start entries)
parted_by_marks entries marks from start in_order point i j d i_first j_in h =
    let long = length-drop start entries in
    let j_in_all : start + j < length entries = omega arith in
    let i_in_all : start + i < length entries = omega arith in
    let at_j : has_marks marks (get_or entries (start + j) d) ≡ true = rw (get_or-drop start entries j d) at h in
    let first : Entry = record { marks = marks; place = from } in
    let first_at_i : IsAtMost first (get_or entries (start + i) d) =
    at_most_from_not_less _ _ (point.1 (start + i) d (omega arith) i_in_all) in
    let rise = entries_rise entries (start + i) (start + j) d in_order (omega arith) j_in_all in
    rw (get_or-drop start entries i d) (test_between marks from _ _ first_at_i rise at_j)

-- no entry of these marks from the place on stands before the start
not_before_start : (entries : List Entry) (marks : Marks) (from start i : ℕ) (d : Entry)
    → StartsAt entries marks from start
    → (get_or entries i d).marks ≡ marks → from ≤ (get_or entries i d).place → start ≤ i
not_before_start entries marks from start i d point same after =
    ⊎_elim
    (λ before. absurd (not_at_most_from_less _ _ (point.0 i d (omega arith) before) (first_at_most marks from _ same after)))
    (λ h. h)
    (cases_lt i start)

-- no entry of these marks stands after the end
before_end : (entries : List Entry) (marks : Marks) (start size i : ℕ) (d : Entry)
    → EndsAt entries marks start size
    → i < length entries → (get_or entries i d).marks ≡ marks → i < start + size
before_end entries marks start size i d end i_in same =
    ⊎_elim
    (λ h. h)
    (λ past.
    let rest = length-drop start entries in
    let back : start + (i - start) ≡ i = omega arith in
    let test = end.1 (i - start) d (omega arith) (omega arith) in
    absurd (not_marks_from_test marks (get_or entries i d) (rw (get_or-drop start entries (i - start) d, back) at test) same))
    (cases_lt i (start + size))

pub run_between : (entries : List Entry) (marks : Marks) (from start size : ℕ) → AreInOrder entries → start ≤ length entries
    → StartsAt entries marks from start
    → size ≤ length (drop start entries)
    → EndsAt entries marks start size
    → IsRunOf entries marks from (take size (drop start entries))
run_between entries marks from start size in_order start_in point size_in end =
    let first : Entry = record { marks = marks; place = from } in
    let long : length (take size (drop start entries)) ≡ size = length-take-le size (drop start entries) size_in in
    let rest = length-drop start entries in
    let at : (k : ℕ) (d : Entry) → k < size → get_or (take size (drop start entries)) k d ≡ get_or entries (start + k) d =
    λ k d k_in. get_or-take size (drop start entries) k d k_in ∙ get_or-drop start entries k d in
    let marked : (k : ℕ) (d : Entry) → k < size → (get_or entries (start + k) d).marks ≡ marks =
    λ k d k_in. marks_from_test marks (get_or entries (start + k) d) (rw (get_or-drop start entries k d) at (end.0 k d (omega arith) k_in)) in
    record {
      start = start;
      within = omega arith;
      stands = λ k d k_in. at k d (omega arith);
      marked = λ k d k_in. rw (at k d (omega arith)) (marked k d (omega arith));
      not_before = λ k d k_in.
          let e : Entry = get_or entries (start + k) d in
          let k_in_all : start + k < length entries = omega arith in
          let k_in_run : k < size = omega arith in
          let after_first = at_most_from_not_less e first (point.1 (start + k) d (omega arith) k_in_all) in
          rw (at k d k_in_run) (not_before_first marks from e after_first (marked k d k_in_run));
      all = λ i d i_in same after. (
        not_before_start entries marks from start i d point same after,
        rw long (before_end entries marks start size i d end i_in same),
      );
    }
