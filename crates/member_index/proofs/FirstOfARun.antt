-- The first entry of a run whose member suits leads to the first member that suits.
use Rattle.std.proofs.Common.{◌≡◌, ◌∙◌, ℕ, ◌+◌, ◌-◌, ◌<◌, ◌≤◌, List, Some, length, get_or, map, sym, ap, refl, subst, ⊎_elim, arith}
use Rattle.std.proofs.lemmas.Bool.{cases_lt}
use Rattle.std.proofs.lemmas.List.{get_or-map, length-map, get_or_default}
use Rattle.std.proofs.lemmas.Option.{slice_get_read, slice_get_within, get_or_from_slice_get}
use Rattle.std.specs.List.{slice_get}
use Rattle.member_index.specs.Finding.{SuitsAt, IsFirstAt}
use Rattle.member_index.specs.Index.{IsIndexOf, IsRunOf}
use Rattle.member_index.specs.declared.entries.Entry.{Entry}
use Rattle.member_index.specs.declared.marks.Marks.{Marks}
use Rattle.member_index.proofs.EntriesOfMarks.{entry_in_index, index_has_entry}
use Rattle.member_index.proofs.OrderOfEntries.{IsAtMost, entries_rise}

-- A search for what suits: an index of the members, a run of it, and whatever suits has the marks of the run.
pub record IsSearch {M : Type 0} (marks_of : M → Marks) (Suits : M → Type 0) (members : List M) (run : List Entry) (from : ℕ) : Type 0 where
  pub entries : List Entry
  pub marks : Marks
  pub index : IsIndexOf (map marks_of members) entries
  pub is_run : IsRunOf entries marks from run
  pub agree : (m : M) → Suits m → marks_of m ≡ marks

-- such a search, made of what the code knows
pub search_of : {M : Type 0} {marks_of : M → Marks} {Suits : M → Type 0} {entries run : List Entry} {marks sought : Marks} {from : ℕ} (members : List M)
    → IsIndexOf (map marks_of members) entries → IsRunOf entries marks from run → marks ≡ sought → ((m : M) → Suits m → marks_of m ≡ sought)
    → IsSearch marks_of Suits members run from
search_of {M} {marks_of} {Suits} {entries} {run} {marks} members index is_run same agree = record {
  entries = entries;
  marks = marks;
  index = index;
  is_run = is_run;
  agree = λ m suits. agree m suits ∙ sym same;
}

-- an entry of the run leads to a member
pub entry_in_run : {M : Type 0} {marks_of : M → Marks} {Suits : M → Type 0} {members : List M} {run : List Entry} {from : ℕ}
    → IsSearch marks_of Suits members run from → (k : ℕ) (d : Entry) → k < length run → (get_or run k d).place < length members
entry_in_run {M} {marks_of} {Suits} {members} s k d k_in =
    let within = s.is_run.within in
    let below = entry_in_index (map marks_of members) s.entries (s.is_run.start + k) d s.index (omega arith) in
    rw (s.is_run.stands k d k_in) (rw (length-map members marks_of) at below)

-- what is read there
pub read_in_run : {M : Type 0} {marks_of : M → Marks} {Suits : M → Type 0} {members : List M} {run : List Entry} {from : ℕ}
    → IsSearch marks_of Suits members run from → (k : ℕ) (d : Entry) (place : ℕ) (m : M) → k < length run
    → place ≡ (get_or run k d).place → m ≡ get_or members place m → slice_get members (get_or run k d).place ≡ Some m
read_in_run {M} {marks_of} {Suits} {members} s k d place m k_in is_place is_read =
    let below : place < length members = rw is_place (entry_in_run s k d k_in) in
    rw is_place at (slice_get_read members (length members) place m refl below is_read)

-- the places of the run rise
run_rises : {M : Type 0} {marks_of : M → Marks} {Suits : M → Type 0} {members : List M} {run : List Entry} {from : ℕ}
    → IsSearch marks_of Suits members run from → (i j : ℕ) (d : Entry) → i ≤ j → j < length run → (get_or run i d).place ≤ (get_or run j d).place
run_rises {M} {marks_of} {Suits} {members} {run} s i j d i_first j_in =
    let start = s.is_run.start in
    let within = s.is_run.within in
    let rise = entries_rise s.entries (start + i) (start + j) d s.index.in_order (omega arith) (omega arith) in
    let i_in : i < length run = omega arith in
    let rise_in_run : IsAtMost (get_or run i d) (get_or run j d) = rw (s.is_run.stands i d i_in, s.is_run.stands j d j_in) rise in
    let i_marked : (get_or run i d).marks ≡ s.marks = s.is_run.marked i d i_in in
    let j_marked : (get_or run j d).marks ≡ s.marks = s.is_run.marked j d j_in in
    let name : (get_or run i d).marks.name ≡ (get_or run j d).marks.name = cc in
    let kind : (get_or run i d).marks.kind ≡ (get_or run j d).marks.kind = cc in
    omega arith

-- where a member suits, an entry of the run leads to it
suits_in_run : {M : Type 0} {marks_of : M → Marks} {Suits : M → Type 0} {members : List M} {run : List Entry} {from : ℕ}
    → IsSearch marks_of Suits members run from → (j : ℕ) (d : Entry) → from ≤ j → SuitsAt Suits members j
    → ((k : ℕ) → k < length run → (get_or run k d).place ≡ j → ⊥) → ⊥
suits_in_run {M} {marks_of} {Suits} {members} {run} s j d after suits absent =
    let start = s.is_run.start in
    let m : M = suits.0 in
    let j_in : j < length members = slice_get_within members j m suits.1 in
    let long = length-map members marks_of in
    let read_at_j : get_or members j m ≡ m = get_or_from_slice_get members j m m suits.1 in
    let at_j : get_or (map marks_of members) j (marks_of m) ≡ s.marks =
    get_or-map marks_of members j m (marks_of m) j_in ∙ ap marks_of read_at_j ∙ s.agree m suits.2 in
    let e : Entry = record { marks = get_or (map marks_of members) j (marks_of m); place = j } in
    index_has_entry (map marks_of members) s.entries j (marks_of m) s.index (omega arith)
    (λ contained.
    let i : ℕ = contained.0 in
    let is_e : get_or s.entries i d ≡ e = get_or_default s.entries i d e contained.1 ∙ contained.2 in
    let marked : (get_or s.entries i d).marks ≡ s.marks = ap (λ (x : Entry). x.marks) is_e ∙ at_j in
    let placed : (get_or s.entries i d).place ≡ j = ap (λ (x : Entry). x.place) is_e in
    let inside = s.is_run.all i d contained.1 marked (omega arith) in
    let back : start + (i - start) ≡ i = omega arith in
    let k_in : i - start < length run = omega arith in
    absent (i - start) k_in (ap (λ (x : Entry). x.place) (s.is_run.stands (i - start) d k_in) ∙ rw back placed))

-- nothing suits where no entry of the run leads to what does
pub none_suits : {M : Type 0} {marks_of : M → Marks} {Suits : M → Type 0} {members : List M} {run : List Entry} {from : ℕ}
    → IsSearch marks_of Suits members run from → ((k : ℕ) (d : Entry) → k < length run → SuitsAt Suits members (get_or run k d).place → ⊥)
    → (j : ℕ) → from ≤ j → SuitsAt Suits members j → ⊥
none_suits {M} {marks_of} {Suits} {members} s none j after suits =
    let d : Entry = record { marks = s.marks; place = 0 } in
    suits_in_run s j d after suits (λ k k_in at_j. none k d k_in (subst (SuitsAt Suits members) (sym at_j) suits))

-- the first entry of the run that leads to what suits leads to the first that does
pub first_suits : {M : Type 0} {marks_of : M → Marks} {Suits : M → Type 0} {members : List M} {run : List Entry} {from : ℕ}
    → IsSearch marks_of Suits members run from → (k : ℕ) (d : Entry) → k < length run
    → ((i : ℕ) (e : Entry) → i < k → SuitsAt Suits members (get_or run i e).place → ⊥)
    → SuitsAt Suits members (get_or run k d).place → IsFirstAt Suits members from (get_or run k d).place
first_suits {M} {marks_of} {Suits} {members} s k d k_in before suits = record {
  suits = suits;
  not_before = s.is_run.not_before k d k_in;
  first = λ j after j_before j_suits.
      suits_in_run s j d after j_suits
      (λ i i_in at_j.
      ⊎_elim
      (λ i_before. before i d i_before (subst (SuitsAt Suits members) (sym at_j) j_suits))
      (λ k_first. absurd (omega (arith, run_rises s k i d k_first i_in)))
      (cases_lt i k));
}
