-- Room that is made for one domain after the other, and names that are bound one after the other.
use Rattle.std.proofs.Common.{◌≡◌, ℕ, suc, ◌+◌, ◌<◌, ◌≤◌, List, [], ◌∷◌, ◌++◌, length, map, take, sum_by, Some, slice_get, sym, ap, ◌∙◌, arith, append-nil, append_assoc, length-append}
use Rattle.std.proofs.lemmas.List.{length-map, map-append}
use Rattle.list_lemmas.proofs.LastItems.{take_next}
use Rattle.jk_model_sharing.specs.BoundNames.{BoundName}
use Rattle.thread_segments.specs.declared.parts.DomainPart.{DomainPart}
use Rattle.thread_segments.specs.declared.parts.NamePart.{NamePart}
use Rattle.thread_segments.specs.NameEntries.{NameList}
use Rattle.thread_segments.specs.RestoredParts.{chunks_asked, name_told, names_asked, threads_asked, with_name_room, with_names, with_thread_room}
use Rattle.thread_segments.proofs.RestoredCounts.{sum_more}
use Rattle.thread_stacks.specs.Stacks.{ThreadList}

length_more : {X : Type 0} (xs : List X) (k : ℕ) (x : X) → slice_get xs k ≡ Some x → length (take (suc k) xs) ≡ length (take k xs) + 1
length_more {X = X} xs k x at = ap (λ (ys : List X). length ys) (take_next xs k x at) ∙ length-append (take k xs) (x ∷ [])

-- ---- Threads and segments.

abbrev room_with : ThreadList → ℕ → ℕ → ℕ → ThreadList
room_with t most most_segments domains = record t { most = most; most_segments = most_segments; domains = domains }

pub no_thread_room : (t : ThreadList) → t ≡ with_thread_room [] t
no_thread_room t =
    ap (λ (n : ℕ). room_with t n t.most_segments t.domains) (let z : t.most ≡ t.most + 0 = omega arith in z)
    ∙ ap (λ (n : ℕ). room_with t (t.most + 0) n t.domains) (let z : t.most_segments ≡ t.most_segments + 0 = omega arith in z)
    ∙ ap (λ (n : ℕ). room_with t (t.most + 0) (t.most_segments + 0) n) (let z : t.domains ≡ t.domains + 0 = omega arith in z)

pub more_thread_room : (domains : List DomainPart) (k : ℕ) (p : DomainPart) → slice_get domains k ≡ Some p → (old now new : ThreadList) (threads chunks : ℕ)
    → now ≡ with_thread_room (take k domains) old → threads ≡ threads_asked p → chunks ≡ chunks_asked p
    → new ≡ record now { most = now.most + threads; most_segments = now.most_segments + chunks; domains = suc now.domains }
    → new ≡ with_thread_room (take (suc k) domains) old
more_thread_room domains k p at old now new threads chunks is asked_threads asked_chunks becomes =
    becomes
    ∙ ap (λ (t : ThreadList). room_with t (t.most + threads) (t.most_segments + chunks) (suc t.domains)) is
    ∙ ap (λ (n : ℕ). room_with old n (old.most_segments + sum_by chunks_asked (take k domains) + chunks) (suc (old.domains + length (take k domains)))) most
    ∙ ap (λ (n : ℕ). room_with old (old.most + sum_by threads_asked (take (suc k) domains)) n (suc (old.domains + length (take k domains)))) segments
    ∙ ap (λ (n : ℕ). room_with old (old.most + sum_by threads_asked (take (suc k) domains))
    (old.most_segments + sum_by chunks_asked (take (suc k) domains)) n) count
  where
    most : old.most + sum_by threads_asked (take k domains) + threads ≡ old.most + sum_by threads_asked (take (suc k) domains)
    most = omega (arith, sum_more threads_asked domains k p at, asked_threads)

    segments : old.most_segments + sum_by chunks_asked (take k domains) + chunks ≡ old.most_segments + sum_by chunks_asked (take (suc k) domains)
    segments = omega (arith, sum_more chunks_asked domains k p at, asked_chunks)

    count : suc (old.domains + length (take k domains)) ≡ old.domains + length (take (suc k) domains)
    count = omega (arith, length_more domains k p at)

-- ---- Names.

abbrev names_with : List BoundName → ℕ → NameList
names_with names most = record { names = names; most = most }

pub no_name_room : (n : NameList) → n ≡ with_name_room [] n
no_name_room n = ap (λ (m : ℕ). names_with n.names m) (let z : n.most ≡ n.most + 0 = omega arith in z)

pub more_name_room : (domains : List DomainPart) (k : ℕ) (p : DomainPart) → slice_get domains k ≡ Some p → (old now new : NameList) (names : ℕ)
    → now ≡ with_name_room (take k domains) old → names ≡ names_asked p → new ≡ record now { most = now.most + names }
    → new ≡ with_name_room (take (suc k) domains) old
more_name_room domains k p at old now new names is asked becomes =
    becomes
    ∙ ap (λ (n : NameList). names_with n.names (n.most + names)) is
    ∙ ap (λ (m : ℕ). names_with old.names m)
    (let z : old.most + sum_by names_asked (take k domains) + names ≡ old.most + sum_by names_asked (take (suc k) domains) =
    omega (arith, sum_more names_asked domains k p at, asked) in z)

abbrev name_of : NamePart → List ℕ → BoundName
name_of p text = record { text = text; cap = p.cap; binder = p.binder }

pub no_names_more : (n : NameList) → n ≡ with_names [] n
no_names_more n =
    ap (λ (ns : List BoundName). names_with ns n.most) (sym (append-nil n.names))
    ∙ ap (λ (m : ℕ). names_with (n.names ++ []) m) (let z : n.most ≡ n.most + 0 = omega arith in z)

pub one_name_more : (parts : List NamePart) (k : ℕ) (p : NamePart) → slice_get parts k ≡ Some p → (old now roomy new : NameList) (text : List ℕ)
    → now ≡ with_names (take k parts) old → roomy ≡ record now { most = now.most + 1 } → text ≡ p.text
    → new ≡ record roomy { names = roomy.names ++ record { text = text; cap = p.cap; binder = p.binder } ∷ [] }
    → new ≡ with_names (take (suc k) parts) old
one_name_more parts k p at old now roomy new text is more same becomes =
    becomes
    ∙ ap (λ (u : List ℕ). names_with (roomy.names ++ name_of p u ∷ []) roomy.most) same
    ∙ ap (λ (n : NameList). names_with (n.names ++ name_told p ∷ []) n.most) more
    ∙ ap (λ (n : NameList). names_with (n.names ++ name_told p ∷ []) (n.most + 1)) is
    ∙ ap (λ (ns : List BoundName). names_with ns (old.most + length (take k parts) + 1)) names
    ∙ ap (λ (m : ℕ). names_with (old.names ++ map name_told (take (suc k) parts)) m) most
  where
    names : (old.names ++ map name_told (take k parts)) ++ name_told p ∷ [] ≡ old.names ++ map name_told (take (suc k) parts)
    names =
        append_assoc old.names (map name_told (take k parts)) (name_told p ∷ [])
        ∙ ap (λ (ns : List BoundName). old.names ++ ns) (sym (map-append name_told (take k parts) (p ∷ [])))
        ∙ ap (λ (ps : List NamePart). old.names ++ map name_told ps) (sym (take_next parts k p at))

    most : old.most + length (take k parts) + 1 ≡ old.most + length (take (suc k) parts)
    most = omega (arith, length_more parts k p at)

-- there is room for one more
pub room_for_name : (parts : List NamePart) (k : ℕ) (old now roomy : NameList) → length old.names ≤ old.most → now ≡ with_names (take k parts) old
    → roomy ≡ record now { most = now.most + 1 } → length roomy.names < roomy.most
room_for_name parts k old now roomy within is more =
    let names : length roomy.names ≡ length (old.names ++ map name_told (take k parts)) =
    ap (λ (n : NameList). length n.names) more ∙ ap (λ (n : NameList). length n.names) is in
    let most : roomy.most ≡ old.most + length (take k parts) + 1 = ap (λ (n : NameList). n.most) more ∙ ap (λ (n : NameList). n.most + 1) is in
    omega (
      arith,
      within,
      names,
      most,
      length-append old.names (map name_told (take k parts)),
      length-map (take k parts) name_told,
    )
