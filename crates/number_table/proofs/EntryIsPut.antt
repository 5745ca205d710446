-- A table to which an entry is added has it, and the others as before.
use Rattle.std.proofs.Common.{◌≡◌, ◌≢◌, ℕ, ◌+◌, ◌<◌, ◌≤◌, ◌%◌, List, set, Some, None, option_map, refl, sym, ap, subst, arith, inl, inr, ◌⊎◌, ◌∙◌}
use Rattle.std.proofs.lemmas.Bool.{cases_eq}
use Rattle.std.proofs.lemmas.List.{get_or-set_same, get_or-set_other, length-set}
use Rattle.number_table.specs.declared.chains.Chains.{Chains}
use Rattle.number_table.specs.declared.entry_table.Entry.{Entry}
use Rattle.number_table.specs.declared.entry_table.EntryTable.{EntryTable}
use Rattle.number_table.specs.declared.entry_table.Place.{Place}
use Rattle.number_table.specs.ChainMoves.{count, place, nodes, stacks, MovesTop}
use Rattle.number_table.specs.Entries.{no_entry, entry_at, IsTable}
use Rattle.number_table.specs.TableMoves.{find, place_in, Inserts}
use Rattle.number_table.proofs.PlacesApart.{places_apart}
use Rattle.number_table.proofs.EntriesOfANumber.{entry_in, entry_of, entry-placed, nothing-placed, unplaced-lacks, found_or_not, found-tells, found-lacks}

-- A free node goes into the bucket of a number that has no entry.
pub record IsPut (old : EntryTable) (chains : Chains) (s h b : ℕ) : Type 0 where
  pub some : 0 < old.buckets
  pub bucket : h ≡ s % old.buckets
  pub fresh : place_in old s ≡ None
  pub moves : MovesTop old.chains chains old.buckets h b
  pub within : b < nodes old.chains

module _ (old : EntryTable) (chains : Chains) (s h b : ℕ) (new_place : Place) (put : IsPut old chains s h b) where
  abbrev put_entry : Entry
  put_entry = record { number = s; place = new_place }

  abbrev entries : List Entry
  entries = set old.entries.items b put_entry

  abbrev entry : ℕ → ℕ → Entry
  entry k p = entry_in chains.nodes.items entries k p

  h_lt : h < old.buckets
  h_lt = let some = put.some in let e = put.bucket in omega arith

  stacks_are : stacks old.chains ≡ old.buckets + 1
  stacks_are = old.ok.stacks_are put.some

  same_count : (k : ℕ) → k < old.buckets → k ≢ h → count chains k ≡ count old.chains k
  same_count k lt ne = put.moves.other_counts k (omega arith) ne

  count_grows : (k : ℕ) → k < old.buckets → count old.chains k ≤ count chains k
  count_grows k lt =
      elim (cases_eq k h) [
        | inl e ↦
            let a : count chains k ≡ count chains h = ap (count chains) e in
            let c : count old.chains k ≡ count old.chains h = ap (count old.chains) e in
            omega (arith, put.moves.to_count)
        | inr ne ↦ omega (arith, same_count k lt ne)
      ]

  same_place : (k p : ℕ) → k < old.buckets → p < count old.chains k → place chains k p ≡ place old.chains k p
  same_place k p lt low = put.moves.others k p (omega (arith, stacks_are)) low (omega (arith, count_grows k lt))

  other_node : (k p : ℕ) → k < old.buckets → p < count old.chains k → place chains k p ≢ b
  other_node k p lt low e =
      let a =
      places_apart chains k p h (count old.chains h) (omega (arith, stacks_are, put.moves.same_stacks)) (omega (arith, count_grows k lt))
      (omega (arith, stacks_are, put.moves.same_stacks, h_lt)) (omega (arith, put.moves.to_count)) (e ∙ sym put.moves.lands) in
      let c : count old.chains k ≡ count old.chains h = ap (count old.chains) a.0 in
      omega (arith, a.1)

  same_entry : (k p : ℕ) → k < old.buckets → p < count old.chains k → entry k p ≡ entry_of old k p
  same_entry k p lt low =
      get_or-set_other old.entries.items b (place chains k p) put_entry no_entry (other_node k p lt low)
      ∙ ap (entry_at old.entries.items) (same_place k p lt low)

  new_entry : entry h (count old.chains h) ≡ put_entry
  new_entry =
      ap (entry_at entries) put.moves.lands
      ∙ get_or-set_same old.entries.items b put_entry no_entry (omega (arith, put.within, old.ok.as_many))

  -- a position of the bucket is a former one or the new one
  former_or_new : (k p : ℕ) → k < old.buckets → p < count chains k → (p < count old.chains k) ⊎ ((k ≡ h) × (p ≡ count old.chains h))
  former_or_new k p lt low =
      elim (cases_eq k h) [
        | inl e ↦
            let a : count chains k ≡ count chains h = ap (count chains) e in
            let c : count old.chains k ≡ count old.chains h = ap (count old.chains) e in
            elim (cases_eq p (count old.chains h)) [
              | inl at ↦ inr (e, at)
              | inr ne ↦ inl (omega (arith, put.moves.to_count))
            ]
        | inr ne ↦ inl (omega (arith, same_count k lt ne))
      ]

  -- the new entry's number isn't that of a former one
  number_differs : (k p : ℕ) → k < old.buckets → p < count old.chains k → (entry_of old k p).number ≢ s
  number_differs k p lt low e =
      let at : k ≡ s % old.buckets = sym (old.ok.in_bucket k p lt low) ∙ ap (λ n. n % old.buckets) e in
      let P : ℕ → Type 0 = λ j. p < count old.chains j in
      let Q : ℕ → Type 0 = λ j. (entry_of old j p).number ≡ s in
      unplaced-lacks old s put.fresh p (subst P at low) (subst Q at e)

  number_of_new : (k p : ℕ) → k ≡ h → p ≡ count old.chains h → (entry k p).number ≡ s
  number_of_new k p e at =
      ap (λ j. (entry j p).number) e ∙ ap (λ q. (entry h q).number) at ∙ ap (λ (x : Entry). x.number) new_entry

  number_of_former : (k p : ℕ) → k < old.buckets → p < count old.chains k → (entry k p).number ≡ (entry_of old k p).number
  number_of_former k p lt low = ap (λ (x : Entry). x.number) (same_entry k p lt low)

  pub put_keeps : IsTable chains.nodes.items chains.stacks.items entries old.buckets
  put_keeps =
      record {
        few = old.ok.few;
        as_many = length-set old.entries.items b put_entry ∙ old.ok.as_many ∙ sym put.moves.same_nodes;
        stacks_are = λ some. put.moves.same_stacks ∙ old.ok.stacks_are some;
        empty = λ none. put.moves.same_stacks ∙ old.ok.empty none;
        in_bucket =
            λ k p lt low. elim (former_or_new k p lt low) [
              | inl former ↦ ap (λ n. n % old.buckets) (number_of_former k p lt former) ∙ old.ok.in_bucket k p lt former
              | inr new ↦ ap (λ n. n % old.buckets) (number_of_new k p new.0 new.1) ∙ sym put.bucket ∙ sym new.0
            ];
        apart =
            λ k p q lt p_low q_low e. elim (former_or_new k p lt p_low) [
              | inl former ↦
                  elim (former_or_new k q lt q_low) [
                    | inl former2 ↦
                        old.ok.apart k p q lt former former2 (sym (number_of_former k p lt former) ∙ e ∙ number_of_former k q lt former2)
                    | inr new ↦
                        absurd (number_differs k p lt former (sym (number_of_former k p lt former) ∙ e ∙ number_of_new k q new.0 new.1))
                  ]
              | inr new ↦
                  elim (former_or_new k q lt q_low) [
                    | inl former ↦
                        absurd (number_differs k q lt former (sym (number_of_former k q lt former) ∙ sym e ∙ number_of_new k p new.0 new.1))
                    | inr new2 ↦ new.1 ∙ sym new2.1
                  ]
            ];
      }

  pub put_inserts : (new : EntryTable) → new.chains.nodes.items ≡ chains.nodes.items → new.chains.stacks.items ≡ chains.stacks.items
      → new.entries.items ≡ entries
      → new.buckets ≡ old.buckets → Inserts old new s new_place
  put_inserts new e_nodes e_stacks e_entries e_buckets =
      let counts : (k : ℕ) → count new.chains k ≡ count chains k = λ k. rw (e_stacks) refl in
      let same : (k p : ℕ) → entry_of new k p ≡ entry k p = λ k p. rw (e_nodes, e_entries) refl in
      record {
        is_in =
            entry-placed new s h (count old.chains h)
            (record {
              bucket = ap (λ n. s % n) e_buckets ∙ sym put.bucket;
              some = let some = put.some in omega (arith, e_buckets);
              low = omega (arith, counts h, put.moves.to_count);
              number = ap (λ (x : Entry). x.number) (same h (count old.chains h) ∙ new_entry);
            })
            ∙ ap (λ (x : Entry). Some x.place) (same h (count old.chains h) ∙ new_entry);
        others =
            λ r ne.
            let k = r % old.buckets in
            let k_lt : k < old.buckets = let some = put.some in omega arith in
            let k_new : r % new.buckets ≡ k = ap (λ n. r % n) e_buckets in
            elim (found_or_not (find old r)) [
              | inl none ↦
                  let lacks = found-lacks old.chains.nodes.items old.entries.items k r (count old.chains k) none in
                  nothing-placed new r
                  (λ p low e.
                  let P : ℕ → Type 0 = λ j. p < count new.chains j in
                  let Q : ℕ → Type 0 = λ j. (entry_of new j p).number ≡ r in
                  let low2 : p < count new.chains k = subst P k_new low in
                  let e2 : (entry_of new k p).number ≡ r = subst Q k_new e in
                  let e3 : (entry k p).number ≡ r = sym (ap (λ (x : Entry). x.number) (same k p)) ∙ e2 in
                  elim (former_or_new k p k_lt (omega (arith, counts k))) [
                    | inl former ↦ lacks p former (sym (number_of_former k p k_lt former) ∙ e3)
                    | inr new2 ↦ ne (sym e3 ∙ number_of_new k p new2.0 new2.1)
                  ])
                  ∙ sym (ap (option_map (λ c. (entry_at old.entries.items c).place)) none)
              | inr some ↦
                  let f = found-tells old.chains.nodes.items old.entries.items k r (count old.chains k) some.0 some.1 in
                  let is = same k f.position ∙ same_entry k f.position k_lt f.low in
                  entry-placed new r k f.position
                  (record {
                    bucket = k_new;
                    some = let some = put.some in omega (arith, e_buckets);
                    low = omega (arith, f.low, counts k, count_grows k k_lt);
                    number = ap (λ (x : Entry). x.number) is ∙ f.has;
                  })
                  ∙ ap (λ (x : Entry). Some x.place) is
                  ∙ ap (λ c. Some (entry_at old.entries.items c).place) f.is
                  ∙ sym (ap (option_map (λ c. (entry_at old.entries.items c).place)) some.1)
            ];
        less_room =
            let P : ℕ → Type 0 = λ n. count new.chains n + 1 ≡ count old.chains old.buckets in
            subst P (sym e_buckets) (omega (arith, counts old.buckets, put.moves.from_count));
      }
