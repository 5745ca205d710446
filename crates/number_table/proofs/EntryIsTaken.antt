-- A table from which an entry is taken has the others as before: the last of the bucket is put in its place.
use Rattle.std.proofs.Common.{◌≡◌, ◌≢◌, ℕ, ◌+◌, ◌-◌, ◌<◌, ◌≤◌, ◌%◌, List, length, set, Some, option_map, refl, sym, ap, subst, arith, inl, inr, ◌∙◌}
use Rattle.std.proofs.lemmas.Bool.{cases_eq}
use Rattle.std.proofs.lemmas.List.{get_or-set_same, get_or-set_other, length-set}
use Rattle.number_table.specs.declared.chains.Chains.{Chains}
use Rattle.number_table.specs.declared.entry_table.Entry.{Entry}
use Rattle.number_table.specs.declared.entry_table.EntryTable.{EntryTable}
use Rattle.number_table.specs.ChainMoves.{count, place, stacks, MovesTop}
use Rattle.number_table.specs.Entries.{no_entry, entry_at, found_at, IsTable}
use Rattle.number_table.specs.TableMoves.{find, Removes}
use Rattle.number_table.proofs.PlacesApart.{place_lt, places_apart}
use Rattle.number_table.proofs.EntriesOfANumber.{entry_in, entry_of, entry-placed, nothing-placed, found_or_not, found-tells, found-lacks}

-- The last node of a bucket is freed, and its entry put in the place of the number's.
pub record IsTaken (old : EntryTable) (chains : Chains) (s h b top : ℕ) (last : Entry) : Type 0 where
  pub some : 0 < old.buckets
  pub bucket : h ≡ s % old.buckets
  pub found : find old s ≡ Some b
  pub is_last : last ≡ entry_at old.entries.items (place old.chains h (count old.chains h - 1))
  pub moves : MovesTop old.chains chains h old.buckets top

module _ (old : EntryTable) (chains : Chains) (s h b top : ℕ) (last : Entry) (taken : IsTaken old chains s h b top last) where
  abbrev entries : List Entry
  entries = set old.entries.items b last

  abbrev entry : ℕ → ℕ → Entry
  entry k p = entry_in chains.nodes.items entries k p

  h_lt : h < old.buckets
  h_lt = let some = taken.some in let e = taken.bucket in omega arith

  stacks_are : stacks old.chains ≡ old.buckets + 1
  stacks_are = old.ok.stacks_are taken.some

  -- where the number's entry was
  record IsHere (p : ℕ) : Type 0 where
    low : p < count old.chains h
    is : place old.chains h p ≡ b
    has : (entry_of old h p).number ≡ s

  here : (p : ℕ) × IsHere p
  here =
      let P : ℕ → Type 0 = λ j. found_at old.chains.nodes.items old.entries.items j s (count old.chains j) ≡ Some b in
      let f = found-tells old.chains.nodes.items old.entries.items h s (count old.chains h) b (subst P (sym taken.bucket) taken.found) in
      (f.position, record { low = f.low; is = f.is; has = f.has })

  b_lt : b < length old.entries.items
  b_lt =
      let x = here.1 in
      omega (arith, place_lt old.chains h (here.0) (omega (arith, h_lt, stacks_are)) x.low, x.is, old.ok.as_many)

  same_count : (k : ℕ) → k < old.buckets → k ≢ h → count chains k ≡ count old.chains k
  same_count k lt ne = taken.moves.other_counts k ne (omega arith)

  count_falls : (k : ℕ) → k < old.buckets → count chains k ≤ count old.chains k
  count_falls k lt =
      elim (cases_eq k h) [
        | inl e ↦
            let a : count chains k ≡ count chains h = ap (count chains) e in
            let c : count old.chains k ≡ count old.chains h = ap (count old.chains) e in
            omega (arith, taken.moves.from_count)
        | inr ne ↦ omega (arith, same_count k lt ne)
      ]

  same_place : (k p : ℕ) → k < old.buckets → p < count chains k → place chains k p ≡ place old.chains k p
  same_place k p lt low = taken.moves.others k p (omega (arith, stacks_are)) (omega (arith, count_falls k lt)) low

  -- the old position whose entry is now at this one
  abbrev IsFrom : ℕ → ℕ → ℕ → Type 0
  IsFrom k p q = (q < count old.chains k) × (entry k p ≡ entry_of old k q)

  -- each entry was at a position before: the place of the number's one has the last
  record Was (k p : ℕ) : Type 0 where
    at : ℕ
    low : at < count old.chains k
    is : entry k p ≡ entry_of old k at
    same : (k ≡ h → p ≢ here.0) → at ≡ p
    moved : k ≡ h → p ≡ here.0 → at + 1 ≡ count old.chains h

  was : (k p : ℕ) → k < old.buckets → p < count chains k → Was k p
  was k p lt low =
      let x = here.1 in
      elim (cases_eq (place chains k p) b) [
        | inl e ↦
            let a =
            places_apart old.chains k p h (here.0) (omega (arith, stacks_are)) (omega (arith, count_falls k lt)) (omega (arith, stacks_are, h_lt)) x.low
            (sym (same_place k p lt low) ∙ e ∙ sym x.is) in
            let c : count old.chains k ≡ count old.chains h = ap (count old.chains) a.0 in
            record {
              at = count old.chains h - 1;
              low = omega (arith, x.low);
              is =
                  ap (entry_at entries) e
                  ∙ get_or-set_same old.entries.items b last no_entry b_lt
                  ∙ taken.is_last
                  ∙ ap (λ j. entry_of old j (count old.chains h - 1)) (sym a.0);
              same = λ not. absurd (not a.0 a.1);
              moved = λ _ _. omega (arith, x.low);
            }
        | inr ne ↦
            record {
              at = p;
              low = omega (arith, count_falls k lt);
              is = get_or-set_other old.entries.items b (place chains k p) last no_entry ne ∙ ap (entry_at old.entries.items) (same_place k p lt low);
              same = λ _. refl;
              moved =
                  λ e at. absurd (ne (same_place k p lt low ∙ ap (λ j. place old.chains j p) e ∙ ap (place old.chains h) at ∙ x.is));
            }
      ]

  -- different positions were different
  was_apart : (k p q : ℕ) (lt : k < old.buckets) (p_low : p < count chains k) (q_low : q < count chains k)
      → (was k p lt p_low).at ≡ (was k q lt q_low).at → p ≡ q
  was_apart k p q lt p_low q_low e =
      let x = was k p lt p_low in
      let y = was k q lt q_low in
      elim (cases_eq k h) [
        | inr ne ↦ sym (x.same (λ e2. absurd (ne e2))) ∙ e ∙ y.same (λ e2. absurd (ne e2))
        | inl k_h ↦
            let c : count chains k ≡ count chains h = ap (count chains) k_h in
            elim (cases_eq p (here.0)) [
              | inl p_here ↦
                  elim (cases_eq q (here.0)) [
                    | inl q_here ↦ p_here ∙ sym q_here
                    | inr q_not ↦
                        absurd (omega (arith, x.moved k_h p_here, y.same (λ _. q_not), e, taken.moves.from_count, q_low))
                  ]
              | inr p_not ↦
                  elim (cases_eq q (here.0)) [
                    | inl q_here ↦
                        absurd (omega (arith, y.moved k_h q_here, x.same (λ _. p_not), e, taken.moves.from_count, p_low))
                    | inr q_not ↦ sym (x.same (λ _. p_not)) ∙ e ∙ y.same (λ _. q_not)
                  ]
            ]
      ]

  pub taken_keeps : IsTable chains.nodes.items chains.stacks.items entries old.buckets
  taken_keeps =
      record {
        few = old.ok.few;
        as_many = length-set old.entries.items b last ∙ old.ok.as_many ∙ sym taken.moves.same_nodes;
        stacks_are = λ some. taken.moves.same_stacks ∙ old.ok.stacks_are some;
        empty = λ none. taken.moves.same_stacks ∙ old.ok.empty none;
        in_bucket =
            λ k p lt low. let x = was k p lt low in ap (λ (y : Entry). y.number % old.buckets) x.is ∙ old.ok.in_bucket k x.at lt x.low;
        apart =
            λ k p q lt p_low q_low e.
            let x = was k p lt p_low in
            let y = was k q lt q_low in
            was_apart k p q lt p_low q_low
            (old.ok.apart k x.at y.at lt x.low y.low
            (sym (ap (λ (z : Entry). z.number) x.is) ∙ e ∙ ap (λ (z : Entry). z.number) y.is));
      }

  -- the number has no entry
  number_gone : (p : ℕ) → p < count chains h → (entry h p).number ≢ s
  number_gone p low e =
      let x = was h p h_lt low in
      let y = here.1 in
      let at : x.at ≡ here.0 = old.ok.apart h x.at (here.0) h_lt x.low y.low (sym (ap (λ (z : Entry). z.number) x.is) ∙ e ∙ sym y.has) in
      elim (cases_eq p (here.0)) [
        | inl p_here ↦ omega (arith, x.moved refl p_here, taken.moves.from_count, low)
        | inr p_not ↦ p_not (sym (x.same (λ _. p_not)) ∙ at)
      ]

  -- where an entry of another number is now
  record IsNow (k q : ℕ) : Type 0 where
    at : ℕ
    low : at < count chains k
    is : entry k at ≡ entry_of old k q

  now : (k q : ℕ) → k < old.buckets → q < count old.chains k → (entry_of old k q).number ≢ s → IsNow k q
  now k q lt low other =
      let y = here.1 in
      elim (cases_eq k h) [
        | inr ne ↦
            let low2 : q < count chains k = omega (arith, same_count k lt ne) in
            let x = was k q lt low2 in
            record { at = q; low = low2; is = x.is ∙ ap (entry_of old k) (x.same (λ e. absurd (ne e))) }
        | inl k_h ↦
            let c : count chains k ≡ count chains h = ap (count chains) k_h in
            let d : count old.chains k ≡ count old.chains h = ap (count old.chains) k_h in
            let not_here : q ≢ here.0 = λ e. other (ap (λ j. (entry_of old j q).number) k_h ∙ ap (λ r. (entry_of old h r).number) e ∙ y.has) in
            elim (cases_eq (q + 1) (count old.chains h)) [
              | inr not_last ↦
                  let low2 : q < count chains k = omega (arith, taken.moves.from_count) in
                  let x = was k q lt low2 in
                  record { at = q; low = low2; is = x.is ∙ ap (entry_of old k) (x.same (λ _. not_here)) }
              | inl is_last ↦
                  let low2 : here.0 < count chains k = omega (arith, taken.moves.from_count, y.low) in
                  let x = was k (here.0) lt low2 in
                  let m = x.moved k_h refl in
                  let at : x.at ≡ q = omega arith in
                  record { at = here.0; low = low2; is = x.is ∙ ap (entry_of old k) at }
            ]
      ]

  pub taken_removes : (new : EntryTable) → new.chains.nodes.items ≡ chains.nodes.items → new.chains.stacks.items ≡ chains.stacks.items
      → new.entries.items ≡ entries
      → new.buckets ≡ old.buckets → Removes old new s
  taken_removes new e_nodes e_stacks e_entries e_buckets =
      let counts : (k : ℕ) → count new.chains k ≡ count chains k = λ k. rw (e_stacks) refl in
      let same : (k p : ℕ) → entry_of new k p ≡ entry k p = λ k p. rw (e_nodes, e_entries) refl in
      record {
        is_out =
            nothing-placed new s
            (λ p low e.
            let k_new : s % new.buckets ≡ h = ap (λ n. s % n) e_buckets ∙ sym taken.bucket in
            let P : ℕ → Type 0 = λ j. p < count new.chains j in
            let Q : ℕ → Type 0 = λ j. (entry_of new j p).number ≡ s in
            let low2 : p < count new.chains h = subst P k_new low in
            let e2 : (entry_of new h p).number ≡ s = subst Q k_new e in
            number_gone p (omega (arith, counts h)) (sym (ap (λ (x : Entry). x.number) (same h p)) ∙ e2));
        others =
            λ r ne.
            let k = r % old.buckets in
            let k_lt : k < old.buckets = let some = taken.some in omega arith in
            let k_new : r % new.buckets ≡ k = ap (λ n. r % n) e_buckets in
            elim (found_or_not (find old r)) [
              | inl none ↦
                  let lacks = found-lacks old.chains.nodes.items old.entries.items k r (count old.chains k) none in
                  nothing-placed new r
                  (λ p low e.
                  let P : ℕ → Type 0 = λ j. p < count new.chains j in
                  let Q : ℕ → Type 0 = λ j. (entry_of new j p).number ≡ r in
                  let low2 : p < count new.chains k = subst P k_new low in
                  let e2 : (entry_of new k p).number ≡ r = subst Q k_new e in
                  let e3 : (entry k p).number ≡ r = sym (ap (λ (x : Entry). x.number) (same k p)) ∙ e2 in
                  let x = was k p k_lt (omega (arith, counts k)) in
                  lacks x.at x.low (sym (ap (λ (y : Entry). y.number) x.is) ∙ e3))
                  ∙ sym (ap (option_map (λ c. (entry_at old.entries.items c).place)) none)
              | inr some ↦
                  let f = found-tells old.chains.nodes.items old.entries.items k r (count old.chains k) some.0 some.1 in
                  let n = now k f.position k_lt f.low (λ e. ne (sym f.has ∙ e)) in
                  let is = same k n.at ∙ n.is in
                  entry-placed new r k n.at
                  (record {
                    bucket = k_new;
                    some = let some2 = taken.some in omega (arith, e_buckets);
                    low = omega (arith, n.low, counts k);
                    number = ap (λ (x : Entry). x.number) is ∙ f.has;
                  })
                  ∙ ap (λ (x : Entry). Some x.place) is
                  ∙ ap (λ c. Some (entry_at old.entries.items c).place) f.is
                  ∙ sym (ap (option_map (λ c. (entry_at old.entries.items c).place)) some.1)
            ];
        more_room =
            let P : ℕ → Type 0 = λ n. count new.chains n ≡ count old.chains old.buckets + 1 in
            subst P (sym e_buckets) (counts old.buckets ∙ taken.moves.to_count);
      }
