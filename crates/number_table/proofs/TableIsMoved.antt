-- What has all entries of a table, and no others, has the same places: so a table to which all entries of another are added.
use Rattle.std.proofs.Common.{◌≡◌, ◌≢◌, ℕ, ◌+◌, ◌<◌, ◌%◌, Option, Some, None, option_map, sym, ap, subst, arith, inl, inr, ◌∙◌}
use Rattle.std.proofs.lemmas.Bool.{cases_eq}
use Rattle.number_table.specs.declared.entry_table.EntryTable.{EntryTable}
use Rattle.number_table.specs.declared.entry_table.Place.{Place}
use Rattle.number_table.specs.Chains.{node_at}
use Rattle.number_table.specs.ChainMoves.{count, place, nodes, stacks, stack_of}
use Rattle.number_table.specs.Entries.{entry_at}
use Rattle.number_table.specs.TableMoves.{find, place_in, Inserts, IsEmptyTable}
use Rattle.number_table.proofs.PlacesApart.{place_lt, stack_of_place, IsAt, node_is_at}
use Rattle.number_table.proofs.EntriesOfANumber.{found_or_not, found-tells, found-lacks, some_buckets}

-- The entries of the first nodes that aren't free are there, and no others.
pub record AreMoved (from : EntryTable) (to : ℕ → Option Place) (n : ℕ) : Type 0 where
  pub each : (b : ℕ) → b < n → b < nodes from.chains → stack_of from.chains b ≢ from.buckets
      → to (entry_at from.entries.items b).number ≡ Some (entry_at from.entries.items b).place
  pub only : (s : ℕ) → ((b : ℕ) → b < n → b < nodes from.chains → stack_of from.chains b ≢ from.buckets → (entry_at from.entries.items b).number ≢ s)
      → to s ≡ None

pub none_moved : (from to : EntryTable) → IsEmptyTable to → AreMoved from (place_in to) 0
none_moved from to empty = record { each = λ b lt. absurd (omega arith); only = λ s _. empty s }

module _ (t : EntryTable) where
  -- there is a bucket, if there is a node
  some_bucket : (b : ℕ) → b < nodes t.chains → 0 < t.buckets
  some_bucket b lt =
      let w = t.chains.ok.within b lt in
      elim (cases_eq t.buckets 0) [
        | inl none ↦ absurd (omega (arith, w.0, t.ok.empty none))
        | inr some ↦ omega arith
      ]

  -- the bucket of a node that isn't free
  record InBucket (b : ℕ) : Type 0 where
    bucket : stack_of t.chains b < t.buckets
    at : IsAt t.chains b (node_at t.chains.nodes.items b).position
    hash : (entry_at t.entries.items b).number % t.buckets ≡ stack_of t.chains b

  in_bucket : (b : ℕ) → b < nodes t.chains → stack_of t.chains b ≢ t.buckets → InBucket b
  in_bucket b lt ne =
      let at = node_is_at t.chains b lt in
      let k_lt : stack_of t.chains b < t.buckets = omega (arith, at.stack, t.ok.stacks_are (some_bucket b lt)) in
      record {
        bucket = k_lt;
        at = at;
        hash =
            ap (λ c. (entry_at t.entries.items c).number % t.buckets) (sym at.is)
            ∙ t.ok.in_bucket (stack_of t.chains b) (node_at t.chains.nodes.items b).position k_lt at.low;
      }

  pub numbers_apart : (b c : ℕ) → b < nodes t.chains → c < nodes t.chains → stack_of t.chains b ≢ t.buckets → stack_of t.chains c ≢ t.buckets
      → (entry_at t.entries.items b).number ≡ (entry_at t.entries.items c).number → b ≡ c
  numbers_apart b c b_lt c_lt b_ne c_ne e =
      let x = in_bucket b b_lt b_ne in
      let y = in_bucket c c_lt c_ne in
      let k = stack_of t.chains b in
      let same : stack_of t.chains c ≡ k = sym y.hash ∙ ap (λ n. n % t.buckets) (sym e) ∙ x.hash in
      let p = (node_at t.chains.nodes.items b).position in
      let q = (node_at t.chains.nodes.items c).position in
      let P : ℕ → Type 0 = λ j. q < count t.chains j in
      let Q : ℕ → Type 0 = λ j. place t.chains j q ≡ c in
      let q_low : q < count t.chains k = subst P same y.at.low in
      let q_is : place t.chains k q ≡ c = subst Q same y.at.is in
      let at : p ≡ q =
      t.ok.apart k p q x.bucket x.at.low q_low
      (ap (λ d. (entry_at t.entries.items d).number) x.at.is ∙ e ∙ ap (λ d. (entry_at t.entries.items d).number) (sym q_is)) in
      sym x.at.is ∙ ap (place t.chains k) at ∙ q_is

  pub not_yet : (to : ℕ → Option Place) (b : ℕ) → b < nodes t.chains → stack_of t.chains b ≢ t.buckets → AreMoved t to b
      → to (entry_at t.entries.items b).number ≡ None
  not_yet to b lt ne moved =
      moved.only (entry_at t.entries.items b).number
      (λ c c_low c_lt c_ne e. let same = numbers_apart c b c_lt lt c_ne ne e in omega arith)

  pub one_moved : (to new : EntryTable) (b : ℕ) → b < nodes t.chains → stack_of t.chains b ≢ t.buckets → AreMoved t (place_in to) b
      → Inserts to new (entry_at t.entries.items b).number (entry_at t.entries.items b).place → AreMoved t (place_in new) (b + 1)
  one_moved to new b lt ne moved ins =
      record {
        each =
            λ c c_low c_lt c_ne. elim (cases_eq c b) [
              | inl e ↦
                  let P : ℕ → Type 0 = λ d. place_in new (entry_at t.entries.items d).number ≡ Some (entry_at t.entries.items d).place in
                  subst P (sym e) ins.is_in
              | inr d ↦
                  ins.others (entry_at t.entries.items c).number (λ e. d (numbers_apart c b c_lt lt c_ne ne e))
                  ∙ moved.each c (omega arith) c_lt c_ne
            ];
        only =
            λ s lacks.
            ins.others s (λ e. lacks b (omega arith) lt ne (sym e))
            ∙ moved.only s (λ c c_low. lacks c (omega arith));
      }

  pub free_passed : (to : ℕ → Option Place) (b : ℕ) → stack_of t.chains b ≡ t.buckets → AreMoved t to b → AreMoved t to (b + 1)
  free_passed to b is_free moved =
      record {
        each =
            λ c c_low c_lt c_ne. elim (cases_eq c b) [
              | inl e ↦ absurd (c_ne (ap (stack_of t.chains) e ∙ is_free))
              | inr d ↦ moved.each c (omega arith) c_lt c_ne
            ];
        only = λ s lacks. moved.only s (λ c c_low. lacks c (omega arith));
      }

  pub all_moved : (to : ℕ → Option Place) → AreMoved t to (nodes t.chains) → (s : ℕ) → to s ≡ place_in t s
  all_moved to moved s =
      elim (found_or_not (find t s)) [
        | inl none ↦
            let lacks = found-lacks t.chains.nodes.items t.entries.items (s % t.buckets) s (count t.chains (s % t.buckets)) none in
            moved.only s
            (λ c c_low c_lt c_ne e.
            let y = in_bucket c c_lt c_ne in
            let k : stack_of t.chains c ≡ s % t.buckets = sym y.hash ∙ ap (λ n. n % t.buckets) e in
            let q = (node_at t.chains.nodes.items c).position in
            let P : ℕ → Type 0 = λ j. q < count t.chains j in
            let Q : ℕ → Type 0 = λ j. place t.chains j q ≡ c in
            lacks q (subst P k y.at.low) (ap (λ d. (entry_at t.entries.items d).number) (subst Q k y.at.is) ∙ e))
            ∙ sym (ap (option_map (λ c. (entry_at t.entries.items c).place)) none)
        | inr some ↦
            let h = s % t.buckets in
            let f = found-tells t.chains.nodes.items t.entries.items h s (count t.chains h) some.0 some.1 in
            let some_stack : 0 < t.buckets = some_buckets t h f.position f.low in
            let h_lt : h < t.buckets = omega arith in
            let in_stacks : h < stacks t.chains = omega (arith, t.ok.stacks_are some_stack) in
            let lt = place_lt t.chains h f.position in_stacks f.low in
            let at : place t.chains h f.position ≡ some.0 = f.is in
            let stack = stack_of_place t.chains h f.position in_stacks f.low in
            ap to (sym f.has)
            ∙ moved.each (place t.chains h f.position) lt lt (λ e. let u : h ≡ t.buckets = sym stack ∙ e in omega arith)
            ∙ ap (λ c. Some (entry_at t.entries.items c).place) f.is
            ∙ sym (ap (option_map (λ c. (entry_at t.entries.items c).place)) some.1)
      ]
