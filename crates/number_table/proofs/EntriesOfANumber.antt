-- A table finds the one entry of a number, and none where there is none.
use Rattle.std.proofs.Common.{◌≡◌, ◌≢◌, ℕ, zero, suc, ◌<◌, ◌≤◌, ◌%◌, ◌^◌, List, length, Option, Some, None, option_map, refl, sym, ap, subst, arith, inl, inr, ◌⊎◌, ◌∙◌}
use Rattle.std.proofs.lemmas.Bool.{cases_eq, cases_lt}
use Rattle.std.proofs.lemmas.Bool.Decides.{eqb_tells}
use Rattle.std.proofs.lemmas.List.{get_or_past}
use Rattle.number_table.specs.declared.chains.Node.{Node}
use Rattle.number_table.specs.declared.chains.Stack.{Stack}
use Rattle.number_table.specs.declared.entry_table.Entry.{Entry}
use Rattle.number_table.specs.declared.entry_table.EntryTable.{EntryTable}
use Rattle.number_table.specs.Chains.{no_stack, place_of}
use Rattle.number_table.specs.ChainMoves.{count, stacks}
use Rattle.number_table.specs.Entries.{entry_at, number_at, found_at}
use Rattle.number_table.specs.TableMoves.{find, place_in, room}
use Rattle.number_table.proofs.MovesKeepChains.{count_le}

-- the entry at a position of a bucket
abbrev pub entry_in : List Node → List Entry → ℕ → ℕ → Entry
entry_in nodes entries h p = entry_at entries (place_of nodes h p)

module _ (nodes : List Node) (entries : List Entry) (h s : ℕ) where
  abbrev found : ℕ → Option ℕ
  found n = found_at nodes entries h s n

  abbrev number : ℕ → ℕ
  number p = number_at nodes entries h p

  pub found-same : (other_nodes : List Node) (other_entries : List Entry) (n : ℕ)
      → ((p : ℕ) → p < n → (place_of other_nodes h p ≡ place_of nodes h p) × (number_at other_nodes other_entries h p ≡ number p))
      → found_at other_nodes other_entries h s n ≡ found n
  found-same other_nodes other_entries zero same = refl
  found-same other_nodes other_entries (suc n) same =
      let here = same n (omega arith) in
      let rest = found-same other_nodes other_entries n (λ p lt. same p (omega arith)) in
      rw (here.1, here.0, rest) refl

  -- what is found has the number
  pub record IsFound (n b : ℕ) : Type 0 where
    pub position : ℕ
    pub low : position < n
    pub is : place_of nodes h position ≡ b
    pub has : number position ≡ s

  pub found-tells : (n b : ℕ) → found n ≡ Some b → IsFound n b
  found-tells zero b e = cc
  found-tells (suc n) b e =
      elim (eqb_tells (number n) s) [
        | inl y ↦
            let f : found (suc n) ≡ Some (place_of nodes h n) = rw (y.0) refl in
            record { position = n; low = omega arith; is = cc; has = y.1 }
        | inr m ↦
            let f : found (suc n) ≡ found n = rw (m.0) refl in
            let r = found-tells n b (sym f ∙ e) in
            record { position = r.position; low = omega (arith, r.low); is = r.is; has = r.has }
      ]

  pub found-lacks : (n : ℕ) → found n ≡ None → (p : ℕ) → p < n → number p ≢ s
  found-lacks zero e p lt = absurd (omega arith)
  found-lacks (suc n) e p lt =
      elim (eqb_tells (number n) s) [
        | inl y ↦
            let f : found (suc n) ≡ Some (place_of nodes h n) = rw (y.0) refl in
            absurd (cc)
        | inr m ↦
            let f : found (suc n) ≡ found n = rw (m.0) refl in
            elim (cases_eq p n) [
              | inl at ↦ λ e2. m.1 (ap number (sym at) ∙ e2)
              | inr d ↦ found-lacks n (sym f ∙ e) p (omega arith)
            ]
      ]

  pub found-none : (n : ℕ) → ((p : ℕ) → p < n → number p ≢ s) → found n ≡ None
  found-none zero h2 = refl
  found-none (suc n) h2 =
      elim (eqb_tells (number n) s) [
        | inl y ↦ absurd (h2 n (omega arith) y.1)
        | inr m ↦
            let f : found (suc n) ≡ found n = rw (m.0) refl in
            f ∙ found-none n (λ p lt. h2 p (omega arith))
      ]

  -- the number is at this position, and no other below n has it
  pub found-at : (n p : ℕ) → p < n → number p ≡ s → ((q : ℕ) → q < n → number q ≡ s → q ≡ p) → found n ≡ Some (place_of nodes h p)
  found-at zero p lt e only = absurd (omega arith)
  found-at (suc n) p lt e only =
      elim (eqb_tells (number n) s) [
        | inl y ↦
            let f : found (suc n) ≡ Some (place_of nodes h n) = rw (y.0) refl in
            let at : n ≡ p = only n (omega arith) y.1 in
            f ∙ ap (λ q. Some (place_of nodes h q)) at
        | inr m ↦
            let f : found (suc n) ≡ found n = rw (m.0) refl in
            let ne : p ≢ n = λ at. m.1 (ap number (sym at) ∙ e) in
            f ∙ found-at n p (omega arith) e (λ q q_lt. only q (omega arith))
      ]

-- ---- Of a table.

-- the entry at a position of a bucket of a table
abbrev pub entry_of : EntryTable → ℕ → ℕ → Entry
entry_of t h p = entry_in t.chains.nodes.items t.entries.items h p

-- The entry of the number is at this position of the bucket.
pub record HasEntry (t : EntryTable) (s h p : ℕ) : Type 0 where
  pub bucket : s % t.buckets ≡ h
  pub some : 0 < t.buckets
  pub low : p < count t.chains h
  pub number : (entry_of t h p).number ≡ s

pub entry-placed : (t : EntryTable) (s h p : ℕ) → HasEntry t s h p → place_in t s ≡ Some (entry_of t h p).place
entry-placed t s h p e =
    let k = s % t.buckets in
    let k_lt : k < t.buckets = let some = e.some in omega arith in
    let P : ℕ → Type 0 = λ j. p < count t.chains j in
    let low : p < count t.chains k = subst P (sym e.bucket) e.low in
    let Q : ℕ → Type 0 = λ j. (entry_of t j p).number ≡ s in
    let number : (entry_of t k p).number ≡ s = subst Q (sym e.bucket) e.number in
    let f =
    found-at t.chains.nodes.items t.entries.items k s (count t.chains k) p low number
    (λ q q_lt same. t.ok.apart k q p k_lt q_lt low (same ∙ sym number)) in
    ap (option_map (λ b. (entry_at t.entries.items b).place)) f
    ∙ ap (λ j. Some (entry_of t j p).place) e.bucket

pub nothing-placed : (t : EntryTable) (s : ℕ) → ((p : ℕ) → p < count t.chains (s % t.buckets) → (entry_of t (s % t.buckets) p).number ≢ s)
    → place_in t s ≡ None
nothing-placed t s none =
    ap (option_map (λ b. (entry_at t.entries.items b).place))
    (found-none t.chains.nodes.items t.entries.items (s % t.buckets) s (count t.chains (s % t.buckets)) none)

unplaced_step : (entries : List Entry) (o : Option ℕ) → option_map (λ b. (entry_at entries b).place) o ≡ None → o ≡ None
unplaced_step entries None e = refl
unplaced_step entries (Some b) e = absurd (cc)

pub unplaced-lacks : (t : EntryTable) (s : ℕ) → place_in t s ≡ None
    → (p : ℕ) → p < count t.chains (s % t.buckets) → (entry_of t (s % t.buckets) p).number ≢ s
unplaced-lacks t s e =
    found-lacks t.chains.nodes.items t.entries.items (s % t.buckets) s (count t.chains (s % t.buckets))
    (unplaced_step t.entries.items (find t s) e)

-- an entry is found, or none is
pub found_or_not : (o : Option ℕ) → (o ≡ None) ⊎ ((b : ℕ) × (o ≡ Some b))
found_or_not None = inl refl
found_or_not (Some b) = inr (b, refl)

-- a table with an entry has buckets
pub some_buckets : (t : EntryTable) (k p : ℕ) → p < count t.chains k → 0 < t.buckets
some_buckets t k p low =
    elim (cases_eq t.buckets 0) [
      | inl none ↦
          let e : count t.chains k ≡ 0 = ap (λ (s : Stack). s.count) (get_or_past t.chains.stacks.items k no_stack (omega (arith, t.ok.empty none))) in
          absurd (omega arith)
      | inr ne ↦ omega arith
    ]

lt_le : (a b c : ℕ) → a ≤ b → b < c → a < c
lt_le a b c h k = omega arith

zero_lt : (a : ℕ) → a ≡ 0 → a < 2 ^ 63
zero_lt a e = omega arith

-- no table has room for more entries than there are nodes
pub room_small : (t : EntryTable) → room t < 2 ^ 63
room_small t =
    elim (cases_lt t.buckets (stacks t.chains)) [
      | inl lt ↦ lt_le (room t) _ (2 ^ 63) (count_le t.chains.nodes.items t.chains.stacks.items t.buckets t.chains.ok lt) t.chains.ok.few
      | inr past ↦
          let e : room t ≡ 0 = ap (λ (k : Stack). k.count) (get_or_past t.chains.stacks.items t.buckets no_stack past) in
          zero_lt (room t) e
    ]

pub found_some : (t : EntryTable) (s b : ℕ) → find t s ≡ Some b → 0 < t.buckets
found_some t s b e =
    let h = s % t.buckets in
    let f = found-tells t.chains.nodes.items t.entries.items h s (count t.chains h) b e in
    some_buckets t h f.position f.low

pub found_lt : (t : EntryTable) (s b : ℕ) → find t s ≡ Some b → b < length t.entries.items
found_lt t s b e =
    let h = s % t.buckets in
    let f = found-tells t.chains.nodes.items t.entries.items h s (count t.chains h) b e in
    let some = some_buckets t h f.position f.low in
    let lt : h < length t.chains.stacks.items = omega (arith, t.ok.stacks_are some) in
    let there = t.chains.ok.there h f.position lt f.low in
    omega (arith, f.is, t.ok.as_many)
