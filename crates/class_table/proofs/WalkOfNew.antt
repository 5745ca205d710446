-- The walk of a class that is put after the others, from the walks of its interfaces and its parent.
use Rattle.std.proofs.Common.{◌≡◌, ℕ, zero, suc, ◌+◌, ◌<◌, true, false, nat_eq, List, [], ◌∷◌, ◌++◌, length, get_or, take, map, flat_map, Option, Some, None, slice_get, refl, sym, ap, ◌∙◌, inl, inr, append-nil, arith, length-append}
use Rattle.std.specs.List.{AllByRecursion, list_any}
use Rattle.std.specs.Option.{option_map_or}
use Rattle.std.proofs.lemmas.Bool.{eqb-true, or_cases}
use Rattle.std.proofs.lemmas.List.{take_more, length-map}
use Rattle.std.proofs.lemmas.List.Concat.{flat_map-append}
use Rattle.std.proofs.lemmas.List.Elements.{Contains-get_or}
use Rattle.indexmap.specs.IndexSet.{insert_key}
use Rattle.jk_model.specs.declared.identifiers.ClassId.{ClassId}
use Rattle.jk_model_classes.specs.declared.records.ClassRecord.{ClassRecord}
use Rattle.jk_model_classes.specs.Classes.{record_of, parents_of, listed_interfaces, IsBelow, StandsAbove, AreOrdered, with_interfaces, field_walk, firsts}
use Rattle.class_table.specs.declared.entry.Entry.{Entry}
use Rattle.class_table.specs.Entries.{IsTable, IsWalk, records}
use Rattle.class_table.specs.Walks.{numbers, classes_numbered, with_all}
use Rattle.class_table.proofs.EntriesAreRight.{length-records, parents-from, entry-at}
use Rattle.class_table.proofs.FirstsByInsertion.{IsThere, with_all-append, with_all-is, with_all-none, with_all-from, with_all-put, with_all-present, with_all-firsts, with_all-front, classes_numbered-numbers}
use Rattle.class_table.proofs.HeightsAreEnough.{with_interfaces-step, field_walk-step}
use Rattle.list_lemmas.proofs.ItemsOfLists.{each-of, each-from, each-weaker, flat_map-same, Contains-flat_map, Contains-flat_map_from}
use Rattle.class_lemmas.proofs.LowerClassesDecide.{with_interfaces-agree, field_walk-agree}
use Rattle.class_table.proofs.ClassesThatStay.{agree-push}
use Rattle.class_table.proofs.StandingAbove.{interfaces-trans, flat_map-one}
use Rattle.class_table.proofs.OneClassMore.{next_number, with_new, record-new, ordered-new}

-- ---- Steps of loops.

pub with_all-more : (keys : List ℕ) (walk : List ClassId) (i : ℕ) (d : ClassId) → i < length walk
    → with_all keys (take (i + 1) walk) ≡ insert_key nat_eq (with_all keys (take i walk)) (get_or walk i d).0
with_all-more keys walk i d within =
    ap (with_all keys) (take_more walk i d within) ∙ with_all-append keys (take i walk) (get_or walk i d ∷ [])

flat_map_take : {A : Type 0} (f : ClassId → List A) (xs : List ClassId) (i : ℕ) (d : ClassId) → i < length xs
    → flat_map f (take (i + 1) xs) ≡ flat_map f (take i xs) ++ f (get_or xs i d)
flat_map_take f xs i d within =
    ap (flat_map f) (take_more xs i d within) ∙ flat_map-append f (take i xs) (get_or xs i d ∷ [])
    ∙ ap (λ rest. flat_map f (take i xs) ++ rest) (append-nil (f (get_or xs i d)))

pub interfaces-more : (f : ClassId → List ClassId) (keys : List ℕ) (xs : List ClassId) (i : ℕ) (d : ClassId) → i < length xs
    → with_all keys (flat_map f (take (i + 1) xs)) ≡ with_all (with_all keys (flat_map f (take i xs))) (f (get_or xs i d))
interfaces-more f keys xs i d within =
    ap (with_all keys) (flat_map_take f xs i d within) ∙ with_all-append keys (flat_map f (take i xs)) (f (get_or xs i d))

not_alone : (n : ℕ) (i : ClassId) → i.0 < n → IsThere (n ∷ []) i → ⊥
not_alone n i below there = elim (or_cases (nat_eq i.0 n) false there) [
  | inl same ↦ let e = eqb-true i.0 n same in omega arith
  | inr never ↦ cc
]

module _ (classes : List ClassRecord) (ordered : AreOrdered classes) where
  -- Above an interface that is there, all are there.
  pub interfaces-there : (n : ℕ) (front : List ClassId) (i : ClassId) → i.0 < n
      → IsThere (with_all (n ∷ []) (flat_map (with_interfaces classes) front)) i
      → with_all (with_all (n ∷ []) (flat_map (with_interfaces classes) front)) (with_interfaces classes i)
      ≡ with_all (n ∷ []) (flat_map (with_interfaces classes) front)
  interfaces-there n front i below there =
      let walk = flat_map (with_interfaces classes) front in
      with_all-present (with_all (n ∷ []) walk) (with_interfaces classes i)
      (each-from (IsThere (with_all (n ∷ []) walk)) (with_interfaces classes i) (λ x above.
      elim (with_all-from (n ∷ []) walk i there) [
        | inl alone ↦ absurd (not_alone n i below alone)
        | inr among ↦
            let from = Contains-flat_map_from (with_interfaces classes) front i among in
            with_all-put (n ∷ []) walk x
            (Contains-flat_map (with_interfaces classes) front from.0 x from.1 (interfaces-trans classes ordered from.0 i x from.2 above))
      ]))

pub take-map : {X Y : Type 0} (f : X → Y) (n : ℕ) (xs : List X) → take n (map f xs) ≡ map f (take n xs)
take-map f zero xs = refl
take-map f (suc n) [] = refl
take-map f (suc n) (x ∷ xs) = ap (λ rest. f x ∷ rest) (take-map f n xs)

-- a set after a class's own interfaces and then the rest of its walk
is-walk : (classes : List ClassRecord) (c : ClassId) (own_walk rest : List ClassId) (own_keys keys : List ℕ) (own : ℕ) (list : List ClassId)
    → with_interfaces classes c ≡ own_walk → field_walk classes c ≡ own_walk ++ rest
    → own_keys ≡ with_all [] own_walk → keys ≡ with_all own_keys rest → own ≡ length own_keys → list ≡ classes_numbered keys
    → IsWalk classes c (record { classes = list; own = own })
is-walk classes c own_walk rest own_keys keys own list own_is whole_is own_keys_are keys_are count list_is =
    let class_of : ℕ → ClassId = λ n. record { 0 = n } in
    let all : keys ≡ numbers (firsts (own_walk ++ rest))
    = keys_are ∙ ap (λ start. with_all start rest) own_keys_are ∙ sym (with_all-append [] own_walk rest) ∙ with_all-none (own_walk ++ rest) in
    let front : take own keys ≡ own_keys
    = ap (λ n. take n keys) count ∙ ap (take (length own_keys)) keys_are ∙ with_all-front own_keys rest in
    record {
      whole = list_is ∙ ap classes_numbered all ∙ classes_numbered-numbers (firsts (own_walk ++ rest)) ∙ ap firsts (sym whole_is);
      own_within =
          omega (arith, count, ap length list_is, length-map keys class_of, ap length keys_are, ap length (with_all-is own_keys rest), length-append {A = ℕ});
      own =
          ap (take own) list_is ∙ take-map class_of own keys ∙ ap classes_numbered (front ∙ own_keys_are ∙ with_all-none own_walk)
          ∙ classes_numbered-numbers (firsts own_walk) ∙ ap firsts (sym own_is);
    }

module _ (entries : List Entry) (table : IsTable entries) (r : ClassRecord) (above : StandsAbove (length entries) r) where
  abbrev classes : List ClassRecord
  classes = with_new entries r

  abbrev new : ClassId
  new = next_number entries

  listed-new : listed_interfaces classes new ≡ r.interfaces
  listed-new = rw (record-new entries r) refl

  own-new : with_interfaces classes new ≡ new ∷ flat_map (with_interfaces (records entries)) r.interfaces
  own-new =
      with_interfaces-step classes (ordered-new entries table r above) new
      ∙ ap (λ walk. new ∷ walk)
      (ap (flat_map (with_interfaces classes)) listed-new
      ∙ flat_map-same (with_interfaces classes) (with_interfaces (records entries)) r.interfaces
      (each-weaker (IsBelow (length entries)) (λ i. with_interfaces classes i ≡ with_interfaces (records entries) i)
      (λ i below. sym (with_interfaces-agree (length (records entries)) (records entries) classes table.ordered (agree-push (records entries) r) i
      (rw (length-records entries) below))) r.interfaces above.1))

  parent_below : (p : ClassId) → r.parent ≡ Some p → p.0 < length entries
  parent_below p is = rw is at (above.0)

  rest-new : (p : Option ClassId) → r.parent ≡ p
      → flat_map (field_walk classes) (parents_of classes new) ≡ option_map_or (field_walk (records entries)) p []
  rest-new None is =
      let none : parents_of classes new ≡ [] = parents-from (record_of classes new) r None (record-new entries r) is in
      rw none refl
  rest-new (Some p) is =
      let only : parents_of classes new ≡ p ∷ [] = parents-from (record_of classes new) r (Some p) (record-new entries r) is in
      let below : p.0 < length entries = parent_below p is in
      flat_map-one (field_walk classes) (parents_of classes new) p only
      ∙ append-nil (field_walk classes p)
      ∙ sym (field_walk-agree (length (records entries)) (records entries) classes table.ordered (agree-push (records entries) r) p
      (rw (length-records entries) below))

  pub walk-new : (own_keys keys : List ℕ) (own : ℕ) (list : List ClassId)
      → own_keys ≡ with_all (length entries ∷ []) (flat_map (with_interfaces (records entries)) r.interfaces)
      → keys ≡ with_all own_keys (option_map_or (field_walk (records entries)) r.parent [])
      → own ≡ length own_keys → list ≡ classes_numbered keys → IsWalk classes new (record { classes = list; own = own })
  walk-new own_keys keys own list own_keys_are keys_are count list_is =
      let own_walk : List ClassId = new ∷ flat_map (with_interfaces (records entries)) r.interfaces in
      let rest : List ClassId = option_map_or (field_walk (records entries)) r.parent [] in
      let whole : field_walk classes new ≡ own_walk ++ rest
      = field_walk-step classes (ordered-new entries table r above) new
      ∙ ap (λ walk. walk ++ flat_map (field_walk classes) (parents_of classes new)) own-new
      ∙ ap (λ walk. own_walk ++ walk) (rest-new r.parent refl) in
      is-walk classes new own_walk rest own_keys keys own list own-new whole own_keys_are keys_are count list_is

-- ---- One interface more.

module _ (entries : List Entry) (table : IsTable entries) (start keys : List ℕ) (interfaces : List ClassId) (k : ℕ) (within : k < length interfaces) where
  module _ (alone : start ≡ length entries ∷ []) (below : AllByRecursion (IsBelow (length entries)) interfaces) where
    module _ (so_far : keys ≡ with_all start (flat_map (with_interfaces (records entries)) (take k interfaces))) where
      abbrev i : ClassId
      i = get_or interfaces k (record { 0 = 0 })

      more : with_all start (flat_map (with_interfaces (records entries)) (take (k + 1) interfaces)) ≡ with_all keys (with_interfaces (records entries) i)
      more =
          interfaces-more (with_interfaces (records entries)) start interfaces k (record { 0 = 0 }) within
          ∙ ap (λ before. with_all before (with_interfaces (records entries) i)) (sym so_far)

      pub step-there : list_any (nat_eq i.0) keys ≡ true
          → keys ≡ with_all start (flat_map (with_interfaces (records entries)) (take (k + 1) interfaces))
      step-there there =
          let front = take k interfaces in
          let low : i.0 < length entries = each-of (IsBelow (length entries)) interfaces i below (Contains-get_or interfaces k (record { 0 = 0 }) within) in
          let known : keys ≡ with_all (length entries ∷ []) (flat_map (with_interfaces (records entries)) front) = rw (← alone) so_far in
          let same : with_all keys (with_interfaces (records entries) i) ≡ keys
          = rw known (interfaces-there (records entries) table.ordered (length entries) front i low (rw (← known) there)) in
          sym (more ∙ same)

      pub step-put : (e : Entry) (new : List ℕ) → slice_get entries i.0 ≡ Some e → new ≡ with_all keys (take e.walk.own e.walk.classes)
          → new ≡ with_all start (flat_map (with_interfaces (records entries)) (take (k + 1) interfaces))
      step-put e keys_after at put =
          put
          ∙ ap (with_all keys) (entry-at entries i e at table).walk.own
          ∙ with_all-firsts keys (with_interfaces (records entries) i)
          ∙ sym more
