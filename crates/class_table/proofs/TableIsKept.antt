-- The entries of a table stay right where a class is put after the others, where later classes are dropped, and where a class gets
-- other links.
use Rattle.std.proofs.Common.{◌≡◌, ℕ, zero, suc, ◌+◌, ◌<◌, ◌≤◌, ◌^◌, List, [], ◌∷◌, ◌++◌, length, take, set, map, flat_map, Some, None, slice_get, refl, sym, ap, ◌∙◌, inl, inr, arith}
use Rattle.std.specs.Borrow.{Bor}
use Rattle.std.specs.Slice.{IsItemAt}
use Rattle.std.proofs.lemmas.Bool.{lt-ltb, le-ltb}
use Rattle.std.proofs.lemmas.List.{get_or_past, length_push, map_push}
use Rattle.std.proofs.lemmas.Option.{slice_get_within, get_or_from_slice_get}
use Rattle.jk_model.specs.declared.identifiers.ClassId.{ClassId}
use Rattle.jk_model_classes.specs.declared.records.ClassRecord.{ClassRecord}
use Rattle.jk_model_classes.specs.declared.records.Link.{Link}
use Rattle.jk_model_classes.specs.Classes.{parents_of, GetsLinks, StandsAbove, AreOrdered, IsBelow, firsts}
use Rattle.jk_model_classes.specs.Layouts.{instance_fields, up_to_32_bits, words_of}
use Rattle.class_table.specs.declared.entry.Entry.{Entry}
use Rattle.class_table.specs.Entries.{IsEntry, IsTable, fields_above, records}
use Rattle.class_table.proofs.EntriesAreRight.{length-records, record-at}
use Rattle.list_lemmas.proofs.ItemsByPlace.{slice_get-push_cases, slice_get-from_take, slice_get-set_cases, length_take, length_take_whole}
use Rattle.list_lemmas.proofs.ItemsOfLists.{each-weaker, flat_map-same}
use Rattle.class_lemmas.proofs.ClassesBelow.{parents-below}
use Rattle.class_lemmas.proofs.LowerClassesDecide.{superclasses-agree, with_interfaces-agree, instance_fields-agree, field_walk-agree, AgreeBelow}
use Rattle.class_table.proofs.ClassesThatStay.{agree-push, agree-take, agree-links, ordered-push, ordered-take, ordered-links}
use Rattle.class_table.proofs.WalkOfNew.{take-map}

-- an entry is right for each list that agrees on the classes up to its own
entry-agree : (n : ℕ) (a b : List ClassRecord) → AreOrdered a → AgreeBelow n a b → (c : ClassId) (e : Entry) → c.0 < n → IsEntry a c e → IsEntry b c e
entry-agree n a b ordered agree c e below is =
    let above : fields_above a c ≡ fields_above b c
    = flat_map-same (instance_fields a) (instance_fields b) (parents_of a c)
    (each-weaker (IsBelow c.0) (λ p. instance_fields a p ≡ instance_fields b p)
    (λ p lower. instance_fields-agree n a b ordered agree p (omega arith)) (parents_of a c) (parents-below a ordered c))
    ∙ ap (flat_map (instance_fields b)) (agree c below).parents in
    record {
      few_fields = is.few_fields;
      few_methods = is.few_methods;
      walk = record {
        whole = is.walk.whole ∙ ap firsts (field_walk-agree n a b ordered agree c below);
        own_within = is.walk.own_within;
        own = is.walk.own ∙ ap firsts (with_interfaces-agree n a b ordered agree c below);
      };
      fields = is.fields;
      methods = is.methods;
      own = is.own;
      standing = record {
        before = is.standing.before ∙ ap length above;
        few = is.standing.few;
        words = is.standing.words ∙ ap (λ fields. up_to_32_bits (words_of fields)) above;
        jump = rw (← (superclasses-agree n a b ordered agree c below)) is.standing.jump;
      };
    }

-- ---- One class more.

pub table-push : (entries : List Entry) (e : Entry) → IsTable entries → StandsAbove (length entries) e.class → length entries + 1 < 2 ^ 32
    → IsEntry (records entries ++ e.class ∷ []) (record { 0 = length entries }) e → IsTable (entries ++ e ∷ [])
table-push entries e table above few is =
    let grown : records (entries ++ e ∷ []) ≡ records entries ++ e.class ∷ [] = map_push (λ (x : Entry). x.class) entries e in
    record {
      ordered = rw grown (ordered-push (records entries) e.class table.ordered (rw (length-records entries) above));
      few = omega (arith, length_push entries e);
      right = λ k x at. rw grown (elim (slice_get-push_cases entries e x k at) [
        | inl front ↦
            entry-agree (length (records entries)) (records entries) (records entries ++ e.class ∷ []) table.ordered (agree-push (records entries) e.class)
            (record { 0 = k }) x (rw (length-records entries) front.0) (table.right k x front.1)
        | inr last ↦ rw (last.0, ← (last.1)) is
      ]);
    }

-- ---- Fewer classes.

pub records-take : (entries : List Entry) (n : ℕ) → records (take n entries) ≡ take n (records entries)
records-take entries n = sym (take-map (λ (x : Entry). x.class) n entries)

pub table-take : (entries : List Entry) (n : ℕ) → IsTable entries → IsTable (take n entries)
table-take entries n table =
    record {
      ordered = rw (records-take entries n) (ordered-take (records entries) n table.ordered);
      few = omega (arith, length_take_whole entries n, table.few);
      right = λ k x at.
          rw (records-take entries n)
          (entry-agree n (records entries) (take n (records entries)) table.ordered (agree-take (records entries) n) (record { 0 = k }) x
          (omega (arith, slice_get_within (take n entries) k x at, length_take entries n)) (table.right k x (slice_get-from_take entries n k x at)));
    }

-- ---- Other links.

abbrev pub linked : Entry → List Link → Entry
linked e links = record e { class = record e.class { links = links } }

map-set : {X Y : Type 0} (f : X → Y) (xs : List X) (i : ℕ) (y : X) → map f (set xs i y) ≡ set (map f xs) i (f y)
map-set f [] i y = refl
map-set f (x ∷ xs) zero y = refl
map-set f (x ∷ xs) (suc i) y = ap (λ rest. f x ∷ rest) (map-set f xs i y)

pub gets_links : (entries : List Entry) (c : ClassId) (e : Entry) (links : List Link) → slice_get entries c.0 ≡ Some e
    → GetsLinks (records entries) c links (records (set entries c.0 (linked e links)))
gets_links entries c e links at = (e.class, record-at entries c e at, map-set (λ (x : Entry). x.class) entries c.0 (linked e links))

entry-linked : (classes : List ClassRecord) (c : ClassId) (e : Entry) (links : List Link) → IsEntry classes c e → IsEntry classes c (linked e links)
entry-linked classes c e links is =
    record {
      few_fields = is.few_fields;
      few_methods = is.few_methods;
      walk = is.walk;
      fields = is.fields;
      methods = is.methods;
      own = is.own;
      standing = is.standing;
    }

length-set : {X : Type 0} (xs : List X) (i : ℕ) (y : X) → length (set xs i y) ≡ length xs
length-set [] i y = refl
length-set (x ∷ xs) zero y = refl
length-set (x ∷ xs) (suc i) y = ap suc (length-set xs i y)

pub table-linked : (entries : List Entry) (c : ClassId) (e : Entry) (links : List Link) → slice_get entries c.0 ≡ Some e → IsTable entries
    → IsTable (set entries c.0 (linked e links))
table-linked entries c e links at table =
    let new = set entries c.0 (linked e links) in
    let gets = gets_links entries c e links at in
    let agree = agree-links (records entries) (records new) c links gets in
    let still : (k : ℕ) (x : Entry) → IsEntry (records entries) (record { 0 = k }) x → IsEntry (records new) (record { 0 = k }) x
    = λ k x is. entry-agree (k + 1) (records entries) (records new) table.ordered (λ d below. agree d) (record { 0 = k }) x (omega arith) is in
    record {
      ordered = ordered-links (records entries) (records new) c links gets table.ordered;
      few = omega (arith, length-set entries c.0 (linked e links), table.few);
      right = λ k x is. still k x (elim (slice_get-set_cases entries c.0 k (linked e links) x is) [
        | inl here ↦ rw (← (here.0), ← (here.1)) (entry-linked (records entries) c e links (table.right c.0 e at))
        | inr other ↦ table.right k x other
      ]);
    }

-- ---- An item by its place.

not_within : {X : Type 0} (xs : List X) (i : ℕ) → slice_get xs i ≡ None → length xs ≤ i
not_within [] i none = omega arith
not_within (x ∷ xs) zero none = absurd cc
not_within (x ∷ xs) (suc i) none = omega (arith, not_within xs i none)

pub item-none : {X : Type 0} (xs : List X) (i : ℕ) → slice_get xs i ≡ None → IsItemAt xs i None
item-none {X} xs i none =
    let past = not_within xs i none in (
      sym (le-ltb i (length xs) past),
      tt,
      (λ within. absurd (omega arith)),
      past,
      (λ order d. sym (get_or_past xs i d past)),
    )

pub item-some : {X : Type 0} (xs : List X) (i : ℕ) (r : Bor X) → slice_get xs i ≡ Some r.now → IsItemAt xs i (Some r)
item-some {X} xs i r at =
    let within = slice_get_within xs i r.now at in (
      sym (lt-ltb i (length xs) within),
      sym (get_or_from_slice_get xs i r.now r.now at),
      (λ order. refl),
      (within, λ d. sym (get_or_from_slice_get xs i r.now d at)),
      (λ order d. sym (get_or_from_slice_get xs i r.now d at)),
    )
