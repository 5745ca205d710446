-- A table that is its own list of what is left to do: once each class that was brought in is passed, all that is reached is named.
use Rattle.std.proofs.Common.{◌≡◌, ℕ, zero, suc, ◌+◌, ◌<◌, ◌≤◌, ◌⊎◌, inl, inr, Bool, true, false, List, [], ◌∷◌, ◌++◌, length, map, refl, sym, ◌∙◌, ap, arith, append_assoc, length-append, Option, Some, None, slice_get, get_or}
use Rattle.std.specs.Prelude.{Contains, nat_eq}
use Rattle.std.specs.List.{list_any}
use Rattle.std.specs.Option.{option_map}
use Rattle.std.proofs.lemmas.Bool.{cases_lt, eqb-true}
use Rattle.std.proofs.lemmas.List.{length-map, get_or-map}
use Rattle.std.proofs.lemmas.Map.Steps.{length-le_from_distinct_below}
use Rattle.std.proofs.lemmas.Map.Keys.{IsDistinct-from_apart}
use Rattle.std.proofs.lemmas.List.Elements.{Contains-append_cases}
use Rattle.std.proofs.lemmas.Option.{slice_get_within, slice_get-get_or, same_Some}
use Rattle.list_lemmas.proofs.ItemsByPlace.{slice_get-behind, slice_get-front, comes_from}
use Rattle.list_lemmas.proofs.ItemsOfLists.{Contains-at, stands_at}
use Rattle.jk_model.specs.declared.identifiers.ClassId.{ClassId}
use Rattle.jk_model_classes.specs.declared.records.ClassRecord.{ClassRecord}
use Rattle.jk_model_classes.specs.Worlds.{NamedClass, IsNamed}
use Rattle.domain_resolver.specs.Imports.{references_of, IsOwnName, IsNew, Brings, Clashes, IsReached, Itself, Further, Imported, IsImport, IsClash}
use Rattle.indexmap.proofs.CallerLemmas.{Contains-list_any}
use Rattle.domain_resolver.proofs.BroughtInTurn.{only_one, named_more}

-- what is known once the entries before a place are passed
pub record Importing (classes : List ClassRecord) (old : List NamedClass) (from : ClassId) (cur : List NamedClass) (next : ℕ) : Type 0 where
  pub imported : Imported classes old from cur
  pub root : IsNamed cur from
  pub low : length old ≤ next
  pub high : next ≤ length cur
  pub closed : (k : ℕ) (e : NamedClass) → length old ≤ k → k < next → slice_get cur k ≡ Some e → (d : ClassId)
      → Contains (references_of classes e.class) d → IsNamed cur d

pub first_imported : (classes : List ClassRecord) (old cur : List NamedClass) (from : ClassId) → Brings classes (from ∷ []) old cur
    → Imported classes old from cur
first_imported classes old cur from h = record {
  more = h.more;
  is = h.is;
  own =
      λ e has.
      let o = h.own e has in
      let same : e.class ≡ from = only_one from e.class o.0.listed in
      (rw same (Itself (λ n. o.0.free (rw same n))), o.1);
}

pub importing_begins : (classes : List ClassRecord) (old cur : List NamedClass) (from : ClassId) → Brings classes (from ∷ []) old cur → IsNamed cur from
    → Importing classes old from cur (length old)
importing_begins classes old cur from h root = record {
  imported = first_imported classes old cur from h;
  root = root;
  low = omega arith;
  high = rw h.is (omega (arith, length-append old h.more));
  closed = λ k e low high at d has. absurd (omega arith);
}

-- what stands past the first list stands in the second
in_back : {X : Type 0} (xs ys : List X) (k : ℕ) (x : X) → length xs ≤ k → slice_get (xs ++ ys) k ≡ Some x → Contains ys x
in_back [] ys k x low at = Contains-at ys k x at
in_back (y ∷ xs) ys zero x low at = absurd (omega (arith, low))
in_back (y ∷ xs) ys (suc k) x low at = in_back xs ys k x (omega (arith, low)) at

-- an entry that was brought in is that of a class that is reached
brought_at : (classes : List ClassRecord) (old cur : List NamedClass) (from : ClassId) (h : Imported classes old from cur) (k : ℕ) (e : NamedClass)
    → length old ≤ k → slice_get cur k ≡ Some e → IsReached classes old from e.class × IsOwnName classes e
brought_at classes old cur from h k e low at = h.own e (in_back old h.more k e low (rw h.is at at))

referred : (classes : List ClassRecord) (old cur : List NamedClass) (from : ClassId) → Imported classes old from cur → (e : NamedClass)
    → IsReached classes old from e.class → (d : ClassId) → IsNew (references_of classes e.class) cur d → IsReached classes old from d
referred classes old cur from h e r d new = Further e.class d r new.listed (λ n. new.free (named_more old cur h.more d h.is n))

-- the references of one more class are brought in
imported_further : (classes : List ClassRecord) (old cur new : List NamedClass) (from : ClassId) (e : NamedClass) → Imported classes old from cur
    → IsReached classes old from e.class → Brings classes (references_of classes e.class) cur new → Imported classes old from new
imported_further classes old cur new from e h r k = record {
  more = h.more ++ k.more;
  is = k.is ∙ ap (λ xs. xs ++ k.more) h.is ∙ append_assoc old h.more k.more;
  own = λ x has. by_place x (Contains-append_cases h.more k.more x has);
}
  where
    by_place : (x : NamedClass) → Contains h.more x ⊎ Contains k.more x → IsReached classes old from x.class × IsOwnName classes x
    by_place x (inl has) = h.own x has
    by_place x (inr has) = let o = k.own x has in (referred classes old cur from h e r x.class o.0, o.1)

-- the entry at the next place, of which the table tells the class
pub record EntryAt (cur : List NamedClass) (next : ℕ) (class : ClassId) : Type 0 where
  pub entry : NamedClass
  pub there : slice_get cur next ≡ Some entry
  pub classed : entry.class ≡ class

pub entry_at : (cur : List NamedClass) (next : ℕ) (class : ClassId) → Some class ≡ option_map (λ (e : NamedClass). e.class) (slice_get cur next)
    → EntryAt cur next class
entry_at cur next class told = by_place (slice_get cur next) refl told
  where
    by_place : (r : Option NamedClass) → slice_get cur next ≡ r → Some class ≡ option_map (λ (e : NamedClass). e.class) r → EntryAt cur next class
    by_place None at e = cc
    by_place (Some x) at e = record { entry = x; there = at; classed = sym (same_Some class x.class e) }

pub passed_at : (classes : List ClassRecord) (old cur : List NamedClass) (from : ClassId) (next : ℕ) (e : NamedClass)
    → Importing classes old from cur next → slice_get cur next ≡ Some e → IsReached classes old from e.class
passed_at classes old cur from next e h at = (brought_at classes old cur from h.imported next e h.low at).0

pub importing_goes_on : (classes : List ClassRecord) (old cur new : List NamedClass) (from : ClassId) (next : ℕ) (e : NamedClass)
    → Importing classes old from cur next → slice_get cur next ≡ Some e → Brings classes (references_of classes e.class) cur new
    → ((d : ClassId) → Contains (references_of classes e.class) d → IsNamed new d) → Importing classes old from new (next + 1)
importing_goes_on classes old cur new from next e h at k done = record {
  imported = imported_further classes old cur new from e h.imported (passed_at classes old cur from next e h at) k;
  root = named_more cur new k.more from k.is h.root;
  low = omega (arith, h.low);
  high = rw k.is (omega (arith, length-append cur k.more, slice_get_within cur next e at));
  closed = λ i x low high there d has. by_order i x low high there d has (cases_lt i next);
}
  where
    before : (i : ℕ) (x : NamedClass) → i < length cur → slice_get new i ≡ Some x → slice_get cur i ≡ Some x
    before i x within there = sym (slice_get-front cur k.more i within) ∙ rw k.is at there

    by_order : (i : ℕ) (x : NamedClass) → length old ≤ i → i < next + 1 → slice_get new i ≡ Some x → (d : ClassId)
        → Contains (references_of classes x.class) d → (i < next) ⊎ (next ≤ i) → IsNamed new d
    by_order i x low high there d has (inl l) =
        let within : i < length cur = omega (arith, l, h.high) in
        named_more cur new k.more d k.is (h.closed i x low l (before i x within there) d has)
    by_order i x low high there d has (inr l) =
        let here : i ≡ next = omega (arith, high, l) in
        let within : i < length cur = omega (arith, here, slice_get_within cur next e at) in
        let same : x ≡ e = same_Some x e (sym (before i x within there) ∙ ap (slice_get cur) here ∙ at) in
        done d (rw same at has)

-- a class that is reached had no name
reached_free : (classes : List ClassRecord) (old : List NamedClass) (from c : ClassId) → IsReached classes old from c → IsNamed old c → ⊥
reached_free classes old from c (Itself free) = free
reached_free classes old from c (Further b d r has free) = free

-- once all entries are passed, every class that is reached has a name
reached_named : (classes : List ClassRecord) (old cur : List NamedClass) (from : ClassId) (next : ℕ) → Importing classes old from cur next → length cur ≤ next
    → (c : ClassId) → IsReached classes old from c → IsNamed cur c
reached_named classes old cur from next h end c (Itself free) = h.root
reached_named classes old cur from next h end c (Further b d r has free) =
    let (name, there) = reached_named classes old cur from next h end b r in
    let s = stands_at cur (record { name = name; class = b }) there in
    by_order name s (cases_lt s.0 (length old))
  where
    by_order : (name : List ℕ) (s : (k : ℕ) × (k < length cur) × (slice_get cur k ≡ Some (record { name = name; class = b })))
        → (s.0 < length old) ⊎ (length old ≤ s.0) → IsNamed cur d
    by_order name s (inl l) =
        let there : slice_get (old ++ h.imported.more) s.0 ≡ Some (record { name = name; class = b }) = rw h.imported.is at s.2 in
        let before = sym (slice_get-front old h.imported.more s.0 l) ∙ there in
        absurd (reached_free classes old from b r (name, Contains-at old s.0 (record { name = name; class = b }) before))
    by_order name s (inr l) = h.closed s.0 (record { name = name; class = b }) l (omega (arith, s.1, end)) s.2 d has

pub importing_ends : (classes : List ClassRecord) (old cur : List NamedClass) (from : ClassId) (next : ℕ) → Importing classes old from cur next
    → length cur ≤ next
    → IsImport classes old from cur
importing_ends classes old cur from next h end = record { imported = h.imported; all = reached_named classes old cur from next h end }

pub first_clash : (classes : List ClassRecord) (old new : List NamedClass) (from : ClassId) → Clashes classes (from ∷ []) old new → IsClash classes old from new
first_clash classes old new from k =
    let same : k.class ≡ from = only_one from k.class k.fresh.listed in
    record { class = k.class; reached = rw same (Itself (λ n. k.fresh.free (rw same n))); taken = k.taken }

pub later_clash : (classes : List ClassRecord) (old cur new : List NamedClass) (from : ClassId) (next : ℕ) (e : NamedClass)
    → Importing classes old from cur next → slice_get cur next ≡ Some e → Clashes classes (references_of classes e.class) cur new → IsClash classes old from new
later_clash classes old cur new from next e h at k = record {
  class = k.class;
  reached = referred classes old cur from h.imported e (passed_at classes old cur from next e h at) k.class k.fresh;
  taken = k.taken;
}

pub later_imported : (classes : List ClassRecord) (old cur new : List NamedClass) (from : ClassId) (next : ℕ) (e : NamedClass)
    → Importing classes old from cur next → slice_get cur next ≡ Some e → Brings classes (references_of classes e.class) cur new → Imported classes old from new
later_imported classes old cur new from next e h at k =
    imported_further classes old cur new from e h.imported (passed_at classes old cur from next e h at) k

-- ---- There is an end: no more entries are brought in than there are classes.

pub room : (classes : List ClassRecord) (old cur : List NamedClass) (from : ClassId) → Imported classes old from cur
    → ((i j : ℕ) (a b : NamedClass) → slice_get cur i ≡ Some a → slice_get cur j ≡ Some b → a.name ≡ b.name → i ≡ j)
    → length cur ≤ length old + length classes
room classes old cur from h differ =
    let few : length ks ≤ length classes = length-le_from_distinct_below ks (length classes) (IsDistinct-from_apart nat_eq ks apart) below in
    rw h.is (omega (arith, length-append old h.more, length-map h.more (λ (e : NamedClass). e.class.0), few))
  where
    ks : List ℕ
    ks = map (λ (e : NamedClass). e.class.0) h.more

    entry : ℕ → NamedClass
    entry i = get_or h.more i (record { name = []; class = from })

    stands : (i : ℕ) → i < length h.more → slice_get h.more i ≡ Some (entry i)
    stands i low = slice_get-get_or h.more i (record { name = []; class = from }) low

    of_places : (i j : ℕ) → i < length h.more → j < length h.more → (entry i).class.0 ≡ (entry j).class.0 → i ≡ j
    of_places i j low_i low_j same =
        let a = (h.own (entry i) (Contains-at h.more i (entry i) (stands i low_i))).1 in
        let b = (h.own (entry j) (Contains-at h.more j (entry j) (stands j low_j))).1 in
        let record_same : a.of ≡ b.of = same_Some a.of b.of (sym a.there ∙ ap (slice_get classes) same ∙ b.there) in
        let names : (entry i).name ≡ (entry j).name = a.named ∙ ap (λ (r : ClassRecord). r.name) record_same ∙ sym b.named in
        let at_i : slice_get cur (length old + i) ≡ Some (entry i) = rw h.is (slice_get-behind old h.more i ∙ stands i low_i) in
        let at_j : slice_get cur (length old + j) ≡ Some (entry j) = rw h.is (slice_get-behind old h.more j ∙ stands j low_j) in
        let places : length old + i ≡ length old + j = differ (length old + i) (length old + j) (entry i) (entry j) at_i at_j names in
        omega (arith, places)

    apart : (i j : ℕ) (d : ℕ) → i < j → j < length ks → nat_eq (get_or ks i d) (get_or ks j d) ≡ false
    apart i j d low within = by_test (nat_eq (get_or ks i d) (get_or ks j d)) refl
      where
        few : j < length h.more
        few = omega (arith, within, length-map h.more (λ (e : NamedClass). e.class.0))

        number : (k : ℕ) → k < length h.more → get_or ks k d ≡ (entry k).class.0
        number k inside = get_or-map (λ (e : NamedClass). e.class.0) h.more k (record { name = []; class = from }) d inside

        by_test : (b : Bool) → nat_eq (get_or ks i d) (get_or ks j d) ≡ b → nat_eq (get_or ks i d) (get_or ks j d) ≡ false
        by_test false t = t
        by_test true t =
            let low_i : i < length h.more = omega (arith, low, few) in
            let same : (entry i).class.0 ≡ (entry j).class.0 = sym (number i low_i) ∙ eqb-true (get_or ks i d) (get_or ks j d) t ∙ number j few in
            absurd (omega (arith, low, of_places i j low_i few same))

    below : (q : ℕ) → list_any (nat_eq q) ks ≡ true → q < length classes
    below q has =
        let s = stands_at ks q (Contains-list_any nat_eq eqb-true ks q has) in
        let x = comes_from (λ (e : NamedClass). e.class.0) h.more s.0 q s.2 in
        let o = (h.own x.from (Contains-at h.more s.0 x.from x.there)).1 in
        rw (← x.gives) (slice_get_within classes x.from.class.0 o.of o.there)
