-- Whether values pass from one domain to another is decided: what they reach can be listed, whether an object of it may be copied is decided by the
-- two name tables, its costs have a sum, and a copy is there.
use Rattle.std.proofs.Common.{◌≡◌, ℕ, ◌⊎◌, Bool, List, [], ◌∷◌, find, sum_by, Contains, Option, Some, None, option_map, bytes_eq, refl, sym, ap, subst, ◌∙◌, inl, inr}
use Rattle.std.proofs.lemmas.Bool.{cases_lt}
use Rattle.std.proofs.lemmas.Option.{same_Some}
use Rattle.std.proofs.lemmas.Slice.Eq.{bytes_eq-Decides}
use Rattle.jk_model.specs.declared.identifiers.ClassId.{ClassId}
use Rattle.jk_model.specs.declared.values.Value.{Value}
use Rattle.jk_model_classes.specs.declared.records.BaseRef.{BaseRef}
use Rattle.jk_model_classes.specs.declared.records.BaseRef.TheVariants as Base
use Rattle.jk_model_classes.specs.declared.records.ClassRecord.{ClassRecord}
use Rattle.jk_model_classes.specs.Worlds.{NamedClass, class_named}
use Rattle.jk_model_domains.specs.Objects.{NamedObject, Object, Array, Plain, Task, Text, object_named}
use Rattle.jk_model_graphs.specs.Copiable.{AllCopiable, AreSharing, AreSharingBase, IsCopiable, is_marked_copiable}
use Rattle.jk_model_graphs.specs.Reach.{IsReach, words_named}
use Rattle.jk_model_heaps.specs.Heaps.{free_words}
use Rattle.jk_model_heaps.specs.SystemClasses.{SERIALIZABLE}
use Rattle.jk_model_crossings.specs.Passages.{IsTooLarge, IsUncopiable, Passage, Passes}
use Rattle.decided_lookups.specs.Decisions.{IsDecided}
use Rattle.decided_lookups.proofs.DecidedParts.{both_decided, class_decided, either_decided, option_decided, same_decided, true_decided}
use Rattle.decided_lookups.proofs.DecidedRecords.{implements_decided}
use Rattle.list_lemmas.proofs.FoundItems.{Finds, finds}
use Rattle.list_lemmas.proofs.ItemsOfLists.{Contains-at, Contains-cases, Contains-here, Contains-none, Contains-there}
use Rattle.heap_laws.specs.CopiedGraphs.{IsWhollyThere}
use Rattle.heap_laws.proofs.CopiesAreThere.{a_copy_is_there}
use Rattle.heap_laws.proofs.ReachIsListed.{reach_is_there}

-- ---- Classes that two domains share.

abbrev MeansBoth : List NamedClass → List NamedClass → ClassId → List ℕ → Type 0
MeansBoth from to c name = (class_named from name ≡ Some c) × (class_named to name ≡ Some c)

means_decided : (from to : List NamedClass) (c : ClassId) (name : List ℕ) → IsDecided (MeansBoth from to c name)
means_decided from to c name =
    both_decided (option_decided class_decided (class_named from name) (Some c)) (option_decided class_decided (class_named to name) (Some c))

-- one of these entries has a name that means the class in both
abbrev HasShared : List NamedClass → List NamedClass → ClassId → List NamedClass → Type 0
HasShared from to c entries = (e : NamedClass) × Contains entries e × MeansBoth from to c e.name

shared_among : (from to : List NamedClass) (c : ClassId) (entries : List NamedClass) → IsDecided (HasShared from to c entries)
shared_among from to c [] = inr (λ h. Contains-none h.0 h.1)
shared_among from to c (e ∷ entries) = elim (means_decided from to c e.name) [
  | inl both ↦ inl (e, Contains-here e entries, both)
  | inr fails ↦ elim (shared_among from to c entries) [
    | inl later ↦ inl (later.0, Contains-there later.0 e entries later.1, later.2)
    | inr never ↦ inr (λ h. elim (Contains-cases h.0 e entries h.1) [
      | inl same ↦ fails (subst (λ (x : NamedClass). MeansBoth from to c x.name) (sym same) h.2)
      | inr later ↦ never (h.0, later, h.2)
    ])
  ]
]

-- a name that means something is that of an entry
entry_of : (from to : List NamedClass) (c : ClassId) (name : List ℕ) → MeansBoth from to c name → HasShared from to c from
entry_of from to c name both = by (find of_name from) both.0 (finds of_name from)
  where
    of_name : NamedClass → Bool
    of_name n = bytes_eq n.name name

    by : (o : Option NamedClass) → option_map (λ (n : NamedClass). n.class) o ≡ Some c → Finds of_name from o → HasShared from to c from
    by None class h = absurd cc
    by (Some n) class h =
        let same : n.name ≡ name = (bytes_eq-Decides n.name name).0 h.2 in
        (n, Contains-at from h.0 n h.1, subst (λ (x : List ℕ). MeansBoth from to c x) (sym same) both)

sharing_decided : (from to : List NamedClass) (c : ClassId) → IsDecided (AreSharing from to c)
sharing_decided from to c =
    same_decided (λ h. (h.0.name, h.2.0, h.2.1)) (λ h. entry_of from to c h.0 (h.1, h.2)) (shared_among from to c from)

base_decided : (from to : List NamedClass) (base : BaseRef) → IsDecided (AreSharingBase from to base)
base_decided from to (Base.Class c) = sharing_decided from to c
base_decided from to Base.Byte = inl tt
base_decided from to Base.Char = inl tt
base_decided from to Base.Int = inl tt
base_decided from to Base.Long = inl tt
base_decided from to Base.Short = inl tt
base_decided from to Base.Bool = inl tt

-- ---- Objects that may be copied.

copiable_decided : (classes : List ClassRecord) (from to : List NamedClass) (object : Object) → IsDecided (IsCopiable classes from to object)
copiable_decided classes from to (Plain c values) =
    either_decided (true_decided (is_marked_copiable c)) (both_decided (sharing_decided from to c) (implements_decided classes c SERIALIZABLE))
copiable_decided classes from to (Array t items) = base_decided from to t.base
copiable_decided classes from to (Text units) = inl tt
copiable_decided classes from to (Task s) = inr (λ h. h)

-- of the names of a list, all objects may be copied, or one that is reached may not
abbrev AllOf : List ClassRecord → List NamedClass → List NamedClass → List NamedObject → List ℕ → Type 0
AllOf classes from to heap names = (a : ℕ) (object : Object) → Contains names a → object_named heap a ≡ Some object → IsCopiable classes from to object

abbrev OneOf : List ClassRecord → List NamedClass → List NamedClass → List NamedObject → List ℕ → Type 0
OneOf classes from to heap names =
    (a : ℕ) × (object : Object) × Contains names a × (object_named heap a ≡ Some object) × (IsCopiable classes from to object → ⊥)

here_at : (classes : List ClassRecord) (from to : List NamedClass) (heap : List NamedObject) (a : ℕ) (o : Option Object) → object_named heap a ≡ o
    → ((object : Object) → object_named heap a ≡ Some object → IsCopiable classes from to object)
    ⊎ ((object : Object) × (object_named heap a ≡ Some object) × (IsCopiable classes from to object → ⊥))
here_at classes from to heap a None is = inl (λ object found. let never : None ≡ Some object = sym is ∙ found in absurd cc)
here_at classes from to heap a (Some o) is = elim (copiable_decided classes from to o) [
  | inl may ↦ inl (λ object found. subst (λ (x : Object). IsCopiable classes from to x) (same_Some o object (sym is ∙ found)) may)
  | inr not ↦ inr (o, is, not)
]

all_or_one : (classes : List ClassRecord) (from to : List NamedClass) (heap : List NamedObject) (names : List ℕ)
    → AllOf classes from to heap names ⊎ OneOf classes from to heap names
all_or_one classes from to heap [] = inl (λ a object h found. absurd (Contains-none a h))
all_or_one classes from to heap (x ∷ names) = elim (here_at classes from to heap x (object_named heap x) refl) [
  | inr not ↦ inr (x, not.0, Contains-here x names, not.1, not.2)
  | inl here ↦ elim (all_or_one classes from to heap names) [
    | inr one ↦ inr (one.0, one.1, Contains-there one.0 x names one.2, one.3, one.4)
    | inl all ↦ inl (λ a object h found. elim (Contains-cases a x names h) [
      | inl same ↦ here object (ap (object_named heap) same ∙ found)
      | inr later ↦ all a object later found
    ])
  ]
]

-- ---- Passages.

abbrev HasPassed : Passage → Type 0
HasPassed p = (heap : List NamedObject) × (values : List Value) × Passes p heap values

-- all may be copied: it costs too much, or there is a copy
room_or_not : (p : Passage) → IsWhollyThere p.classes p.source → AllCopiable p.classes p.from p.to p.source → (names : List ℕ)
    → IsReach p.classes p.source names → IsTooLarge p ⊎ HasPassed p
room_or_not p whole all names reach =
    let sum : ℕ = sum_by (words_named p.classes p.source.heap) names in
    elim (cases_lt (free_words p.classes p.quota p.target) sum) [
      | inl low ↦ inl (all, (sum, (names, reach, refl), low))
      | inr enough ↦
          let made = a_copy_is_there p.classes p.source p.target whole in
          inr (made.0.heap, made.0.values, record { may = (all, (sum, (names, reach, refl), enough)); pairs = made.1; copy = made.2 })
    ]

pub passages_are_decided : (p : Passage) → IsWhollyThere p.classes p.source → IsUncopiable p ⊎ IsTooLarge p ⊎ HasPassed p
passages_are_decided p whole =
    let listed = reach_is_there p.classes p.source in
    elim (all_or_one p.classes p.from p.to p.source.heap listed.0) [
      | inr one ↦ inl (one.0, (listed.1.each one.0 one.2, (one.1, one.3, one.4)))
      | inl all ↦ inr (room_or_not p whole (λ a object reached found. all a object (listed.1.all a reached) found) listed.0 listed.1)
    ]
