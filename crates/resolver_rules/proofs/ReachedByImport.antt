-- An import reaches what the class reaches by references, save for classes that are named already.
use Rattle.std.proofs.Common.{◌≡◌, ◌⊎◌, inl, inr, Bool, true, false, List, [], ◌∷◌, refl, ap, arith, Option, Some, None, nat_eq, eqb-true}
use Rattle.std.specs.Prelude.{Contains}
use Rattle.std.specs.Option.{option_map_or}
use Rattle.std.proofs.lemmas.Bool.{eqb-false}
use Rattle.std.proofs.lemmas.List.Elements.{Contains-append_left}
use Rattle.list_lemmas.proofs.ItemsOfLists.{Contains-cases, Contains-none, Contains-there}
use Rattle.jk_model.specs.declared.identifiers.ClassId.{ClassId}
use Rattle.jk_model_classes.specs.declared.records.ClassRecord.{ClassRecord}
use Rattle.jk_model_classes.specs.Classes.{record_of}
use Rattle.jk_model_classes.specs.ResolverRules.{IsReached, itself, further}
use Rattle.jk_model_classes.specs.Worlds.{NamedClass, IsNamed}
use Rattle.class_lemmas.proofs.ReachedByReferences.{reached_further}
use Rattle.domain_resolver.specs.Imports as Import
use Rattle.domain_resolver.specs.Imports.{references_of, IsImport, Itself, Further}
use Rattle.resolver_rules.proofs.ClassesOfNames.{same_class}

-- ---- A class has a name, or has none.

head_named : (e : NamedClass) (t : List NamedClass) (c : ClassId) → e.class ≡ c → IsNamed (e ∷ t) c
head_named e t c same =
    let of : (a b : ClassId) → a ≡ b → (let z : NamedClass = record { name = e.name; class = a } in z) ≡ record { name = e.name; class = b } = λ a b q. cc in
    (e.name, (0, omega arith, of e.class c same))

pub named_or_free : (t : List NamedClass) (c : ClassId) → IsNamed t c ⊎ (IsNamed t c → ⊥)
named_or_free [] c = inr (λ n. Contains-none _ n.1)
named_or_free (e ∷ t) c = by_number (nat_eq e.class.0 c.0) refl (named_or_free t c)
  where
    by_number : (b : Bool) → nat_eq e.class.0 c.0 ≡ b → IsNamed t c ⊎ (IsNamed t c → ⊥) → IsNamed (e ∷ t) c ⊎ (IsNamed (e ∷ t) c → ⊥)
    by_number true same later = inl (head_named e t c (same_class e.class c (eqb-true e.class.0 c.0 same)))
    by_number false other (inl n) = inl (n.0, Contains-there _ e t n.1)
    by_number false other (inr free) = inr (λ n. elim (Contains-cases _ e t n.1) [
      | inl is ↦ eqb-false e.class.0 c.0 other (ap (λ (x : NamedClass). x.class.0) is)
      | inr later ↦ free (n.0, later)
    ])

-- ---- References.

refers_by : (o : Option ClassRecord) (d : ClassId) → Contains (option_map_or (λ (r : ClassRecord). r.references) o []) d
    → (r : ClassRecord) × (o ≡ Some r) × Contains r.references d
refers_by None d has = absurd (Contains-none d has)
refers_by (Some r) d has = (r, refl, has)

pub refers : (classes : List ClassRecord) (c d : ClassId) → Contains (references_of classes c) d
    → (r : ClassRecord) × (record_of classes c ≡ Some r) × Contains r.references d
refers classes c d has = refers_by (record_of classes c) d has

-- ---- What an import reaches.

pub is_reached : (classes : List ClassRecord) (old : List NamedClass) (from c : ClassId) → Import.IsReached classes old from c → IsReached classes from c
is_reached classes old from c (Itself free) = itself from
is_reached classes old from c (Further b d r has free) =
    let there = refers classes b d has in
    reached_further classes from b d there.0 (is_reached classes old from b r) there.1 there.2

-- the classes that are named refer to such alone
abbrev pub IsClosed : List ClassRecord → List NamedClass → Type 0
IsClosed classes t = (c d : ClassId) → IsNamed t c → Contains (references_of classes c) d → IsNamed t d

abbrev IsCovered : List ClassRecord → List NamedClass → ClassId → ClassId → Type 0
IsCovered classes old from c = IsNamed old c ⊎ Import.IsReached classes old from c

one_step : (classes : List ClassRecord) (old : List NamedClass) (from c d : ClassId) → IsClosed classes old → Contains (references_of classes c) d
    → IsCovered classes old from c → IsCovered classes old from d
one_step classes old from c d closed has (inl n) = inl (closed c d n has)
one_step classes old from c d closed has (inr reached) = elim (named_or_free old d) [
  | inl n ↦ inl n
  | inr free ↦ inr (Further c d reached has free)
]

covered : (classes : List ClassRecord) (old : List NamedClass) (from : ClassId) → IsClosed classes old → (x e : ClassId) → IsReached classes x e
    → IsCovered classes old from x → IsCovered classes old from e
covered classes old from closed x e (itself c) h = h
covered classes old from closed x e (further c d b r at has rest) h =
    let refers : Contains (references_of classes c) d = rw at has in
    covered classes old from closed d b rest (one_step classes old from c d closed refers h)

-- what the class reaches is named after the import
pub reached_is_named : (classes : List ClassRecord) (old new : List NamedClass) (from : ClassId) → IsClosed classes old → IsImport classes old from new
    → (c : ClassId) → IsReached classes from c → IsNamed new c
reached_is_named classes old new from closed h c r =
    let first : IsCovered classes old from from = elim (named_or_free old from) [ inl n ↦ inl n | inr free ↦ inr (Itself free) ] in
    elim (covered classes old from closed from c r first) [
      | inl n ↦ (n.0, rw h.imported.is (Contains-append_left old h.imported.more _ n.1))
      | inr reached ↦ h.all c reached
    ]
