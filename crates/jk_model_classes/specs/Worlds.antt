-- What the names of a domain mean, what it offers to others, and the world in which a folder is loaded: all classes,
-- and all domains ever added, with their names and offers.
use Rattle.std.specs.Prelude.{◌≡◌, ◌≢◌, ℕ, ◌+◌, ◌-◌, ◌^◌, ◌<◌, ◌≤◌, ◌⊎◌, Bool, true, false, List, [], ◌∷◌, ◌++◌, length, map, find, Contains, bytes_eq, Option, Some, None, option_map, slice_get, slice_set}
use Rattle.std.specs.List.{AllByRecursion}
use Rattle.jk_model.specs.declared.identifiers.ClassId.{ClassId}
use Rattle.jk_model.specs.declared.identifiers.DomainId.{DomainId}
use Rattle.jk_model_classes.specs.declared.records.ClassRecord.{ClassRecord}
use Rattle.jk_model_classes.specs.declared.sharing.Offer.{Offer}
use Rattle.jk_model_classes.specs.Classes.{HasClass, AreOrdered, record_of}

-- ---- Name tables.

-- what a name means
pub record NamedClass : Type 0 where
  pub name : List ℕ
  pub class : ClassId

-- what the names of a domain mean, in the order in which they were given a meaning; no name is there twice
abbrev pub class_named : List NamedClass → List ℕ → Option ClassId
class_named table name = option_map (λ e. e.class) (find (λ (e : NamedClass). bytes_eq e.name name) table)

-- some name means this class
abbrev pub IsNamed : List NamedClass → ClassId → Type 0
IsNamed table c = (name : List ℕ) × Contains table (record { name = name; class = c })

-- A name is given a meaning: that is told where it has none yet, or this one. A name that means another class keeps
-- its meaning.
abbrev pub Gives : List NamedClass → List ℕ → ClassId → Bool → List NamedClass → Type 0
Gives old name c given new =
    ((class_named old name ≡ None) × (given ≡ true) × (new ≡ old ++ record { name = name; class = c } ∷ []))
    ⊎ ((class_named old name ≡ Some c) × (given ≡ true) × (new ≡ old))
    ⊎ ((other : ClassId) × (class_named old name ≡ Some other) × (other ≢ c) × (given ≡ false) × (new ≡ old))

-- ---- Offers.

abbrev pub offer_to_all : ClassId → Offer
offer_to_all c = record { class = c; to = None }

abbrev pub offer_to : ClassId → List ℕ → Offer
offer_to c name = record { class = c; to = Some name }

-- the class is offered to the domain of this name
abbrev pub IsOfferedTo : List Offer → ClassId → List ℕ → Type 0
IsOfferedTo offers c name = Contains offers (offer_to_all c) ⊎ Contains offers (offer_to c name)

-- the class is offered to every domain to which this offer goes
abbrev pub IsOfferedAs : List Offer → ClassId → Option (List ℕ) → Type 0
IsOfferedAs offers c None = Contains offers (offer_to_all c)
IsOfferedAs offers c (Some name) = IsOfferedTo offers c name

-- ---- Worlds.

pub record DomainRecord : Type 0 where
  pub id : DomainId
  pub name : List ℕ
  pub live : Bool
  pub table : List NamedClass
  pub offers : List Offer

pub record WorldRecord : Type 0 where
  pub classes : List ClassRecord
  pub domains : List DomainRecord

abbrev pub domain_of : WorldRecord → DomainId → Option DomainRecord
domain_of w d = slice_get w.domains d.0

-- the live domain of this name
abbrev pub IsLiveNamed : WorldRecord → List ℕ → DomainId → Type 0
IsLiveNamed w name d = (r : DomainRecord) × (domain_of w d ≡ Some r) × (r.live ≡ true) × (r.name ≡ name)

-- the classes to which a record refers are there
pub record NamesClasses (classes : List ClassRecord) (r : ClassRecord) : Type 0 where
  pub references : AllByRecursion (HasClass classes) r.references

-- What holds of each world in which the domain with the number `home` is loaded.
pub record IsWorld (w : WorldRecord) (home : ℕ) : Type 0 where
  -- a domain's number is its place
  pub numbered : (i : ℕ) (d : DomainRecord) → slice_get w.domains i ≡ Some d → d.id.0 ≡ i
  pub names_differ : (name : List ℕ) (a b : DomainId) → IsLiveNamed w name a → IsLiveNamed w name b → a ≡ b
  -- each class of a name table or an offer is there, and each to which a record refers
  pub named : (i : ℕ) (d : DomainRecord) → slice_get w.domains i ≡ Some d → (c : ClassId) → IsNamed d.table c → HasClass w.classes c
  pub offered : (i : ℕ) (d : DomainRecord) → slice_get w.domains i ≡ Some d → (o : Offer) → Contains d.offers o → HasClass w.classes o.class
  pub records : (c : ClassId) (r : ClassRecord) → record_of w.classes c ≡ Some r → NamesClasses w.classes r
  pub ordered : AreOrdered w.classes
  -- each home is a domain of the world, or the one that is loaded
  pub homes : (c : ClassId) (r : ClassRecord) (d : DomainId) → record_of w.classes c ≡ Some r → r.home ≡ Some d
      → (d.0 < length w.domains) ⊎ (d.0 ≡ home)
  pub few_domains : length w.domains < 2 ^ 32 - 1
