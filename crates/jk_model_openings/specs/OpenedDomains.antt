-- A domain that was just opened: its heap has a PrintStream and eight standing throwables, and nothing else.
use Rattle.std.specs.Prelude.{◌≡◌, ℕ, ◌⊎◌, List, [], ◌∷◌, ◌++◌, length, Contains, Some}
use Rattle.jk_model.specs.declared.identifiers.DomainId.{DomainId}
use Rattle.jk_model.specs.declared.script.Quotas.{Quotas}
use Rattle.jk_model.specs.declared.steps.Standing.{Standing}
use Rattle.jk_model_classes.specs.declared.records.ClassRecord.{ClassRecord}
use Rattle.jk_model_classes.specs.declared.sharing.Offer.{Offer}
use Rattle.jk_model_classes.specs.Classes.{record_of}
use Rattle.jk_model_classes.specs.Worlds.{NamedClass, WorldRecord}
use Rattle.jk_model_domains.specs.declared.states.ClassState.TheVariants as State
use Rattle.jk_model_domains.specs.Objects.{NamedObject, PRINT_STREAM, object_named}
use Rattle.jk_model_domains.specs.OwnStates.{ClassPart, IsOwnState, OwnState, first_statics}
use Rattle.jk_model_frames.specs.Pools.{IsPlaceFor}
use Rattle.jk_model_heaps.specs.declared.shapes.Shape.TheVariants as Of
use Rattle.jk_model_heaps.specs.Heaps.{Makes, zero_object}
use Rattle.jk_model_heaps.specs.Throwables.{IsStanding, fresh_throwable, standing_class}
use Rattle.jk_model_heaps.specs.Workings.{Inside}
use Rattle.jk_model_sharing.specs.CapabilityCalls.{first_range}
use Rattle.jk_model_machine_state.specs.Machines.{DomainState, Machine, caps_of}
use Rattle.jk_model_openings.specs.PoolsOfMachines.{heap_pages_of, heap_pool, stack_pages_of, stack_pool}

-- ---- The inside.

-- no class of a folder is touched, static fields are as they begin, whole-number constants among them, and no text is a literal yet
pub record IsFirstOwn (classes : List ClassRecord) (table : List NamedClass) (own : OwnState) : Type 0 where
  pub state : IsOwnState classes table own
  pub untouched : (e : ClassPart) → Contains own.classes e → e.state ≡ State.Untouched
  pub statics : (e : ClassPart) (r : ClassRecord) → Contains own.classes e → record_of classes e.class ≡ Some r
      → e.statics ≡ first_statics r
  pub no_literals : own.literals ≡ []

-- the name is that of the PrintStream, or of a standing throwable
abbrev pub IsOpeningName : OwnState → ℕ → Type 0
IsOpeningName own a = (a ≡ own.out) ⊎ ((s : Standing) × IsStanding own s a)

pub record IsOpening (classes : List ClassRecord) (table : List NamedClass) (quota : ℕ) (inside : Inside) : Type 0 where
  pub own : IsFirstOwn classes table inside.own
  -- all objects of the heap are new, and fit the quota together
  pub makes : Makes classes quota [] inside.heap inside.heap
  pub out : object_named inside.heap inside.own.out ≡ Some (zero_object classes (Of.Plain PRINT_STREAM))
  pub standing : (s : Standing) → (a : ℕ) × IsStanding inside.own s a
      × (object_named inside.heap a ≡ Some (fresh_throwable classes (standing_class s)))
  pub nothing_else : (e : NamedObject) → Contains inside.heap e → IsOpeningName inside.own e.name

-- its heap and its stacks are put where there is room first, in machines that have pools
pub record IsPlacedIn (m : Machine) (quotas : Quotas) (inside : Inside) : Type 0 where
  pub heap : IsPlaceFor (heap_pool m) (heap_pages_of quotas) inside.heap_at
  pub stack : IsPlaceFor (stack_pool m) (stack_pages_of quotas) inside.stack_at

-- ---- The domain, which gets the next number, and numbers for its capabilities directly after all that were ever taken.

abbrev pub next_number : Machine → DomainId
next_number m = record { 0 = length m.domains }

-- what a domain has but for its inside
pub record Admission : Type 0 where
  pub name : List ℕ
  pub quotas : Quotas
  pub table : List NamedClass
  pub offers : List Offer

abbrev pub new_domain : Machine → Admission → Inside → DomainState
new_domain m a inside = record {
  number = next_number m;
  name = a.name;
  quotas = a.quotas;
  steps_left = a.quotas.steps;
  table = a.table;
  offers = a.offers;
  caps = first_range (caps_of m) (next_number m) a.quotas.caps;
  inside = Some inside;
}

-- the machine with the classes of this world, and with another domain
abbrev pub with_new_domain : Machine → WorldRecord → Admission → Inside → Machine
with_new_domain m w a inside = record m { classes = w.classes; domains = m.domains ++ new_domain m a inside ∷ [] }
