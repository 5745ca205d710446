-- What a copy asks of the heap that it reads, of the names of the two domains, and of the values that it is given. Of a capability it asks
-- nothing, and of the heap that it writes no more than that the store has the domain.
use Rattle.std.specs.Prelude.{◌≡◌, ℕ, ⊤, List, [], Some}
use Rattle.std.specs.Option.{option_map_or}
use Rattle.std.specs.List.{AllByRecursion}
use Rattle.jk_model.specs.declared.identifiers.ClassId.{ClassId}
use Rattle.jk_model.specs.declared.identifiers.DomainId.{DomainId}
use Rattle.jk_model.specs.declared.values.Value.{Value}
use Rattle.jk_model.specs.declared.values.Value.TheVariants as Held
use Rattle.jk_model_classes.specs.declared.records.ClassRecord.{ClassRecord}
use Rattle.jk_model_classes.specs.Worlds.{DomainRecord, IsNamed, NamedClass, WorldRecord, domain_of}
use Rattle.jk_model_domains.specs.Objects.{NamedObject, Object, object_named}
use Rattle.jk_model_graphs.specs.Copiable.{AreSharing}
use Rattle.jk_model_graphs.specs.Reach.{LeadsTo}
use Rattle.jk_model_heaps.specs.Heaps.{shape_of}
use Rattle.object_store.specs.HeapContents.{HasShapeClasses, HeapContent, IsAdmitted, IsLaidOut}

-- ---- The heap that is read.

abbrev pub IsNameIn : List NamedObject → ℕ → Type 0
IsNameIn heap a = (object : Object) × (object_named heap a ≡ Some object)

-- Each object has a value for each field of its class, by the field's kind; its class, or that of its elements, is there; and where a copy
-- follows it, it names objects of this heap alone. That no name is there twice, the store says.
pub record IsSoundHeap (classes : List ClassRecord) (heap : List NamedObject) : Type 0 where
  pub laid_out : (a : ℕ) (object : Object) → object_named heap a ≡ Some object → IsLaidOut classes object
  pub has_classes : (a : ℕ) (object : Object) → object_named heap a ≡ Some object → HasShapeClasses classes (shape_of object)
  pub closed : (a b : ℕ) → LeadsTo classes heap a b → IsNameIn heap b

-- ---- The values.

-- a name is one of the heap
abbrev pub MayBeGiven : List NamedObject → Value → Type 0
MayBeGiven heap (Held.Obj a) = IsNameIn heap a
MayBeGiven heap v = ⊤

-- ---- The names of the two domains.

abbrev pub HasDomain : WorldRecord → DomainId → Type 0
HasDomain w d = (r : DomainRecord) × (domain_of w d ≡ Some r)

-- what a domain's names mean; nothing of a domain that isn't there
abbrev pub table_of : WorldRecord → DomainId → List NamedClass
table_of w d = option_map_or (λ (r : DomainRecord). r.table) (domain_of w d) []

-- a class that both know, both know by one name: it is so where each table has each class under the class's own name, and no name twice
abbrev pub AgreeOnNames : List NamedClass → List NamedClass → Type 0
AgreeOnNames from to = (c : ClassId) → IsNamed from c → IsNamed to c → AreSharing from to c

-- ---- All that is asked, of a copy from one domain to another, or to the same.

pub record MayCopy (c : HeapContent) (w : WorldRecord) (from to : DomainId) (values : List Value) : Type 0 where
  pub admitted : IsAdmitted c from × IsAdmitted c to
  pub domains : HasDomain w from × HasDomain w to
  pub names : AgreeOnNames (table_of w from) (table_of w to)
  pub heap : IsSoundHeap w.classes (c.heap from)
  pub given : AllByRecursion (MayBeGiven (c.heap from)) values
  -- all marks of the source are 0
  pub calm : (a : ℕ) → c.mark from a ≡ 0
