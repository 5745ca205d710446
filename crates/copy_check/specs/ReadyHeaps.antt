-- Two heaps that tests may read and write, between which they may copy.
use Rattle.std.specs.Prelude.{◌≡◌, ℕ, pos, ◌<◌, List, [], Contains, Some}
use Rattle.jk_model.specs.declared.identifiers.DomainId.{DomainId}
use Rattle.jk_model.specs.declared.values.Value.{Value}
use Rattle.jk_model.specs.declared.values.Value.TheVariants as Held
use Rattle.jk_model_classes.specs.declared.records.ClassRecord.{ClassRecord}
use Rattle.jk_model_classes.specs.Worlds.{WorldRecord}
use Rattle.jk_model_domains.specs.Objects.{Object, Array, Plain}
use Rattle.jk_model_heaps.specs.Heaps.{shape_of}
use Rattle.object_store.specs.HeapContents.{HasShapeClasses, HeapContent, IsAdmitted, IsLaidOut, IsLive, IsName, item_of}
use Rattle.graph_copy.specs.AskedOfCopies.{AgreeOnNames, HasDomain, table_of}

-- ---- Values.

-- a unit of a text
abbrev pub IsUnit : Value → Type 0
IsUnit (Held.Int (pos u)) = u < 65536
IsUnit v = ⊥

-- the values that an object has, be they followed or not; a text has none
abbrev pub values_of : Object → List Value
values_of (Plain c values) = values
values_of (Array t items) = items
values_of object = []

abbrev pub HasValue : HeapContent → DomainId → ℕ → ℕ → Value → Type 0
HasValue c d a i v = (object : Object) → IsLive c d a object → item_of object i ≡ Some v

-- ---- Heaps.

-- as its class says, which is there, and each object that it names is in the heap
pub record IsGood (c : HeapContent) (classes : List ClassRecord) (d : DomainId) (object : Object) : Type 0 where
  pub laid_out : IsLaidOut classes object
  pub has_classes : HasShapeClasses classes (shape_of object)
  pub named : (b : ℕ) → Contains (values_of object) (Held.Obj b) → IsName c d b

pub record IsOpen (c : HeapContent) (classes : List ClassRecord) (d : DomainId) : Type 0 where
  pub admitted : IsAdmitted c d
  pub calm : (a : ℕ) → c.mark d a ≡ 0
  pub good : (a : ℕ) (object : Object) → IsLive c d a object → IsGood c classes d object

-- the heaps of both domains
pub record IsReady (c : HeapContent) (classes : List ClassRecord) : Type 0 where
  pub each : (d : DomainId) → d.0 < 2 → IsOpen c classes d

-- ---- The two domains.

pub record IsReadyWorld (w : WorldRecord) : Type 0 where
  pub has : (d : DomainId) → d.0 < 2 → HasDomain w d
  pub agree : (d e : DomainId) → d.0 < 2 → e.0 < 2 → AgreeOnNames (table_of w d) (table_of w e)
