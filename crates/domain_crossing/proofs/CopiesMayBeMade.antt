-- Where a crossing may be made, what a copy asks is so of any two live domains: the heap that is read is sound, and what both name, both name by one
-- name.
use Rattle.std.proofs.Common.{◌≡◌, ℕ, zero, suc, pos, Bool, true, false, List, [], ◌∷◌, find, slice_get, Contains, Option, Some, None, option_map, bytes_eq, IsSome, refl, sym, ap, subst, subst₂, ◌∙◌}
use Rattle.std.specs.List.{AllByRecursion}
use Rattle.std.proofs.lemmas.Option.{same_Some, slice_get_within}
use Rattle.std.proofs.lemmas.Slice.Eq.{bytes_eq-Decides}
use Rattle.jk_model.specs.declared.identifiers.ClassId.{ClassId}
use Rattle.jk_model.specs.declared.identifiers.DomainId.{DomainId}
use Rattle.jk_model.specs.declared.values.Value.{Value}
use Rattle.jk_model.specs.declared.values.Value.TheVariants as Held
use Rattle.jk_model_classes.specs.declared.records.BaseRef.{BaseRef}
use Rattle.jk_model_classes.specs.declared.records.BaseRef.TheVariants as Base
use Rattle.jk_model_classes.specs.declared.records.ClassRecord.{ClassRecord}
use Rattle.jk_model_classes.specs.declared.records.FieldRecord.{FieldRecord}
use Rattle.jk_model_classes.specs.Classes.{HasClass}
use Rattle.jk_model_classes.specs.Worlds.{IsNamed, NamedClass, class_named}
use Rattle.jk_model_domains.specs.Objects.{NamedObject, Object, Array, Plain, Task, Text}
use Rattle.jk_model_domains.specs.OwnStates.{zero_of}
use Rattle.jk_model_domains.specs.ValueTypes.{HoldsDeclared}
use Rattle.jk_model_heaps.specs.Capabilities.{CapRange}
use Rattle.jk_model_heaps.specs.Heaps.{named, shape_of}
use Rattle.jk_model_heaps.specs.Workings.{Inside}
use Rattle.jk_model_heaps.proofs.NamesInHeaps.{stands}
use Rattle.jk_model_machine_state.specs.Machines.{DomainState, caps_of}
use Rattle.jk_model_machine_state.specs.Places.{LiveDomain}
use Rattle.jk_model_sealing.specs.SealedInsides.{IsKnownValue, IsNamedBase, IsSealedInside, IsSealedObject, Surroundings}
use Rattle.object_store.specs.HeapContents.{AreOfKind, HasBase, HasShapeClasses}
use Rattle.sound_folders.specs.NamesAndTypes.{HasOwnNames}
use Rattle.list_lemmas.proofs.FoundItems.{Finds, finds}
use Rattle.list_lemmas.proofs.ItemsOfLists.{Contains-at, place_of}
use Rattle.heap_laws.proofs.MappedLists.{mapped}
use Rattle.heap_laws.proofs.SealedGraphs.{led_is_known}
use Rattle.heap_laws.proofs.LaidOut.{sealed_laid_out}
use Rattle.graph_copy.specs.AskedOfCopies.{AgreeOnNames, HasDomain, IsSoundHeap, MayBeGiven, MayCopy}
use Rattle.machine_laws.specs.SoundMachines.{tables_of}
use Rattle.machine_parts.specs.MachineParts.{MachineParts, machine_of}
use Rattle.machine_parts.proofs.DomainsOfParts.{live_domain_is_of_parts}
use Rattle.domain_crossing.specs.AskedOfCrossings.{MayCross}
use Rattle.domain_crossing.proofs.PassagesOfParts.{heap_is, table_is}

-- ---- What fits a type is of the kind of its zero.

reference_kind : (classes : List ClassRecord) (heap : List NamedObject) (dims : ℕ) (base : BaseRef) (v : Value)
    → HoldsDeclared classes heap v (record { dims = suc dims; base = base }) → AreOfKind Held.Null v
reference_kind classes heap dims base (Held.Int n) h = absurd h
reference_kind classes heap dims base (Held.Long n) h = absurd h
reference_kind classes heap dims base Held.Null h = (tt, tt)
reference_kind classes heap dims base (Held.Obj a) h = (tt, tt)
reference_kind classes heap dims base (Held.Cap k) h = (tt, tt)
reference_kind classes heap dims base Held.Unset h = absurd h

class_kind : (classes : List ClassRecord) (heap : List NamedObject) (c : ClassId) (v : Value)
    → HoldsDeclared classes heap v (record { dims = 0; base = Base.Class c }) → AreOfKind Held.Null v
class_kind classes heap c (Held.Int n) h = absurd h
class_kind classes heap c (Held.Long n) h = absurd h
class_kind classes heap c Held.Null h = (tt, tt)
class_kind classes heap c (Held.Obj a) h = (tt, tt)
class_kind classes heap c (Held.Cap k) h = (tt, tt)
class_kind classes heap c Held.Unset h = absurd h

long_kind : (classes : List ClassRecord) (heap : List NamedObject) (v : Value) → HoldsDeclared classes heap v (record { dims = 0; base = Base.Long })
    → AreOfKind (Held.Long (pos 0)) v
long_kind classes heap (Held.Int n) h = absurd h
long_kind classes heap (Held.Long n) h = tt
long_kind classes heap Held.Null h = absurd h
long_kind classes heap (Held.Obj a) h = absurd h
long_kind classes heap (Held.Cap k) h = absurd h
long_kind classes heap Held.Unset h = absurd h

int_kind : (classes : List ClassRecord) (heap : List NamedObject) (v : Value) → HoldsDeclared classes heap v (record { dims = 0; base = Base.Int })
    → AreOfKind (Held.Int (pos 0)) v
int_kind classes heap (Held.Int n) h = tt
int_kind classes heap (Held.Long n) h = absurd h
int_kind classes heap Held.Null h = absurd h
int_kind classes heap (Held.Obj a) h = absurd h
int_kind classes heap (Held.Cap k) h = absurd h
int_kind classes heap Held.Unset h = absurd h

kind_is : (classes : List ClassRecord) (heap : List NamedObject) (dims : ℕ) (base : BaseRef) (v : Value)
    → HoldsDeclared classes heap v (record { dims = dims; base = base }) → AreOfKind (zero_of (record { dims = dims; base = base })) v
kind_is classes heap (suc dims) base v h = reference_kind classes heap dims base v h
kind_is classes heap zero Base.Byte v h = int_kind classes heap v h
kind_is classes heap zero Base.Char v h = int_kind classes heap v h
kind_is classes heap zero Base.Int v h = int_kind classes heap v h
kind_is classes heap zero Base.Long v h = long_kind classes heap v h
kind_is classes heap zero Base.Short v h = int_kind classes heap v h
kind_is classes heap zero Base.Bool v h = int_kind classes heap v h
kind_is classes heap zero (Base.Class c) v h = class_kind classes heap c v h

-- ---- A sealed heap is sound for a copy.

-- each value fits the field at its place
abbrev EachFits : List ClassRecord → List NamedObject → List FieldRecord → List Value → Type 0
EachFits classes heap fields values =
    (i : ℕ) (v : Value) (f : FieldRecord) → slice_get values i ≡ Some v → slice_get fields i ≡ Some f → HoldsDeclared classes heap v f.kind

-- the classes that a table names are there
abbrev AreThere : List ClassRecord → List NamedClass → Type 0
AreThere classes table = (c : ClassId) → IsNamed table c → HasClass classes c

base_is_there : (classes : List ClassRecord) (table : List NamedClass) (base : BaseRef) → AreThere classes table → IsNamedBase table base
    → HasBase classes base
base_is_there classes table (Base.Class c) there h = there c h
base_is_there classes table Base.Byte there h = tt
base_is_there classes table Base.Char there h = tt
base_is_there classes table Base.Int there h = tt
base_is_there classes table Base.Long there h = tt
base_is_there classes table Base.Short there h = tt
base_is_there classes table Base.Bool there h = tt

class_is_there : (around : Surroundings) (heap : List NamedObject) (object : Object) → AreThere around.classes around.table
    → IsSealedObject around heap object → HasShapeClasses around.classes (shape_of object)
class_is_there around heap (Plain c values) there sealed = there c sealed.0
class_is_there around heap (Array t items) there sealed = base_is_there around.classes around.table t.base there sealed.0
class_is_there around heap (Text units) there sealed = tt
class_is_there around heap (Task s) there sealed = tt

sound_heap : (around : Surroundings) (quota : ℕ) (inside : Inside) → AreThere around.classes around.table → IsSealedInside around quota inside
    → IsSoundHeap around.classes inside.heap
sound_heap around quota inside there sealed = record {
  laid_out = λ a object is. sealed_laid_out around inside.heap object (sealed.objects (named a object) (stands inside.heap a object is));
  has_classes = λ a object is. class_is_there around inside.heap object there (sealed.objects (named a object) (stands inside.heap a object is));
  closed = λ a b leads.
      led_is_known around inside.heap leads.0 b (sealed.objects (named a leads.0) (stands inside.heap a leads.0 leads.1)) leads.2;
}

-- ---- What both tables name, they name by one name.

-- the one entry of a name says what it means
meaning_of_entry : (classes : List ClassRecord) (table : List NamedClass) (name : List ℕ) (c : ClassId) → HasOwnNames classes table
    → Contains table (record { name = name; class = c }) → class_named table name ≡ Some c
meaning_of_entry classes table name c own there = by (find of_name table) (finds of_name table)
  where
    of_name : NamedClass → Bool
    of_name n = bytes_eq n.name name

    by : (o : Option NamedClass) → Finds of_name table o → option_map (λ (n : NamedClass). n.class) o ≡ Some c
    by None h =
        let place = place_of table (record { name = name; class = c }) there in
        let never : bytes_eq name name ≡ false = h place.0 (record { name = name; class = c }) place.1 in
        let both : true ≡ false = sym ((bytes_eq-Decides name name).1 refl) ∙ never in
        absurd cc
    by (Some n) h =
        let place = place_of table (record { name = name; class = c }) there in
        let same : n.name ≡ name = (bytes_eq-Decides n.name name).0 h.2 in
        let k : h.0 ≡ place.0 = own.once h.0 place.0 n (record { name = name; class = c }) h.1 place.1 same in
        let one : n ≡ record { name = name; class = c } =
        same_Some n (record { name = name; class = c }) (sym h.1 ∙ ap (slice_get table) k ∙ place.1) in
        ap (λ (x : NamedClass). Some x.class) one

agree : (classes : List ClassRecord) (from to : List NamedClass) → HasOwnNames classes from → HasOwnNames classes to → AgreeOnNames from to
agree classes from to own other c (name, there) (again, here) =
    let first = own.own name c there in
    let second = other.own again c here in
    let one : first.0 ≡ second.0 = same_Some first.0 second.0 (sym first.1 ∙ second.1) in
    let same : again ≡ name = sym second.2 ∙ ap (λ (r : ClassRecord). r.name) (sym one) ∙ first.2 in (
      name,
      meaning_of_entry classes from name c own there,
      meaning_of_entry classes to name c other (subst (λ (x : List ℕ). Contains to (record { name = x; class = c })) same here),
    )

-- ---- All that a copy asks.

may_be_given : (caps : List CapRange) (heap : List NamedObject) (v : Value) → IsKnownValue caps heap v → MayBeGiven heap v
may_be_given caps heap (Held.Obj a) h = h
may_be_given caps heap (Held.Int n) h = tt
may_be_given caps heap (Held.Long n) h = tt
may_be_given caps heap Held.Null h = tt
may_be_given caps heap (Held.Cap k) h = tt
may_be_given caps heap Held.Unset h = tt

all_may_be_given : (caps : List CapRange) (heap : List NamedObject) (values : List Value) → AllByRecursion (IsKnownValue caps heap) values
    → AllByRecursion (MayBeGiven heap) values
all_may_be_given caps heap [] h = tt
all_may_be_given caps heap (v ∷ values) h = (may_be_given caps heap v h.0, all_may_be_given caps heap values h.1)

module _ (p : MachineParts) (may : MayCross p) where
  -- a live domain's table is one of the machine's
  is_table : (d : DomainId) (l : LiveDomain (machine_of p) d) → Contains (tables_of (machine_of p)) l.domain.table
  is_table d l = mapped (λ (e : DomainState). e.table) (machine_of p).domains l.domain (Contains-at (machine_of p).domains d.0 l.domain l.is_domain)

  are_there : (d : DomainId) (l : LiveDomain (machine_of p) d) → AreThere p.world.classes l.domain.table
  are_there d l c is =
      let known = (may.sound.tables l.domain (Contains-at (machine_of p).domains d.0 l.domain l.is_domain)).closed c is in
      slice_get_within p.world.classes c.0 known.0 known.1

  own_names : (d : DomainId) (l : LiveDomain (machine_of p) d) → HasOwnNames p.world.classes l.domain.table
  own_names d l = may.sound.linked.own_names l.domain.table (is_table d l)

  has_domain : (d : DomainId) (l : LiveDomain (machine_of p) d) → HasDomain p.world d
  has_domain d l = let found = live_domain_is_of_parts p d l may.fitting.domains in (found.1, found.3.is_named)

  pub crossing_may_copy : (d e : DomainId) (giver : LiveDomain (machine_of p) d) (taker : LiveDomain (machine_of p) e) (values : List Value)
      → AllByRecursion (IsKnownValue (caps_of (machine_of p)) giver.inside.heap) values → MayCopy p.heap p.world d e values
  crossing_may_copy d e giver taker values known =
      let sealed = may.sealed.domains.insides giver.domain giver.inside (Contains-at (machine_of p).domains d.0 giver.domain giver.is_domain)
      giver.is_inside in
      let heap : IsSoundHeap p.world.classes giver.inside.heap =
      sound_heap (record { classes = p.world.classes; table = giver.domain.table; caps = caps_of (machine_of p) }) giver.domain.quotas.heap giver.inside
      (are_there d giver) sealed in
      let given : AllByRecursion (MayBeGiven giver.inside.heap) values = all_may_be_given (caps_of (machine_of p)) giver.inside.heap values known in
      let back : giver.inside.heap ≡ p.heap.heap d = sym (heap_is p d giver may.fitting) in
      let agreed : AgreeOnNames giver.domain.table taker.domain.table =
      agree p.world.classes giver.domain.table taker.domain.table (own_names d giver) (own_names e taker) in
      record {
        admitted = (admitted d giver, admitted e taker);
        domains = (has_domain d giver, has_domain e taker);
        names = subst₂ (λ (x y : List NamedClass). AgreeOnNames x y) (sym (table_is p d giver may.fitting)) (sym (table_is p e taker may.fitting)) agreed;
        heap = subst (λ (h : List NamedObject). IsSoundHeap p.world.classes h) back heap;
        given = subst (λ (h : List NamedObject). AllByRecursion (MayBeGiven h) values) back given;
        calm = may.fitting.calm d;
      }
    where
      admitted : (d : DomainId) (l : LiveDomain (machine_of p) d) → IsSome (p.heap.quota d)
      admitted d l = subst (λ (o : Option ℕ). IsSome o) (sym (may.fitting.live.words d l)) refl
