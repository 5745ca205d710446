-- The names of the new domain mean classes that are there, and of each of these the domain knows what is around it.
use Rattle.std.proofs.Common.{◌≡◌, ◌≢◌, ℕ, ◌+◌, ◌<◌, inl, inr, List, length, take, Option, Some, None, slice_get, Contains, refl, sym, ap, subst, ◌∙◌, arith}
use Rattle.std.proofs.lemmas.Option.{none-some, same_Some, slice_get_within}
use Rattle.list_lemmas.proofs.ItemsOfLists.{Contains-none, place_of, each-of, each-from}
use Rattle.list_lemmas.proofs.ItemsByPlace.{item_there, slice_get-in_take, slice_get-behind}
use Rattle.jk_model.specs.declared.descriptors.Base.{Base as ABase}
use Rattle.jk_model.specs.declared.descriptors.Base.TheVariants as Said
use Rattle.jk_model.specs.declared.identifiers.ClassId.{ClassId}
use Rattle.jk_model.specs.declared.identifiers.DomainId.{DomainId}
use Rattle.jk_model.specs.declared.identifiers.MemberId.{MemberId}
use Rattle.jk_model.specs.SystemTable.{system_classes}
use Rattle.jk_model_classes.specs.declared.records.BaseRef.{BaseRef}
use Rattle.jk_model_classes.specs.declared.records.BaseRef.TheVariants as Base
use Rattle.jk_model_classes.specs.declared.records.ClassRecord.{ClassRecord}
use Rattle.jk_model_classes.specs.declared.records.Link.{Link}
use Rattle.jk_model_classes.specs.declared.records.Link.TheVariants as To
use Rattle.jk_model_classes.specs.declared.records.TypeRef.{TypeRef}
use Rattle.jk_model_classes.specs.declared.sharing.Offer.{Offer}
use Rattle.jk_model_classes.specs.declared.sharing.ResolverLine.{ResolverLine}
use Rattle.jk_model_classes.specs.declared.sharing.Stub.{Stub}
use Rattle.jk_model_classes.specs.Classes.{AreOrdered, HasClass, OBJECT, field_walk, method_walk, record_of}
use Rattle.jk_model_classes.specs.LinkRules.{LinkScope}
use Rattle.jk_model_classes.specs.ResolverRules.{ImportsClass, IsReached}
use Rattle.jk_model_classes.specs.SystemRecords.{IsBaseFor}
use Rattle.jk_model_classes.specs.Worlds.{IsNamed, NamedClass, WorldRecord}
use Rattle.class_lemmas.proofs.NamesOfTables.{means_named}
use Rattle.class_lemmas.proofs.ReachedByReferences.{reached_further}
use Rattle.jk_model_folders.specs.declared.files.FolderFiles.{FolderFiles}
use Rattle.jk_model_folders.specs.FolderRules.{link_scope}
use Rattle.jk_model_folders.specs.LinkedClasses.{IsEntryType}
use Rattle.jk_model_folders.specs.Loads.{Loads, MayLoad}
use Rattle.jk_model_sound_classes.specs.SoundClasses.{IsClosedTable, IsNamedBase}
use Rattle.class_growth.specs.ClosedClasses.{IsClosed}
use Rattle.class_growth.proofs.MoreClasses.{field_walk-kept, method_walk-kept, record-still}
use Rattle.class_growth.proofs.SystemClassesClosed.{system-closed}
use Rattle.sound_folders.specs.LinkedWorlds.{RefersAround, RefersToBase}
use Rattle.sound_folders.proofs.FoundByLinks.{field-found, field_above, method-found, method_above, type-found}
use Rattle.sound_folders.proofs.NamesOfTables.{meant-from, system_meant, system_name}
use Rattle.sound_folders.proofs.NewClasses.{OwnFile, added, all, meaning, own_file, system_few}
use Rattle.sound_folders.proofs.WalksWithin.{StandsWithin, field_walk-within, method_walk-within}

-- ---- What a name's class has around it.

-- Of a class that has a name, its parent and its interfaces have names, and each class that its entries name. A member to which an
-- entry leads stands on the way up from one of these.
pub record IsNear (classes : List ClassRecord) (table : List NamedClass) (r : ClassRecord) : Type 0 where
  pub stands : StandsWithin (IsNamed table) r
  pub types : (t : TypeRef) → Contains r.links (To.Class t) → IsNamedBase table t.base
  pub fields : (c : ClassId) (m : MemberId) → Contains r.links (To.Field c m) → IsNamed table c × Contains (field_walk classes c) m.class
  pub methods : (c : ClassId) (m : MemberId) → Contains r.links (To.Method c m) → IsNamed table c × Contains (method_walk classes c) m.class

abbrev pub AreNear : List ClassRecord → List NamedClass → Type 0
AreNear classes table =
    (c : ClassId) → IsNamed table c → (r : ClassRecord) × (record_of classes c ≡ Some r) × IsNear classes table r

module _ (classes : List ClassRecord) (table : List NamedClass) (near : AreNear classes table) (object : IsNamed table OBJECT) where
  up : (c : ClassId) → IsNamed table c → (r : ClassRecord) → record_of classes c ≡ Some r → StandsWithin (IsNamed table) r
  up c named r is =
      let known = near c named in
      subst (StandsWithin (IsNamed table)) (same_Some known.0 r (sym known.1 ∙ is)) known.2.stands

  pub closed_by_near : IsClosedTable classes table
  closed_by_near c named =
      let known = near c named in (
        known.0,
        known.1,
        record {
          parent = known.2.stands.parent;
          interfaces = known.2.stands.interfaces;
          classes = known.2.types;
          fields = λ d m on.
              let found = known.2.fields d m on in
              field_walk-within (IsNamed table) classes up d m.class found.0 found.1;
          methods = λ d m on.
              let found = known.2.methods d m on in
              method_walk-within (IsNamed table) classes up object d m.class found.0 found.1;
        },
      )

-- ---- The new domain.

module _ {f : FolderFiles} {w : WorldRecord} {into : List ℕ} {first : ClassId} {table : List NamedClass} {offers : List Offer} {stubs : List Stub}
    {new : WorldRecord} (l : Loads f w into first table offers stubs new) (may : MayLoad w) where
  abbrev Knows : ClassId → Type 0
  Knows = IsNamed l.placed.table

  pub system_known : (c : ClassId) → c.0 < length system_classes → Knows c
  system_known c low =
      let entry = item_there system_classes c.0 low in
      let outer = (l.are_outer entry.0.name c).1 (inl (system_name c entry.0 entry.1)) in
      means_named l.placed.table entry.0.name c ((l.is_placed.table entry.0.name c).1 (inl outer))

  -- ---- A system class.

  abbrev front : List ClassRecord
  front = take (length system_classes) w.classes

  system_near : (c : ClassId) (r : ClassRecord) → slice_get front c.0 ≡ Some r → IsNear (all l) l.placed.table r
  system_near c r is =
      let entry = item_there system_classes c.0 (omega (arith, slice_get_within front c.0 r is, may.system.as_many)) in
      let of = may.system.each c.0 entry.0 r entry.1 is in
      let closed = (system-closed front may.system).each c r is in
      let no_link : (link : Link) → Contains r.links link → ⊥ =
      λ link on. Contains-none link (subst (λ (links : List Link). Contains links link) of.links on) in
      record {
        stands =
            record {
              parent = λ p e. system_known p (omega (arith, closed.parent p e, may.system.as_many));
              interfaces = each-from Knows r.interfaces (λ i on. system_known i (omega (arith, closed.interfaces i on, may.system.as_many)));
            };
        types = λ t on. absurd (no_link (To.Class t) on);
        fields = λ d m on. absurd (no_link (To.Field d m) on);
        methods = λ d m on. absurd (no_link (To.Method d m) on);
      }

  pub system_there : (c : ClassId) → c.0 < length system_classes
      → (r : ClassRecord) × (record_of (all l) c ≡ Some r) × IsNear (all l) l.placed.table r
  system_there c low =
      let there = item_there w.classes c.0 (omega (arith, system_few l may)) in
      let is = slice_get-in_take w.classes (length system_classes) c.0 there.0 low there.1 in
      (there.0, record-still w.classes (added l) c there.0 there.1, system_near c there.0 is)

  -- ---- A class that a line brings in.

  module _ (closed : IsClosed w.classes)
      (of_system : (c : ClassId) (r : ClassRecord) → record_of w.classes c ≡ Some r → r.home ≡ None → slice_get front c.0 ≡ Some r)
      (around : (c : ClassId) (r : ClassRecord) → record_of w.classes c ≡ Some r → r.home ≢ None → RefersAround w.classes r)
      (line : ResolverLine) (listed : Contains l.lines line) (imported : ClassId) (imports : ImportsClass w into line imported) where
    reached_known : (c : ClassId) → HasClass w.classes c → IsReached w.classes imported c → Knows c
    reached_known c there reached =
        let of = item_there w.classes c.0 there in
        let outer = (l.are_outer of.0.name c).1 (inr (line, listed, (imported, imports, reached, (of.0, of.1, refl)))) in
        means_named l.placed.table of.0.name c ((l.is_placed.table of.0.name c).1 (inl outer))

    module _ (c : ClassId) (r : ClassRecord) (is : record_of w.classes c ≡ Some r) (reached : IsReached w.classes imported c) where
      next_there : (d : ClassId) → Contains r.references d → HasClass w.classes d
      next_there d on = each-of (HasClass w.classes) r.references d (may.world.records c r is).references on

      next_known : (d : ClassId) → Contains r.references d → Knows d
      next_known d on = reached_known d (next_there d on) (reached_further w.classes imported c d r reached is on)

      base_known : (base : BaseRef) → RefersToBase r base → IsNamedBase l.placed.table base
      base_known (Base.Class d) on = next_known d on
      base_known base on = tt

      reached_near : RefersAround w.classes r → AreOrdered w.classes → IsNear (all l) l.placed.table r
      reached_near near ordered =
          record {
            stands =
                record {
                  parent = λ p e. next_known p (near.parent p e);
                  interfaces = each-from Knows r.interfaces (λ i on. next_known i (each-of (Contains r.references) r.interfaces i near.interfaces on));
                };
            types = λ t on. base_known t.base (near.entries t on);
            fields = λ d m on.
                let found = near.fields d m on in (
                  next_known d found.0,
                  subst (λ (walk : List ClassId). Contains walk m.class) (sym (field_walk-kept w.classes (added l) ordered d (next_there d found.0))) found.1,
                );
            methods = λ d m on.
                let found = near.methods d m on in (
                  next_known d found.0,
                  subst (λ (walk : List ClassId). Contains walk m.class) (sym (method_walk-kept w.classes (added l) ordered d (next_there d found.0))) found.1,
                );
          }

      pub import_near : IsNear (all l) l.placed.table r
      import_near = by r.home refl
        where
          by : (home : Option DomainId) → r.home ≡ home → IsNear (all l) l.placed.table r
          by None e = system_near c r (of_system c r is e)
          by (Some d) e = reached_near (around c r is (λ none. none-some d (sym none ∙ e))) may.world.ordered

  -- ---- A class of the folder.

  module _ (ordered : AreOrdered (all l)) (k : ℕ) (r : ClassRecord) (own : OwnFile (length w.classes) l.files l.placed k r) where
    abbrev self : ClassId
    self = record { 0 = length w.classes + k }

    abbrev s : LinkScope
    s = link_scope l.placed self

    meant_known : (name : List ℕ) (c : ClassId) → meaning l name ≡ Some c → Knows c
    meant_known name c e = means_named l.placed.table name c e

    base_meant : (b : ABase) (base : BaseRef) → IsBaseFor (meaning l) b base → IsNamedBase l.placed.table base
    base_meant (Said.Class name) base (class, meant, is) = subst (IsNamedBase l.placed.table) (sym is) (meant_known name class meant)
    base_meant Said.Byte base is = subst (IsNamedBase l.placed.table) (sym is) tt
    base_meant Said.Char base is = subst (IsNamedBase l.placed.table) (sym is) tt
    base_meant Said.Int base is = subst (IsNamedBase l.placed.table) (sym is) tt
    base_meant Said.Long base is = subst (IsNamedBase l.placed.table) (sym is) tt
    base_meant Said.Short base is = subst (IsNamedBase l.placed.table) (sym is) tt
    base_meant Said.Bool base is = subst (IsNamedBase l.placed.table) (sym is) tt
    base_meant b base never = absurd never

    type_known : (units : List ℕ) (t : TypeRef) → IsEntryType s units t → IsNamedBase l.placed.table t.base
    type_known units t (inl (simple, (class, meant, e))) =
        subst (λ (x : TypeRef). IsNamedBase l.placed.table x.base) (sym e) (meant_known units class meant)
    type_known units t (inr (type, dims, text, fits)) = base_meant type.base t.base fits.1

    own_near : IsNear (all l) l.placed.table r
    own_near =
        record {
          stands =
              record {
                parent = λ p e.
                    let (q, (name, at, meant), has) = own.is_record.parent in
                    meant_known name p (meant ∙ (sym has ∙ e));
                interfaces =
                    each-from Knows r.interfaces
                    (λ i on.
                    let place = place_of r.interfaces i on in
                    let low : place.0 < length own.file.interfaces =
                    omega (arith, slice_get_within r.interfaces place.0 i place.1, own.is_record.interfaces.as_many) in
                    let told = item_there own.file.interfaces place.0 low in
                    let (name, at, meant) = own.is_record.interfaces.each place.0 told.0 i told.1 place.1 in
                    meant_known name i meant);
              };
          types = λ t on.
              let place = place_of r.links (To.Class t) on in
              let (units, at, is) = type-found s own.file r.links own.links place.0 t place.1 in
              type_known units t is;
          fields = λ class m on.
              let place = place_of r.links (To.Field class m) on in
              let found = field-found s own.file r.links own.links place.0 class m place.1 in (
                meant_known found.0.target class (found.0.class_is ∙ ap Some found.1),
                subst (λ (x : ClassId). Contains (field_walk (all l) x) m.class) found.1 (field_above l ordered self own.file place.0 m found.0),
              );
          methods = λ class m on.
              let place = place_of r.links (To.Method class m) on in
              let found = method-found s own.file r.links own.links place.0 class m place.1 in (
                meant_known found.0.target class (found.0.class_is ∙ ap Some found.1),
                subst (λ (x : ClassId). Contains (method_walk (all l) x) m.class) found.1 (method_above l ordered self own.file place.0 m found.0),
              );
        }

  -- ---- All of them.

  module _ (closed : IsClosed w.classes)
      (of_system : (c : ClassId) (r : ClassRecord) → record_of w.classes c ≡ Some r → r.home ≡ None → slice_get front c.0 ≡ Some r)
      (around : (c : ClassId) (r : ClassRecord) → record_of w.classes c ≡ Some r → r.home ≢ None → RefersAround w.classes r)
      (ordered : AreOrdered (all l)) where
    all_near : AreNear (all l) l.placed.table
    all_near c (name, on) = elim ((l.is_placed.table name c).0 (meant-from l.placed.table l.is_placed.names_differ name c on)) [
      | inl outer ↦ elim ((l.are_outer name c).0 outer) [
        | inl system ↦ (let meant = system_meant name c system in system_there c (slice_get_within system_classes c.0 meant.0 meant.1))
        | inr (line, listed, (imported, imports, reached, (r, is, named))) ↦
            (r, record-still w.classes (added l) c r is, import_near closed of_system around line listed imported imports c r is reached)
      ]
      | inr (i, file, at, called, (k, order, number)) ↦
          let low : k < length (added l) = omega (arith, slice_get_within l.placed.order k i order, l.is_placed.as_many, l.is_placed.order.as_many) in
          let r = item_there (added l) k low in (
            r.0,
            ap (slice_get (all l)) number ∙ slice_get-behind w.classes (added l) k ∙ r.1,
            own_near ordered k r.0 (own_file l k r.0 r.1),
          )
    ]

    pub new_table_closed : IsClosedTable (all l) l.placed.table
    new_table_closed = closed_by_near (all l) l.placed.table all_near (system_known OBJECT (omega arith))
