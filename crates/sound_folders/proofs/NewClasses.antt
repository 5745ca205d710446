-- Each class that a folder adds is told by one of its files, and each class that its record mentions is there.
use Rattle.std.proofs.Common.{◌≡◌, ℕ, zero, suc, ◌+◌, ◌-◌, ◌<◌, ◌≤◌, inl, inr, List, ◌++◌, length, map, Option, Some, None, slice_get, Contains, refl, sym, ap, subst, ◌∙◌, arith, length-append, length-take}
use Rattle.std.proofs.lemmas.List.{length-map}
use Rattle.std.proofs.lemmas.Option.{same_Some, slice_get_within}
use Rattle.list_lemmas.proofs.ItemsOfLists.{place_of, each-weaker, each-from}
use Rattle.list_lemmas.proofs.ItemsByPlace.{item_there, slice_get-behind}
use Rattle.jk_model.specs.declared.class_file.ClassFile.{ClassFile}
use Rattle.jk_model.specs.declared.class_file.Code.{Code}
use Rattle.jk_model.specs.declared.class_file.Handler.{Handler}
use Rattle.jk_model.specs.declared.class_file.MemberInfo.{MemberInfo}
use Rattle.jk_model.specs.declared.class_file.PoolEntry.{PoolEntry}
use Rattle.jk_model.specs.declared.class_file.PoolEntry.TheVariants as Entry
use Rattle.jk_model.specs.declared.identifiers.ClassId.{ClassId}
use Rattle.jk_model.specs.declared.identifiers.DomainId.{DomainId}
use Rattle.jk_model.specs.declared.identifiers.MemberId.{MemberId}
use Rattle.jk_model.specs.declared.instructions.Instr.{Instr}
use Rattle.jk_model.specs.SystemTable.{system_classes}
use Rattle.jk_model_classes.specs.declared.records.Body.{Body}
use Rattle.jk_model_classes.specs.declared.records.Body.TheVariants as Does
use Rattle.jk_model_classes.specs.declared.records.Caught.{Caught}
use Rattle.jk_model_classes.specs.declared.records.ClassRecord.{ClassRecord}
use Rattle.jk_model_classes.specs.declared.records.Link.{Link}
use Rattle.jk_model_classes.specs.declared.records.LinkedCode.{LinkedCode}
use Rattle.jk_model_classes.specs.declared.records.MethodRecord.{MethodRecord}
use Rattle.jk_model_classes.specs.declared.records.TypeRef.{TypeRef}
use Rattle.jk_model_classes.specs.declared.sharing.Offer.{Offer}
use Rattle.jk_model_classes.specs.declared.sharing.Stub.{Stub}
use Rattle.jk_model_classes.specs.Classes.{HasClass, record_of}
use Rattle.jk_model_classes.specs.LinkRules.{FindsFieldAt, FindsMethodAt, LinkScope}
use Rattle.jk_model_classes.specs.Worlds.{NamedClass, NamesClasses, WorldRecord, class_named}
use Rattle.jk_model_folders.specs.declared.files.FolderFiles.{FolderFiles}
use Rattle.jk_model_folders.specs.FolderRules.{PlacedFolder, link_scope}
use Rattle.jk_model_folders.specs.LinkedClasses.{AreLinksFor, IsBodyFor, IsCaughtFor, IsEntryType, IsFieldLink, IsLinkFor, IsMethodFor, IsMethodLink, IsRecordFor, NamesClassAt, without_links}
use Rattle.jk_model_folders.specs.Loads.{Loads, MayLoad}
use Rattle.class_lemmas.proofs.CodeOfMethods.{absent_has_none}
use Rattle.class_growth.specs.ClosedClasses.{HasClassesOf, HasClassesOfMethod, HasLink, HasType, IsClosed}
use Rattle.class_growth.proofs.ClosedClassesKept.{closed-still}
use Rattle.class_growth.proofs.ItemsOfLists.{slice_get-append_cases}
use Rattle.class_growth.proofs.MoreClasses.{has_class-still}
use Rattle.class_growth.proofs.SystemClassesClosed.{MeansThere, result-meant, type-meant, types-meant}
use Rattle.sound_folders.proofs.NamesOfTables.{system_meant}

-- The file of a class of the folder, of which the record at this place among the new ones is.
pub record OwnFile (first : ℕ) (files : List ClassFile) (p : PlacedFolder) (k : ℕ) (r : ClassRecord) : Type 0 where
  pub place : ℕ
  pub file : ClassFile
  pub ordered : slice_get p.order k ≡ Some place
  pub listed : slice_get files place ≡ Some file
  pub is_record : IsRecordFor (link_scope p (record { 0 = first + k })) p.home file r
  pub links : AreLinksFor (link_scope p (record { 0 = first + k })) file r.links

module _ {f : FolderFiles} {w : WorldRecord} {into : List ℕ} {first : ClassId} {table : List NamedClass} {offers : List Offer} {stubs : List Stub}
    {new : WorldRecord} (l : Loads f w into first table offers stubs new) where
  abbrev pub added : List ClassRecord
  added = l.is_placed.added

  abbrev pub all : List ClassRecord
  all = w.classes ++ added

  -- what names mean in the new domain
  abbrev pub meaning : List ℕ → Option ClassId
  meaning = class_named l.placed.table

  pub own_file : (k : ℕ) (r : ClassRecord) → slice_get added k ≡ Some r → OwnFile (length w.classes) l.files l.placed k r
  own_file k r at =
      let low : k < length l.placed.order = omega (arith, slice_get_within added k r at, l.is_placed.as_many, l.is_placed.order.as_many) in
      let order = item_there l.placed.order k low in
      let file = item_there l.files order.0 (l.is_placed.order.places k order.0 order.1) in
      let both = l.is_placed.records k order.0 file.0 r order.1 file.1 at in
      record { place = order.0; file = file.0; ordered = order.1; listed = file.1; is_record = both.0; links = both.1 }

  -- the file of a record that is new
  pub own_of : (r : ClassRecord) → Contains added r → (k : ℕ) × OwnFile (length w.classes) l.files l.placed k r
  own_of r on = let place = place_of added r on in (place.0, own_file place.0 r place.1)

  pub own_at : (c : ClassId) (r : ClassRecord) → length w.classes ≤ c.0 → record_of all c ≡ Some r
      → (k : ℕ) × OwnFile (length w.classes) l.files l.placed k r
  own_at c r high is =
      let k : ℕ = c.0 - length w.classes in
      let number : length w.classes + (c.0 - length w.classes) ≡ c.0 = omega (arith, high) in
      (k, own_file k r (sym (slice_get-behind w.classes added k) ∙ ap (slice_get all) number ∙ is))

  pub as_many_unlinked : length l.placed.unlinked ≡ length all
  as_many_unlinked =
      ap length l.is_placed.unlinked
      ∙ omega (arith, length-append w.classes (map without_links added), length-append w.classes added, length-map added without_links)

  module _ (may : MayLoad w) where
    pub system_few : length system_classes ≤ length w.classes
    system_few = omega (arith, may.system.as_many, length-take (length system_classes) w.classes)

    outer_there : (name : List ℕ) (c : ClassId) → class_named l.names name ≡ Some c → HasClass w.classes c
    outer_there name c e = elim ((l.are_outer name c).0 e) [
      | inl of_system ↦
          let meant = system_meant name c of_system in
          let low = slice_get_within system_classes c.0 meant.0 meant.1 in
          omega (arith, low, system_few)
      | inr (line, on, (imported, imports, reached, (r, is, named))) ↦ slice_get_within w.classes c.0 r is
    ]

    pub meant_there : MeansThere all meaning
    meant_there name c e = elim ((l.is_placed.table name c).0 e) [
      | inl outer ↦ has_class-still w.classes added c (outer_there name c outer)
      | inr (i, file, at, called, (k, ordered, number)) ↦
          omega (
            arith,
            number,
            slice_get_within l.placed.order k i ordered,
            l.is_placed.as_many,
            l.is_placed.order.as_many,
            length-append w.classes added,
          )
    ]

    -- each record refers to classes that are there
    pub names_there : (c : ClassId) (r : ClassRecord) → record_of all c ≡ Some r → NamesClasses all r
    names_there c r is = elim (slice_get-append_cases w.classes added c.0 r is) [
      | inl old ↦ record {
        references = each-weaker (HasClass w.classes) (HasClass all) (has_class-still w.classes added) r.references
            (may.world.records c r old).references;
      }
      | inr later ↦ record {
        references = each-from (HasClass all) r.references
            (λ d on. let (i, name, refers, means) = (own_of r later).1.is_record.references.each d on in meant_there name d means);
      }
    ]

    -- ---- One record.

    module _ (self : ClassId) (c : ClassFile) where
      abbrev s : LinkScope
      s = link_scope l.placed self

      named_there : (i : ℕ) (class : ClassId) → NamesClassAt s c i class → HasClass all class
      named_there i class (name, at, meant) = meant_there name class meant

      entry_type_there : (units : List ℕ) (t : TypeRef) → IsEntryType s units t → HasType all t
      entry_type_there units t (inl (is, (class, meant, e))) = subst (HasType all) (sym e) (meant_there units class meant)
      entry_type_there units t (inr (type, dims, text, fits)) = type-meant all meaning meant_there type t fits

      field_there : (i : ℕ) (m : MemberId) → FindsFieldAt s c i m → HasClass all m.class
      field_there i m h =
          let (field, (r, is, at), named, typed) = h.found.member.suits in
          omega (arith, slice_get_within l.placed.unlinked m.class.0 r is, as_many_unlinked)

      method_there : (i : ℕ) (m : MemberId) → FindsMethodAt s c i m → HasClass all m.class
      method_there i m h =
          let (method, (r, is, at), named, typed) = h.found.member.suits in
          omega (arith, slice_get_within l.placed.unlinked m.class.0 r is, as_many_unlinked)

      field_link_there : (i : ℕ) (link : Link) → IsFieldLink s c i link → HasLink all link
      field_link_there i link (inl (m, h, e)) =
          subst (HasLink all) (sym e) (meant_there h.target h.class h.class_is, field_there i m h)
      field_link_there i link (inr (never, e)) = subst (HasLink all) (sym e) tt

      method_link_there : (i : ℕ) (link : Link) → IsMethodLink s c i link → HasLink all link
      method_link_there i link (inl (m, h, e)) =
          subst (HasLink all) (sym e) (meant_there h.target h.class h.class_is, method_there i m h)
      method_link_there i link (inr (never, e)) = subst (HasLink all) (sym e) tt

      link_there : (i : ℕ) (entry : PoolEntry) (link : Link) → IsLinkFor s c i entry link → HasLink all link
      link_there i (Entry.Integer n) link e = subst (HasLink all) (sym e) tt
      link_there i (Entry.Long n) link e = subst (HasLink all) (sym e) tt
      link_there i (Entry.Str text) link (units, at, e) = subst (HasLink all) (sym e) tt
      link_there i (Entry.Class name) link (units, t, at, is, e) = subst (HasLink all) (sym e) (entry_type_there units t is)
      link_there i (Entry.FieldRef class pair) link h = field_link_there i link h
      link_there i (Entry.MethodRef class pair) link h = method_link_there i link h
      link_there i (Entry.InterfaceMethodRef class pair) link h = method_link_there i link h
      link_there i entry link e = subst (HasLink all) (sym e) tt

      caught_there : (code : Code) (instrs : List Instr) (h : Handler) (caught : Caught) → IsCaughtFor s c code instrs h caught
          → (class : ClassId) → caught.class ≡ Some class → HasClass all class
      caught_there code instrs h caught is class e = by h.catch refl
        where
          by : (n : ℕ) → h.catch ≡ n → HasClass all class
          by zero none = let any : caught.class ≡ None = is.any none in absurd cc
          by (suc n) some =
              let (of, names, named) = is.class (λ none. omega (arith, some, none)) in
              subst (HasClass all) (same_Some of class (sym named ∙ e)) (named_there h.catch of names)

      same_code : (a b : LinkedCode) → Does.Linked a ≡ Does.Linked b → b ≡ a
      same_code a b e = cc

      handlers_there : (info : MemberInfo) (flags : ℕ) (body : Body) → IsBodyFor s c info flags body → (code : LinkedCode) (h : Caught)
          → body ≡ Does.Linked code → Contains code.handlers h → (class : ClassId) → h.class ≡ Some class → HasClass all class
      handlers_there info flags body (inl (abstract, absent)) code h linked on class e = absurd (absent_has_none code (sym absent ∙ linked))
      handlers_there info flags body (inr (concrete, (a, of, made, at, called, layout, is, is_made))) code h linked on class e =
          let place = place_of code.handlers h on in
          let same : made ≡ code = same_code code made (sym linked ∙ is_made) in
          let there : slice_get made.handlers place.0 ≡ Some h = subst (λ (x : LinkedCode). slice_get x.handlers place.0 ≡ Some h) (sym same) place.1 in
          let low : place.0 < length of.handlers = omega (arith, slice_get_within made.handlers place.0 h there, is.handlers.as_many) in
          let told = item_there of.handlers place.0 low in
          caught_there of is.decoded told.0 h (is.handlers.each place.0 told.0 h told.1 there) class e

      has_classes_of_method : (info : MemberInfo) (method : MethodRecord) → IsMethodFor s c info method → HasClassesOfMethod all method
      has_classes_of_method info method is =
          record {
            params = types-meant all meaning meant_there method.kind.params method.params is.params;
            result = result-meant all meaning meant_there method.kind.result method.result is.result;
            handlers = λ code h linked on class e. handlers_there info method.flags method.body is.body code h linked on class e;
          }

      has_classes_of : (home : DomainId) (r : ClassRecord) → IsRecordFor s home c r → AreLinksFor s c r.links → HasClassesOf all r
      has_classes_of home r is links =
          record {
            parent = λ p e.
                let (q, names, has) = is.parent in
                subst (HasClass all) (same_Some q p (sym has ∙ e)) (named_there c.super_class q names);
            interfaces = λ i on.
                let place = place_of r.interfaces i on in
                let told = item_there c.interfaces place.0 (omega (arith, slice_get_within r.interfaces place.0 i place.1, is.interfaces.as_many)) in
                named_there told.0 i (is.interfaces.each place.0 told.0 i told.1 place.1);
            fields = λ field on.
                let place = place_of r.fields field on in
                let told = item_there c.fields place.0 (omega (arith, slice_get_within r.fields place.0 field place.1, is.fields.as_many)) in
                let of = is.fields.each place.0 told.0 field told.1 place.1 in
                type-meant all meaning meant_there of.type field.kind of.kind;
            methods = λ method on.
                let place = place_of r.methods method on in
                let told = item_there c.methods place.0 (omega (arith, slice_get_within r.methods place.0 method place.1, is.methods.as_many)) in
                has_classes_of_method told.0 method (is.methods.each place.0 told.0 method told.1 place.1);
            links = λ link on.
                let place = place_of r.links link on in
                let told = item_there c.pool place.0 (omega (arith, slice_get_within r.links place.0 link place.1, links.as_many)) in
                link_there place.0 told.0 link (links.each place.0 told.0 link told.1 place.1);
          }

    -- ---- All classes.

    pub closed-more : IsClosed w.classes → IsClosed all
    closed-more closed =
        closed-still w.classes added closed
        (λ r on.
        let place = place_of added r on in
        let own = own_file place.0 r place.1 in
        has_classes_of (record { 0 = length w.classes + place.0 }) own.file l.placed.home r own.is_record own.links)
