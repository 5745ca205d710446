-- What stands around a class of the folder is among the classes to which its record refers.
use Rattle.std.proofs.Common.{◌≡◌, ◌≢◌, ℕ, ◌+◌, ◌<◌, inl, inr, List, length, Some, Contains, refl, sym, ap, subst, ◌∙◌, arith}
use Rattle.std.proofs.lemmas.Option.{slice_get_within}
use Rattle.list_lemmas.proofs.ItemsOfLists.{place_of, each-from}
use Rattle.list_lemmas.proofs.ItemsByPlace.{item_there}
use Rattle.jk_model.specs.declared.descriptors.Base.{Base as ABase}
use Rattle.jk_model.specs.declared.descriptors.Base.TheVariants as Said
use Rattle.jk_model.specs.declared.descriptors.FieldType.{FieldType}
use Rattle.jk_model.specs.declared.identifiers.ClassId.{ClassId}
use Rattle.jk_model.specs.Descriptors.{IsFieldText}
use Rattle.jk_model_classes.specs.declared.records.BaseRef.{BaseRef}
use Rattle.jk_model_classes.specs.declared.records.ClassRecord.{ClassRecord}
use Rattle.jk_model_classes.specs.declared.records.Link.TheVariants as To
use Rattle.jk_model_classes.specs.declared.records.TypeRef.{TypeRef}
use Rattle.jk_model_classes.specs.declared.sharing.Offer.{Offer}
use Rattle.jk_model_classes.specs.declared.sharing.Stub.{Stub}
use Rattle.jk_model_classes.specs.Classes.{AreOrdered, field_walk, method_walk, record_of}
use Rattle.jk_model_classes.specs.ClassNames.{BeginsArray}
use Rattle.jk_model_classes.specs.LinkRules.{LinkScope}
use Rattle.jk_model_classes.specs.Members.{ClassAt}
use Rattle.jk_model_classes.specs.SystemRecords.{IsBaseFor}
use Rattle.jk_model_classes.specs.Worlds.{NamedClass, WorldRecord}
use Rattle.jk_model_folders.specs.declared.files.FolderFiles.{FolderFiles}
use Rattle.jk_model_folders.specs.FolderRules.{link_scope}
use Rattle.jk_model_folders.specs.LinkedClasses.{IsEntryType}
use Rattle.jk_model_folders.specs.Loads.{Loads, MayLoad}
use Rattle.sound_folders.specs.LinkedWorlds.{RefersAround, RefersToBase}
use Rattle.sound_folders.proofs.ArraysHaveNoNames.{entry_refers}
use Rattle.sound_folders.proofs.FoundByLinks.{field-found, field_above, method-found, method_above, type-found}
use Rattle.sound_folders.proofs.NamesSayTypes.{own_refers}
use Rattle.sound_folders.proofs.NewClasses.{OwnFile, all, meaning}

module _ {f : FolderFiles} {w : WorldRecord} {into : List ℕ} {first : ClassId} {table : List NamedClass} {offers : List Offer} {stubs : List Stub}
    {new : WorldRecord} (l : Loads f w into first table offers stubs new) (may : MayLoad w)
    (plain : (c : ClassId) (r : ClassRecord) → record_of w.classes c ≡ Some r → BeginsArray r.name → ⊥) (ordered : AreOrdered (all l)) (k : ℕ)
    (r : ClassRecord) (own : OwnFile (length w.classes) l.files l.placed k r) where
  abbrev self : ClassId
  self = record { 0 = length w.classes + k }

  abbrev s : LinkScope
  s = link_scope l.placed self

  refers : (j : ℕ) (name : List ℕ) (class : ClassId) → ClassAt own.file.pool j name
      → meaning l name ≡ Some class → Contains r.references class
  refers j name class at meant =
      entry_refers l plain own.place own.file own.listed self r.references own.is_record.references j name class at meant

  base_refers : (j : ℕ) (units : List ℕ) (type : FieldType) (b : ABase) (base : BaseRef) → type.base ≡ b
      → ClassAt own.file.pool j units → IsFieldText units type → type.dims ≢ 0
      → IsBaseFor (meaning l) b base → RefersToBase r base
  base_refers j units type (Said.Class name) base e at text dims (class, meant, is) =
      subst (RefersToBase r) (sym is)
      (own.is_record.references.all j name class (inl (units, at, inr (type, text, dims, e))) meant)
  base_refers j units type Said.Byte base e at text dims is = subst (RefersToBase r) (sym is) tt
  base_refers j units type Said.Char base e at text dims is = subst (RefersToBase r) (sym is) tt
  base_refers j units type Said.Int base e at text dims is = subst (RefersToBase r) (sym is) tt
  base_refers j units type Said.Long base e at text dims is = subst (RefersToBase r) (sym is) tt
  base_refers j units type Said.Short base e at text dims is = subst (RefersToBase r) (sym is) tt
  base_refers j units type Said.Bool base e at text dims is = subst (RefersToBase r) (sym is) tt
  base_refers j units type b base e at text dims never = absurd never

  type_refers : (j : ℕ) (units : List ℕ) (t : TypeRef) → ClassAt own.file.pool j units
      → IsEntryType s units t → RefersToBase r t.base
  type_refers j units t at (inl (simple, (class, meant, e))) =
      subst (λ (x : TypeRef). RefersToBase r x.base) (sym e)
      (own.is_record.references.all j units class (inl (units, at, inl (simple, refl))) meant)
  type_refers j units t at (inr (type, dims, text, fits)) = base_refers j units type type.base t.base refl at text dims fits.1

  pub refers-around : RefersAround (all l) r
  refers-around =
      record {
        parent = λ p e.
            let (q, (name, at, meant), has) = own.is_record.parent in
            refers own.file.super_class name p at (meant ∙ (sym has ∙ e));
        interfaces =
            each-from (Contains r.references) r.interfaces
            (λ i on.
            let place = place_of r.interfaces i on in
            let low : place.0 < length own.file.interfaces =
            omega (arith, slice_get_within r.interfaces place.0 i place.1, own.is_record.interfaces.as_many) in
            let told = item_there own.file.interfaces place.0 low in
            let (name, at, meant) = own.is_record.interfaces.each place.0 told.0 i told.1 place.1 in
            refers told.0 name i at meant);
        entries = λ t on.
            let place = place_of r.links (To.Class t) on in
            let (units, at, is) = type-found s own.file r.links own.links place.0 t place.1 in
            type_refers place.0 units t at is;
        fields = λ class m on.
            let place = place_of r.links (To.Field class m) on in
            let found = field-found s own.file r.links own.links place.0 class m place.1 in
            let (entry, pair, there, at, named) = found.0.is_there in (
              refers entry found.0.target class at (found.0.class_is ∙ ap Some found.1),
              subst (λ (x : ClassId). Contains (field_walk (all l) x) m.class) found.1
                  (field_above l ordered self own.file place.0 m found.0),
            );
        methods = λ class m on.
            let place = place_of r.links (To.Method class m) on in
            let found = method-found s own.file r.links own.links place.0 class m place.1 in
            let (entry, pair, there, at, named) = found.0.is_there in (
              refers entry found.0.target class at (found.0.class_is ∙ ap Some found.1),
              subst (λ (x : ClassId). Contains (method_walk (all l) x) m.class) found.1
                  (method_above l ordered self own.file place.0 m found.0),
            );
        types = λ method on. let place = place_of r.methods method on in own_refers l may k r own place.0 method place.1;
      }
