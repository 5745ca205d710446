-- The classes of a placed folder have the records of their files, with their links and without.
use Rattle.std.proofs.Common.{◌≡◌, ℕ, ◌+◌, List, length, map, Some, slice_get, sym, ap, subst, ◌∙◌, arith, length-append}
use Rattle.std.specs.Prelude.{option_map}
use Rattle.std.proofs.lemmas.List.{length-map}
use Rattle.std.proofs.lemmas.Option.{same_Some, slice_get-map, slice_get_within}
use Rattle.list_lemmas.proofs.ItemsByPlace.{slice_get-behind, item_there}
use Rattle.jk_model.specs.declared.class_file.ClassFile.{ClassFile}
use Rattle.jk_model.specs.declared.identifiers.ClassId.{ClassId}
use Rattle.jk_model.specs.declared.identifiers.DomainId.{DomainId}
use Rattle.jk_model_classes.specs.declared.records.ClassRecord.{ClassRecord}
use Rattle.jk_model_classes.specs.declared.records.Link.{Link}
use Rattle.jk_model_classes.specs.declared.sharing.ResolverLine.{ResolverLine}
use Rattle.jk_model_classes.specs.Classes.{record_of}
use Rattle.jk_model_classes.specs.LinkRules.{LinkScope}
use Rattle.jk_model_classes.specs.Worlds.{NamedClass, WorldRecord}
use Rattle.jk_model_folders.specs.FolderRules.{IsPlaced, PlacedFolder, link_scope}
use Rattle.jk_model_folders.specs.LinkedClasses.{AreLinksFor, IsRecordFor, without_links}
use Rattle.placed_rules.specs.PlacedFaults.{AreLinkedIn, AreRecorded, IsLinkedAt, class_at, scope_at}

-- no part of a record that the file gives is a link
unlinked_record : (s : LinkScope) (home : DomainId) (c : ClassFile) (r : ClassRecord) → IsRecordFor s home c r → IsRecordFor s home c (without_links r)
unlinked_record s home c r h = record {
  name = h.name;
  at_home = h.at_home;
  flags = h.flags;
  parent = h.parent;
  interfaces = h.interfaces;
  fields = h.fields;
  methods = h.methods;
  references = h.references;
}

module _ (w : WorldRecord) (lines : List ResolverLine) (cs : List ClassFile) (names : List NamedClass) (p : PlacedFolder)
    (h : IsPlaced w lines cs names p) where
  abbrev first : ClassId
  first = record { 0 = length w.classes }

  added_at : (k i : ℕ) → slice_get p.order k ≡ Some i → (r : ClassRecord) × (slice_get h.added k ≡ Some r)
  added_at k i at =
      let inside = slice_get_within p.order k i at in
      item_there h.added k (omega (arith, inside, h.order.as_many, h.as_many))

  its_record : (k i : ℕ) (c : ClassFile) → slice_get p.order k ≡ Some i → slice_get cs i ≡ Some c
      → (s : LinkScope) × (home : DomainId) × (r : ClassRecord) × (record_of p.classes (class_at first k) ≡ Some r) × IsRecordFor s home c r
  its_record k i c at there =
      let r = added_at k i at in
      let known : slice_get p.classes (length w.classes + k) ≡ Some r.0 =
      ap (λ (t : List ClassRecord). slice_get t (length w.classes + k)) h.classes ∙ slice_get-behind w.classes h.added k ∙ r.1 in
      (link_scope p (class_at first k), p.home, r.0, known, (h.records k i c r.0 at there r.1).0)

  pub recorded_of : AreRecorded p.classes first p.order cs
  recorded_of = record {
    as_many = omega (arith, ap (λ (t : List ClassRecord). length t) h.classes, length-append w.classes h.added, h.as_many, h.order.as_many);
    each = its_record;
  }

  abbrev links_of : List (List Link)
  links_of = map (λ (r : ClassRecord). r.links) h.added

  its_links : (k i : ℕ) (c : ClassFile) (own : List Link) → slice_get p.order k ≡ Some i → slice_get cs i ≡ Some c → slice_get links_of k ≡ Some own
      → IsLinkedAt (scope_at p.unlinked p.table (class_at first k)) c own
  its_links k i c own at there of_k =
      let r = added_at k i at in
      let told = h.records k i c r.0 at there r.1 in
      let bare : slice_get (map without_links h.added) k ≡ Some (without_links r.0) =
      slice_get-map without_links h.added k ∙ ap (option_map without_links) r.1 in
      let known : slice_get p.unlinked (length w.classes + k) ≡ Some (without_links r.0) =
      ap (λ (t : List ClassRecord). slice_get t (length w.classes + k)) h.unlinked ∙ slice_get-behind w.classes (map without_links h.added) k ∙ bare in
      let of_record : slice_get links_of k ≡ Some r.0.links =
      slice_get-map (λ (x : ClassRecord). x.links) h.added k ∙ ap (option_map (λ (x : ClassRecord). x.links)) r.1 in
      let same : r.0.links ≡ own = same_Some r.0.links own (sym of_record ∙ of_k) in
      let scope : LinkScope = scope_at p.unlinked p.table (class_at first k) in
      (p.home, without_links r.0, known, unlinked_record scope p.home c r.0 told.0, subst (λ (x : List Link). AreLinksFor scope c x) same told.1)

  pub linked_of : AreLinkedIn p.unlinked p.table first p.order cs links_of
  linked_of = record {
    as_many = omega (arith, length-map h.added (λ (x : ClassRecord). x.links), h.as_many, h.order.as_many);
    each = its_links;
  }
