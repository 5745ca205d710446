-- The classes of a folder, put behind the others in their order, make a placed folder.
use Rattle.std.proofs.Common.{◌≡◌, ◌↔◌, ℕ, ◌+◌, ◌-◌, ◌<◌, ◌⊎◌, List, ◌++◌, length, take, drop, get_or, Some, slice_get, inl, inr, refl, sym, ap, subst, ◌∙◌, arith}
use Rattle.std.specs.List.{flat_map, sum_by}
use Rattle.std.proofs.Math.Seq.{drop-append_seam}
use Rattle.std.proofs.lemmas.List.{length-append, take_all}
use Rattle.std.proofs.lemmas.List.Concat.{get_or-flat_map, length-flat_map}
use Rattle.std.proofs.lemmas.Option.{get_or_from_slice_get, slice_get-get_or, slice_get_within}
use Rattle.list_lemmas.proofs.ItemsByPlace.{item_there}
use Rattle.jk_model.specs.declared.class_file.ClassFile.{ClassFile}
use Rattle.jk_model.specs.declared.class_file.MemberInfo.{MemberInfo}
use Rattle.jk_model.specs.declared.identifiers.ClassId.{ClassId}
use Rattle.jk_model.specs.declared.identifiers.DomainId.{DomainId}
use Rattle.jk_model_classes.specs.declared.records.ClassRecord.{ClassRecord}
use Rattle.jk_model_classes.specs.declared.records.Link.{Link}
use Rattle.jk_model_classes.specs.declared.sharing.Offer.{Offer}
use Rattle.jk_model_classes.specs.declared.sharing.ResolverLine.{ResolverLine}
use Rattle.jk_model_classes.specs.SharedRules.{DeclaredAt, folder_methods, methods_before}
use Rattle.jk_model_classes.specs.Worlds.{NamedClass, WorldRecord, class_named}
use Rattle.jk_model_folders.specs.ClassOrder.{IsClassOrder}
use Rattle.jk_model_folders.specs.FolderRules.{IsClassOfFile, IsOwnNamed, IsPlaced, PlacedFolder, link_scope}
use Rattle.jk_model_folders.specs.LinkedClasses.{AreLinksFor, AreThrownBy, IsRecordFor}
use Rattle.folder_loader.specs.ClassesInOrder.{AreDeclared, AreLinksAmong, AreListsOf, AreOfFiles, IsRecordYet, links_in}
use Rattle.folder_loader.specs.FolderTables.{IsFolderTable}
use Rattle.folder_loader.specs.OffersOfLines.{AreOffersOf}
use Rattle.folder_loader.proofs.FilesInTurn.{as_many_made, made_at}
use Rattle.folder_loader.proofs.LinkedRecords.{IsRecordNow, each_empty, first_of_both, linked, linked_made, links_again, lists_go_along, same_sums, unlinked_again}

-- the numbers of methods before a class of those behind others
methods_behind : (base added : List ClassRecord) (first : ClassId) (k n : ℕ) → first.0 ≡ length base → n ≡ length base + k
    → methods_before (base ++ added) first n ≡ sum_by (λ (r : ClassRecord). length r.methods) (take k added)
methods_behind base added first k n is at =
    let rest : drop first.0 (base ++ added) ≡ added = ap (λ (m : ℕ). drop m (base ++ added)) is ∙ drop-append_seam base added in
    let many : n - first.0 ≡ k = omega (arith, is, at) in
    ap (λ (xs : List ClassRecord). sum_by (λ (r : ClassRecord). length r.methods) (take (n - first.0) xs)) rest
    ∙ ap (λ (m : ℕ). sum_by (λ (r : ClassRecord). length r.methods) (take m added)) many

all_methods : (base added : List ClassRecord) (first : ClassId) → first.0 ≡ length base
    → folder_methods (base ++ added) first ≡ sum_by (λ (r : ClassRecord). length r.methods) added
all_methods base added first is =
    methods_behind base added first (length added) (length (base ++ added)) is (length-append base added)
    ∙ ap (λ (xs : List ClassRecord). sum_by (λ (r : ClassRecord). length r.methods) xs) (take_all (length added) added (omega arith))

module _ (w : WorldRecord) (lines : List ResolverLine) (files : List ClassFile) (names : List NamedClass) (home : DomainId) (order : List ℕ)
    (table : List NamedClass) (offers : List Offer) (added : List ClassRecord) (links : List (List Link)) (declared : List (List ClassId)) where
  abbrev pub folder : PlacedFolder
  folder = record {
    home = home;
    order = order;
    unlinked = w.classes ++ added;
    classes = w.classes ++ linked added links;
    table = table;
    offers = offers;
    declared = declared;
  }

  abbrev first : ClassId
  first = record { 0 = length w.classes }

  table_of : IsFolderTable files order (length w.classes) names table → (name : List ℕ) (c : ClassId)
      → (class_named table name ≡ Some c) ↔ ((class_named names name ≡ Some c) ⊎ IsOwnNamed (length w.classes) files folder name c)
  table_of means name c = (
    λ is. elim ((means name c).0 is) [
      | inl outer ↦ inl outer
      | inr own ↦ inr (own.1, own.2, own.5, own.6, (own.0, own.4, own.7))
    ],
    λ its. elim its [
      | inl outer ↦ (means name c).1 (inl outer)
      | inr own ↦
          (means name c).1
          (inr (own.4.0, own.0, own.1, slice_get_within order own.4.0 own.0 own.4.1, own.4.1, own.2, own.3, own.4.2))
    ],
  )

  module _ (is : IsClassOrder files order) (records : AreOfFiles (IsRecordYet table home) files order added)
      (own_links : AreOfFiles (AreLinksAmong table (w.classes ++ added)) files order links) (thrown : AreDeclared table files order declared) where
    abbrev groups : List (List (List ClassId))
    groups = thrown.0

    many_added : length added ≡ length order
    many_added = as_many_made (IsRecordYet table home) files order added records

    many_links : length links ≡ length added
    many_links = as_many_made (AreLinksAmong table (w.classes ++ added)) files order links own_links ∙ sym many_added

    now : AreOfFiles (IsRecordNow table home (w.classes ++ added)) files order (linked added links)
    now = linked_made table home files (w.classes ++ added) order added links records own_links

    many_now : length (linked added links) ≡ length files
    many_now = as_many_made (IsRecordNow table home (w.classes ++ added)) files order (linked added links) now ∙ is.as_many

    record_at : (k i : ℕ) (c : ClassFile) (r : ClassRecord) → slice_get order k ≡ Some i → slice_get files i ≡ Some c
        → slice_get (linked added links) k ≡ Some r
        → IsRecordFor (link_scope folder (record { 0 = length w.classes + k })) home c r
        × AreLinksFor (link_scope folder (record { 0 = length w.classes + k })) c r.links
    record_at k i c r at of_c of_r =
        let its = made_at (IsRecordNow table home (w.classes ++ added)) files order (linked added links) now k i c r at of_c of_r in (
          its.0 (link_scope folder (record { 0 = length w.classes + k })) (λ name. refl),
          its.1 (link_scope folder (record { 0 = length w.classes + k })) (λ name. refl) refl,
        )

    many_groups : length groups ≡ length order
    many_groups = as_many_made (AreListsOf table) files order groups thrown.1

    count : length declared ≡ folder_methods (w.classes ++ linked added links) first
    count =
        let along = lists_go_along table home files (w.classes ++ added) order (linked added links) groups is.places now thrown.1 in
        ap (λ (xs : List (List ClassId)). length xs) thrown.2 ∙ length-flat_map (λ (g : List (List ClassId)). g) groups
        ∙ same_sums groups (linked added links) along ∙ sym (all_methods w.classes (linked added links) first refl)

    -- the lists before those of a class
    before : (k n : ℕ) → n ≡ length w.classes + k
        → methods_before (w.classes ++ linked added links) first n ≡ length (flat_map (λ (g : List (List ClassId)). g) (take k groups))
    before k n at =
        let along = lists_go_along table home files (w.classes ++ added) order (linked added links) groups is.places now thrown.1 in
        let some = first_of_both (λ (lists : List (List ClassId)) (r : ClassRecord). length lists ≡ length r.methods) k groups (linked added links) along in
        methods_behind w.classes (linked added links) first k n refl at ∙ sym (same_sums (take k groups) (take k (linked added links)) some)
        ∙ sym (length-flat_map (λ (g : List (List ClassId)). g) (take k groups))

    thrown_at : (i j : ℕ) (c : ClassFile) (self : ClassId) (info : MemberInfo) (list : List ClassId) → slice_get files i ≡ Some c
        → IsClassOfFile (length w.classes) folder i self → slice_get c.methods j ≡ Some info
        → DeclaredAt (w.classes ++ linked added links) first declared self j list → AreThrownBy (link_scope folder self) c info list
    thrown_at i j c self info list of_c (k, at, number) of_info said =
        let group = item_there groups k (omega (arith, many_groups, slice_get_within order k i at)) in
        let along = made_at (AreListsOf table) files order groups thrown.1 k i c group.0 at of_c group.1 (link_scope folder self) (λ name. refl) in
        let within : j < length group.0 = omega (arith, along.as_many, slice_get_within c.methods j info of_info) in
        let its : get_or groups k group.0 ≡ group.0 = get_or_from_slice_get groups k group.0 group.0 group.1 in
        let within_its : j < length (get_or groups k group.0) = subst (λ (g : List (List ClassId)). j < length g) (sym its) within in
        let place : slice_get declared (length (flat_map (λ (g : List (List ClassId)). g) (take k groups)) + j) ≡ Some list =
        subst (λ (n : ℕ). slice_get declared (n + j) ≡ Some list) (before k self.0 number) said in
        let joined : slice_get (flat_map (λ (g : List (List ClassId)). g) groups) (length (flat_map (λ (g : List (List ClassId)). g) (take k groups)) + j)
        ≡ Some list =
        subst (λ (xs : List (List ClassId)). slice_get xs (length (flat_map (λ (g : List (List ClassId)). g) (take k groups)) + j) ≡ Some list)
        thrown.2 place in
        let found : get_or (flat_map (λ (g : List (List ClassId)). g) groups) (length (flat_map (λ (g : List (List ClassId)). g) (take k groups)) + j) list
        ≡ list =
        get_or_from_slice_get (flat_map (λ (g : List (List ClassId)). g) groups)
        (length (flat_map (λ (g : List (List ClassId)). g) (take k groups)) + j) list list joined in
        let in_group : get_or (get_or groups k group.0) j list ≡ list =
        sym (get_or-flat_map (λ (g : List (List ClassId)). g) groups k j group.0 list (slice_get_within groups k group.0 group.1) within_its) ∙ found in
        let read : get_or group.0 j list ≡ list = subst (λ (g : List (List ClassId)). get_or g j list ≡ list) its in_group in
        along.each j info list of_info (slice_get-get_or group.0 j list within ∙ ap Some read)

    pub is_placed : home.0 ≡ length w.domains → IsFolderTable files order (length w.classes) names table
        → ((i j : ℕ) (a b : NamedClass) → slice_get table i ≡ Some a → slice_get table j ≡ Some b → a.name ≡ b.name → i ≡ j)
        → AreOffersOf table lines offers → (it : IsPlaced w lines files names folder) × (links ≡ links_in it.added)
    is_placed own_home means differ offered =
        let it : IsPlaced w lines files names folder = record {
          home = own_home;
          order = is;
          added = linked added links;
          unlinked = ap (λ (xs : List ClassRecord). w.classes ++ xs)
              (sym (unlinked_again added links many_links (each_empty table home files order added is.places records)));
          classes = refl;
          as_many = many_now;
          records = record_at;
          table = table_of means;
          names_differ = differ;
          offers = offered;
          declared_count = count;
          declared = thrown_at;
        } in
        (it, sym (links_again added links many_links))
