-- The classes stand behind the others in their order, and their links are at hand.
use Rattle.std.proofs.Common.{◌≡◌, ◌++◌, ℕ, length, refl, ap, subst, sym, ◌∙◌}
use Rattle.std.specs.Prelude.{List}
use Rattle.jk_model.specs.declared.identifiers.DomainId.{DomainId}
use Rattle.jk_model_classes.specs.declared.records.ClassRecord.{ClassRecord}
use Rattle.jk_model_classes.specs.declared.sharing.ResolverLine.{ResolverLine}
use Rattle.jk_model_classes.specs.Worlds.{WorldRecord}
use Rattle.class_files.specs.FolderClasses.{files_of}
use Rattle.folder_loader.specs.ClassesInOrder.{AreDeclared, AreLinksAmong, AreOfFiles, HasRecords, IsArranged, StandInOrder}
use Rattle.folder_loader.specs.FolderTables.{IsFolderTable}
use Rattle.folder_loader.specs.OffersOfLines.{AreOffersOf}
use Rattle.folder_loader.proofs.FilesRead.{in_range}
use Rattle.folder_loader.proofs.PlacedFolders.{folder, is_placed}
use Rattle.folder_loader.proofs.placed.placed_classes.Goals as goal

pub declared_by-requires-clause-places : goal.declared_by-requires-clause-places
declared_by-requires-clause-places c = in_range c.args.classes.now _ _ c.as_slice-order.ensures.value c.in_ok-a.ensures.order

pub add_classes-requires-clause-places : goal.add_classes-requires-clause-places
add_classes-requires-clause-places c = in_range c.args.classes.now _ _ c.as_slice-order.ensures.value c.in_ok-a.ensures.order

pub links_of-requires-clause-places : goal.links_of-requires-clause-places
links_of-requires-clause-places c = in_range c.args.classes.now _ _ c.as_slice-order.ensures.value c.in_ok-a.ensures.order

pub add_classes-requires-clause-stand : goal.add_classes-requires-clause-stand
add_classes-requires-clause-stand c =
    let files = files_of c.args.classes.now in
    let is : IsArranged c.args.world.now files c.args.outer.names c.in_ok-a.a = c.in_ok-a.ensures in
    let stand : StandInOrder files c.in_ok-a.a.order.items (length c.args.world.now.classes) c.in_ok-a.a.names =
    subst (λ (n : ℕ). StandInOrder files c.in_ok-a.a.order.items n c.in_ok-a.a.names) is.first_is is.stand in
    subst (λ (xs : List ℕ). StandInOrder files xs (length c.args.world.now.classes) c.in_ok-a.a.names) (sym c.as_slice-order.ensures.value) stand

pub returns-clause-ok : goal.returns-clause-ok
returns-clause-ok c =
    let w = c.args.world.now in
    let new = c.add_classes.new.world in
    let files = files_of c.args.classes.now in
    let a = c.in_ok-a.a in
    let order = a.order.items in
    let home : DomainId = record { 0 = c.domain_count.result } in
    let is : IsArranged w files c.args.outer.names a = c.in_ok-a.ensures in
    let slice : c.as_slice-order.result.now ≡ order = c.as_slice-order.ensures.value in
    let records : HasRecords a.names home files order w new =
    subst (λ (xs : List ℕ). HasRecords a.names home files xs w new) slice c.in_ok-add_classes.ensures.ok in
    let classes : c.classes.result.now ≡ w.classes ++ records.0 = c.classes.ensures ∙ ap (λ (v : WorldRecord). v.classes) records.1 in
    let links : AreOfFiles (AreLinksAmong a.names (w.classes ++ records.0)) files order c.in_ok-links.links =
    subst (λ (t : List ClassRecord). AreOfFiles (AreLinksAmong a.names t) files order c.in_ok-links.links) classes
    (subst (λ (xs : List ℕ). AreOfFiles (AreLinksAmong a.names c.classes.result.now) files xs c.in_ok-links.links) slice c.in_ok-links.ensures) in
    let declared : AreDeclared a.names files order c.in_ok-declared.declared =
    subst (λ (xs : List ℕ). AreDeclared a.names files xs c.in_ok-declared.declared) slice c.in_ok-declared.ensures in
    let offers : AreOffersOf a.names c.args.outer.lines c.in_ok-offers.offers =
    subst (λ (ls : List ResolverLine). AreOffersOf a.names ls c.in_ok-offers.offers) c.as_slice.ensures c.in_ok-offers.ensures in
    let table : IsFolderTable files order (length w.classes) c.args.outer.names a.names =
    subst (λ (n : ℕ). IsFolderTable files order n c.args.outer.names a.names) is.first_is is.table in
    let placed =
    is_placed w c.args.outer.lines files c.args.outer.names home order a.names c.in_ok-offers.offers records.0 c.in_ok-links.links c.in_ok-declared.declared
    is.order records.2 links declared c.domain_count.ensures.count table is.names_differ offers in (
      record {
        placed = folder w c.args.outer.lines files c.args.outer.names home order a.names c.in_ok-offers.offers records.0 c.in_ok-links.links
            c.in_ok-declared.declared;
        is_placed = placed.0;
        first_is = is.first_is;
        home_is = refl;
        order_is = refl;
        table_is = refl;
        offers_are = refl;
        declared_are = refl;
      },
      placed.1,
      records.1,
    )
