-- The order and the names are as the rules on names leave them.
use Rattle.std.proofs.Common.{◌≡◌, ℕ, List, Some, length, slice_get, ap, refl, subst, sym, ◌∙◌, arith}
use Rattle.jk_model_classes.specs.declared.records.ClassRecord.{ClassRecord}
use Rattle.jk_model_folders.specs.ClassOrder.{IsClassOrder}
use Rattle.name_rules.proofs.FolderGraph.{as_many_files}
use Rattle.class_files.specs.FolderClasses.{files_of}
use Rattle.folder_loader.specs.FolderTables.{IsFolderTable}
use Rattle.folder_loader.proofs.OrderOfClasses.{in_order, place_once}
use Rattle.folder_loader.proofs.NamesAreKnown.{all_linkable, no_ring}
use Rattle.folder_loader.proofs.arranged.arranged.Goals as goal

pub class_order-requires-clause-no_ring : goal.class_order-requires-clause-no_ring
class_order-requires-clause-no_ring c = no_ring c.args.world.now _ c.args.outer c.requires.named

pub folder_table-requires-clause-places : goal.folder_table-requires-clause-places
folder_table-requires-clause-places c = λ k i at.
    let own : slice_get c.in_ok-order.order.items k ≡ Some i = subst (λ (xs : List ℕ). slice_get xs k ≡ Some i) c.as_slice.ensures.value at in
    omega (arith, c.in_ok-order.ensures.places k i own, as_many_files c.args.classes.now)

pub folder_table-requires-clause-once : goal.folder_table-requires-clause-once
folder_table-requires-clause-once c =
    subst (λ (xs : List ℕ). (k l i : ℕ) → slice_get xs k ≡ Some i → slice_get xs l ≡ Some i → k ≡ l) (sym c.as_slice.ensures.value)
    (place_once (files_of c.args.classes.now) c.in_ok-order.order.items c.in_ok-order.ensures)

pub returns : goal.returns
returns c =
    let w = c.args.world.now in
    let files = files_of c.args.classes.now in
    let order = c.in_ok-order.order.items in
    let is : IsClassOrder files order = c.in_ok-order.ensures in
    let first : c.len.result ≡ length w.classes = c.len.ensures.count ∙ ap (λ (xs : List ClassRecord). length xs) c.classes.ensures in
    let table : IsFolderTable files order c.len.result c.args.outer c.in_ok-names.names =
    subst (λ (xs : List ℕ). IsFolderTable files xs c.len.result c.args.outer c.in_ok-names.names) c.as_slice.ensures.value c.in_ok-names.ensures in
    record {
      first_is = first;
      order = is;
      table = table;
      names_differ = c.names_differ.ensures;
      linkable = all_linkable w files c.args.outer c.requires.named order is c.len.result c.in_ok-names.names table c.args.classes.now refl c.requires.read;
      stand = in_order files order is c.len.result c.args.outer c.in_ok-names.names (no_ring w files c.args.outer c.requires.named)
          (λ name class at. omega (arith, c.requires.linkable.1.named name class at, first)) table;
    }
