-- The order of the graph's places is that of the classes.
use Rattle.std.proofs.Common.{◌≡◌, ◌<◌, ℕ, List, length, Some, slice_get, subst, sym, arith}
use Rattle.std.specs.Global.{Vec}
use Rattle.list_lemmas.proofs.AnswersTold.{ok_map}
use Rattle.jk_model_folders.specs.ClassOrder.{IsClassOrder}
use Rattle.class_files.specs.FolderClasses.{files_of}
use Rattle.name_rules.specs.Graphs.{AreHeights, HasNoRing, IsOrderOf, IsSquare, Rows}
use Rattle.name_rules.proofs.FolderGraph.{class_order, names_of, no_ring}
use Rattle.name_rules.proofs.folder_order.class_order.Goals as goal

pub heights-requires-clause-square : goal.heights-requires-clause-square
heights-requires-clause-square c = subst (λ (rows : Rows). IsSquare rows) (sym c.deref.ensures.value) c.in_ok-rows.ensures.square

pub heights-requires-clause-no_ring : goal.heights-requires-clause-no_ring
heights-requires-clause-no_ring c =
    let folder = c.args.folder.now in
    subst (λ (rows : Rows). HasNoRing rows) (sym c.deref.ensures.value)
    (no_ring (files_of folder) c.args.own.now c.in_ok-rows.rows.items c.requires.own c.in_ok-rows.ensures (names_of folder c.requires.read) c.requires.no_ring)

pub by_height-requires : goal.by_height-requires
by_height-requires c =
    let heights = c.in_ok-heights.heights.items in
    subst (λ (all : List ℕ). (i n : ℕ) → slice_get all i ≡ Some n → n < length all) (sym c.deref-2.ensures.value)
    (λ i n at. let low = (c.in_ok-heights.ensures.each i n at).1 in omega (arith, low, c.in_ok-heights.ensures.as_many))

pub returns : goal.returns
returns c =
    let folder = c.args.folder.now in
    let files = files_of folder in
    let rows = c.in_ok-rows.rows.items in
    let heights = c.deref-2.result.now in
    let high : AreHeights rows heights =
    subst (λ (all : List ℕ). AreHeights rows all) (sym c.deref-2.ensures.value)
    (subst (λ (r : Rows). AreHeights r c.in_ok-heights.heights.items) c.deref.ensures.value c.in_ok-heights.ensures) in
    ok_map (λ (order : Vec ℕ). IsOrderOf heights order.items) (λ (order : Vec ℕ). IsClassOrder files order.items) c.by_height.result
    (λ order h. class_order files c.args.own.now rows c.requires.own c.in_ok-rows.ensures (names_of folder c.requires.read) heights order.items high h)
    c.by_height.ensures
