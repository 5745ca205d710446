-- One class more has its name and number.
use Rattle.std.proofs.Common.{◌≡◌, ℕ, ◌+◌, Some, length, get_or, slice_get, refl, sym, ap, subst, ◌∙◌, arith}
use Rattle.std.specs.Prelude.{List, Contains, option_map}
use Rattle.std.proofs.lemmas.List.Elements.{All-contains, All-from_recursion}
use Rattle.std.proofs.lemmas.Option.{slice_get-get_or, slice_get-map, slice_get_read}
use Rattle.jk_model.specs.declared.class_file.PoolEntry.{PoolEntry}
use Rattle.jk_model_classes.specs.Members.{ClassAt}
use Rattle.jk_model_classes.specs.References.{IsCalledClass}
use Rattle.jk_model_classes.specs.Worlds.{NamedClass}
use Rattle.class_texts.specs.PoolTexts.{AreTextsOf}
use Rattle.class_files.specs.declared.folder_class.FolderClass.{FolderClass}
use Rattle.class_files.specs.FolderClasses.{IsReadClass, files_of}
use Rattle.folder_loader.specs.FolderTables.{IsTableUpTo}
use Rattle.folder_loader.proofs.TableInTurn.{table_next, table_skip}
use Rattle.folder_loader.proofs.table.folder_table.Goals as goal
use Rattle.folder_loader.proofs.table.folder_table.Goals.{in-Some+in_ok-give, in_default}

pub class_name-requires : goal.class_name-requires
class_name-requires c =
    let file = get_or c.args.order.now c.loop-place.place 0 in
    let own = slice_get-get_or c.args.order.now c.loop-place.place 0 c.loop-place-test.true in
    let there : Contains c.args.classes.now c.index-classes-file.result =
    (file, c.requires.places c.loop-place.place file own, sym c.index-classes-file.is) in
    let read : IsReadClass c.index-classes-file.result =
    All-contains IsReadClass c.args.classes.now c.index-classes-file.result (All-from_recursion IsReadClass c.args.classes.now c.requires.read) there in
    subst (λ (p : List PoolEntry). AreTextsOf p c.index-classes-file.result.texts) (sym c.as_slice-pool.ensures) read.texts

pub loop-place-preserved : goal.loop-place-preserved
loop-place-preserved c =
    let cs = files_of c.args.classes.now in
    let order = c.args.order.now in
    let n = c.loop-place.place in
    let i = get_or order n 0 in
    let file = c.index-classes-file.result.file in
    let own : slice_get order n ≡ Some i = slice_get-get_or order n 0 c.loop-place-test.true in
    let at : slice_get c.args.classes.now i ≡ Some c.index-classes-file.result =
    slice_get_read c.args.classes.now (length c.args.classes.now) i c.index-classes-file.result refl (c.requires.places n i own) c.index-classes-file.is in
    let of_file : slice_get cs i ≡ Some file =
    slice_get-map (λ (f : FolderClass). f.file) c.args.classes.now i ∙ ap (option_map (λ (f : FolderClass). f.file)) at in
    elim c.match-class_name.branch [
      | in-Some+in_ok-give w ↦
          let called : IsCalledClass file w.in-Some.name.now =
          subst (λ (p : List PoolEntry). ClassAt p file.this_class w.in-Some.name.now) c.as_slice-pool.ensures w.in-Some.ensures in
          subst (λ (t : List NamedClass). IsTableUpTo cs order c.args.first (n + 1) c.args.names t) (sym w.names-is)
          (table_next cs order c.args.first c.args.names n i file own of_file w.in-Some.name.now c.loop-place.names w.give.new.self w.in_ok-give.field-0
          c.requires.differ c.requires.outer c.requires.once c.loop-place.invariant called w.in_ok-give.ensures.given)
      | in_default w ↦
          let nameless : (units : List ℕ) → ClassAt c.as_slice-pool.result.now file.this_class units → ⊥ = rw w.in_default.is at c.class_name.ensures in
          let unnamed : (units : List ℕ) → IsCalledClass file units → ⊥ =
          subst (λ (p : List PoolEntry). (units : List ℕ) → ClassAt p file.this_class units → ⊥) c.as_slice-pool.ensures nameless in
          subst (λ (t : List NamedClass). IsTableUpTo cs order c.args.first (n + 1) c.args.names t) (sym w.names-is)
          (table_skip cs order c.args.first c.args.names n i file own of_file c.loop-place.names c.loop-place.invariant unnamed)
    ]

pub returns : goal.returns
returns c =
    let all : c.loop-place.place ≡ length c.args.order.now = omega arith in
    subst (λ (k : ℕ). IsTableUpTo (files_of c.args.classes.now) c.args.order.now c.args.first k c.args.names c.loop-place.names) all c.loop-place.invariant
