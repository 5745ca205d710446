-- C25 to C27 are judged where the classes have their links.
use Rattle.std.proofs.Common.{sym, ap, subst, ◌∙◌}
use Rattle.jk_model_classes.specs.Worlds.{WorldRecord}
use Rattle.jk_model_folders.specs.FolderRules.{BreaksPlaced, IsFirstBroken, placed_rules}
use Rattle.class_files.proofs.FirstOfFiles.{same_fault}
use Rattle.class_files.specs.declared.faults.FileFault.{FileFault}
use Rattle.class_files.specs.FolderClasses.{files_of}
use Rattle.placed_rules.specs.PlacedFaults.{IsSharedAs}
use Rattle.folder_loader.proofs.RulesMet.{in_order, linked_as, recorded}
use Rattle.folder_loader.proofs.judged_classes.judge_shared.Goals as goal

pub returns-in-Some-clause-fault : goal.returns-in-Some-clause-fault
returns-in-Some-clause-fault c = λ fault e paths w lines names is ew keep.
    let files = files_of c.args.classes.now in
    let order = c.as_slice-order.result.now in
    let x = c.args.placed.now in
    let classes = ap (λ (v : WorldRecord). v.classes) ew in
    let shared : IsSharedAs w is.placed c.args.world.now x.home x.offers c.as_slice-declared.result.now = record {
      world = ew;
      home_is = sym is.home_is;
      offers_are = sym is.offers_are;
      declared_are = sym is.declared_are ∙ sym c.as_slice-declared.ensures;
    } in
    subst (λ (f : FileFault). IsFirstBroken placed_rules (BreaksPlaced w files is.placed) f.rule f.file f.number) (same_fault _ _ e)
    (c.in-Some.ensures.fault w files is.placed (in_order w lines files names x is order c.as_slice-order.ensures.value)
    (recorded w lines files names x is c.args.world.now.classes order classes c.as_slice-order.ensures.value) paths
    (linked_as w lines files names x is c.args.world.now.classes order classes c.as_slice-order.ensures.value) shared keep)

pub returns-in-None-clause-none : goal.returns-in-None-clause-none
returns-in-None-clause-none c = λ w lines names is ew.
    let files = files_of c.args.classes.now in
    let order = c.as_slice-order.result.now in
    let x = c.args.placed.now in
    let classes = ap (λ (v : WorldRecord). v.classes) ew in
    let shared : IsSharedAs w is.placed c.args.world.now x.home x.offers c.as_slice-declared.result.now = record {
      world = ew;
      home_is = sym is.home_is;
      offers_are = sym is.offers_are;
      declared_are = sym is.declared_are ∙ sym c.as_slice-declared.ensures;
    } in
    c.in-None.ensures.none w files is.placed
    (linked_as w lines files names x is c.args.world.now.classes order classes c.as_slice-order.ensures.value) shared
