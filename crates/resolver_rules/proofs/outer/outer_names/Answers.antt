-- The folder is that of the files; the lines keep both rules, and the names are those that they bring in and those of the system.
use Rattle.std.proofs.Common.{List, length, subst}
use Rattle.jk_model_classes.specs.declared.sharing.ResolverLine.{ResolverLine}
use Rattle.jk_model_folders.specs.declared.files.FolderFiles.{FolderFiles}
use Rattle.jk_model_folders.specs.FolderRules.{HasGoodLines}
use Rattle.resolver_rules.specs.Imported.{AreBrought}
use Rattle.resolver_rules.proofs.LinesBringIn.{good_lines}
use Rattle.resolver_rules.proofs.SystemNamesGiven.{brought_agrees, has_classes, outer_names}
use Rattle.resolver_rules.proofs.outer.outer_names.Goals as goal

pub give_system_names-requires-clause-agrees : goal.give_system_names-requires-clause-agrees
give_system_names-requires-clause-agrees c =
    brought_agrees c.in_ok-folder.folder c.args.w.now c.args.into.now c.as_slice.result.now c.in_ok-names.names c.in_ok-names.ensures.brought

pub returns-clause-good : goal.returns-clause-good
returns-clause-good c =
    let brought = subst (λ (ls : List ResolverLine). AreBrought c.in_ok-folder.folder c.args.w.now c.args.into.now ls (length ls) c.in_ok-names.names)
    c.as_slice.ensures c.in_ok-names.ensures.brought in
    let good = good_lines c.in_ok-folder.folder c.args.w.now c.args.into.now c.in_ok-lines.lines c.in_ok-names.names c.in_ok-lines.ensures.says
    c.in_ok-lines.ensures.shares brought in
    subst (λ (f : FolderFiles). HasGoodLines f c.args.w.now c.args.into.now c.in_ok-lines.lines) c.in_ok-folder.ensures good

pub returns-clause-names : goal.returns-clause-names
returns-clause-names c =
    let brought = subst (λ (ls : List ResolverLine). AreBrought c.in_ok-folder.folder c.args.w.now c.args.into.now ls (length ls) c.in_ok-names.names)
    c.as_slice.ensures c.in_ok-names.ensures.brought in
    outer_names c.in_ok-folder.folder c.args.w.now c.args.into.now c.in_ok-lines.lines c.in_ok-names.names brought c.give_system_names.new.names
    c.in_ok-give_system_names.ensures c.names_differ.ensures

pub returns-clause-classes : goal.returns-clause-classes
returns-clause-classes c =
    has_classes c.in_ok-folder.folder c.args.w.now c.args.into.now c.as_slice.result.now c.in_ok-names.names c.in_ok-names.ensures.brought
    c.give_system_names.new.names c.in_ok-give_system_names.ensures c.requires.system
