-- The classes of the table are those of the world; what the import says, and what is said of the names that are new.
use Rattle.std.proofs.Common.{inl}
use Rattle.jk_model_folders.specs.FolderRules.{class_paths}
use Rattle.resolver_rules.proofs.NamesJudged.{judged, own_after}
use Rattle.resolver_rules.proofs.imports.bring.Goals as goal

pub import-requires : goal.import-requires
import-requires c = record { there = rw c.classes.ensures c.requires.class; references = rw c.classes.ensures c.requires.world.records }

pub returns-then-not-branch : goal.returns-then-not-branch
returns-then-not-branch c =
    let clash = rw c.classes.ensures at (rw c.if-not-branch.true at c.in_ok-import.ensures.done) in
    record { imported = rw c.classes.ensures at c.in_ok-import.ensures.some; taken = inl clash }

pub are_free-requires : goal.are_free-requires
are_free-requires c =
    rw c.classes-2.ensures (own_after c.args.w.now.classes c.args.names.now c.import.new.self c.args.class c.requires.own
    (rw c.classes.ensures at c.in_ok-import.ensures.some))

pub returns : goal.returns
returns c =
    let import = rw c.classes.ensures at (rw c.if-not-branch.false at c.in_ok-import.ensures.done) in
    judged (class_paths c.args.folder.now) c.args.w.now.classes c.args.names.now c.import.new.self c.args.class c.are_free.result
    (rw c.len-first.ensures at c.are_free.ensures) import c.names_differ.ensures
