-- Each entry is of a class whose own name is its name.
use Rattle.std.proofs.Common.{arith}
use Rattle.std.proofs.lemmas.Bool.{iff_false}
use Rattle.jk_model_folders.specs.FolderRules.{class_paths}
use Rattle.domain_resolver.proofs.ReachedClassesNamed.{entry_at}
use Rattle.resolver_rules.proofs.NamesJudged.{all_free, free_further, taken_here}
use Rattle.resolver_rules.proofs.judged.are_free.Goals as goal

pub returns-then-is_taken_class : goal.returns-then-is_taken_class
returns-then-is_taken_class c =
    let here = entry_at c.args.names.now c.loop-place.place c.in-Some.class c.in-Some.ensures in
    taken_here (class_paths c.args.folder.now) c.args.classes.now c.args.names.now c.requires c.args.first c.loop-place.place c.in-Some.class here
    (omega arith) (c.is_taken_class.ensures.0 c.if-is_taken_class.true)

pub loop-place-preserved : goal.loop-place-preserved
loop-place-preserved c =
    let here = entry_at c.args.names.now c.loop-place.place c.in-Some.class c.in-Some.ensures in
    free_further (class_paths c.args.folder.now) c.args.classes.now c.args.names.now c.requires c.args.first c.loop-place.place c.in-Some.class here
    (iff_false c.is_taken_class.ensures c.if-is_taken_class.false) c.loop-place.invariant

pub returns : goal.returns
returns c =
    all_free (class_paths c.args.folder.now) c.args.names.now c.args.first c.loop-place.place (omega arith) c.loop-place.invariant
