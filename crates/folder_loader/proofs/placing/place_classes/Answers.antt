-- After an error the classes that were added are cut.
use Rattle.std.proofs.Common.{length, ap, ◌∙◌}
use Rattle.std.specs.Prelude.{List}
use Rattle.jk_model_classes.specs.declared.records.ClassRecord.{ClassRecord}
use Rattle.folder_loader.proofs.ClassesCut.{cut_back}
use Rattle.folder_loader.proofs.placing.place_classes.Goals as goal

pub returns-in-Err-clause-err : goal.returns-in-Err-clause-err
returns-in-Err-clause-err c =
    cut_back c.args.world.now c.classes_behind.new.world c.cut_classes.new.self c.len.result c.in-Err.ensures.err
    (c.len.ensures.count ∙ ap (λ (xs : List ClassRecord). length xs) c.classes.ensures) c.cut_classes.ensures
