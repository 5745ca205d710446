-- One more catch entry.
use Rattle.std.proofs.Common.{List, arith, subst}
use Rattle.list_lemmas.proofs.ItemByItem.{zip_more}
use Rattle.jk_model.specs.declared.class_file.Handler.{Handler}
use Rattle.jk_model_folders.specs.LinkedClasses.{GoAlong, IsCaughtFor}
use Rattle.class_linker.specs.KnownCodes.{HasPlaces}
use Rattle.class_linker.proofs.ItemByItem.{along_all, read_at}
use Rattle.class_linker.proofs.code.linked_handlers.Goals as goal

pub caught-requires-clause-places : goal.caught-requires-clause-places
caught-requires-clause-places c =
    read_at
    (HasPlaces c.args.scope.now.file.now.pool c.args.code.now c.args.instrs.now) c.as_slice-handler-items.result.now c.args.code.now.handlers
    c.as_slice-handler-items.ensures
    c.requires.places c.loop-handler.handler-index _ (omega arith)

pub loop-handler-preserved : goal.loop-handler-preserved
loop-handler-preserved c = λ s names.
    zip_more (IsCaughtFor s c.args.scope.now.file.now c.args.code.now c.args.instrs.now) c.as_slice-handler-items.result.now c.loop-handler.linked _
    c.loop-handler.handler-index _ c.caught.result (omega arith) (c.loop-handler.invariant s names) (c.caught.ensures s names) c.in_ok-push.ensures.ok

pub returns : goal.returns
returns c = λ s names.
    let R = IsCaughtFor s c.args.scope.now.file.now c.args.code.now c.args.instrs.now in
    subst (λ (hs : List Handler). GoAlong R hs c.loop-handler.linked) c.as_slice-handler-items.ensures
    (along_all R c.as_slice-handler-items.result.now c.loop-handler.linked c.loop-handler.handler-index (omega arith) (c.loop-handler.invariant s names))
