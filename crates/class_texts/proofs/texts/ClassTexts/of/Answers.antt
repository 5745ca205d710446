-- One more text, that of the next entry.
use Rattle.std.proofs.Common.{List, arith, subst}
use Rattle.std.specs.List.{AllZip}
use Rattle.std.proofs.lemmas.List.{take_all}
use Rattle.jk_model.specs.declared.class_file.PoolEntry.{PoolEntry}
use Rattle.class_texts.specs.EntryTexts.{IsTextOf}
use Rattle.class_texts.proofs.TextsOfAPool.{texts_more, texts_of_pool}
use Rattle.class_texts.proofs.texts.ClassTexts.of.Goals as goal

pub loop-entry-preserved : goal.loop-entry-preserved
loop-entry-preserved c =
    let text = c.in_ok-text_of.field-0 in
    texts_more c.args.pool.now c.loop-entry.texts.items _ c.loop-entry.entry-index c.entry-item.result text (omega arith) c.loop-entry.invariant
    (subst (λ (e : PoolEntry). IsTextOf e text) c.entry-item.is c.in_ok-text_of.ensures) c.in_ok-push.ensures.items

pub returns : goal.returns
returns c =
    let pool = c.args.pool.now in
    texts_of_pool pool c.loop-entry.texts.items
    (subst (λ (es : List PoolEntry). AllZip IsTextOf es c.loop-entry.texts.items) (take_all c.loop-entry.entry-index pool (omega arith)) c.loop-entry.invariant)
