-- One entry more, or all are linked.
use Rattle.std.proofs.Common.{◌≡◌, List, Some, arith, subst}
use Rattle.std.specs.Prelude.{slice_get}
use Rattle.list_lemmas.proofs.ItemsByPlace.{item_read}
use Rattle.jk_model.specs.declared.class_file.PoolEntry.{PoolEntry}
use Rattle.class_linker.specs.LinkParts.{LeadsTo}
use Rattle.class_linker.proofs.EntriesAreLinked.{all_linked}
use Rattle.class_linker.proofs.ItemsInTurn.{zip_more}
use Rattle.class_linker.proofs.links.links_of.Goals as goal

pub loop-entry-preserved : goal.loop-entry-preserved
loop-entry-preserved c =
    record {
      links_are =
          zip_more (LeadsTo c.args.l.now) c.args.l.now.pool.now c.loop-entry.links _ c.loop-entry.entry-index c.entry-item.result c.in_ok-link.link
          c.loop-entry-test.true c.entry-item.is c.loop-entry.invariant.links_are c.in_ok-link.ensures.link c.in_ok-push.ensures.ok;
      fields_are = c.in_ok-link.ensures.fields;
      methods_are = c.in_ok-link.ensures.methods;
    }

pub link_of-requires-clause-item : goal.link_of-requires-clause-item
link_of-requires-clause-item c = (
  c.loop-entry.entry-index,
  subst (λ (w : List PoolEntry). slice_get w c.loop-entry.entry-index ≡ Some c.entry-item.result) c.requires.own
      (item_read c.args.l.now.pool.now c.loop-entry.entry-index c.entry-item.result c.loop-entry-test.true c.entry-item.is),
)

pub returns : goal.returns
returns c =
    all_linked c.args.l.now.names.now c.args.l.now.t.now c.args.c.now c.args.l.now.pool.now c.loop-entry.links c.loop-entry.entry-index c.requires.own
    (omega arith) c.loop-entry.invariant.links_are
