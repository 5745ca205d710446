-- The text of the entry is there, and is shared.
use Rattle.std.proofs.Common.{List, ℕ, ap}
use Rattle.jk_model_classes.specs.declared.records.Link.TheVariants as To
use Rattle.class_linker.proofs.EntriesAreGood.{text_entry}
use Rattle.class_linker.proofs.links.text_link.Goals as goal

pub unreachable-requires : goal.unreachable-requires
unreachable-requires c =
    let there = text_entry c.args.c.now c.args.l.now.names.now c.args.l.now.pool.now c.args.text c.requires.linkable c.requires.own c.requires.item in
    c.in-None.ensures there.0 ((c.requires.ready.texts.each c.args.text there.0).0 there.1)

pub returns : goal.returns
returns c = (
  c.in-Some.found.now,
  (c.requires.ready.texts.each c.args.text c.in-Some.found.now).1 c.in-Some.ensures,
  ap (λ (us : List ℕ). To.Text us) c.in_ok-shared-in-Some.ensures,
)
