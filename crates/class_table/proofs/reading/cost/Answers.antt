-- The words of the fields and of the header.
use Rattle.std.proofs.Common.{◌≡◌, ◌+◌, ◌-◌, ◌^◌, min, Some, slice_get, sym, ap, ◌∙◌}
use Rattle.jk_model_classes.specs.Layouts.{instance_fields, words_of}
use Rattle.class_table.specs.Entries.{records}
use Rattle.class_table.proofs.EntriesAreRight.{few_own-at, is_class, saturated-twice, words-at}
use Rattle.class_table.proofs.reading.cost.Goals as goal

pub words-requires : goal.words-requires
words-requires c = few_own-at c.args.entries.now c.args.c c.in_ok-entry.entry.now (sym c.in_ok-entry.ensures) c.requires

pub returns-clause-some : goal.returns-clause-some
returns-clause-some c =
    let entries = c.args.entries.now in
    let e = c.in_ok-entry.entry.now in
    let at : slice_get entries c.args.c.0 ≡ Some e = sym c.in_ok-entry.ensures in (
      is_class entries c.args.c e at,
      c.saturating_add.ensures
          ∙ ap (λ n. min (n + 4) (2 ^ 32 - 1)) (c.words.ensures ∙ words-at entries c.args.c e at c.requires)
          ∙ saturated-twice (words_of (instance_fields (records entries) c.args.c)) 4 (2 ^ 32 - 1),
    )
