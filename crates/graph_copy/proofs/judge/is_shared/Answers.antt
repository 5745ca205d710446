-- A class that both name, both name by one name.
use Rattle.std.proofs.Common.{List, sym, subst}
use Rattle.jk_model_classes.specs.Worlds.{IsNamed, NamedClass}
use Rattle.graph_copy.specs.AskedOfCopies.{table_of}
use Rattle.graph_copy.proofs.NamesShared.{shared_is_named}
use Rattle.graph_copy.proofs.judge.is_shared.Goals as goal

pub returns-then-has_class : goal.returns-then-has_class
returns-then-has_class c = (
  λ told.
      c.requires.names c.args.c
      (subst (λ (t : List NamedClass). IsNamed t c.args.c) c.name_table.ensures (c.has_class.ensures.0 c.if-has_class.true))
      (subst (λ (t : List NamedClass). IsNamed t c.args.c) c.name_table-then-has_class.ensures (c.has_class-then-has_class.ensures.0 told)),
  λ shared.
      c.has_class-then-has_class.ensures.1
      (subst (λ (t : List NamedClass). IsNamed t c.args.c) (sym c.name_table-then-has_class.ensures)
      (shared_is_named (table_of c.args.w.now c.args.from) (table_of c.args.w.now c.args.to) c.args.c shared).1),
)

pub returns-else-has_class : goal.returns-else-has_class
returns-else-has_class c = (
  λ told. let not_told = c.if-has_class.false in absurd cc,
  λ shared.
      c.has_class.ensures.1
      (subst (λ (t : List NamedClass). IsNamed t c.args.c) (sym c.name_table.ensures)
      (shared_is_named (table_of c.args.w.now c.args.from) (table_of c.args.w.now c.args.to) c.args.c shared).0),
)
