-- The class found is the first of this name.
use Rattle.std.proofs.Common.{rules, true, false}
use Rattle.std.proofs.lemmas.Iterator.{first_from_Range}
use Rattle.system_table.specs.Entry.{HasName}
use Rattle.system_table.proofs.FirstOfAName.{first_named}
use Rattle.system_table.proofs.find.class_named.Goals as goal

pub returns : goal.returns
returns c =
    first_named c.args.name.now c.count.result c.find.result c.count.ensures
    (first_from_Range _ _ _ _ (λ n. HasName n c.args.name.now true) (λ n. HasName n c.args.name.now false) c.find.ensures.ran
    (λ x q k. search rules)
    (λ x q k. search rules))
