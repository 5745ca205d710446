-- The row that is found is the first of the name.
use Rattle.std.proofs.Common.{rules, tests, bytes_eq}
use Rattle.std.proofs.lemmas.Iterator.{YieldsList-from_slice}
use Rattle.std.proofs.lemmas.Iterator.Search.{find_from_yields_List}
use Rattle.asm_reader.proofs.RowsAreFound.{found_row}
use Rattle.asm_reader.proofs.mnemonics.mnemonic_named.Goals as goal

pub returns : goal.returns
returns c =
    found_row c.args.name.now c.table.result.now c.find.result c.copied.result c.table.ensures
    (find_from_yields_List (λ m. bytes_eq m.name.now c.args.name.now) _ _ c.find.result c.find.ensures.ran
    (YieldsList-from_slice c.table.result.now cc)
    (λ x b q k. search (rules, tests)))
    c.copied.ensures
