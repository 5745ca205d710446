-- Words that are not none, and no instruction.
use Rattle.std.proofs.Common.{◌≡◌, [], true, refl}
use Rattle.asm_reader.proofs.CodeLines.{nothing_after}
use Rattle.asm_reader.proofs.item_lines.after_label.Goals as goal

pub returns-in-None : goal.returns-in-None
returns-in-None c =
    let some = λ (e : c.args.words.now ≡ []). let none : c.is_empty.result ≡ true = rw (c.is_empty.ensures, e) refl in absurd cc in
    nothing_after c.args.words.now some (rw c.in-None.is at c.in_ok-statement.ensures)
