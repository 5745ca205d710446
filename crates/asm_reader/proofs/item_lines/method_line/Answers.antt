-- The words of a method begin with flags, a name and a descriptor.
use Rattle.asm_reader.proofs.item_lines.method_line.Goals as goal

pub returns-in_default : goal.returns-in_default
returns-in_default c = λ line h. c.in_default.ensures line.flags line.name line.descriptor _ (h.0, h.1, h.4)
