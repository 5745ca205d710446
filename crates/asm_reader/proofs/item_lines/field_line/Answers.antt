-- The words of a field begin with flags, a name and a descriptor.
use Rattle.asm_reader.proofs.item_lines.field_line.Goals as goal

pub returns-in_default : goal.returns-in_default
returns-in_default c = λ line h. c.in_default.ensures line.flags line.name line.descriptor h.1 (h.0, h.2, h.4)
