-- By the last of the frames.
use Rattle.row_laws.proofs.StacksNotRead.{unread}
use Rattle.row_laws.proofs.unwinding.stacks_are_not_read.Goals as goal

pub returns : goal.returns
returns c = λ x old new callers f stack a unwound are unwinds. unread x old new callers f stack a are unwound unwinds
