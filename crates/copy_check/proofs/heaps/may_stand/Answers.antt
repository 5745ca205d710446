-- The shape of a text is that of a text.
use Rattle.std.proofs.Common.{length}
use Rattle.jk_model_domains.specs.Objects.{Text}
use Rattle.copy_check.proofs.heaps.may_stand.Goals as goal

pub returns-in_default : goal.returns-in_default
returns-in_default g c = λ told units live. absurd (c.in_default.not-Text (length units) (c.shape.ensures (Text units) live))
