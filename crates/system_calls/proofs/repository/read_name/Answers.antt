-- All units are read, or as many as there is room for.
use Rattle.std.proofs.Common.{◌∙◌}
use Rattle.system_calls.proofs.NamesAsked.{front_read}
use Rattle.system_calls.proofs.repository.read_name.Goals as goal

pub returns-clause-read : goal.returns-clause-read
returns-clause-read g c = λ units live.
    c.read_units.ensures.read units live
    ∙ front_read units _ c.text_len-len.result c.read_units.result c.requires.room (c.text_len-len.ensures units live) c.read_units.ensures.count
