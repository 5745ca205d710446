-- The first field on the walk with each class once is the first on the whole walk. A class that isn't there has none.
use Rattle.jk_model_classes.specs.Classes.{field_walk}
use Rattle.jk_model_classes.specs.Lookups.{IsFieldOf}
use Rattle.member_lookup.proofs.FirstOnWalk.{on-firsts}
use Rattle.member_lookup.proofs.find.find_field_by.Goals as goal

pub returns : goal.returns
returns c =
    on-firsts (IsFieldOf c.args.t.now c.args.key.now.name c.args.key.now.kind) (field_walk c.args.t.now c.args.c) _
    (rw (← c.in_ok-walk.ensures.some.1) c.first_field.ensures)
