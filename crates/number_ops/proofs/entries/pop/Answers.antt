-- The entry that the store takes is the top one.
use Rattle.std.proofs.Common.{sym, ap}
use Rattle.std.proofs.lemmas.List.{append-nil}
use Rattle.number_laws.proofs.FrameParts.{with_stack}
use Rattle.number_ops.proofs.entries.pop.Goals as goal

pub returns : goal.returns
returns g c =
    let on = c.requires.1 in
    let taken = c.pop_value.ensures on.frame on.top in
    record {
      before = on.frame;
      after = with_stack on.frame taken.0;
      becomes = record { top = on.top; sets = taken.2 };
      replaces = record { below = taken.0; before = taken.1; after = ap (with_stack on.frame) (sym (append-nil taken.0)) };
    }
