-- The name at the place alone goes.
use Rattle.std.proofs.Common.{List, ap}
use Rattle.jk_model_sharing.specs.BoundNames.{BoundName}
use Rattle.thread_segments.specs.NameEntries.{NameList, name_of}
use Rattle.thread_segments.proofs.NamesByPlace.{map-remove}
use Rattle.thread_segments.proofs.names.Names.remove.Goals as goal

pub returns : goal.returns
returns c =
    let s = c.self.inside in
    rw (← c.self.view_is, c.remove.ensures.items)
    (ap (λ (ns : List BoundName). let x : NameList = record { names = ns; most = s.most } in x) (map-remove name_of s.entries.items c.args.place))
