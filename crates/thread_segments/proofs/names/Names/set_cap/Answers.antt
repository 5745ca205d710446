-- The name at the place alone is changed.
use Rattle.std.proofs.Common.{◌≡◌, ◌<◌, List, Some, ap, arith, length, slice_get, subst, sym}
use Rattle.std.proofs.lemmas.List.{length-map}
use Rattle.jk_model_sharing.specs.BoundNames.{BoundName}
use Rattle.list_lemmas.proofs.ItemsByPlace.{item_read}
use Rattle.thread_segments.specs.NameEntries.{NameList, name_of}
use Rattle.thread_segments.proofs.NamesByPlace.{names_set}
use Rattle.thread_segments.proofs.names.Names.set_cap.Goals as goal

pub returns : goal.returns
returns c =
    λ n at.
    let s = c.self.inside in
    let P : NameList → Type 0 = λ x. c.args.place < length x.names in
    let Q : NameList → Type 0 = λ x. slice_get x.names c.args.place ≡ Some n in
    let within = subst P (sym c.self.view_is) c.requires in
    let low : c.args.place < length s.entries.items = omega (arith, within, length-map s.entries.items name_of) in
    let there = item_read s.entries.items c.args.place c.index_mut-entry.result.now low c.index_mut-entry.ensures.value in
    rw (← c.self.view_is)
    (ap (λ (ns : List BoundName). let x : NameList = record { names = ns; most = s.most } in x)
    (names_set s.entries.items c.args.place c.index_mut-entry.result.now n c.args.k there (subst Q (sym c.self.view_is) at)))
