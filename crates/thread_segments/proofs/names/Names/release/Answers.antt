-- The names that are bound still have room.
use Rattle.std.proofs.Common.{◌+◌, ◌≤◌, length, subst, sym, arith}
use Rattle.std.proofs.lemmas.List.{length-map}
use Rattle.thread_segments.specs.NameEntries.{NameList, name_of}
use Rattle.thread_segments.proofs.names.Names.release.Goals as goal

pub invariant_of-self : goal.invariant_of-self
invariant_of-self c =
    let s = c.self.inside in
    let P : NameList → Type 0 = λ x. length x.names + c.args.fewer ≤ x.most in
    let room = subst P (sym c.self.view_is) c.requires in
    record {
      within = omega (arith, room, length-map s.entries.items name_of);
      room = omega (arith, c.self.invariant.room);
    }
