-- Putting an entry keeps the index; a pool without room lacks the entry.
use Rattle.std.proofs.Common.{◌+◌, ◌≤◌, ◌<◌, length, sym, arith}
use Rattle.jkasm.specs.PoolKeys.{slots_of}
use Rattle.jkasm.proofs.IndexOfGrownPool.{index_refused, full_by_index, put_by_index, index_put}
use Rattle.jkasm.proofs.pool.PoolBuilder.put.Goals as goal

pub returns-then-place-places-gt-MAX_LENGTH-clause-full :
    goal.returns-then-place-places-gt-MAX_LENGTH-clause-full
returns-then-place-places-gt-MAX_LENGTH-clause-full c =
    let many : 65535 < length c.self.inside.entries + length (slots_of c.args.key) = omega (arith, c.len-place.ensures, c.places.ensures) in
    λ _. rw (← c.self.view_is)
    (full_by_index c.self.inside.entries c.args.key c.self.inside.index c.self.invariant (sym c.in_default.ensures.value) many)

pub invariant_of-self-in-Err : goal.invariant_of-self-in-Err
invariant_of-self-in-Err c =
    index_refused c.self.inside.entries c.append.new.entries c.truncate.new.self c.args.key c.self.inside.index c.insert.new.self c.len-place.result
    c.self.invariant c.len-place.ensures c.in_ok-append.ensures.ok c.truncate.ensures c.in-Err.ensures.err

pub invariant_of-self-in_default-insert : goal.invariant_of-self-in_default-insert
invariant_of-self-in_default-insert c =
    let few : length c.self.inside.entries + length (slots_of c.args.key) ≤ 65535 = omega (arith, c.len-place.ensures, c.places.ensures) in
    let good = rw (← c.self.view_is) at c.requires.good in
    index_put c.self.inside.entries c.args.key c.self.inside.index c.self.invariant (sym c.in_default.ensures.value)
    c.append.new.entries c.insert.new.self c.len-place.result c.requires.entry good few c.in_ok-append.ensures.ok c.len-place.ensures
    c.in_default-insert.ensures.updates

pub returns-clause-puts : goal.returns-clause-puts
returns-clause-puts c =
    rw (← c.self.view_is)
    (put_by_index c.self.inside.entries c.args.key c.self.inside.index c.self.invariant (sym c.in_default.ensures.value)
    c.append.new.entries c.len-place.result c.in_ok-append.ensures.ok c.len-place.ensures)
