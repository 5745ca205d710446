-- The array's shape tells its elements and how many they are, and an array is short.
use Rattle.std.proofs.Common.{length, arith}
use Rattle.jk_model_domains.specs.Objects.{Array}
use Rattle.object_store.proofs.ObjectsWritten.{is_short}
use Rattle.heap_ops.proofs.ArraysFound.{shape_told}
use Rattle.heap_ops.proofs.arrays.array_at.Goals as goal

pub unreachable-requires : goal.unreachable-requires
unreachable-requires g c =
    let at = c.requires.2 in
    c.in_default.not-Array c.requires.0 (length at.items) (c.shape.ensures (Array c.requires.0 at.items) at.live)

pub returns-clause-is : goal.returns-clause-is
returns-clause-is g c =
    let at = c.requires.2 in
    shape_told (g.H.ObjectStore.content c.args.heap.now) c.args.d c.args.a c.requires.0 c.in-Array.element c.requires.1 c.in-Array.len at
    (c.in-Array.ensures (Array c.requires.0 at.items) at.live)

pub returns-clause-short : goal.returns-clause-short
returns-clause-short g c =
    let at = c.requires.2 in
    let told = shape_told (g.H.ObjectStore.content c.args.heap.now) c.args.d c.args.a c.requires.0 c.in-Array.element c.requires.1 c.in-Array.len at
    (c.in-Array.ensures (Array c.requires.0 at.items) at.live) in
    let short = is_short (g.H.ObjectStore.content c.args.heap.now) c.args.d c.args.a (Array c.in-Array.element told.items)
    (g.met.H.ObjectStore.holds c.args.heap.now) told.live in
    omega (arith, short, told.as_many)
