-- Before the first line nothing is built.
use Rattle.jkasm.proofs.LinesTaken.{nothing_built}
use Rattle.jkasm.proofs.assembler.build.Goals as goal

pub loop-i-init : goal.loop-i-init
loop-i-init c =
    let readings = c.args.readings.now in
    nothing_built readings c.in_ok-builder.builder (c.in_ok-builder.ensures.built readings) c.in_ok-builder.ensures.pool
