-- Which answer a pool's error becomes: a full pool is the fault of the line.
use Rattle.jkasm.specs.declared.code_writer.LineStop.{LineStop}
use Rattle.jkasm.specs.declared.code_writer.LineStop.TheVariants as stop
use Rattle.jkasm.specs.declared.pool.PoolError.{PoolError}
use Rattle.jkasm.specs.declared.pool.PoolError.TheVariants.{Full, OutOfMemory}

abbrev pub stop_of : PoolError → LineStop
stop_of Full = stop.AtFault
stop_of OutOfMemory = stop.OutOfMemory
