-- By the lemmas on values in grown heaps.
use Rattle.heap_laws.proofs.StillFits.{declared_held, each_value_fits, frame_holds, value_fits, value_known}
use Rattle.heap_laws.proofs.grown_heaps.values_fit_still.Goals as goal

pub returns-clause-values : goal.returns-clause-values
returns-clause-values c = λ s v t old new g h. value_fits old new g s v t h

pub returns-clause-many : goal.returns-clause-many
returns-clause-many c = λ s values types old new g h. each_value_fits old new g s values types h

pub returns-clause-frames : goal.returns-clause-frames
returns-clause-frames c = λ s f t old new g h. frame_holds old new g s f t h

pub returns-clause-declared : goal.returns-clause-declared
returns-clause-declared c = λ classes v t old new g h. declared_held old new g classes v t h

pub returns-clause-known : goal.returns-clause-known
returns-clause-known c = λ caps v old new g h. value_known old new g caps v h
