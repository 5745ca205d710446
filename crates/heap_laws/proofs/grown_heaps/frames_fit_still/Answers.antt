-- By the lemmas on frames over grown heaps.
use Rattle.jk_model_sealing.specs.FittingFrames.{FitsAsTop, FitsAtCall}
use Rattle.heap_laws.specs.RaisableObjects.{MayMeetRaise}
use Rattle.heap_laws.proofs.StillFits.{fits_as_top, fits_at_call, fits_here, frames_fit, frames_sealed, meets_raise, names_known}
use Rattle.heap_laws.proofs.grown_heaps.frames_fit_still.Goals as goal

pub returns-clause-here : goal.returns-clause-here
returns-clause-here c = λ classes f old new g h. fits_here old new g classes f h

pub returns-clause-top : goal.returns-clause-top
returns-clause-top c = λ classes f old new g h. fits_as_top old new g classes f h

pub returns-clause-callers : goal.returns-clause-callers
returns-clause-callers c = λ classes f old new g h. fits_at_call old new g classes f h

pub returns-clause-known : goal.returns-clause-known
returns-clause-known c = λ caps f old new g h. names_known old new g caps f h

pub returns-clause-running_rows : goal.returns-clause-running_rows
returns-clause-running_rows c = λ classes frames old new g h.
    frames_fit old new g (FitsAsTop classes old) (FitsAsTop classes new) (λ f top. fits_as_top old new g classes f top) classes frames h

pub returns-clause-calling_rows : goal.returns-clause-calling_rows
returns-clause-calling_rows c = λ classes frames old new g h.
    frames_fit old new g (FitsAtCall classes old) (FitsAtCall classes new) (λ f top. fits_at_call old new g classes f top) classes frames h

pub returns-clause-running : goal.returns-clause-running
returns-clause-running c = λ around frames old new g h.
    frames_sealed old new g (FitsAsTop around.classes old) (FitsAsTop around.classes new)
    (λ f top. fits_as_top old new g around.classes f top) around frames h

pub returns-clause-calling : goal.returns-clause-calling
returns-clause-calling c = λ around frames old new g h.
    frames_sealed old new g (FitsAtCall around.classes old) (FitsAtCall around.classes new)
    (λ f top. fits_at_call old new g around.classes f top) around frames h

pub returns-clause-raising : goal.returns-clause-raising
returns-clause-raising c = λ around frames old new g h.
    frames_sealed old new g (MayMeetRaise around.classes old) (MayMeetRaise around.classes new)
    (λ f top. meets_raise old new g around.classes f top) around frames h
