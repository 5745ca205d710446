-- What is raised in a segment: it is an object of the domain, and goes to the topmost frame that catches it, or leaves them all.
use Rattle.std.specs.Prelude.{ℕ}
use Rattle.jk_model.specs.declared.steps.Raise.{Raise}
use Rattle.jk_model_heaps.specs.declared.shapes.Unwound.{Unwound}
use Rattle.jk_model_heaps.specs.declared.shapes.Unwound.TheVariants.{Caught, Uncaught}
use Rattle.jk_model_heaps.specs.Throwables.{IsRaised}
use Rattle.jk_model_heaps.specs.Workings.{Inside, Run, Setting}
use Rattle.jk_model_unwinding.specs.Unwinding.{Unwinds}
use Rattle.jk_model_running.specs.Ways.{Went, GoesOn, Left}

pub record RaisesIn (x : Setting) (old : Run) (raise : Raise) (new : Run) (unwound : Unwound) : Type 0 where
  -- the object, which may have been made for it
  pub thrown : ℕ
  pub made : Inside
  pub is_raised : IsRaised x old.inside raise made thrown
  pub unwinds : Unwinds x (record old { inside = made }) thrown unwound new

abbrev pub after_raising : Unwound → Went
after_raising Caught = GoesOn
after_raising (Uncaught a) = Left a
