-- What is raised is a throwable of the domain, which stays sealed.
use Rattle.std.specs.Prelude.{◌≡◌, ℕ}
use Rattle.jk_model.specs.declared.steps.Raise.{Raise}
use Rattle.jk_model_heaps.specs.Throwables.{IsRaised}
use Rattle.jk_model_heaps.specs.Workings.{Inside, Setting}
use Rattle.jk_model_sealing.specs.SealedInsides.{IsSealedInside, Surroundings}
use Rattle.heap_laws.specs.KeptInsides.{KeepsInside}
use Rattle.heap_laws.specs.RaisableObjects.{IsThrowable, MayBeRaised}
use Rattle.heap_laws.specs.RunningFrames.{IsKnownSetting}

abbrev pub RaisedObjectsAreThere : Type 0
RaisedObjectsAreThere =
    (around : Surroundings) (x : Setting) (old : Inside) (r : Raise) → IsKnownSetting around x → IsSealedInside around x.quota old
    → (new : Inside) × (a : ℕ) × IsRaised x old r new a

abbrev pub RaisedObjectsAreThrowables : Type 0
RaisedObjectsAreThrowables =
    (around : Surroundings) (x : Setting) (old new : Inside) (r : Raise) (a : ℕ) → IsKnownSetting around x
    → IsSealedInside around x.quota old → MayBeRaised around.classes old.heap r → IsRaised x old r new a
    → KeepsInside around x old new × IsThrowable around.classes new.heap a × (new.own ≡ old.own)
