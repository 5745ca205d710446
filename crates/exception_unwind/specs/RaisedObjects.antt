-- Which object is raised.
use Rattle.std.specs.Prelude.{ℕ}
use Rattle.jk_model.specs.declared.steps.Raise.{Raise}
use Rattle.jk_model_heaps.specs.Throwables.{IsRaised}
use Rattle.jk_model_heaps.specs.Workings.{Inside, Setting}
use Rattle.step_contents.specs.Conditions.{MayChange}
use Rattle.step_contents.specs.Contents.{Contents, Here, InsideBecomes, inside_in}
use Rattle.step_contents.specs.Settings.{IsSetting}

-- What is raised is the object of this name, which may have been made for it.
abbrev pub IsRaisedIn : Contents → Contents → Here → Raise → ℕ → Type 0
IsRaisedIn old new here r a =
    (x : Setting) → MayChange old here → IsSetting old here x
    → (inside : Inside) × IsRaised x (inside_in old here) r inside a × InsideBecomes old new here inside
