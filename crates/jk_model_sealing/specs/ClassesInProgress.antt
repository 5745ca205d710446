-- Classes in progress, as far as frames and a domain's own state tell.
use Rattle.std.specs.Prelude.{ℕ, ◌==◌, Bool, false, Some, None, if◌then◌else◌}
use Rattle.jk_model.specs.declared.identifiers.ClassId.{ClassId}
use Rattle.jk_model.specs.declared.identifiers.ThreadNo.{ThreadNo}
use Rattle.jk_model_frames.specs.Frames.{FrameState}
use Rattle.jk_model_domains.specs.declared.states.ClassState.{ClassState}
use Rattle.jk_model_domains.specs.declared.states.ClassState.TheVariants as State
use Rattle.jk_model_domains.specs.OwnStates.{OwnState, state_of}

abbrev pub initialises : ClassId → FrameState → Bool
initialises c f = elim f.head.initialises as (λ _. Bool) [ Some d ↦ d.0 == c.0 | None ↦ false ]

abbrev by_thread : ThreadNo → ClassState → ℕ
by_thread t (State.InProgress by) = if by.0 == t.0 then 1 else 0
by_thread t state = 0

-- 1 where the class is in progress by the thread, and else 0
abbrev pub progress_by : ThreadNo → OwnState → ClassId → ℕ
progress_by t own c = by_thread t (state_of own c)
