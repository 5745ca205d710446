-- Why one more domain may not join the others.
use Rattle.std.specs.Prelude.{◌≤◌, length}
use Rattle.jk_model.specs.declared.script.Quotas.{Quotas}
use Rattle.jk_model_classes.specs.Worlds.{WorldRecord}
use Rattle.jk_model_sharing.specs.CapabilityCalls.{LacksNumbers}
use Rattle.jk_model_sharing.specs.SharedStates.{SharedState, caps_of}
use Rattle.kernel_openings.specs.declared.answers.AddAnswer.{AddAnswer}
use Rattle.kernel_openings.specs.declared.answers.AddAnswer.TheVariants as Adding

abbrev pub IsFullFor : WorldRecord → SharedState → Quotas → AddAnswer → Type 0
IsFullFor w s q Adding.CapNumbers = LacksNumbers (caps_of s) q.caps
IsFullFor w s q Adding.TooManyDomains = (LacksNumbers (caps_of s) q.caps → ⊥) × (65535 ≤ length w.domains)
IsFullFor w s q answer = ⊥
