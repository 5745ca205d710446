-- What one instruction does in one domain: to the frame that runs it and to what the domain has inside, and what is done next. There
-- is one row for each group of instructions, and a method of a system class runs within the instruction that calls it.
use Rattle.std.specs.Prelude.{◌≡◌}
use Rattle.jk_model.specs.declared.instructions.Instr.{Instr}
use Rattle.jk_model.specs.declared.steps.After.{After}
use Rattle.jk_model.specs.declared.steps.After.TheVariants as Next
use Rattle.jk_model_typing.specs.Scopes.{CodeScope}
use Rattle.jk_model_domains.specs.NumberRows.{NumberRow}
use Rattle.jk_model_heaps.specs.Workings.{GoesOn, Outcome, Raises, Returns, Setting, Working}
use Rattle.jk_model_heap_rows.specs.HeapRows.{HeapRow}
use Rattle.jk_model_call_rows.specs.CallRows.{CallRow, CallsSystem}
use Rattle.jk_model_system_rows.specs.SystemCalls.{DoesSystem}

-- what is done after an instruction on numbers
abbrev pub IsOutcome : After → Outcome → Type 0
IsOutcome (Next.Goto n) outcome = outcome ≡ GoesOn n
IsOutcome (Next.Raise r) outcome = outcome ≡ Raises r
IsOutcome (Next.Return v) outcome = outcome ≡ Returns v
IsOutcome after outcome = ⊥

pub data Executes (x : Setting) (s : CodeScope) (i : Instr) (w new : Working) (outcome : Outcome) : Type 0 where
  numbers : (after : After) → NumberRow s w.frame.head.at i w.frame new.frame after → new.inside ≡ w.inside → IsOutcome after outcome
      → Executes x s i w new outcome
  heap : HeapRow x s i w new outcome → Executes x s i w new outcome
  calls : CallRow x s i w new outcome → Executes x s i w new outcome
  system : (call : CallsSystem x s i w) → DoesSystem x call.member call.call.given w new outcome → Executes x s i w new outcome
