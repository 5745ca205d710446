-- How a run of the demo ends, from what became of its events over its own files. They have no fault.
use Rattle.std.proofs.Common.{ℕ, List, Option, Some, Result, Ok, Err, inl, inr, refl, arith}
use Rattle.jk_model.specs.Outside.{Ask, HasRisen, Tree}
use Rattle.command_words.specs.CommandLine.{CallsDemo}
use Rattle.kernel_events.specs.PrintedLines.{SinkState}
use Rattle.ring_demo.specs.DemoEvents.{demo_events}
use Rattle.ring_demo.specs.DemoTree.{demo_tree}
use Rattle.ring_demo.specs.declared.tree.TheConstants.{ROOT}
use Rattle.jkernel_runs.specs.DomainEvents.{OpensDemo}
use Rattle.jkernel_runs.specs.Ends.{EndsDemo, EndsSo, end_of}
use Rattle.jkernel_runs.specs.Events.{RunEnds, moment}
use Rattle.jkernel_runs.specs.declared.stop.Stop.{Stop}
use Rattle.jkernel_runs.specs.declared.stop.Stop.TheVariants.{ReadFault, WriteFault, OutOfMemory}

no_fault : HasRisen 0 0 → ⊥
no_fault (inl more) = omega arith
no_fault (inr full) = omega arith

-- The run of the demo's events: what was asked of its own files before and after, and what the output told.
module _ (seed : ℕ) (a b : SinkState) (before after : List Ask) where
  abbrev RunsDemo : Result (Unit {0}) Stop → Type 0
  RunsDemo r = RunEnds (Some (demo_tree seed)) ROOT.now (OpensDemo seed) (demo_events seed) (moment a before 0) (moment b after 0) r

  pub demo_ends : (words : List (List ℕ)) (tree : Option Tree) (asked : List Ask) (faults : ℕ) (r : Result (Unit {0}) Stop) → CallsDemo words seed
      → RunsDemo r → EndsSo tree words (moment a asked faults) (moment b asked faults) (end_of r)
  demo_ends words tree asked faults (Ok x) call h = (inr (record { seed = seed; call = call; runs = h.0 }), refl)
  demo_ends words tree asked faults (Err ReadFault) call h = absurd (no_fault h.0)
  demo_ends words tree asked faults (Err WriteFault) call h = (h.0, (inr (record { seed = seed; call = call; stops = h.1.0 }), refl))
  demo_ends words tree asked faults (Err OutOfMemory) call (inl quiet) = inl (record { quiet = quiet.0; asks = refl })
  demo_ends words tree asked faults (Err OutOfMemory) call (inr h) = inr (inr (inr (record { seed = seed; call = call; stops = h.0 }), refl))

  pub demo_causes : (r : Result (Unit {0}) Stop) → RunsDemo r → EndsDemo a.faults b.faults (end_of r)
  demo_causes (Ok x) h = tt
  demo_causes (Err ReadFault) h = absurd (no_fault h.0)
  demo_causes (Err WriteFault) h = h.0
  demo_causes (Err OutOfMemory) h = tt
