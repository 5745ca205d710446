-- The first one that was found is the first of all.
use Rattle.std.proofs.Common.{ap, add-one, find, option_map, sym, take, ◌∙◌, ℕ, Option}
use Rattle.std.proofs.lemmas.Option.{slice_get-get_or}
use Rattle.thread_stacks.specs.declared.entries.ThreadEntry.{ThreadEntry}
use Rattle.thread_stacks.specs.Stacks.{runs_only_in, thread_key}
use Rattle.thread_stacks.proofs.NextEntry.{found_here, not_here}
use Rattle.thread_stacks.proofs.endings.first_ending.Goals as goal

pub returns-then-has_only : goal.returns-then-has_only
returns-then-has_only c =
    sym (ap (λ (o : Option ThreadEntry). option_map thread_key o)
    (found_here (runs_only_in c.args.slots.now c.args.d) c.args.entries.now c.loop-entry.entry-index _ c.loop-entry.invariant
    (slice_get-get_or c.args.entries.now c.loop-entry.entry-index _ c.loop-entry-test.true) (sym c.has_only.ensures ∙ c.if-has_only.true)))

pub loop-entry-preserved : goal.loop-entry-preserved
loop-entry-preserved c =
    ap (λ (n : ℕ). find (runs_only_in c.args.slots.now c.args.d) (take n c.args.entries.now)) (add-one c.loop-entry.entry-index)
    ∙ not_here (runs_only_in c.args.slots.now c.args.d) c.args.entries.now c.loop-entry.entry-index _ c.loop-entry.invariant
    (slice_get-get_or c.args.entries.now c.loop-entry.entry-index _ c.loop-entry-test.true) (sym c.has_only.ensures ∙ c.if-has_only.false)
