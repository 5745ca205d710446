-- The demo's events are run over its own files, which never fail.
use Rattle.std.proofs.Common.{List, Some, ◌≤◌, length, sym, ap, subst, ◌∙◌}
use Rattle.std.specs.List.{AllByRecursion}
use Rattle.jk_model.specs.declared.script.Event.{Event}
use Rattle.jk_outside.specs.MemoryTrees.{tree_of}
use Rattle.jk_outside.specs.declared.memory_files.MemoryFile.{MemoryFile}
use Rattle.kernel_events.specs.PrintedLines.{sink}
use Rattle.ring_demo.specs.DemoEvents.{demo_events}
use Rattle.ring_demo.specs.declared.tree.TheConstants.{ROOT}
use Rattle.jkernel_runs.specs.DomainEvents.{OpensFolder}
use Rattle.jkernel_runs.specs.Ends.{end_of}
use Rattle.jkernel_runs.specs.Events.{IsOfScript, RunEnds, moment}
use Rattle.jkernel_runs.proofs.DemoEnds.{demo_causes, demo_ends}
use Rattle.jkernel_runs.proofs.DemoFits.{demo_few, demo_fits}
use Rattle.jkernel_runs.proofs.demo.run_demo.Goals as goal

pub run_events-requires-clause-of_script : goal.run_events-requires-clause-of_script
run_events-requires-clause-of_script g c =
    subst (λ (es : List Event). AllByRecursion IsOfScript es) (sym (c.as_slice.ensures ∙ c.in-Ok-demo_events.ensures)) (demo_fits c.args.seed)

pub run_events-requires-clause-few : goal.run_events-requires-clause-few
run_events-requires-clause-few g c =
    subst (λ (es : List Event). length es ≤ 65536) (sym (c.as_slice.ensures ∙ c.in-Ok-demo_events.ensures)) (demo_few c.args.seed)

pub returns-clause-ends : goal.returns-clause-ends
returns-clause-ends g c = λ words tree asked faults call.
    let a = sink (g.S.Sink.bytes c.args.out.now) (g.S.Sink.pieces c.args.out.now) (g.S.Sink.faults c.args.out.now) in
    let b = sink (g.S.Sink.bytes c.run_events.new.out) (g.S.Sink.pieces c.run_events.new.out) (g.S.Sink.faults c.run_events.new.out) in
    let r = c.run_events.result in
    let ends = subst (λ (fs : List MemoryFile). RunEnds (Some (tree_of fs)) ROOT.now (OpensFolder (Some (tree_of fs)) ROOT.now) (demo_events c.args.seed)
    (moment a c.in-Ok.files.asked 0) (moment b c.run_events.new.files.asked 0) r) c.in-Ok.ensures.files
    (subst (λ (es : List Event). RunEnds (Some (tree_of c.in-Ok.files.files)) ROOT.now (OpensFolder (Some (tree_of c.in-Ok.files.files)) ROOT.now) es
    (moment a c.in-Ok.files.asked 0) (moment b c.run_events.new.files.asked 0) r) (c.as_slice.ensures ∙ c.in-Ok-demo_events.ensures)
    c.run_events.ensures.ends) in
    rw c.ended.ensures (demo_ends c.args.seed a b c.in-Ok.files.asked c.run_events.new.files.asked words tree asked faults r call ends)

pub returns-clause-causes : goal.returns-clause-causes
returns-clause-causes g c =
    let a = sink (g.S.Sink.bytes c.args.out.now) (g.S.Sink.pieces c.args.out.now) (g.S.Sink.faults c.args.out.now) in
    let b = sink (g.S.Sink.bytes c.run_events.new.out) (g.S.Sink.pieces c.run_events.new.out) (g.S.Sink.faults c.run_events.new.out) in
    let r = c.run_events.result in
    let ends = subst (λ (fs : List MemoryFile). RunEnds (Some (tree_of fs)) ROOT.now (OpensFolder (Some (tree_of fs)) ROOT.now) (demo_events c.args.seed)
    (moment a c.in-Ok.files.asked 0) (moment b c.run_events.new.files.asked 0) r) c.in-Ok.ensures.files
    (subst (λ (es : List Event). RunEnds (Some (tree_of c.in-Ok.files.files)) ROOT.now (OpensFolder (Some (tree_of c.in-Ok.files.files)) ROOT.now) es
    (moment a c.in-Ok.files.asked 0) (moment b c.run_events.new.files.asked 0) r) (c.as_slice.ensures ∙ c.in-Ok-demo_events.ensures)
    c.run_events.ensures.ends) in
    rw c.ended.ensures (demo_causes c.args.seed a b c.in-Ok.files.asked c.run_events.new.files.asked r ends)

pub returns-clause-calm_out : goal.returns-clause-calm_out
returns-clause-calm_out g c = λ other. c.run_events.ensures.calm_out (λ e. other (c.ended.ensures ∙ ap end_of e))
