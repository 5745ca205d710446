-- One more is told, until none is left.
use Rattle.std.proofs.Common.{◌++◌, List, ◌∷◌, [], Option, Some, None, append_assoc, append-nil, option_map, sym, ap, subst, ◌∙◌}
use Rattle.jk_model.specs.declared.identifiers.ThreadNo.{ThreadNo}
use Rattle.jk_model.specs.declared.output.Line.{Line}
use Rattle.jk_model.specs.declared.output.Line.TheVariants.{EndedByKill}
use Rattle.jk_model_sharing.specs.Segments.{SharedThread}
use Rattle.jk_outside.specs.declared.sinks.SinkFailed.{SinkFailed}
use Rattle.kernel_events.specs.PrintedLines.{Prints, sink}
use Rattle.thread_segments.specs.Answers.{EndsWith, IsLeastAbove, thread_number}
use Rattle.domain_ends.specs.EndingLines.{lines_of_threads}
use Rattle.domain_ends.proofs.ThreadsTold.{all_told, next_told, none_in_front, none_told}
use Rattle.domain_ends.proofs.lines.tell_ended.Goals as goal

pub loop-thread-init : goal.loop-thread-init
loop-thread-init g c = (
  none_told c.args.d c.args.shared.now c.is_sound.ensures,
  λ from before h.
      subst
      (λ (ls : List Line). Prints {E = SinkFailed} from
      (sink (g.S.Sink.bytes c.args.out.now) (g.S.Sink.pieces c.args.out.now) (g.S.Sink.faults c.args.out.now)) c.args.so_far ls)
      (sym
      (ap (λ (ts : List SharedThread). before ++ lines_of_threads ts) (none_in_front c.args.d c.args.shared.now c.is_sound.ensures)
      ∙ append-nil before)) h,
)

pub loop-thread-preserved : goal.loop-thread-preserved
loop-thread-preserved g c =
    let told = c.loop-thread.invariant.0 in
    let t = c.in-Some.thread in
    let least : IsLeastAbove (EndsWith c.args.shared.now.threads c.args.d) c.loop-thread.above (option_map thread_number (Some t)) =
    subst (λ (o : Option ThreadNo). IsLeastAbove (EndsWith c.args.shared.now.threads c.args.d) c.loop-thread.above (option_map thread_number o))
    c.in-Some.is c.next_ending.ensures in
    let on = next_told c.args.d c.args.shared.now c.loop-thread.above told t least in (
      on.then,
      λ from before h.
          subst
          (λ (ls : List Line). Prints {E = SinkFailed} from
          (sink (g.S.Sink.bytes c.print_next-told.new.out) (g.S.Sink.pieces c.print_next-told.new.out) (g.S.Sink.faults c.print_next-told.new.out))
          c.print_next-told.result ls)
          (append_assoc before (lines_of_threads told.front) (EndedByKill t ∷ []) ∙ ap (λ (ls : List Line). before ++ ls) (sym on.lines))
          (c.print_next-told.ensures from.bytes from.pieces from.faults (before ++ lines_of_threads told.front)
          (c.loop-thread.invariant.1 from before h)),
    )

pub returns : goal.returns
returns g c = λ from before h.
    let least : IsLeastAbove (EndsWith c.args.shared.now.threads c.args.d) c.loop-thread.above (option_map thread_number None) =
    subst (λ (o : Option ThreadNo). IsLeastAbove (EndsWith c.args.shared.now.threads c.args.d) c.loop-thread.above (option_map thread_number o))
    c.in_default.is c.next_ending.ensures in
    subst
    (λ (ls : List Line). Prints {E = SinkFailed} from
    (sink (g.S.Sink.bytes c.loop-thread.out) (g.S.Sink.pieces c.loop-thread.out) (g.S.Sink.faults c.loop-thread.out)) c.loop-thread.told (before ++ ls))
    (all_told c.args.d c.args.shared.now c.loop-thread.above c.loop-thread.invariant.0 least) (c.loop-thread.invariant.1 from before h)
