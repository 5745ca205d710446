-- The domain's line goes before those of its threads.
use Rattle.std.proofs.Common.{◌≡◌, ◌++◌, ◌∷◌, List, [], append_assoc, ℕ, sym, ap, subst, ◌∙◌}
use Rattle.std.specs.Prelude.{option_copied}
use Rattle.std.proofs.lemmas.Option.{same_Some}
use Rattle.jk_model.specs.declared.output.Line.{Line}
use Rattle.jk_model.specs.declared.output.Line.TheVariants.{Killed}
use Rattle.jk_model_classes.specs.Worlds.{DomainRecord}
use Rattle.jk_outside.specs.declared.sinks.SinkFailed.{SinkFailed}
use Rattle.kernel_events.specs.PrintedLines.{Prints, sink}
use Rattle.machine_parts.specs.EndedParts.{ended_threads}
use Rattle.domain_ends.specs.EndingLines.{lines_of_threads}
use Rattle.domain_ends.proofs.PrintedLines.{printed_none}
use Rattle.domain_ends.proofs.lines.tell_end.Goals as goal

pub returns-clause-whole : goal.returns-clause-whole
returns-clause-whole g c = λ names is.
    let one : c.in-Some.names.now ≡ names =
    same_Some c.in-Some.names.now names (sym (ap option_copied c.in-Some.is) ∙ c.domain.ensures ∙ is) in
    let name : c.as_slice-domain.result.now ≡ names.name =
    c.as_slice-domain.ensures ∙ c.name.ensures ∙ ap (λ (r : DomainRecord). r.name) one in
    subst
    (λ (n : List ℕ). Prints {E = SinkFailed} (sink (g.S.Sink.bytes c.args.out.now) (g.S.Sink.pieces c.args.out.now) (g.S.Sink.faults c.args.out.now))
    (sink (g.S.Sink.bytes c.tell_ended.new.out) (g.S.Sink.pieces c.tell_ended.new.out) (g.S.Sink.faults c.tell_ended.new.out)) c.tell_ended.result
    (Killed n ∷ lines_of_threads (ended_threads c.args.d c.args.shared.now)))
    name
    (c.tell_ended.ensures (sink (g.S.Sink.bytes c.args.out.now) (g.S.Sink.pieces c.args.out.now) (g.S.Sink.faults c.args.out.now))
    (Killed c.as_slice-domain.result.now ∷ [])
    (c.print_next-so_far.ensures (g.S.Sink.bytes c.args.out.now) (g.S.Sink.pieces c.args.out.now) (g.S.Sink.faults c.args.out.now) []
    (printed_none (sink (g.S.Sink.bytes c.args.out.now) (g.S.Sink.pieces c.args.out.now) (g.S.Sink.faults c.args.out.now))
    (g.met.S.Sink.faults_fit c.args.out.now))))

pub returns-clause-more : goal.returns-clause-more
returns-clause-more g c = λ names is from before h.
    let one : c.in-Some.names.now ≡ names =
    same_Some c.in-Some.names.now names (sym (ap option_copied c.in-Some.is) ∙ c.domain.ensures ∙ is) in
    let name : c.as_slice-domain.result.now ≡ names.name =
    c.as_slice-domain.ensures ∙ c.name.ensures ∙ ap (λ (r : DomainRecord). r.name) one in
    let first : Line = Killed c.as_slice-domain.result.now in
    let rest : List Line = lines_of_threads (ended_threads c.args.d c.args.shared.now) in
    subst
    (λ (n : List ℕ). Prints {E = SinkFailed} from
    (sink (g.S.Sink.bytes c.tell_ended.new.out) (g.S.Sink.pieces c.tell_ended.new.out) (g.S.Sink.faults c.tell_ended.new.out)) c.tell_ended.result
    (before ++ Killed n ∷ rest))
    name
    (subst
    (λ (ls : List Line). Prints {E = SinkFailed} from
    (sink (g.S.Sink.bytes c.tell_ended.new.out) (g.S.Sink.pieces c.tell_ended.new.out) (g.S.Sink.faults c.tell_ended.new.out)) c.tell_ended.result ls)
    (append_assoc before (first ∷ []) rest)
    (c.tell_ended.ensures from (before ++ first ∷ []) (c.print_next-so_far.ensures from.bytes from.pieces from.faults before h)))
