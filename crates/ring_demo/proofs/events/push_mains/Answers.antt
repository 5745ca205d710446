-- One more domain's event is put.
use Rattle.std.proofs.Common.{List, [], ◌∷◌, ◌++◌, ap, ◌∙◌, arith}
use Rattle.jk_model.specs.declared.script.Event.{Event}
use Rattle.ring_demo.specs.DemoEvents.{main_starts}
use Rattle.ring_demo.proofs.EventsInOrder.{ring_more}
use Rattle.ring_demo.proofs.events.push_mains.Goals as goal

pub loop-domain-preserved : goal.loop-domain-preserved
loop-domain-preserved c =
    let i = c.loop-domain.domain in
    record {
      so_far = c.in_ok-push.ensures.ok ∙ ap (λ (e : Event). c.loop-domain.events ++ e ∷ []) c.in_ok-start_main.ensures
          ∙ ap (λ (es : List Event). es ++ (main_starts c.args.domains) i ∷ []) c.loop-domain.invariant.so_far
          ∙ ring_more (main_starts c.args.domains) c.args.events.now i;
      within = omega (arith, c.loop-domain-test.true);
    }
