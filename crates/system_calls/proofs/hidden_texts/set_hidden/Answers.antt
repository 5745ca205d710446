-- The first field takes a text or null, and all else stays.
use Rattle.std.proofs.Common.{subst}
use Rattle.jk_model_system_rows.specs.HiddenTexts.{HidesUnits}
use Rattle.jk_model.specs.declared.values.Value.{Value}
use Rattle.system_calls.proofs.HiddenRows.{one_text, takes_text, text_put}
use Rattle.system_calls.proofs.hidden_texts.set_hidden.Goals as goal

pub write-requires : goal.write-requires
write-requires g c =
    takes_text (g.H.ObjectStore.content c.args.heap.now) c.args.t.now c.args.d c.requires.ready c.args.object c.requires.holds.0
    (g.met.H.ObjectStore.holds c.args.heap.now) c.requires.holds.1 c.requires.holds.2 c.args.v
    c.requires.text

pub returns : goal.returns
returns g c = λ h.
    let hides = subst (λ (v : Value). HidesUnits ((g.H.ObjectStore.content c.args.heap.now).heap c.args.d) v c.requires.holds.1)
    (one_text ((g.H.ObjectStore.content c.args.heap.now).heap c.args.d) c.args.object c.requires.holds.0 h) c.requires.holds.2 in
    text_put (g.H.ObjectStore.content c.args.heap.now) c.args.t.now c.args.d c.requires.ready c.args.object h (g.met.H.ObjectStore.holds
    c.args.heap.now) c.requires.holds.1 hides c.args.v c.requires.text
    (g.H.ObjectStore.content c.write.new.self) c.write.ensures
