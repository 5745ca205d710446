-- A text of a store is short.
use Rattle.system_calls.proofs.TextsJoined.{front_text, short_text}
use Rattle.system_calls.proofs.new_texts.len_of.Goals as goal

pub returns-in-Some-clause-few : goal.returns-in-Some-clause-few
returns-in-Some-clause-few g c =
    let units = c.requires.0 in
    let live = front_text ((g.H.ObjectStore.content c.args.heap.now).heap c.args.d) c.args.text c.in-Some.a c.requires.0 c.in-Some.is c.requires.1 in
    short_text (g.H.ObjectStore.content c.args.heap.now) c.args.d c.in-Some.a c.requires.0 c.text_len.result (g.met.H.ObjectStore.holds c.args.heap.now) live
    (c.text_len.ensures c.requires.0 live)
