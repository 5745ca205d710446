-- A text of a store is short.
use Rattle.system_calls.proofs.TextsJoined.{worded_text, short_text}
use Rattle.system_calls.proofs.wordings.wording_len.Goals as goal

pub returns-in-Text-clause-few : goal.returns-in-Text-clause-few
returns-in-Text-clause-few g c =
    let live = worded_text ((g.H.ObjectStore.content c.args.heap.now).heap c.args.d) c.args.said.now c.in-Text.a c.requires.0 c.in-Text.is c.requires.1 in
    short_text (g.H.ObjectStore.content c.args.heap.now) c.args.d c.in-Text.a c.requires.0 c.text_len.result (g.met.H.ObjectStore.holds c.args.heap.now) live
    (c.text_len.ensures c.requires.0 live)
