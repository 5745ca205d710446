-- A text is copied whole.
use Rattle.system_calls.proofs.TextsJoined.{whole_copied, worded_text}
use Rattle.system_calls.proofs.wordings.write_wording.Goals as goal

pub returns-in-Text : goal.returns-in-Text
returns-in-Text g c = λ text words.
    let live = worded_text ((g.H.ObjectStore.content c.args.heap.now).heap c.args.d) c.args.said.now c.in-Text.a text c.in-Text.is words in
    whole_copied (g.H.ObjectStore.content c.args.heap.now) (g.H.ObjectStore.content c.copy_units.new.heap) c.args.d c.in-Text.a c.args.target
    c.args.from c.text_len-count.result text c.copy_units.ensures live (c.text_len-count.ensures text live)
