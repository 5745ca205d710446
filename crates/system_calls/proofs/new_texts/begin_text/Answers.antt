-- A text is copied whole, and where there is none, nothing is written.
use Rattle.system_calls.proofs.TextsJoined.{front_text, no_front, nothing_written, whole_copied}
use Rattle.system_calls.proofs.new_texts.begin_text.Goals as goal

pub returns-in-Some : goal.returns-in-Some
returns-in-Some g c = λ units begins.
    let live = front_text ((g.H.ObjectStore.content c.args.heap.now).heap c.args.d) c.args.front c.in-Some.a units c.in-Some.is begins in
    whole_copied (g.H.ObjectStore.content c.args.heap.now) (g.H.ObjectStore.content c.copy_units.new.heap) c.args.d c.in-Some.a c.args.target 0
    c.text_len-count.result units c.copy_units.ensures live (c.text_len-count.ensures units live)

pub returns-in_default : goal.returns-in_default
returns-in_default g c = λ units begins.
    nothing_written (g.H.ObjectStore.content c.args.heap.now) c.args.d c.args.target units (g.met.H.ObjectStore.holds c.args.heap.now)
    (no_front ((g.H.ObjectStore.content c.args.heap.now).heap c.args.d) c.args.front units c.in_default.is begins)
