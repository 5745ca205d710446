-- The length is short enough for an int.
use Rattle.std.proofs.Common.{◌≤◌, arith}
use Rattle.system_calls.proofs.TextRows.{length_is_told}
use Rattle.system_calls.proofs.TextsJoined.{short_text}
use Rattle.system_calls.proofs.texts.text_length.Goals as goal

pub overflow_cast-result : goal.overflow_cast-result
overflow_cast-result g c =
    let short : c.text_len.result ≤ 16777216 = short_text (g.H.ObjectStore.content c.args.heap.now) c.args.d c.args.text c.requires.0
    c.text_len.result (g.met.H.ObjectStore.holds c.args.heap.now) c.requires.1
    (c.text_len.ensures c.requires.0 c.requires.1) in
    omega (arith, short)

pub returns : goal.returns
returns g c =
    let told = c.text_len.ensures c.requires.0 c.requires.1 in
    length_is_told (g.H.ObjectStore.content c.args.heap.now) c.args.d c.args.text c.text_len.result c.requires.0 c.requires.1 told
    (short_text (g.H.ObjectStore.content c.args.heap.now) c.args.d c.args.text c.requires.0 c.text_len.result (g.met.H.ObjectStore.holds
    c.args.heap.now) c.requires.1 told)
