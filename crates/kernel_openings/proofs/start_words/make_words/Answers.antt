-- Each word's text is made and put into the array; the room that all of them take together is there.
use Rattle.std.proofs.Common.{◌≡◌, [], get_or, length, ◌∙◌, arith}
use Rattle.std.proofs.lemmas.List.{get_or_read}
use Rattle.kernel_openings.proofs.WordsSoFar.{all_made, room_left, takes_text, text_put}
use Rattle.kernel_openings.proofs.start_words.make_words.Goals as goal

pub make_word-text-requires-clause-room : goal.make_word-text-requires-clause-room
make_word-text-requires-clause-room g c =
    let is_word : c.as_slice.result.now ≡ get_or c.args.words.now c.loop-i.i [] =
    c.as_slice.ensures ∙ get_or_read c.args.words.now c.loop-i.i c.index-words-i.result c.loop-i-test.true c.index-words-i.is [] in
    room_left (g.H.ObjectStore.content c.args.heap.now) (g.H.ObjectStore.content c.loop-i.heap) c.args.t.now c.args.d c.args.words.now c.in-Ok.array
    c.loop-i.i c.loop-i-test.true c.loop-i.invariant c.requires.room c.as_slice.result.now is_word

pub write-requires : goal.write-requires
write-requires g c =
    let is_word : c.as_slice.result.now ≡ get_or c.args.words.now c.loop-i.i [] =
    c.as_slice.ensures ∙ get_or_read c.args.words.now c.loop-i.i c.index-words-i.result c.loop-i-test.true c.index-words-i.is [] in
    takes_text (g.H.ObjectStore.content c.args.heap.now) (g.H.ObjectStore.content c.loop-i.heap) (g.H.ObjectStore.content c.make_word-text.new.heap)
    c.args.t.now c.args.d c.args.words.now c.in-Ok.array c.loop-i.i c.make_word-text.result c.loop-i-test.true c.loop-i.invariant
    (g.met.H.ObjectStore.holds c.make_word-text.new.heap) c.as_slice.result.now is_word c.make_word-text.ensures

pub loop-i-preserved : goal.loop-i-preserved
loop-i-preserved g c =
    let is_word : c.as_slice.result.now ≡ get_or c.args.words.now c.loop-i.i [] =
    c.as_slice.ensures ∙ get_or_read c.args.words.now c.loop-i.i c.index-words-i.result c.loop-i-test.true c.index-words-i.is [] in
    text_put (g.H.ObjectStore.content c.args.heap.now) (g.H.ObjectStore.content c.loop-i.heap) (g.H.ObjectStore.content c.make_word-text.new.heap)
    c.args.t.now c.args.d c.args.words.now c.in-Ok.array c.loop-i.i c.make_word-text.result c.loop-i-test.true c.loop-i.invariant
    (g.met.H.ObjectStore.holds c.make_word-text.new.heap) c.as_slice.result.now is_word c.make_word-text.ensures
    (g.H.ObjectStore.content c.write.new.self) c.write.ensures

pub returns : goal.returns
returns g c =
    let end : c.loop-i.i ≡ length c.args.words.now = omega (arith, c.loop-i-test.false, c.loop-i.auto.i-end) in
    all_made (g.H.ObjectStore.content c.args.heap.now) (g.H.ObjectStore.content c.loop-i.heap) c.args.t.now c.args.d c.args.words.now c.in-Ok.array
    c.loop-i.i end (g.met.H.ObjectStore.holds c.loop-i.heap) c.loop-i.invariant
