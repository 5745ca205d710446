-- The new text has room for both parts, and is filled by them.
use Rattle.std.proofs.Common.{◌≡◌, ◌+◌, length, replicate, arith}
use Rattle.jk_model_domains.specs.Objects.{Text}
use Rattle.system_calls.proofs.TextsJoined.{front_given, is_joined, said_still, still_front, words_given}
use Rattle.system_calls.proofs.new_texts.joined.Goals as goal

pub overflow_add-front_len : goal.overflow_add-front_len
overflow_add-front_len g c = omega (arith, c.len_of-front_len.ensures.few, c.wording_len-back_len.ensures.few)

pub begin_text-requires-clause-front : goal.begin_text-requires-clause-front
begin_text-requires-clause-front g c =
    let front = c.len_of-front_len.ensures.len c.requires.front.0 c.requires.front.1 in
    let back = c.wording_len-back_len.ensures.len c.requires.back.0 c.requires.back.1 in
    let many : c.len_of-front_len.result + c.wording_len-back_len.result ≡ length c.requires.front.0 + length c.requires.back.0 = omega (arith, front, back) in
    front_given (g.H.ObjectStore.content c.args.heap.now) (g.H.ObjectStore.content c.make.new.self) c.args.t.now c.args.d c.in_ok-text.text
    (c.len_of-front_len.result + c.wording_len-back_len.result) c.in_ok-text.ensures.ok c.args.front c.requires.front.0 c.requires.front.1
    c.args.back.now c.requires.back.0 c.requires.back.1 many

pub write_wording-requires-clause-words : goal.write_wording-requires-clause-words
write_wording-requires-clause-words g c =
    let front = c.len_of-front_len.ensures.len c.requires.front.0 c.requires.front.1 in
    let back = c.wording_len-back_len.ensures.len c.requires.back.0 c.requires.back.1 in
    let many : c.len_of-front_len.result + c.wording_len-back_len.result ≡ length c.requires.front.0 + length c.requires.back.0 = omega (arith, front, back) in
    let still = still_front (g.H.ObjectStore.content c.args.heap.now) (g.H.ObjectStore.content c.make.new.self) c.args.t.now c.args.d c.in_ok-text.text
    (Text (replicate (c.len_of-front_len.result + c.wording_len-back_len.result) 0)) c.in_ok-text.ensures.ok c.args.front c.requires.front.0
    c.requires.front.1 in
    words_given (g.H.ObjectStore.content c.args.heap.now) (g.H.ObjectStore.content c.make.new.self) c.args.t.now c.args.d c.in_ok-text.text
    (c.len_of-front_len.result + c.wording_len-back_len.result) c.in_ok-text.ensures.ok c.args.front c.requires.front.0 c.requires.front.1
    c.args.back.now c.requires.back.0 c.requires.back.1 many
    (g.H.ObjectStore.content c.begin_text.new.heap) (c.begin_text.ensures c.requires.front.0 still) c.len_of-front_len.result front

pub returns-clause-ok : goal.returns-clause-ok
returns-clause-ok g c = λ units text begins words.
    let front = c.len_of-front_len.ensures.len units begins in
    let back = c.wording_len-back_len.ensures.len text words in
    let many : c.len_of-front_len.result + c.wording_len-back_len.result ≡ length units + length text = omega (arith, front, back) in
    let still = still_front (g.H.ObjectStore.content c.args.heap.now) (g.H.ObjectStore.content c.make.new.self) c.args.t.now c.args.d c.in_ok-text.text
    (Text (replicate (c.len_of-front_len.result + c.wording_len-back_len.result) 0)) c.in_ok-text.ensures.ok c.args.front units begins in
    let said = said_still (g.H.ObjectStore.content c.args.heap.now) (g.H.ObjectStore.content c.make.new.self) c.args.t.now c.args.d c.in_ok-text.text
    (c.len_of-front_len.result + c.wording_len-back_len.result) c.in_ok-text.ensures.ok c.args.front units begins c.args.back.now text words many
    (g.H.ObjectStore.content c.begin_text.new.heap) (c.begin_text.ensures units still) in
    is_joined (g.H.ObjectStore.content c.args.heap.now) (g.H.ObjectStore.content c.make.new.self) c.args.t.now c.args.d c.in_ok-text.text
    (c.len_of-front_len.result + c.wording_len-back_len.result) c.in_ok-text.ensures.ok c.args.front units begins c.args.back.now text words many
    (g.H.ObjectStore.content c.begin_text.new.heap) (c.begin_text.ensures units still) (g.H.ObjectStore.content c.write_wording.new.heap)
    c.len_of-front_len.result front (c.write_wording.ensures text said)
