-- The domain's objects are laid out and known, and what was done is what the method does.
use Rattle.std.proofs.Common.{List, sym, subst}
use Rattle.jk_model_classes.specs.declared.records.ClassRecord.{ClassRecord}
use Rattle.jk_model_sharing.specs.SharedStates.{caps_of}
use Rattle.thread_segments.specs.KnownStubs.{KnowsStubs}
use Rattle.system_calls.specs.DoneRows.{IsReady}
use Rattle.system_calls.proofs.GroupsOfMethods.{left_over, no_buffer, no_object, no_text}
use Rattle.system_calls.proofs.MethodsAreDone.{copy_done}
use Rattle.system_calls.proofs.MethodsMayBeDone.{all_named, items_known, ready, stubs_known}
use Rattle.system_calls.proofs.calls.answer.Goals as goal

pub text_answer-requires-clause-ready : goal.text_answer-requires-clause-ready
text_answer-requires-clause-ready g c =
    subst (λ (cs : List ClassRecord). IsReady (g.H.ObjectStore.content c.args.heap.now) cs c.args.here.now.domain) (sym c.classes-t.ensures)
    (ready (g.H.ObjectStore.content c.args.heap.now) c.args.shared.now c.args.here.now c.requires.may.own c.requires.may.frames c.requires.may.may)

pub text_answer-requires-clause-named : goal.text_answer-requires-clause-named
text_answer-requires-clause-named g c =
    all_named (g.H.ObjectStore.content c.args.heap.now) c.args.here.now (caps_of c.args.shared.now) c.args.given.now c.requires.may.known

pub buffer_answer-requires-clause-ready : goal.buffer_answer-requires-clause-ready
buffer_answer-requires-clause-ready g c =
    subst (λ (cs : List ClassRecord). IsReady (g.H.ObjectStore.content c.args.heap.now) cs c.args.here.now.domain) (sym c.classes-t.ensures)
    (ready (g.H.ObjectStore.content c.args.heap.now) c.args.shared.now c.args.here.now c.requires.may.own c.requires.may.frames c.requires.may.may)

pub object_answer-requires-clause-ready : goal.object_answer-requires-clause-ready
object_answer-requires-clause-ready g c =
    subst (λ (cs : List ClassRecord). IsReady (g.H.ObjectStore.content c.args.heap.now) cs c.args.here.now.domain) (sym c.classes-t.ensures)
    (ready (g.H.ObjectStore.content c.args.heap.now) c.args.shared.now c.args.here.now c.requires.may.own c.requires.may.frames c.requires.may.may)

pub copy_answer-requires-clause-ready : goal.copy_answer-requires-clause-ready
copy_answer-requires-clause-ready g c =
    subst (λ (cs : List ClassRecord). IsReady (g.H.ObjectStore.content c.args.heap.now) cs c.args.here.now.domain) (sym c.classes-t.ensures)
    (ready (g.H.ObjectStore.content c.args.heap.now) c.args.shared.now c.args.here.now c.requires.may.own c.requires.may.frames c.requires.may.may)

pub copy_answer-requires-clause-named : goal.copy_answer-requires-clause-named
copy_answer-requires-clause-named g c =
    all_named (g.H.ObjectStore.content c.args.heap.now) c.args.here.now (caps_of c.args.shared.now) c.args.given.now c.requires.may.known

pub copy_answer-requires-clause-known : goal.copy_answer-requires-clause-known
copy_answer-requires-clause-known g c =
    items_known (g.H.ObjectStore.content c.args.heap.now) c.args.shared.now c.args.here.now c.requires.may.own c.requires.may.frames c.requires.may.may

pub copy_answer-requires-clause-right : goal.copy_answer-requires-clause-right
copy_answer-requires-clause-right g c =
    subst (KnowsStubs c.args.shared.now) (sym c.classes-t.ensures)
    (stubs_known (g.H.ObjectStore.content c.args.heap.now) c.args.shared.now c.args.here.now c.requires.may.own c.requires.may.frames
    c.requires.may.may)

pub returns-in-CopiesArray : goal.returns-in-CopiesArray
returns-in-CopiesArray g c =
    copy_done (g.H.ObjectStore.content c.args.heap.now) (g.H.ObjectStore.content c.copy_answer.new.heap) c.args.shared.now c.args.here.now
    c.args.given.now c.copy_answer.result c.classes-t.result.now c.classes-t.ensures c.copy_answer.ensures.becomes c.copy_answer.ensures.row
    c.args.meaning c.in-CopiesArray.is

pub jk_answer-requires-clause-group : goal.jk_answer-requires-clause-group
jk_answer-requires-clause-group g c =
    let other = c.in_default in
    left_over c.args.meaning
    (no_text c.args.meaning other.not-TextLength other.not-CharAt other.not-IsSameText other.not-Concat other.not-Substring other.not-TextOf)
    (no_buffer c.args.meaning other.not-BufferInitialises other.not-BufferInitialisesWith other.not-BufferLength other.not-BufferText
    other.not-Appends)
    (no_object c.args.meaning other.not-Initialises other.not-IsSame other.not-ParsesInt other.not-SetsMessage other.not-GetsMessage)
    other.not-CopiesArray c.requires.answered.0
