-- What stands in the first field is the hidden text.
use Rattle.std.proofs.Common.{◌∙◌, sym, inl, inr}
use Rattle.system_calls.proofs.HiddenRows.{has_text, hidden_is, text_read}
use Rattle.system_calls.proofs.hidden_texts.hidden.Goals as goal

pub read-requires : goal.read-requires
read-requires g c = has_text (g.H.ObjectStore.content c.args.heap.now) c.args.t.now c.args.d c.requires.ready c.args.object c.requires.holds.0

pub unreachable-requires : goal.unreachable-requires
unreachable-requires g c =
    let h = c.requires.holds.0 in
    let read = text_read (g.H.ObjectStore.content c.args.heap.now) c.args.t.now c.args.d c.requires.ready c.args.object h c.read.result c.read.ensures in
    elim (hidden_is ((g.H.ObjectStore.content c.args.heap.now).heap c.args.d) h.text c.requires.holds.1 c.requires.holds.2) [
      | inl null ↦ c.in_default.not-Null (sym read ∙ null)
      | inr text ↦ c.in_default.not-Obj text.0 (sym read ∙ text.1)
    ]

pub returns-in-Obj : goal.returns-in-Obj
returns-in-Obj g c = λ h.
    text_read (g.H.ObjectStore.content c.args.heap.now) c.args.t.now c.args.d c.requires.ready c.args.object h c.read.result c.read.ensures ∙ c.in-Obj.is

pub returns-in-Null : goal.returns-in-Null
returns-in-Null g c = λ h.
    text_read (g.H.ObjectStore.content c.args.heap.now) c.args.t.now c.args.d c.requires.ready c.args.object h c.read.result c.read.ensures ∙ c.in-Null.is
