-- The units up to some place were put.
use Rattle.std.proofs.Common.{◌≡◌, ℕ, ◌-◌, ◌≤◌, List, length, take}
use Rattle.jk_model.specs.Text.{shown}
use Rattle.jk_model_domains.specs.Objects.{Text}
use Rattle.jk_outside.proofs.SentInOrder.{SoFar}
use Rattle.object_store.specs.HeapContents.{IsLive}
use Rattle.system_calls.proofs.printing.put_text.Given as goal

abbrev pub invariant-loop-from : goal.invariant-loop-from
invariant-loop-from g l =
    (l.from ≤ l.len)
    × ((units : List ℕ) → IsLive (g.H.ObjectStore.content l.heap) l.d l.text (Text units) → length units ≡ l.len
    → SoFar (g.S.Sink.bytes l.initial.out) (g.S.Sink.bytes l.out) (g.S.Sink.pieces l.initial.out) (g.S.Sink.pieces l.out)
    (g.S.Sink.faults l.initial.out) (g.S.Sink.faults l.out) l.initial.buffer l.buffer (shown (take l.from units)))

abbrev pub decreases-loop-from : goal.decreases-loop-from
decreases-loop-from g l = l.len - l.from
