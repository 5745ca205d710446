-- What is read so far, and what is left, write the whole number.
use Rattle.std.proofs.Common.{◌≡◌, ℕ, ◌≤◌, List, drop, length}
use Rattle.jk_model_domains.specs.Objects.{Text}
use Rattle.object_store.specs.HeapContents.{IsLive}
use Rattle.system_calls.proofs.NumbersRead.{read_on}
use Rattle.system_calls.proofs.int_texts.magnitude_in.Given as goal

abbrev pub invariant-loop-i : goal.invariant-loop-i
invariant-loop-i g l =
    (l.magnitude ≤ 2147483648)
    × ((units : List ℕ) → IsLive (g.H.ObjectStore.content l.heap) l.d l.text (Text units) → length units ≡ l.len
    → read_on 0 (drop l.from units) ≡ read_on l.magnitude (drop l.i units))
