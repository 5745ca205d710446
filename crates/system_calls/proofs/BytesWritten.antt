-- Bytes are written over the units of a text one after the other: those so far stand, and the next one is put beside them.
use Rattle.std.proofs.Common.{◌≡◌, ℕ, ◌+◌, ◌<◌, ◌≤◌, pos, List, ◌++◌, replicate, length, take, drop, get_or, slice_set, sym, ap, ◌∙◌, subst, zero-add, arith}
use Rattle.std.proofs.Math.Seq.{paste, take-length}
use Rattle.std.proofs.lemmas.List.{length-replicate}
use Rattle.std.proofs.lemmas.List.Edits.{length-paste, paste_more, paste_none}
use Rattle.jk_model.specs.declared.identifiers.DomainId.{DomainId}
use Rattle.jk_model.specs.declared.values.Value.{Value}
use Rattle.jk_model.specs.declared.values.Value.TheVariants as Held
use Rattle.jk_model_classes.specs.declared.records.ClassRecord.{ClassRecord}
use Rattle.jk_model_domains.specs.Objects.{Object, Text}
use Rattle.object_store.specs.HeapContents.{HeapContent, IsHeapContent, IsLive, IsWritten, TakesItem, WritesObject}
use Rattle.object_store.proofs.ObjectsWritten.{live_after, then_written, written_as_it_is}
use Rattle.heap_loops.specs.TextChanges.{HasUnits, WritesUnits, with_units}
use Rattle.heap_loops.proofs.UnitsSoFar.{same_text, zeros}

-- the text of a name has so many of these units
abbrev pub WrittenSoFar : HeapContent → HeapContent → DomainId → ℕ → List ℕ → ℕ → Type 0
WrittenSoFar old now d a units i = (text : List ℕ) → IsLive old d a (Text text) → WritesObject old now d a (Text (paste text 0 units i))

pub none_written : (c : HeapContent) (d : DomainId) (a : ℕ) (units : List ℕ) → IsHeapContent c → WrittenSoFar c c d a units 0
none_written c d a units holds = λ text live.
    subst (λ (x : List ℕ). WritesObject c c d a (Text x)) (paste_none text 0 units) (written_as_it_is c d a (Text text) holds live)

next_unit : (text units : List ℕ) (i : ℕ) → i < length text → i < length units → get_or units i 0 < 65536
    → IsWritten (Text (paste text 0 units i)) i (Held.Int (pos (get_or units i 0))) (Text (paste text 0 units (i + 1)))
next_unit text units i there within small =
    let long = length-paste text 0 units i (omega arith) (omega arith) in
    let place : 0 + i ≡ i = zero-add i in (
      omega (arith, long),
      small,
      ap Text (sym (paste_more text 0 units i 0 (omega arith) within) ∙ ap (λ (n : ℕ). slice_set (paste text 0 units i) n (get_or units i 0)) place),
    )

module _ (old now : HeapContent) (d : DomainId) (a : ℕ) (units : List ℕ) (i : ℕ) (has : HasUnits old d a (length units))
    (within : i < length units) (v : Value) (is : v ≡ Held.Int (pos (get_or units i 0))) (small : get_or units i 0 < 65536)
    (so_far : WrittenSoFar old now d a units i) where
  written : (text : List ℕ) → IsLive old d a (Text text) → IsWritten (Text (paste text 0 units i)) i v (Text (paste text 0 units (i + 1)))
  written text live =
      let same : has.text ≡ text = same_text old d a has.text text has.live live in
      let many : length units ≤ length text = subst (λ (t : List ℕ). length units ≤ length t) same has.many in
      subst (λ (x : Value). IsWritten (Text (paste text 0 units i)) i x (Text (paste text 0 units (i + 1)))) (sym is)
      (next_unit text units i (omega arith) within small)

  stands : (text : List ℕ) → IsLive old d a (Text text) → IsLive now d a (Text (paste text 0 units i))
  stands text live = live_after old now d a (Text text) (Text (paste text 0 units i)) live (so_far text live)

  pub takes_next : (classes : List ClassRecord) → TakesItem now classes d a i v
  takes_next classes = record {
    object = Text (paste has.text 0 units i);
    live = stands has.text has.live;
    laid_out = tt;
    new = Text (paste has.text 0 units (i + 1));
    written = written has.text has.live;
  }

  pub next_written : (next : HeapContent)
      → ((object new : Object) → IsLive now d a object → IsWritten object i v new → WritesObject now next d a new)
      → WrittenSoFar old next d a units (i + 1)
  next_written next writes = λ text live.
      then_written old now next d a (Text (paste text 0 units i)) (Text (paste text 0 units (i + 1))) (so_far text live)
      (writes (Text (paste text 0 units i)) (Text (paste text 0 units (i + 1))) (stands text live) (written text live))

pub all_written : (old now : HeapContent) (d : DomainId) (a : ℕ) (units : List ℕ) (i : ℕ) → i ≡ length units
    → WrittenSoFar old now d a units i → WritesUnits old now d a 0 units
all_written old now d a units i end so_far = λ text live.
    let whole : paste text 0 units i ≡ with_units text 0 units =
    ap (paste text 0 units) end ∙ ap (λ (l : List ℕ). take 0 text ++ l ++ drop (0 + length units) text) (take-length units) in
    subst (λ (x : List ℕ). WritesObject old now d a (Text x)) whole (so_far text live)

-- ---- A text that is made.

pub has_zeros : (c : HeapContent) (d : DomainId) (a n : ℕ) → IsLive c d a (zeros n) → HasUnits c d a n
has_zeros c d a n live = record { text = replicate n 0; live = live; many = omega (arith, length-replicate {A = ℕ} n 0) }
