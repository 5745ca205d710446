-- Units of a text are written one after the other: those so far stand, and the next one is put beside them.
use Rattle.std.proofs.Common.{◌≡◌, ◌≢◌, ℕ, ◌+◌, ◌<◌, ◌≤◌, ◌^◌, pos, List, [], ◌++◌, replicate, length, take, drop, get_or, Some, sym, ap, ◌∙◌, subst, arith}
use Rattle.std.specs.Option.{option_map}
use Rattle.std.proofs.Math.ListN.{drop_of_length-le}
use Rattle.std.proofs.Math.Seq.{paste, take-length}
use Rattle.std.proofs.lemmas.List.{append-nil, get_or-drop, length-drop, length-replicate, length-take-le}
use Rattle.std.proofs.lemmas.List.Edits.{length-paste, paste_more, paste_none}
use Rattle.std.proofs.lemmas.Option.{same_Some, slice_get-get_or}
use Rattle.list_lemmas.proofs.ItemsRead.{all_read}
use Rattle.jk_model.specs.declared.identifiers.DomainId.{DomainId}
use Rattle.jk_model.specs.declared.values.Value.{Value}
use Rattle.jk_model.specs.declared.values.Value.TheVariants as Held
use Rattle.jk_model_classes.specs.declared.records.ClassRecord.{ClassRecord}
use Rattle.jk_model_domains.specs.Objects.{Object, Text, object_words}
use Rattle.object_store.specs.HeapContents.{HasItem, HeapContent, IsHeapContent, IsLive, IsWritten, MakesObject, TakesItem, WritesObject, item_of}
use Rattle.object_store.proofs.ObjectsWritten.{is_short, live_after, live_beside, live_made, made_with, then_written, written_as_it_is}
use Rattle.heap_loops.specs.TextChanges.{CopiesUnits, HasUnits, WritesUnits, with_units}

-- the text of a name has so many of these units from a place on
abbrev pub WrittenSoFar : HeapContent → HeapContent → DomainId → ℕ → ℕ → List ℕ → ℕ → Type 0
WrittenSoFar old now d a from units i =
    (text : List ℕ) → IsLive old d a (Text text) → WritesObject old now d a (Text (paste text from units i))

pub same_text : (c : HeapContent) (d : DomainId) (a : ℕ) (t u : List ℕ) → IsLive c d a (Text t) → IsLive c d a (Text u) → t ≡ u
same_text c d a t u first second = let same : Some (Text t) ≡ Some (Text u) = sym first ∙ second in cc

-- places in a text fit 32 bits
pub ends_early : (c : HeapContent) (d : DomainId) (a n : ℕ) → IsHeapContent c → HasUnits c d a n → n < 2 ^ 24
ends_early c d a n holds has =
    let short = is_short c d a (Text has.text) holds has.live in
    let many = has.many in
    omega arith

pub none_written : (c : HeapContent) (d : DomainId) (a from : ℕ) (units : List ℕ) → IsHeapContent c → WrittenSoFar c c d a from units 0
none_written c d a from units holds = λ text live.
    subst (λ (x : List ℕ). WritesObject c c d a (Text x)) (paste_none text from units) (written_as_it_is c d a (Text text) holds live)

next_unit : (text : List ℕ) (from : ℕ) (units : List ℕ) (i : ℕ) → from + i < length text → i < length units → get_or units i 0 < 65536
    → IsWritten (Text (paste text from units i)) (from + i) (Held.Int (pos (get_or units i 0))) (Text (paste text from units (i + 1)))
next_unit text from units i there within small =
    let long = length-paste text from units i (omega arith) (omega arith) in
    (omega arith, small, ap Text (sym (paste_more text from units i 0 there within)))

module _ (old now : HeapContent) (d : DomainId) (a from : ℕ) (units : List ℕ) (count i : ℕ) (has : HasUnits old d a (from + count))
    (enough : count ≤ length units) (within : i < count) (v : Value) (is : v ≡ Held.Int (pos (get_or units i 0)))
    (small : get_or units i 0 < 65536) (so_far : WrittenSoFar old now d a from units i) where
  written : (text : List ℕ) → IsLive old d a (Text text)
      → IsWritten (Text (paste text from units i)) (from + i) v (Text (paste text from units (i + 1)))
  written text live =
      let same : has.text ≡ text = same_text old d a has.text text has.live live in
      let many : from + count ≤ length text = subst (λ (t : List ℕ). from + count ≤ length t) same has.many in
      subst (λ (x : Value). IsWritten (Text (paste text from units i)) (from + i) x (Text (paste text from units (i + 1)))) (sym is)
      (next_unit text from units i (omega arith) (omega arith) small)

  stands : (text : List ℕ) → IsLive old d a (Text text) → IsLive now d a (Text (paste text from units i))
  stands text live = live_after old now d a (Text text) (Text (paste text from units i)) live (so_far text live)

  pub takes_next : (classes : List ClassRecord) → TakesItem now classes d a (from + i) v
  takes_next classes = record {
    object = Text (paste has.text from units i);
    live = stands has.text has.live;
    laid_out = tt;
    new = Text (paste has.text from units (i + 1));
    written = written has.text has.live;
  }

  pub next_written : (next : HeapContent)
      → ((object new : Object) → IsLive now d a object → IsWritten object (from + i) v new → WritesObject now next d a new)
      → WrittenSoFar old next d a from units (i + 1)
  next_written next writes = λ text live.
      then_written old now next d a (Text (paste text from units i)) (Text (paste text from units (i + 1))) (so_far text live)
      (writes (Text (paste text from units i)) (Text (paste text from units (i + 1))) (stands text live) (written text live))

pub all_written : (old now : HeapContent) (d : DomainId) (a from : ℕ) (units : List ℕ) (i : ℕ) → i ≡ length units
    → WrittenSoFar old now d a from units i → WritesUnits old now d a from units
all_written old now d a from units i end so_far = λ text live.
    let whole : paste text from units i ≡ with_units text from units =
    ap (paste text from units) end ∙ ap (λ (l : List ℕ). take from text ++ l ++ drop (from + length units) text) (take-length units) in
    subst (λ (x : List ℕ). WritesObject old now d a (Text x)) whole (so_far text live)

-- ---- Units that are read from another text.

-- the text of a name has so many units of another text, from a place of that on
abbrev pub CopiedSoFar : HeapContent → HeapContent → DomainId → ℕ → ℕ → ℕ → ℕ → ℕ → Type 0
CopiedSoFar old now d source from target to i =
    (text : List ℕ) → IsLive old d source (Text text) → WrittenSoFar old now d target to (drop from text) i

pub all_copied : (old now : HeapContent) (d : DomainId) (source from target to count i : ℕ) → HasUnits old d source (from + count) → i ≡ count
    → CopiedSoFar old now d source from target to i → CopiesUnits old now d source from target to count
all_copied old now d source from target to count i has end so_far = λ text live into stands.
    let same : has.text ≡ text = same_text old d source has.text text has.live live in
    let many : from + count ≤ length text = subst (λ (t : List ℕ). from + count ≤ length t) same has.many in
    let short : length (take count (drop from text)) ≡ count = length-take-le count (drop from text) (omega (arith, length-drop from text)) in
    let whole : paste into to (drop from text) i ≡ with_units into to (take count (drop from text)) =
    ap (paste into to (drop from text)) end
    ∙ ap (λ (n : ℕ). take to into ++ take count (drop from text) ++ drop (to + n) into) (sym short) in
    subst (λ (x : List ℕ). WritesObject old now d target (Text x)) whole (so_far text live into stands)

module _ (old now : HeapContent) (d : DomainId) (source from target to count i : ℕ) (holds : IsHeapContent old) (differ : source ≢ target)
    (has : HasUnits old d source (from + count)) (into : HasUnits old d target (to + count)) (within : i < count)
    (so_far : CopiedSoFar old now d source from target to i) where
  there : IsLive now d source (Text has.text)
  there = live_beside old now d target source (Text (paste into.text to (drop from has.text) i)) (Text has.text) differ has.live
      (so_far has.text has.live into.text into.live)

  reads : item_of (Text has.text) (from + i) ≡ Some (Held.Int (pos (get_or has.text (from + i) 0)))
  reads =
      let many = has.many in
      ap (option_map (λ (u : ℕ). Held.Int (pos u))) (slice_get-get_or has.text (from + i) 0 (omega arith))

  pub has_unit : (classes : List ClassRecord) → HasItem now classes d source (from + i)
  has_unit classes = record {
    object = Text has.text;
    live = there;
    laid_out = tt;
    value = Held.Int (pos (get_or has.text (from + i) 0));
    stands = reads;
  }

  module _ (v : Value) (read : (object : Object) → IsLive now d source object → item_of object (from + i) ≡ Some v) where
    value_is : v ≡ Held.Int (pos (get_or (drop from has.text) i 0))
    value_is =
        same_Some v (Held.Int (pos (get_or has.text (from + i) 0))) (sym (read (Text has.text) there) ∙ reads)
        ∙ ap (λ (u : ℕ). Held.Int (pos u)) (sym (get_or-drop from has.text i 0))

    is_small : get_or (drop from has.text) i 0 < 65536
    is_small =
        let many = has.many in
        subst (λ (u : ℕ). u < 65536) (sym (get_or-drop from has.text i 0))
        (all_read (λ (u : ℕ). u < 65536) has.text (from + i) 0 (holds.stored d source (Text has.text) has.live) (omega arith))

    enough : count ≤ length (drop from has.text)
    enough = let many = has.many in omega (arith, length-drop from has.text)

    pub takes_unit : (classes : List ClassRecord) → TakesItem now classes d target (to + i) v
    takes_unit classes = takes_next old now d target to (drop from has.text) count i into enough within v value_is is_small
        (so_far has.text has.live) classes

    pub unit_copied : (next : HeapContent)
        → ((object new : Object) → IsLive now d target object → IsWritten object (to + i) v new → WritesObject now next d target new)
        → CopiedSoFar old next d source from target to (i + 1)
    unit_copied next writes = λ text live.
        let same : has.text ≡ text = same_text old d source has.text text has.live live in
        subst (λ (t : List ℕ). WrittenSoFar old next d target to (drop from t) (i + 1)) same
        (next_written old now d target to (drop from has.text) count i into enough within v value_is is_small (so_far has.text has.live) next writes)

-- ---- A text that is made.

abbrev pub zeros : ℕ → Object
zeros n = Text (replicate n 0)

pub has_zeros : (c : HeapContent) (d : DomainId) (a n : ℕ) → IsLive c d a (zeros n) → HasUnits c d a (0 + n)
has_zeros c d a n live = record { text = replicate n 0; live = live; many = omega (arith, length-replicate {A = ℕ} n 0) }

pub over_zeros : (units : List ℕ) → with_units (replicate (length units) 0) 0 units ≡ units
over_zeros units =
    let nothing : drop (0 + length units) (replicate (length units) 0) ≡ [] =
    drop_of_length-le (replicate (length units) 0) (omega (arith, length-replicate {A = ℕ} (length units) 0)) in
    ap (λ (l : List ℕ). units ++ l) nothing ∙ append-nil units

pub text_made : (old mid new : HeapContent) (classes : List ClassRecord) (d : DomainId) (a : ℕ) (units : List ℕ)
    → MakesObject old mid classes d a (zeros (length units)) → WritesUnits mid new d a 0 units → MakesObject old new classes d a (Text units)
text_made old mid new classes d a units made writes =
    let live = live_made old mid classes d a (zeros (length units)) made in
    let whole : WritesObject mid new d a (Text units) =
    subst (λ (l : List ℕ). WritesObject mid new d a (Text l)) (over_zeros units) (writes (replicate (length units) 0) live) in
    let cost : object_words classes (Text units) ≡ object_words classes (zeros (length units)) = omega (arith, length-replicate {A = ℕ} (length units) 0) in
    made_with old mid new classes d a (zeros (length units)) (Text units) cost made whole
