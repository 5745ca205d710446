-- A new text is filled from the front: by the units of a text, and then by a wording. Both stand in the store as they did before.
use Rattle.std.proofs.Common.{◌≡◌, ◌≢◌, ℕ, ◌+◌, ◌≤◌, List, [], ◌∷◌, ◌++◌, length, take, drop, replicate, Option, Some, None, sym, ap, ◌∙◌, subst, arith}
use Rattle.std.proofs.Math.ListN.{drop_of_length-le}
use Rattle.std.proofs.lemmas.List.{append-nil, length-append, length-drop, length-replicate, take-append-le, take_all}
use Rattle.jk_model.specs.declared.identifiers.DomainId.{DomainId}
use Rattle.jk_model_classes.specs.declared.records.ClassRecord.{ClassRecord}
use Rattle.jk_model_domains.specs.Objects.{NamedObject, Object, Text, object_named, object_words}
use Rattle.jk_model_heaps.specs.Heaps.{named}
use Rattle.jk_model_heaps.proofs.NamesInHeaps.{in_front}
use Rattle.object_store.specs.HeapContents.{HeapContent, IsHeapContent, IsLive, MakesObject, WritesObject}
use Rattle.object_store.proofs.ObjectsWritten.{is_short, live_after, live_beside, live_made, made_with, then_written, written_as_it_is}
use Rattle.heap_loops.specs.TextChanges.{CopiesUnits, HasUnits, WritesUnits, with_units}
use Rattle.system_calls.specs.declared.wordings.Wording.{Wording}
use Rattle.system_calls.specs.declared.wordings.Wording.TheVariants as Of
use Rattle.system_calls.specs.Wordings.{IsBeside, IsFrontOf, IsNotFront, IsWorded}

-- ---- Lists.

pub both_written : (units text z : List ℕ) → length z ≡ length units + length text
    → with_units (with_units z 0 units) (length units) text ≡ units ++ text
both_written units text z many =
    let front : take (length units) (units ++ drop (0 + length units) z) ≡ units =
    take-append-le (length units) units (drop (0 + length units) z) (omega arith) ∙ take_all (length units) units (omega arith) in
    let short : length (units ++ drop (0 + length units) z) ≤ length units + length text =
    omega (arith, length-append units (drop (0 + length units) z), length-drop (0 + length units) z, many) in
    let end : drop (length units + length text) (units ++ drop (0 + length units) z) ≡ [] =
    drop_of_length-le (units ++ drop (0 + length units) z) short in
    ap (λ (xs : List ℕ). xs ++ text ++ drop (length units + length text) (units ++ drop (0 + length units) z)) front
    ∙ ap (λ (xs : List ℕ). units ++ text ++ xs) end ∙ append-nil (units ++ text)

-- ---- What stood before stands, and is another object.

pub other_name : (old new : HeapContent) (classes : List ClassRecord) (d : DomainId) (a b : ℕ) (object text : Object)
    → MakesObject old new classes d a object → IsLive old d b text → b ≢ a
other_name old new classes d a b object text made live = λ same.
    let lacked : object_named (old.heap d) b ≡ None = ap (object_named (old.heap d)) same ∙ made.fresh in
    let none : None ≡ Some text = sym lacked ∙ live in
    cc

pub still_live : (old new : HeapContent) (classes : List ClassRecord) (d : DomainId) (a b : ℕ) (object text : Object)
    → MakesObject old new classes d a object → IsLive old d b text → IsLive new d b text
still_live old new classes d a b object text made live =
    ap (λ (heap : List NamedObject). object_named heap b) made.becomes.becomes ∙ in_front (old.heap d) (named a object ∷ []) b text live

module _ (old new : HeapContent) (classes : List ClassRecord) (d : DomainId) (a : ℕ) (object : Object) (made : MakesObject old new classes d a object)
  where
    pub still_worded : (said : Wording) (text : List ℕ) → IsWorded (old.heap d) said text → IsWorded (new.heap d) said text
    still_worded (Of.Short s) text is = is
    still_worded (Of.Text b) text is = still_live old new classes d a b object (Text text) made is

    pub worded_beside : (said : Wording) (text : List ℕ) → IsWorded (old.heap d) said text → IsBeside said a
    worded_beside (Of.Short s) text is = tt
    worded_beside (Of.Text b) text is = other_name old new classes d a b object (Text text) made is

    pub still_front : (front : Option ℕ) (units : List ℕ) → IsFrontOf (old.heap d) front units → IsFrontOf (new.heap d) front units
    still_front None units is = is
    still_front (Some b) units is = still_live old new classes d a b object (Text units) made is

    pub front_beside : (front : Option ℕ) (units : List ℕ) → IsFrontOf (old.heap d) front units → IsNotFront front a
    front_beside None units is = tt
    front_beside (Some b) units is = other_name old new classes d a b object (Text units) made is

pub worded_after : (old new : HeapContent) (d : DomainId) (a : ℕ) (object : Object) (said : Wording) (text : List ℕ) → WritesObject old new d a object
    → IsBeside said a → IsWorded (old.heap d) said text → IsWorded (new.heap d) said text
worded_after old new d a object (Of.Short s) text writes beside is = is
worded_after old new d a object (Of.Text b) text writes beside is = live_beside old new d a b object (Text text) beside is writes

-- ---- A wording is one text, and so are the units in front.

pub one_wording : (heap : List NamedObject) (said : Wording) (t u : List ℕ) → IsWorded heap said t → IsWorded heap said u → t ≡ u
one_wording heap (Of.Short s) t u first second = first ∙ sym second
one_wording heap (Of.Text a) t u first second = let same : Some (Text t) ≡ Some (Text u) = sym first ∙ second in cc

pub one_front : (heap : List NamedObject) (front : Option ℕ) (t u : List ℕ) → IsFrontOf heap front t → IsFrontOf heap front u → t ≡ u
one_front heap None t u first second = first ∙ sym second
one_front heap (Some a) t u first second = let same : Some (Text t) ≡ Some (Text u) = sym first ∙ second in cc

-- ---- All of a text is copied, or nothing.

pub worded_text : (heap : List NamedObject) (said : Wording) (a : ℕ) (text : List ℕ) → said ≡ Of.Text a → IsWorded heap said text
    → object_named heap a ≡ Some (Text text)
worded_text heap said a text is words = subst (λ (w : Wording). IsWorded heap w text) is words

pub front_text : (heap : List NamedObject) (front : Option ℕ) (a : ℕ) (units : List ℕ) → front ≡ Some a → IsFrontOf heap front units
    → object_named heap a ≡ Some (Text units)
front_text heap front a units is begins = subst (λ (f : Option ℕ). IsFrontOf heap f units) is begins

pub no_front : (heap : List NamedObject) (front : Option ℕ) (units : List ℕ) → front ≡ None → IsFrontOf heap front units → units ≡ []
no_front heap front units is begins = subst (λ (f : Option ℕ). IsFrontOf heap f units) is begins

pub short_text : (c : HeapContent) (d : DomainId) (a : ℕ) (text : List ℕ) (n : ℕ) → IsHeapContent c → IsLive c d a (Text text) → n ≡ length text
    → n ≤ 16777216
short_text c d a text n holds live is = let short = is_short c d a (Text text) holds live in omega (arith, short, is)

pub whole_copied : (old new : HeapContent) (d : DomainId) (source target from count : ℕ) (text : List ℕ)
    → CopiesUnits old new d source 0 target from count → IsLive old d source (Text text) → count ≡ length text
    → WritesUnits old new d target from text
whole_copied old new d source target from count text copies live is =
    let whole : take count (drop 0 text) ≡ text = ap (λ (n : ℕ). take n text) is ∙ take_all (length text) text (omega arith) in
    subst (λ (us : List ℕ). WritesUnits old new d target from us) whole (copies text live)

pub nothing_written : (c : HeapContent) (d : DomainId) (a : ℕ) (units : List ℕ) → IsHeapContent c → units ≡ [] → WritesUnits c c d a 0 units
nothing_written c d a units holds is =
    subst (λ (us : List ℕ). WritesUnits c c d a 0 us) (sym is) (λ text live. written_as_it_is c d a (Text text) holds live)

-- ---- A new text is filled.

same_length : (units z : List ℕ) → length units ≤ length z → length (with_units z 0 units) ≡ length z
same_length units z few = omega (arith, length-append units (drop (0 + length units) z), length-drop (0 + length units) z)

module _ (old mid : HeapContent) (classes : List ClassRecord) (d : DomainId) (a n : ℕ) (made : MakesObject old mid classes d a (Text (replicate n 0)))
    (front : Option ℕ) (units : List ℕ) (is_front : IsFrontOf (old.heap d) front units) (said : Wording) (text : List ℕ)
    (is_worded : IsWorded (old.heap d) said text) (many : n ≡ length units + length text) where
  live : IsLive mid d a (Text (replicate n 0))
  live = live_made old mid classes d a (Text (replicate n 0)) made

  pub front_given : (units : List ℕ) × IsFrontOf (mid.heap d) front units × HasUnits mid d a (length units)
  front_given = (
    units,
    still_front old mid classes d a (Text (replicate n 0)) made front units is_front,
    record { text = replicate n 0; live = live; many = omega (arith, many, length-replicate {A = ℕ} n 0) },
  )

  module _ (begun : HeapContent) (begins : WritesUnits mid begun d a 0 units) where
    writes : WritesObject mid begun d a (Text (with_units (replicate n 0) 0 units))
    writes = begins (replicate n 0) live

    stands : IsLive begun d a (Text (with_units (replicate n 0) 0 units))
    stands = live_after mid begun d a (Text (replicate n 0)) (Text (with_units (replicate n 0) 0 units)) live writes

    pub said_still : IsWorded (begun.heap d) said text
    said_still =
        worded_after mid begun d a (Text (with_units (replicate n 0) 0 units)) said text writes
        (worded_beside old mid classes d a (Text (replicate n 0)) made said text is_worded)
        (still_worded old mid classes d a (Text (replicate n 0)) made said text is_worded)

    pub words_given : (from : ℕ) → from ≡ length units
        → (text : List ℕ) × IsWorded (begun.heap d) said text × HasUnits begun d a (from + length text)
    words_given from is = (
      text,
      said_still,
      record {
        text = with_units (replicate n 0) 0 units;
        live = stands;
        many = let zeros = length-replicate {A = ℕ} n 0 in
            omega (arith, is, many, zeros, same_length units (replicate n 0) (omega (arith, zeros, many)));
      },
    )

    pub is_joined : (new : HeapContent) (from : ℕ) → from ≡ length units → WritesUnits begun new d a from text
        → MakesObject old new classes d a (Text (units ++ text))
    is_joined new from is ends =
        let zeros = length-replicate {A = ℕ} n 0 in
        let filled : with_units (with_units (replicate n 0) 0 units) from text ≡ units ++ text =
        ap (λ (k : ℕ). with_units (with_units (replicate n 0) 0 units) k text) is
        ∙ both_written units text (replicate n 0) (omega (arith, zeros, many)) in
        let last = ends (with_units (replicate n 0) 0 units) stands in
        let both = then_written mid begun new d a (Text (with_units (replicate n 0) 0 units))
        (Text (with_units (with_units (replicate n 0) 0 units) from text)) writes last in
        let whole = subst (λ (us : List ℕ). WritesObject mid new d a (Text us)) filled both in
        let cost : object_words classes (Text (units ++ text)) ≡ object_words classes (Text (replicate n 0)) =
        omega (arith, zeros, many, length-append units text) in
        made_with old mid new classes d a (Text (replicate n 0)) (Text (units ++ text)) cost made whole
