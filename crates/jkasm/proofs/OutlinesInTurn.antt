-- What the lines of a text say and need, line by line: the outline of one line more, and the constants that it needs.
use Rattle.std.proofs.Common.{◌≡◌, ℕ, zero, suc, List, [], ◌∷◌, ◌++◌, Some, None, slice_get, take, drop, refl, sym, ◌∙◌, ap, append_assoc}
use Rattle.std.specs.Option.{option_and_then}
use Rattle.std.specs.List.{AllByRecursion}
use Rattle.std.proofs.lemmas.List.{append-nil}
use Rattle.list_lemmas.proofs.LastItems.{take_next}
use Rattle.jk_model.proofs.EachItem.{all_append}
use Rattle.asm_reader.specs.declared.items.Item.{Item}
use Rattle.asm_reader.specs.declared.items.LineReading.{LineReading}
use Rattle.asm_reader.specs.declared.items.LineReading.TheVariants.{Empty, Short, Long, Bad}
use Rattle.jkasm.specs.ConstantRanges.{IsInRange, AreInRange}
use Rattle.jkasm.specs.Constants.{for_reading, needed_first}
use Rattle.jkasm.specs.Outline.{Outline, nothing_yet, after_item, after_items, outline, items_of}
use Rattle.jkasm.specs.WholeText.{IsSoundReading}

-- ---- Outlines.

items_append : (xs ys : List LineReading) → items_of (xs ++ ys) ≡ items_of xs ++ items_of ys
items_append [] ys = refl
items_append (Empty ∷ xs) ys = items_append xs ys
items_append (Short item ∷ xs) ys = ap (λ items. item ∷ items) (items_append xs ys)
items_append (Long item ∷ xs) ys = ap (λ items. item ∷ items) (items_append xs ys)
items_append (Bad ∷ xs) ys = items_append xs ys

after_next : (items : List Item) (o so_far next : Outline) (item : Item) → after_items o items ≡ Some so_far → after_item so_far item ≡ Some next
    → after_items o (items ++ item ∷ []) ≡ Some next
after_next [] o so_far next item h k =
    let same : o ≡ so_far = cc in
    rw (same, k) refl
after_next (x ∷ items) o so_far next item h k =
    (elim (after_item o x) as (λ a. option_and_then (λ n. after_items n items) a ≡ Some so_far
    → option_and_then (λ n. after_items n (items ++ item ∷ [])) a ≡ Some next) [
      | None ↦ λ e. cc
      | Some n ↦ λ e. after_next items n so_far next item e k
    ]) h

-- the outline of the first lines and an item after them
pub outline_next : (readings : List LineReading) (i : ℕ) (item : Item) (so_far next : Outline) → slice_get readings i ≡ Some (Short item)
    → outline (items_of (take i readings)) ≡ Some so_far → after_item so_far item ≡ Some next
    → outline (items_of (take (suc i) readings)) ≡ Some next
outline_next readings i item so_far next at before stands =
    ap (λ rs. outline (items_of rs)) (take_next readings i (Short item) at)
    ∙ ap outline (items_append (take i readings) (Short item ∷ []))
    ∙ after_next (items_of (take i readings)) nothing_yet so_far next item before stands

-- an empty line says nothing
pub outline_same : (readings : List LineReading) (i : ℕ) (so_far : Outline) → slice_get readings i ≡ Some Empty
    → outline (items_of (take i readings)) ≡ Some so_far → outline (items_of (take (suc i) readings)) ≡ Some so_far
outline_same readings i so_far at before =
    ap (λ rs. outline (items_of rs)) (take_next readings i Empty at)
    ∙ ap outline (items_append (take i readings) (Empty ∷ []) ∙ append-nil (items_of (take i readings)))
    ∙ before

-- ---- Constants.

pub needed_next : (readings : List LineReading) (i : ℕ) (r : LineReading) → slice_get readings i ≡ Some r
    → needed_first (suc i) readings ≡ needed_first i readings ++ for_reading r (drop (suc i) readings)
needed_next [] i r h = absurd cc
needed_next (x ∷ readings) zero r h =
    let same : x ≡ r = cc in
    append-nil (for_reading x readings) ∙ ap (λ y. for_reading y readings) same
needed_next (x ∷ readings) (suc i) r h =
    ap (λ cs. for_reading x readings ++ cs) (needed_next readings i r h)
    ∙ sym (append_assoc (for_reading x readings) (needed_first i readings) (for_reading r (drop (suc i) readings)))

reading_in_range : (r : LineReading) (later : List LineReading) → IsSoundReading r → AreInRange (for_reading r later)
reading_in_range Empty later sound = tt
reading_in_range (Short item) later sound = sound.1 later
reading_in_range (Long item) later sound = sound later
reading_in_range Bad later sound = tt

pub needed_in_range : (i : ℕ) (readings : List LineReading) → AllByRecursion IsSoundReading readings → AreInRange (needed_first i readings)
needed_in_range zero readings sound = tt
needed_in_range (suc i) [] sound = tt
needed_in_range (suc i) (r ∷ readings) sound =
    all_append IsInRange (for_reading r readings) (needed_first i readings) (reading_in_range r readings sound.0) (needed_in_range i readings sound.1)
