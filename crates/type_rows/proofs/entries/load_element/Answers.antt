-- The element is pushed, or there is none.
use Rattle.std.proofs.Common.{refl}
use Rattle.type_rows.specs.CodeViews.{scope_of}
use Rattle.type_rows.proofs.RowsAreDone.{each_place, element_loaded, no_element, no_index}
use Rattle.type_rows.proofs.entries.load_element.Goals as goal

pub returns-then-not-pop_int : goal.returns-then-not-pop_int
returns-then-not-pop_int c =
    λ place. no_index (scope_of c.args.view.now) place c.args.frame.now _ (c.pop_int.ensures.fails cc)

pub returns-then-is_reference_array : goal.returns-then-is_reference_array
returns-then-is_reference_array c =
    each_place _ _
    (λ place.
    element_loaded (scope_of c.args.view.now) place c.args.frame.now c.push.result c.pop_int.new.stack c.pop.new.stack c.push.new.stack
    c.in-Some.array c.element.result c.requires (c.if-not-pop_int.ensures.holds refl) c.in-Some.ensures.some
    (c.if-is_reference_array.ensures.0 refl) c.element.ensures c.push.ensures.room c.push.ensures.pushed)

pub returns-else-is_reference_array : goal.returns-else-is_reference_array
returns-else-is_reference_array c =
    λ place.
    no_element (scope_of c.args.view.now) place c.args.frame.now c.pop_int.new.stack c.pop.new.stack c.in-Some.array _
    (c.if-not-pop_int.ensures.holds refl) c.in-Some.ensures.some
    (λ is. let no = c.if-is_reference_array.ensures.1 is in absurd cc)
