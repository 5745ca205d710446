-- A worked example: what a domain has inside that was just opened, whose folder has no class. `src/examples.rt` says what it costs.
use Rattle.std.specs.Prelude.{ℕ, ◌+◌, List, [], ◌∷◌, None}
use Rattle.jk_model.specs.declared.identifiers.ClassId.{ClassId}
use Rattle.jk_model.specs.declared.steps.Standing.{Standing}
use Rattle.jk_model.specs.declared.steps.Standing.TheVariants as Stands
use Rattle.jk_model_domains.specs.Objects.{NamedObject, PRINT_STREAM}
use Rattle.jk_model_heaps.specs.declared.shapes.Shape.TheVariants as Of
use Rattle.jk_model_heaps.specs.ExampleClasses.{system_records}
use Rattle.jk_model_heaps.specs.Heaps.{named, zero_object}
use Rattle.jk_model_heaps.specs.Throwables.{fresh_throwable, standing_class}
use Rattle.jk_model_heaps.specs.Workings.{Inside}

-- standing throwables, under names in order from this one on
abbrev pub standing_from : ℕ → List Standing → List NamedObject
standing_from n [] = []
standing_from n (s ∷ more) = named n (fresh_throwable system_records (standing_class s)) ∷ standing_from (1 + n) more

abbrev pub all_standing : List Standing
all_standing =
    Stands.OutOfMemoryError ∷ Stands.StackOverflowError ∷ Stands.Revoked ∷ Stands.Quota ∷ Stands.NotCopiable ∷ Stands.Remote ∷ Stands.ThreadDeath
    ∷ Stands.Security ∷ []

abbrev pub first_heap : List NamedObject
first_heap = named 0 (zero_object system_records (Of.Plain PRINT_STREAM)) ∷ standing_from 1 all_standing

abbrev pub first_inside : Inside
first_inside = record {
  own = record { classes = []; literals = []; out = 0; standing = 1 ∷ 2 ∷ 3 ∷ 4 ∷ 5 ∷ 6 ∷ 7 ∷ 8 ∷ [] };
  heap = first_heap;
  heap_at = None;
  stack_at = None;
}
