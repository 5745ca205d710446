-- The class of a name, by the number that the table has for it.
use Rattle.std.proofs.Common.{◌≡◌, ℕ, List, Option, Some, None, IsSome, refl, sym, ap, ◌∙◌, subst}
use Rattle.std.specs.Option.{option_map}
use Rattle.jk_model.specs.SystemTable.{number_named}
use Rattle.jk_model_classes.specs.SystemRecords.{system_meaning}
use Rattle.system_records.specs.KnownTypes.{class_called}
use Rattle.system_records.specs.Numbers.{numbered}

some_before : {X Y : Type 0} (f : X → Y) (o : Option X) → IsSome (option_map f o) → IsSome o
some_before f None h = h
some_before f (Some x) h = refl

some_after : {X Y : Type 0} (f : X → Y) (o : Option X) → IsSome o → IsSome (option_map f o)
some_after f None h = h
some_after f (Some x) h = refl

-- a name that has a class has a number
pub has_number : (name : List ℕ) (found : Option ℕ) → found ≡ number_named name → IsSome (class_called name) → IsSome found
unfolding class_called
has_number name found is h = subst (λ o. IsSome o) (sym is) (some_before numbered (number_named name) h)

-- a name that has a number has a class
pub has_class : (name : List ℕ) → IsSome (number_named name) → IsSome (class_called name)
unfolding class_called
has_class name h = some_after numbered (number_named name) h

pub class_of_number : (name : List ℕ) (found : Option ℕ) (n : ℕ) → found ≡ number_named name → found ≡ Some n → class_called name ≡ Some (numbered n)
unfolding class_called
class_of_number name found n is some = ap (option_map numbered) (sym is ∙ some)

-- names mean the same in records of the table
pub called_is_meaning : class_called ≡ system_meaning
unfolding class_called
called_is_meaning = refl
