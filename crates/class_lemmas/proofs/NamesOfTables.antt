-- A name that means a class in a table of names is a name of that class.
use Rattle.std.proofs.Common.{◌≡◌, Bool, List, Option, Some, None, find, Contains, subst}
use Rattle.std.specs.Option.{option_map}
use Rattle.std.specs.Str.{bytes_eq}
use Rattle.std.proofs.lemmas.Option.{same_Some}
use Rattle.std.proofs.Common.{ℕ}
use Rattle.list_lemmas.proofs.FoundItems.{Finds, finds}
use Rattle.list_lemmas.proofs.ItemsOfLists.{Contains-at}
use Rattle.jk_model.specs.declared.identifiers.ClassId.{ClassId}
use Rattle.jk_model_classes.specs.Worlds.{NamedClass, IsNamed, class_named}

pub means_named : (table : List NamedClass) (name : List ℕ) (c : ClassId) → class_named table name ≡ Some c → IsNamed table c
means_named table name c e = by (find of_name table) e (finds of_name table)
  where
    of_name : NamedClass → Bool
    of_name n = bytes_eq n.name name

    by : (o : Option NamedClass) → option_map (λ (n : NamedClass). n.class) o ≡ Some c → Finds of_name table o → IsNamed table c
    by (Some n) class h =
        (n.name, subst (λ (x : ClassId). Contains table (record { name = n.name; class = x })) (same_Some n.class c class) (Contains-at table h.0 n h.1))
    by None class h = absurd cc
