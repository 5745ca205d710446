-- What is kept of linked classes and names, and that one meaning of names gives a descriptor one list of types.
use Rattle.jk_model_classes.specs.Worlds.{class_named}
use Rattle.sound_folders.proofs.TypesByNames.{said-one}
use Rattle.sound_folders.proofs.laws.names_say_types.Goals as goal

pub returns-clause-names : goal.returns-clause-names
returns-clause-names c = λ classes tables table linked on. linked.own_names table on

pub returns-clause-types : goal.returns-clause-types
returns-clause-types c = λ classes tables table linked on. linked.types table on

pub returns-clause-methods : goal.returns-clause-methods
returns-clause-methods c = λ classes tables table linked on m n a b is_a is_b named_m named_n same.
    said-one (class_named table) a b same (linked.types table on m a is_a named_m) (linked.types table on n b is_b named_n)
