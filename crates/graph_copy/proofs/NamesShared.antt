-- A class that both domains know by one name is named in both.
use Rattle.std.proofs.Common.{List}
use Rattle.jk_model.specs.declared.identifiers.ClassId.{ClassId}
use Rattle.jk_model_classes.specs.Worlds.{IsNamed, NamedClass}
use Rattle.class_lemmas.proofs.NamesOfTables.{means_named}
use Rattle.jk_model_graphs.specs.Copiable.{AreSharing}

pub shared_is_named : (from to : List NamedClass) (c : ClassId) → AreSharing from to c → IsNamed from c × IsNamed to c
shared_is_named from to c (name, first, second) = (means_named from name c first, means_named to name c second)
