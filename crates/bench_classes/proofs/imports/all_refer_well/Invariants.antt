-- Each class that was looked at refers to classes of the table alone.
use Rattle.std.proofs.Common.{◌≡◌, ◌<◌, Some}
use Rattle.jk_model.specs.declared.identifiers.ClassId.{ClassId}
use Rattle.jk_model_classes.specs.declared.records.ClassRecord.{ClassRecord}
use Rattle.jk_model_classes.specs.Classes.{record_of}
use Rattle.jk_model_classes.specs.Worlds.{NamesClasses}
use Rattle.bench_classes.proofs.imports.all_refer_well.Given as goal

abbrev pub invariant-loop-number : goal.invariant-loop-number
invariant-loop-number l = (c : ClassId) (r : ClassRecord) → c.0 < l.number → record_of l.classes c ≡ Some r → NamesClasses l.classes r
