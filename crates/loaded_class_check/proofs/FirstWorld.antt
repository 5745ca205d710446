-- A world of the system classes alone, and a folder without class files.
use Rattle.std.proofs.Common.{◌≡◌, ◌≤◌, List, [], length, take, sym, ◌∙◌, arith, take_all, Some, None}
use Rattle.list_lemmas.proofs.ItemsByPlace.{nothing_at}
use Rattle.jk_model.specs.SystemTable.{system_classes}
use Rattle.jk_model_classes.specs.declared.records.ClassRecord.{ClassRecord}
use Rattle.jk_model_classes.specs.Classes.{AreOrdered}
use Rattle.jk_model_classes.specs.SystemRecords.{AreSystemRecords}
use Rattle.jk_model_classes.specs.Worlds.{IsWorld, WorldRecord}
use Rattle.jk_model_folders.specs.declared.files.FolderFiles.{FolderFiles}
use Rattle.jk_model_folders.specs.FolderTrees.{AreFiles, MAX_FILE}
use Rattle.class_growth.proofs.SystemClassesClosed.{system_alone}

pub first_world : (w : WorldRecord) → AreSystemRecords w.classes → w.domains ≡ [] → AreOrdered w.classes → IsWorld w (length w.domains)
first_world w h none ordered = record {
  numbered = λ i d at. absurd (nothing_at w.domains i d none at);
  names_differ = λ name a b x y. absurd (nothing_at w.domains a.0 x.0 none x.1);
  named = λ i d at. absurd (nothing_at w.domains i d none at);
  offered = λ i d at. absurd (nothing_at w.domains i d none at);
  records = λ c r at. record { references = rw (system_alone w.classes h c r at).0 tt };
  ordered = ordered;
  homes = λ c r d at home. (let both : None ≡ Some d = sym (system_alone w.classes h c r at).1 ∙ home in absurd cc);
  few_domains = rw none (omega arith);
}

pub all_of_system : (classes : List ClassRecord) → AreSystemRecords classes → AreSystemRecords (take (length system_classes) classes)
all_of_system classes h = rw (take_all (length system_classes) classes (omega (arith, h.as_many))) h

pub no_class_files : (f : FolderFiles) → f.classes ≡ [] → length f.resolver ≤ MAX_FILE → AreFiles f
no_class_files f none short = record {
  paths = rw none tt;
  rising = λ i j a b low at_i at_j. absurd (nothing_at f.classes i a none at_i);
  few = rw none (omega arith);
  short = rw none tt;
  together = rw none (omega arith);
  short_resolver = short;
}
