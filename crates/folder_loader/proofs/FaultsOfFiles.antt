-- The first rule that class files break is that of the folder's files.
use Rattle.std.proofs.Common.{◌≡◌, ℕ, ◌<◌, List, length, Some, slice_get, inl, inr, refl, sym, subst}
use Rattle.std.proofs.lemmas.Option.{slice_get_within}
use Rattle.jk_model.specs.declared.class_file.ClassFile.{ClassFile}
use Rattle.jk_model.specs.declared.output.Place.{Place}
use Rattle.jk_model.specs.declared.output.Place.TheVariants.{At}
use Rattle.jk_model.specs.declared.output.Rule.{Rule}
use Rattle.jk_model.specs.declared.output.Rule.TheVariants.{L6, L7}
use Rattle.jk_model_classes.specs.declared.sharing.ResolverLine.{ResolverLine}
use Rattle.jk_model_classes.specs.OneClassRules.{one_class_rules}
use Rattle.jk_model_classes.specs.Worlds.{NamedClass, WorldRecord}
use Rattle.jk_model_folders.specs.declared.files.FolderFiles.{FolderFiles}
use Rattle.jk_model_folders.specs.FolderRules.{AreClassFiles, AreOuterNames, BreaksAlone, HasGoodLines, IsClassFault, IsFilesFault, NoneBroken}
use Rattle.jk_model_folders.specs.FolderRules.IsClassFault.{reading, alone, named, placed}
use Rattle.jk_model_folders.specs.FolderRules.IsFilesFault.{bad_line, class_file, not_offered}
use Rattle.jk_model_folders.specs.FolderTrees.{RESOLVER}
use Rattle.class_files.specs.declared.faults.ClassFilesError.{ClassFilesError}
use Rattle.class_files.specs.declared.faults.ClassFilesError.TheVariants as File
use Rattle.class_files.specs.declared.faults.FileFault.{FileFault}
use Rattle.class_files.specs.Faults.{IsOwnFault}
use Rattle.folder_loader.specs.declared.answers.LoadAnswer.TheVariants.{Refused}
use Rattle.resolver_rules.specs.declared.outer.ResolverFault.{ResolverFault}
use Rattle.resolver_rules.specs.declared.outer.ResolverFault.TheVariants as Line
use Rattle.folder_loader.specs.LinkedFolders.{IsLinkFault}
use Rattle.folder_loader.specs.Refusals.{IsFileRefusal, IsFileThere, IsLineRefusal}
use Rattle.resolver_rules.specs.Faults.{IsResolverFault}

pub own_fault : (f : FolderFiles) (w : WorldRecord) (into : List ℕ) (fault : FileFault) → IsOwnFault f fault
    → IsClassFault f w into fault.rule fault.file fault.number
own_fault f w into fault (inl h) = reading h
own_fault f w into fault (inr (cs, are, h)) = alone cs are h

pub link_fault : (f : FolderFiles) (w : WorldRecord) (into : List ℕ) (lines : List ResolverLine) (cs : List ClassFile) (names : List NamedClass)
    (fault : FileFault) → HasGoodLines f w into lines → AreClassFiles f cs → NoneBroken one_class_rules (BreaksAlone f cs)
    → AreOuterNames w into lines names → IsLinkFault w lines cs names fault → IsClassFault f w into fault.rule fault.file fault.number
link_fault f w into lines cs names fault good are none outer (inl h) = named lines cs names good are none outer h
link_fault f w into lines cs names fault good are none outer (inr (none_named, (p, is_placed, h))) =
    placed lines cs names p good are none outer none_named is_placed h

-- the file at fault is one of the folder
first_there : (f : FolderFiles) (cs : List ClassFile) (i : ℕ) (c : ClassFile) → AreClassFiles f cs → slice_get cs i ≡ Some c → i < length f.classes
first_there f cs i c are at = subst (λ (n : ℕ). i < n) are.as_many (slice_get_within cs i c at)

pub fault_there : (f : FolderFiles) (w : WorldRecord) (into : List ℕ) (rule : Rule) (file number : ℕ) → IsClassFault f w into rule file number
    → file < length f.classes
fault_there f w into rule file number (reading h) = slice_get_within f.classes file h.broken.0 h.broken.2
fault_there f w into rule file number (alone cs are h) = slice_get_within f.classes file h.broken.0 h.broken.2
fault_there f w into rule file number (named lines cs names good are none outer h) = first_there f cs file h.broken.0 are h.broken.1
fault_there f w into rule file number (placed lines cs names p good are none outer none_named is h) = first_there f cs file h.broken.0 are h.broken.2

-- ---- Refusals.

pub line_fault : (f : FolderFiles) (w : WorldRecord) (into : List ℕ) (fault : ResolverFault) (rule : Rule) (place : Place)
    → IsResolverFault f w into fault → IsLineRefusal fault (Refused rule place) → IsFilesFault f w into rule place
line_fault f w into (Line.BadLine n) rule place h (is, at) =
    let here : IsFilesFault f w into L6 (At RESOLVER n) = bad_line n h.broken h.least in
    subst (λ (p : Place). IsFilesFault f w into rule p) (sym at) (subst (λ (r : Rule). IsFilesFault f w into r (At RESOLVER n)) (sym is) here)
line_fault f w into (Line.NotOffered n) rule place h (is, at) =
    let here : IsFilesFault f w into L7 (At RESOLVER h.line.line) = not_offered h.lines h.place h.line h.says h.shares h.there h.broken h.least in
    let there : IsFilesFault f w into L7 (At RESOLVER n) = subst (λ (k : ℕ). IsFilesFault f w into L7 (At RESOLVER k)) (sym h.number) here in
    subst (λ (p : Place). IsFilesFault f w into rule p) (sym at) (subst (λ (r : Rule). IsFilesFault f w into r (At RESOLVER n)) (sym is) there)
line_fault f w into Line.OutOfMemory rule place h answer = absurd answer

pub file_fault : (f : FolderFiles) (w : WorldRecord) (into : List ℕ) (lines : List ResolverLine) (e : ClassFilesError) (rule : Rule) (place : Place)
    → HasGoodLines f w into lines → ((fault : FileFault) → e ≡ File.Broken fault → IsClassFault f w into fault.rule fault.file fault.number)
    → IsFileRefusal f e (Refused rule place) → IsFilesFault f w into rule place
file_fault f w into lines (File.Broken fault) rule place good broken (file, at_file, is, at) =
    let here : IsFilesFault f w into fault.rule (At file.path fault.number) =
    class_file lines fault.rule fault.file fault.number file good at_file (broken fault refl) in
    subst (λ (p : Place). IsFilesFault f w into rule p) (sym at)
    (subst (λ (r : Rule). IsFilesFault f w into r (At file.path fault.number)) (sym is) here)
file_fault f w into lines File.OutOfMemory rule place good broken h = absurd h

pub file_there : (f : FolderFiles) (w : WorldRecord) (into : List ℕ) (e : ClassFilesError)
    → ((fault : FileFault) → e ≡ File.Broken fault → IsClassFault f w into fault.rule fault.file fault.number) → IsFileThere f e
file_there f w into (File.Broken fault) broken = fault_there f w into fault.rule fault.file fault.number (broken fault refl)
file_there f w into File.OutOfMemory broken = tt
