-- The class files of a folder are judged by themselves in turn.
use Rattle.std.proofs.Common.{◌≡◌, ℕ, zero, suc, ◌+◌, ◌<◌, ◌^◌, List, [], ◌∷◌, length, Option, Some, None, slice_get, refl, sym, ap, subst, ◌∙◌, arith}
use Rattle.std.specs.Prelude.{option_map}
use Rattle.std.specs.List.{AllZip}
use Rattle.std.proofs.lemmas.List.{length-map}
use Rattle.std.proofs.lemmas.Option.{same_Some, slice_get-map, slice_get_within}
use Rattle.list_lemmas.proofs.ItemsOfLists.{each-by_place}
use Rattle.jk_model.specs.declared.class_file.ClassFile.{ClassFile}
use Rattle.jk_model.specs.declared.output.Rule.{Rule}
use Rattle.jk_model.specs.declared.output.Rule.TheVariants.{C6, C7, C8, C9, C10, C11, C12, C13, C14, C15, C16, C17}
use Rattle.jk_model.specs.ClassFile.{IsClass}
use Rattle.jk_model.specs.ReadFaults.{IsWritable}
use Rattle.jk_model_classes.specs.Items.{Spot}
use Rattle.jk_model_classes.specs.declared.sharing.ClassFault.{ClassFault}
use Rattle.jk_model_classes.specs.OneClassRules.{Breaks, HasNoFault, IsFirstFault, one_class_rules}
use Rattle.jk_model_folders.specs.declared.files.FolderFile.{FolderFile}
use Rattle.jk_model_folders.specs.declared.files.FolderFiles.{FolderFiles}
use Rattle.jk_model_folders.specs.FolderRules.{AreClassFiles, BreaksAlone, NoneBroken}
use Rattle.jk_model_folders.specs.FolderTrees.{AreFiles}
use Rattle.class_files.specs.declared.faults.FileFault.{FileFault}
use Rattle.class_files.specs.declared.folder_class.FolderClass.{FolderClass}
use Rattle.class_files.specs.Faults.{IsAloneFault}
use Rattle.class_files.specs.RuleOrder.{earlier_of}
use Rattle.class_files.specs.FileAnswers.{IsReadOf}
use Rattle.class_files.specs.FolderClasses.{AreReadClasses, IsReadClass, files_of}
use Rattle.class_files.proofs.FirstOfFiles.{AreBelow, AreRankedFrom, IsCleanAt, IsFirstAt, IsFirstBelow, clean_next, fault_next, first_of_all, none_of_all, none_yet}
use Rattle.class_files.proofs.ReadFiles.{short_file}

-- the rules C6 to C17 stand in the order of all
pub ranked_alone : AreRankedFrom 13 one_class_rules
ranked_alone = (refl, (refl, (refl, (refl, (refl, (refl, (refl, (refl, (refl, (refl, (refl, (refl, tt))))))))))))

-- a class file of a short file can be written
pub writable_class : (bytes : List ℕ) (c : ClassFile) → IsClass bytes c → length bytes < 2 ^ 31 → IsWritable c
writable_class bytes c h short = record {
  is_class = subst (λ (b : List ℕ). IsClass b c) h.layout.sections h;
  short = subst (λ (b : List ℕ). length b < 2 ^ 31) h.layout.sections short;
}

-- ---- Files and their classes go along.

pub class_at : (fs : List FolderClass) (i : ℕ) (f : FolderClass) → slice_get fs i ≡ Some f → slice_get (files_of fs) i ≡ Some f.file
class_at fs i f at = slice_get-map (λ (x : FolderClass). x.file) fs i ∙ ap (option_map (λ (x : FolderClass). x.file)) at

pub zipped_at : (xs : List FolderFile) (ys : List FolderClass) → AllZip IsReadOf xs ys → (i : ℕ) (y : FolderClass) → slice_get ys i ≡ Some y
    → (x : FolderFile) × (slice_get xs i ≡ Some x) × IsReadOf x y
zipped_at [] [] h i y at = absurd cc
zipped_at [] (b ∷ ys) h i y at = absurd h
zipped_at (a ∷ xs) [] h i y at = absurd cc
zipped_at (a ∷ xs) (b ∷ ys) h zero y at =
    let same : b ≡ y = cc in
    (a, refl, subst (λ (z : FolderClass). IsReadOf a z) same h.0)
zipped_at (a ∷ xs) (b ∷ ys) h (suc i) y at = zipped_at xs ys h.1 i y at

as_long : (xs : List FolderFile) (ys : List FolderClass) → AllZip IsReadOf xs ys → length (files_of ys) ≡ length xs
as_long [] [] h = refl
as_long [] (b ∷ ys) h = absurd h
as_long (a ∷ xs) [] h = absurd h
as_long (a ∷ xs) (b ∷ ys) h = ap (λ (n : ℕ). suc n) (as_long xs ys h.1)

class_each : (xs : List FolderFile) (ys : List FolderClass) → AllZip IsReadOf xs ys → (i : ℕ) (x : FolderFile) (c : ClassFile)
    → slice_get xs i ≡ Some x → slice_get (files_of ys) i ≡ Some c → IsClass x.bytes c
class_each [] [] h i x c at of_c = absurd cc
class_each [] (b ∷ ys) h i x c at of_c = absurd h
class_each (a ∷ xs) [] h i x c at of_c = absurd h
class_each (a ∷ xs) (b ∷ ys) h zero x c at of_c =
    let same : a ≡ x = cc in
    let same_class : b.file ≡ c = cc in
    subst (λ (z : ClassFile). IsClass x.bytes z) same_class (subst (λ (z : FolderFile). IsClass z.bytes b.file) same h.0.0)
class_each (a ∷ xs) (b ∷ ys) h (suc i) x c at of_c = class_each xs ys h.1 i x c at of_c

pub are_class_files : (f : FolderFiles) (classes : List FolderClass) → AllZip IsReadOf f.classes classes → AreClassFiles f (files_of classes)
are_class_files f classes h = record {
  as_many = as_long f.classes classes h;
  each = λ i file c at of_c. class_each f.classes classes h i file c at of_c;
}

-- ---- One class file.

module _ (f : FolderFiles) (cs : List ClassFile) (i : ℕ) (file : FolderFile) (c : ClassFile)
    (at : slice_get f.classes i ≡ Some file) (of_c : slice_get cs i ≡ Some c) where
  its_record : (rule : Rule) (spot : Spot) → BreaksAlone f cs rule i spot → Breaks rule c file.path spot
  its_record rule spot (other, d, there, of_d, breaks) =
      let same : other ≡ file = same_Some other file (sym there ∙ at) in
      let same_class : d ≡ c = same_Some d c (sym of_d ∙ of_c) in
      subst (λ (x : FolderFile). Breaks rule c x.path spot) same (subst (λ (x : ClassFile). Breaks rule x other.path spot) same_class breaks)

  pub judged_clean : HasNoFault c file.path → IsCleanAt one_class_rules (BreaksAlone f cs) i
  judged_clean h place rule spot listed bad = h rule spot (its_record rule spot bad)

  pub judged_first : (rule : Rule) (number : ℕ) → IsFirstFault c file.path rule number → IsFirstAt one_class_rules (BreaksAlone f cs) i rule number
  judged_first rule number h = record {
    place = h.place;
    listed = h.listed;
    earlier = λ other before spot bad. h.earlier other before spot (its_record other spot bad);
    spot = h.spot;
    broken = (file, c, at, of_c, h.broken);
    least = λ other before bad. h.least other before (its_record rule other bad);
    is_number = h.is_number;
  }

  -- where none of the rules is broken in any file, this one has no fault
  pub has_no_fault : NoneBroken one_class_rules (BreaksAlone f cs) → HasNoFault c file.path
  has_no_fault none C6 spot h = none C6 i spot (0, omega arith, refl) (file, c, at, of_c, h)
  has_no_fault none C7 spot h = none C7 i spot (1, omega arith, refl) (file, c, at, of_c, h)
  has_no_fault none C8 spot h = none C8 i spot (2, omega arith, refl) (file, c, at, of_c, h)
  has_no_fault none C9 spot h = none C9 i spot (3, omega arith, refl) (file, c, at, of_c, h)
  has_no_fault none C10 spot h = none C10 i spot (4, omega arith, refl) (file, c, at, of_c, h)
  has_no_fault none C11 spot h = none C11 i spot (5, omega arith, refl) (file, c, at, of_c, h)
  has_no_fault none C12 spot h = none C12 i spot (6, omega arith, refl) (file, c, at, of_c, h)
  has_no_fault none C13 spot h = none C13 i spot (7, omega arith, refl) (file, c, at, of_c, h)
  has_no_fault none C14 spot h = none C14 i spot (8, omega arith, refl) (file, c, at, of_c, h)
  has_no_fault none C15 spot h = none C15 i spot (9, omega arith, refl) (file, c, at, of_c, h)
  has_no_fault none C16 spot h = none C16 i spot (10, omega arith, refl) (file, c, at, of_c, h)
  has_no_fault none C17 spot h = none C17 i spot (11, omega arith, refl) (file, c, at, of_c, h)
  has_no_fault none _ spot h = h

pub judged_below : (f : FolderFiles) (cs : List ClassFile) → AreBelow one_class_rules (BreaksAlone f cs) (length f.classes)
judged_below f cs rule i spot (file, c, at, of_c, breaks) = slice_get_within f.classes i file at

-- ---- All class files.

pub are_read_classes : (f : FolderFiles) (classes : List FolderClass) → AreFiles f → AllZip IsReadOf f.classes classes
    → NoneBroken one_class_rules (BreaksAlone f (files_of classes)) → AreReadClasses classes
are_read_classes f classes files h none = each-by_place IsReadClass classes (λ i y at.
    let own = zipped_at f.classes classes h i y at in
    record {
      writable = writable_class own.0.bytes y.file own.2.0 (short_file f i own.0 files own.1);
      path = own.0.path;
      alone = has_no_fault f (files_of classes) i own.0 y.file own.1 (class_at classes i y at) none;
      texts = own.2.1;
    })

-- ---- The class files before a place were judged.

module _ (f : FolderFiles) (cs : List ClassFile) where
  abbrev pub IsJudged : ℕ → Option FileFault → Type 0
  IsJudged n first = IsFirstBelow one_class_rules (BreaksAlone f cs) n first

  pub none_is_judged : IsJudged 0 None
  none_is_judged = none_yet one_class_rules (BreaksAlone f cs)

  pub clean_is_next : (n : ℕ) (first later : Option FileFault) (file : FolderFile) (c : ClassFile) → IsJudged n first
      → slice_get f.classes n ≡ Some file → slice_get cs n ≡ Some c → HasNoFault c file.path → later ≡ first → IsJudged (n + 1) later
  clean_is_next n first later file c h at of_c clean same =
      rw same (clean_next one_class_rules (BreaksAlone f cs) n first h (judged_clean f cs n file c at of_c clean))

  pub judged_fault_is_next : (n : ℕ) (first later : Option FileFault) (file : FolderFile) (c : ClassFile) (fault : ClassFault) (it : FileFault)
      → IsJudged n first → slice_get f.classes n ≡ Some file → slice_get cs n ≡ Some c → IsFirstFault c file.path fault.rule fault.number
      → it ≡ earlier_of first (record { rule = fault.rule; file = n; number = fault.number }) → later ≡ Some it → IsJudged (n + 1) later
  judged_fault_is_next n first later file c fault it h at of_c broken is same =
      let next = fault_next one_class_rules (BreaksAlone f cs) 13 n first fault.rule fault.number ranked_alone h
      (judged_first f cs n file c at of_c fault.rule fault.number broken) in
      rw (same, is) next

  pub judged_fault_is : (n : ℕ) (first : Option FileFault) (fault : FileFault) → IsJudged n first → n ≡ length f.classes → first ≡ Some fault
      → IsAloneFault f cs fault
  judged_fault_is n first fault h all is =
      first_of_all one_class_rules (BreaksAlone f cs) n fault
      (subst (λ (k : ℕ). AreBelow one_class_rules (BreaksAlone f cs) k) (sym all) (judged_below f cs))
      (subst (λ (o : Option FileFault). IsJudged n o) is h)

  pub all_are_clean : (n : ℕ) (first : Option FileFault) → IsJudged n first → n ≡ length f.classes → first ≡ None
      → NoneBroken one_class_rules (BreaksAlone f cs)
  all_are_clean n first h all is =
      none_of_all one_class_rules (BreaksAlone f cs) n
      (subst (λ (k : ℕ). AreBelow one_class_rules (BreaksAlone f cs) k) (sym all) (judged_below f cs))
      (subst (λ (o : Option FileFault). IsJudged n o) is h)

pub all_judged : (xs : List FolderFile) (ys : List FolderClass) → AllZip IsReadOf xs ys → length ys ≡ length xs
all_judged xs ys h = sym (length-map ys (λ (y : FolderClass). y.file)) ∙ as_long xs ys h
