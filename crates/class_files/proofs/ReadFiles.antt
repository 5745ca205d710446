-- The files of a folder are read in turn.
use Rattle.std.proofs.Common.{◌≡◌, ℕ, ◌+◌, ◌<◌, ◌≤◌, ◌^◌, List, [], ◌∷◌, ◌++◌, length, take, Option, Some, None, Ok, Err, slice_get, refl, sym, ap, subst, ◌∙◌, arith}
use Rattle.std.specs.Prelude.{Contains}
use Rattle.std.specs.List.{AllZip}
use Rattle.std.proofs.lemmas.List.{take_more}
use Rattle.std.proofs.lemmas.List.Elements.{All-contains, All-from_recursion}
use Rattle.std.proofs.lemmas.Option.{same_Some, none-some, slice_get_within, get_or_from_slice_get}
use Rattle.std.proofs.lemmas.Slice.Zip.{all_zipped_more}
use Rattle.jk_model.specs.declared.class_file.ClassFile.{ClassFile}
use Rattle.jk_model.specs.declared.output.Rule.{Rule}
use Rattle.jk_model.specs.declared.output.Rule.TheVariants.{C1, C2, C3, C4, C5}
use Rattle.jk_model.specs.ClassFile.{IsClass}
use Rattle.jk_model.specs.ReadFaults.{BreaksReading}
use Rattle.jk_model_classes.specs.Items.{HasItemBefore, Spot, Entry, Member, IsBefore}
use Rattle.jk_model_classes.specs.declared.sharing.ClassFault.{ClassFault}
use Rattle.jk_model_folders.specs.declared.files.FolderFile.{FolderFile}
use Rattle.jk_model_folders.specs.declared.files.FolderFiles.{FolderFiles}
use Rattle.jk_model_folders.specs.FolderRules.{ReadsBadly, reading_rules}
use Rattle.jk_model_folders.specs.FolderTrees.{AreFiles, MAX_FILE}
use Rattle.class_texts.specs.PoolTexts.{AreTextsOf}
use Rattle.class_files.specs.declared.faults.FileFault.{FileFault}
use Rattle.class_files.specs.declared.folder_class.FolderClass.{FolderClass}
use Rattle.class_files.specs.declared.reading.NotRead.TheVariants as Not
use Rattle.class_files.specs.RuleOrder.{earlier_of, rank_of}
use Rattle.class_files.specs.Faults.{IsReadFault}
use Rattle.class_files.specs.FileAnswers.{IsReading, IsReadOf}
use Rattle.class_files.proofs.FirstOfFiles.{AreBelow, AreRankedFrom, IsCleanAt, IsFirstAt, IsFirstBelow, clean_next, fault_next, first_of_all, none_yet, ranked_at}

-- a file of the folder is short
pub short_file : (f : FolderFiles) (i : ℕ) (file : FolderFile) → AreFiles f → slice_get f.classes i ≡ Some file → length file.bytes < 2 ^ 31
short_file f i file h at =
    let there : Contains f.classes file = (i, slice_get_within f.classes i file at, get_or_from_slice_get f.classes i file file at) in
    let short : length file.bytes ≤ MAX_FILE =
    All-contains (λ (c : FolderFile). length c.bytes ≤ MAX_FILE) f.classes file
    (All-from_recursion (λ (c : FolderFile). length c.bytes ≤ MAX_FILE) f.classes h.short) there in
    omega (arith, short)

-- the rules C1 to C5 stand in the order of all
pub ranked_reading : AreRankedFrom 8 reading_rules
ranked_reading = (refl, (refl, (refl, (refl, (refl, tt)))))

listed_reading : (bytes : List ℕ) (rule : Rule) (n : ℕ) → BreaksReading bytes rule n → (place : ℕ) × (slice_get reading_rules place ≡ Some rule)
listed_reading bytes C1 n h = (0, refl)
listed_reading bytes C2 n h = (1, refl)
listed_reading bytes C3 n h = (2, refl)
listed_reading bytes C4 n h = (3, refl)
listed_reading bytes C5 n h = (4, refl)
listed_reading bytes _ n h = absurd h

-- no rule stands before itself
no_rule_before : (place : ℕ) (other rule : Rule) → HasItemBefore place (λ r. r ≡ other) reading_rules → other ≡ rule
    → slice_get reading_rules place ≡ Some rule → ⊥
no_rule_before place other rule (j, r, less, at, is) same listed =
    let of_r = ranked_at 8 reading_rules ranked_reading j r at in
    let of_rule = ranked_at 8 reading_rules ranked_reading place rule listed in
    let ranks : rank_of r ≡ rank_of rule = ap rank_of (is ∙ same) in
    omega (arith, of_r, of_rule, ranks, less)

module _ (f : FolderFiles) (i : ℕ) (file : FolderFile) (at : slice_get f.classes i ≡ Some file) where
  its_bytes : (rule : Rule) (spot : Spot) → ReadsBadly f rule i spot → (n : ℕ) × (spot ≡ Entry n) × BreaksReading file.bytes rule n
  its_bytes rule spot (other, n, there, is, breaks) =
      let same : other ≡ file = same_Some other file (sym there ∙ at) in
      (n, is, subst (λ (x : FolderFile). BreaksReading x.bytes rule n) same breaks)

  pub read_is_clean : (c : ClassFile) → IsReading file.bytes (Ok c) → IsCleanAt reading_rules (ReadsBadly f) i
  read_is_clean c h place rule spot listed bad =
      let own = its_bytes rule spot bad in
      h.1 rule own.0 own.2

  not_less : (m n : ℕ) (spot : Spot) → spot ≡ Entry m → m ≡ n → IsBefore spot (Entry n) → ⊥
  not_less m n (Entry k) is same less = let e : k ≡ m = cc in omega (arith, less, e, same)
  not_less m n (Member k) is same less = absurd cc

  pub fault_is_first : (fault : ClassFault) → IsReading file.bytes (Err (Not.Broken fault))
      → IsFirstAt reading_rules (ReadsBadly f) i fault.rule fault.number
  fault_is_first fault h =
      let listed = listed_reading file.bytes fault.rule fault.number h.0 in
      record {
        place = listed.0;
        listed = listed.1;
        earlier = λ other before spot bad.
            let own = its_bytes other spot bad in
            let same = h.1 other own.0 own.2 in
            no_rule_before listed.0 other fault.rule before same.0 listed.1;
        spot = Entry fault.number;
        broken = (file, fault.number, at, refl, h.0);
        least = λ other before bad.
            let own = its_bytes fault.rule other bad in
            not_less own.0 fault.number other own.1 (h.1 fault.rule own.0 own.2).1 before;
        is_number = refl;
      }

-- no file but these is read badly
pub reads_below : (f : FolderFiles) → AreBelow reading_rules (ReadsBadly f) (length f.classes)
reads_below f rule i spot (file, n, at, is, breaks) = slice_get_within f.classes i file at

-- one file more, and its class
pub read_more : (xs : List FolderFile) (ys : List FolderClass) (i : ℕ) (x : FolderFile) (y : FolderClass) → slice_get xs i ≡ Some x
    → AllZip IsReadOf (take i xs) ys → IsReadOf x y → AllZip IsReadOf (take (i + 1) xs) (ys ++ y ∷ [])
read_more xs ys i x y at h its =
    let longer : take (i + 1) xs ≡ take i xs ++ x ∷ [] =
    take_more xs i x (slice_get_within xs i x at) ∙ ap (λ (d : FolderFile). take i xs ++ d ∷ []) (get_or_from_slice_get xs i x x at) in
    subst (λ (zs : List FolderFile). AllZip IsReadOf zs (ys ++ y ∷ [])) (sym longer) (all_zipped_more IsReadOf (take i xs) ys x y h its)

-- The files before place n were read: the first fault so far, or all their class files.
pub record AreReadUpTo (f : FolderFiles) (n : ℕ) (first : Option FileFault) (classes : List FolderClass) : Type 0 where
  pub found : IsFirstBelow reading_rules (ReadsBadly f) n first
  pub read : first ≡ None → AllZip IsReadOf (take n f.classes) classes

pub none_is_read : (f : FolderFiles) → AreReadUpTo f 0 None []
none_is_read f = record { found = none_yet reading_rules (ReadsBadly f); read = λ e. tt }

pub class_is_next : (f : FolderFiles) (n : ℕ) (first later : Option FileFault) (classes more : List FolderClass) (file : FolderFile) (c : ClassFile)
    (y : FolderClass) → AreReadUpTo f n first classes → slice_get f.classes n ≡ Some file → IsReading file.bytes (Ok c) → y.file ≡ c
    → AreTextsOf c.pool y.texts → later ≡ first → more ≡ classes ++ y ∷ [] → AreReadUpTo f (n + 1) later more
class_is_next f n first later classes more file c y h at reads is texts same longer =
    let texts_of_file : AreTextsOf y.file.pool y.texts = subst (λ (d : ClassFile). AreTextsOf d.pool y.texts) (sym is) texts in
    let class_of_file : IsClass file.bytes y.file = subst (λ (d : ClassFile). IsClass file.bytes d) (sym is) reads.0 in
    record {
      found = rw same (clean_next reading_rules (ReadsBadly f) n first h.found (read_is_clean f n file at c reads));
      read = λ none. rw longer (read_more f.classes classes n file y at (h.read (sym same ∙ none)) (class_of_file, texts_of_file));
    }

pub fault_is_next : (f : FolderFiles) (n : ℕ) (first later : Option FileFault) (classes more : List FolderClass) (file : FolderFile)
    (fault : ClassFault) (it : FileFault) → AreReadUpTo f n first classes → slice_get f.classes n ≡ Some file
    → IsReading file.bytes (Err (Not.Broken fault)) → it ≡ earlier_of first (record { rule = fault.rule; file = n; number = fault.number })
    → later ≡ Some it → AreReadUpTo f (n + 1) later more
fault_is_next f n first later classes more file fault it h at reads is same =
    let next = fault_next reading_rules (ReadsBadly f) 8 n first fault.rule fault.number ranked_reading h.found (fault_is_first f n file at fault reads) in
    record {
      found = rw (same, is) next;
      read = λ none. absurd (none-some it (sym none ∙ same));
    }

pub read_fault_is : (f : FolderFiles) (n : ℕ) (first : Option FileFault) (classes : List FolderClass) (fault : FileFault) → AreReadUpTo f n first classes
    → length f.classes ≤ n → n ≤ length f.classes → first ≡ Some fault → IsReadFault f fault
read_fault_is f n first classes fault h above below is =
    let all : n ≡ length f.classes = omega arith in
    let first_of : IsFirstBelow reading_rules (ReadsBadly f) n (Some fault) =
    subst (λ (o : Option FileFault). IsFirstBelow reading_rules (ReadsBadly f) n o) is h.found in
    first_of_all reading_rules (ReadsBadly f) n fault
    (subst (λ (k : ℕ). AreBelow reading_rules (ReadsBadly f) k) (sym all) (reads_below f)) first_of
