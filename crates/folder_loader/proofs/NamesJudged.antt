-- C18 is asked of the files in turn, and then C19.
use Rattle.std.proofs.Common.{◌≡◌, ℕ, ◌+◌, ◌<◌, ◌≤◌, List, Some, slice_get, inl, inr, refl, sym, ap, subst, ◌∙◌, arith}
use Rattle.std.proofs.lemmas.Option.{same_Some}
use Rattle.std.proofs.Math.Nat.{eq-or-lt_of_le}
use Rattle.jk_model.specs.declared.class_file.ClassFile.{ClassFile}
use Rattle.jk_model.specs.declared.output.Rule.{Rule}
use Rattle.jk_model.specs.declared.output.Rule.TheVariants.{C18, C19}
use Rattle.jk_model_classes.specs.declared.records.ClassRecord.{ClassRecord}
use Rattle.jk_model_classes.specs.Items.{Entry, HasItemBefore, IsBefore, Member, Spot}
use Rattle.jk_model_classes.specs.References.{FolderScope, HasBadHierarchy, MissesClass}
use Rattle.jk_model_classes.specs.Worlds.{NamedClass, WorldRecord}
use Rattle.jk_model_folders.specs.FolderRules.{BreaksNames, IsFirstBroken, NoneBroken, name_rules}
use Rattle.class_files.specs.declared.faults.FileFault.{FileFault}
use Rattle.name_rules.specs.FolderNames.{AreOwnNames}
use Rattle.folder_loader.specs.OwnClasses.{AreAllKnown, IsFirstMissing}

-- what is known of the files before a place
abbrev pub AreKnownUpTo : List ClassFile → List NamedClass → ℕ → Type 0
AreKnownUpTo cs names n =
    (s : FolderScope) (i : ℕ) (c : ClassFile) (spot : Spot) → s.files ≡ cs → s.names ≡ names → i < n → slice_get cs i ≡ Some c → MissesClass s c spot → ⊥

pub known_next : (cs : List ClassFile) (names : List NamedClass) (n : ℕ) (d : ClassFile) → AreKnownUpTo cs names n → slice_get cs n ≡ Some d
    → ((s : FolderScope) → s.files ≡ cs → s.names ≡ names → (spot : Spot) → MissesClass s d spot → ⊥) → AreKnownUpTo cs names (n + 1)
known_next cs names n d h at clean s i c spot of_files of_names below of_c misses =
    let most : i ≤ n = omega (arith, below) in
    elim (eq-or-lt_of_le most) [
      | inl last ↦
          let same : c ≡ d = same_Some c d (sym of_c ∙ ap (λ (k : ℕ). slice_get cs k) last ∙ at) in
          clean s of_files of_names spot (subst (λ (x : ClassFile). MissesClass s x spot) same misses)
      | inr less ↦ h s i c spot of_files of_names less of_c misses
    ]

-- ---- C18.

module _ (w : WorldRecord) (cs : List ClassFile) (names : List NamedClass) where
  abbrev scope : FolderScope
  scope = record { files = cs; names = names; classes = w.classes }

  missing_least : (n : ℕ) (c : ClassFile) (other : Spot) → ((i : ℕ) → i < n → MissesClass scope c (Entry i) → ⊥) → IsBefore other (Entry n)
      → MissesClass scope c other → ⊥
  missing_least n c (Member m) least before misses = misses
  missing_least n c (Entry i) least before misses = least i before misses

  missing_at : (file : ℕ) (c : ClassFile) → slice_get cs file ≡ Some c → (spot : Spot) → BreaksNames w cs names C18 file spot → MissesClass scope c spot
  missing_at file c at spot (d, of_d, misses) =
      let same : d ≡ c = same_Some d c (sym of_d ∙ at) in
      subst (λ (x : ClassFile). MissesClass scope x spot) same misses

  no_earlier : (other : Rule) → HasItemBefore 0 (λ r. r ≡ other) name_rules → (i : ℕ) (spot : Spot) → BreaksNames w cs names other i spot → ⊥
  no_earlier other before = absurd (omega (arith, before.2))

  first_missing_of : (fault : FileFault) → IsFirstMissing cs names fault → IsFirstBroken name_rules (BreaksNames w cs names) C18 fault.file fault.number
  first_missing_of fault h = record {
    place = 0;
    listed = refl;
    earlier_rules = no_earlier;
    earlier_files = λ i spot less broken. h.earlier scope i broken.0 spot refl refl less broken.1 broken.2;
    spot = Entry fault.number;
    broken = (h.file, h.there, h.misses scope refl refl);
    least = λ other before broken. missing_least fault.number h.file other (h.least scope refl refl) before (missing_at fault.file h.file h.there other broken);
    is_number = refl;
  }

  pub first_missing_is : (fault : FileFault) → IsFirstMissing cs names fault
      → IsFirstBroken name_rules (BreaksNames w cs names) fault.rule fault.file fault.number
  first_missing_is fault h =
      subst (λ (r : Rule). IsFirstBroken name_rules (BreaksNames w cs names) r fault.file fault.number) (sym h.rule) (first_missing_of fault h)

  -- ---- C19.

  bad_least : (c : ClassFile) (other : Spot) → IsBefore other (Member 0) → HasBadHierarchy scope c other → ⊥
  bad_least c (Member m) before bad = omega (arith, before)
  bad_least c (Entry i) before bad = bad

  bad_at : (file : ℕ) (c : ClassFile) → slice_get cs file ≡ Some c → (spot : Spot) → BreaksNames w cs names C19 file spot → HasBadHierarchy scope c spot
  bad_at file c at spot (d, of_d, bad) =
      let same : d ≡ c = same_Some d c (sym of_d ∙ at) in
      subst (λ (x : ClassFile). HasBadHierarchy scope x spot) same bad

  earlier_is_known : AreAllKnown cs names → (other : Rule) (before : HasItemBefore 1 (λ r. r ≡ other) name_rules) (i : ℕ) (spot : Spot)
      → BreaksNames w cs names other i spot → ⊥
  earlier_is_known known other (k, r, less, at, is) i spot broken =
      let first : k ≡ 0 = omega (arith, less) in
      let rule : C18 ≡ r = same_Some C18 r (ap (slice_get name_rules) (sym first) ∙ at) in
      let own : BreaksNames w cs names C18 i spot = subst (λ (x : Rule). BreaksNames w cs names x i spot) (sym (rule ∙ is)) broken in
      known scope i own.0 spot refl refl own.1 own.2

  pub first_bad_is : (file : ℕ) (c : ClassFile) → AreAllKnown cs names → slice_get cs file ≡ Some c → HasBadHierarchy scope c (Member 0)
      → ((j : ℕ) (d : ClassFile) (spot : Spot) → j < file → slice_get cs j ≡ Some d → HasBadHierarchy scope d spot → ⊥)
      → IsFirstBroken name_rules (BreaksNames w cs names) C19 file 0
  first_bad_is file c known at bad first = record {
    place = 1;
    listed = refl;
    earlier_rules = earlier_is_known known;
    earlier_files = λ i spot less broken. first i broken.0 spot less broken.1 broken.2;
    spot = Member 0;
    broken = (c, at, bad);
    least = λ other before broken. bad_least c other before (bad_at file c at other broken);
    is_number = refl;
  }

  pub none_of_names : AreAllKnown cs names
      → ((j : ℕ) (d : ClassFile) (spot : Spot) → slice_get cs j ≡ Some d → HasBadHierarchy scope d spot → ⊥)
      → NoneBroken name_rules (BreaksNames w cs names)
  none_of_names known none C18 i spot listed broken = known scope i broken.0 spot refl refl broken.1 broken.2
  none_of_names known none C19 i spot listed broken = none i broken.0 spot broken.1 broken.2
  none_of_names known none _ i spot listed broken = broken.2

-- the names of the files are those of the scope's files
pub owned : (cs : List ClassFile) (s : FolderScope) (own : List NamedClass) → s.files ≡ cs → AreOwnNames cs own → AreOwnNames s.files own
owned cs s own same h = subst (λ (xs : List ClassFile). AreOwnNames xs own) (sym same) h

pub all_known : (cs : List ClassFile) (names : List NamedClass) (n : ℕ) → AreKnownUpTo cs names n
    → ((i : ℕ) (c : ClassFile) → slice_get cs i ≡ Some c → i < n) → AreAllKnown cs names
all_known cs names n h within s i c spot of_files of_names at misses = h s i c spot of_files of_names (within i c at) at misses

-- ---- C19, as it is found over a table of all classes.

abbrev over : List ClassFile → List NamedClass → List ClassRecord → FolderScope
over cs names classes = record { files = cs; names = names; classes = classes }

pub first_bad_of : (w : WorldRecord) (cs : List ClassFile) (names : List NamedClass) (table : List ClassRecord) (file : ℕ) → table ≡ w.classes
    → AreAllKnown cs names → (c : ClassFile) × (slice_get cs file ≡ Some c) × HasBadHierarchy (over cs names table) c (Member 0)
    → ((j : ℕ) (d : ClassFile) (spot : Spot) → j < file → slice_get cs j ≡ Some d → HasBadHierarchy (over cs names table) d spot → ⊥)
    → IsFirstBroken name_rules (BreaksNames w cs names) C19 file 0
first_bad_of w cs names table file same known bad first =
    first_bad_is w cs names file bad.0 known bad.1 (subst (λ (t : List ClassRecord). HasBadHierarchy (over cs names t) bad.0 (Member 0)) same bad.2)
    (λ j d spot less at broken. first j d spot less at
    (subst (λ (t : List ClassRecord). HasBadHierarchy (over cs names t) d spot) (sym same) broken))

pub none_bad_of : (w : WorldRecord) (cs : List ClassFile) (names : List NamedClass) (table : List ClassRecord) → table ≡ w.classes → AreAllKnown cs names
    → ((j : ℕ) (d : ClassFile) (spot : Spot) → slice_get cs j ≡ Some d → HasBadHierarchy (over cs names table) d spot → ⊥)
    → NoneBroken name_rules (BreaksNames w cs names)
none_bad_of w cs names table same known none =
    none_of_names w cs names known
    (λ j d spot at broken. none j d spot at (subst (λ (t : List ClassRecord). HasBadHierarchy (over cs names t) d spot) (sym same) broken))
