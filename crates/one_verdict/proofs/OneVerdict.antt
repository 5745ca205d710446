-- A folder's files break no rule, or have one fault: each choice that the definitions leave is made in one way, as far as a rule can tell.
use Rattle.std.proofs.Common.{◌≡◌, ℕ, ◌<◌, inl, inr, List, Some, Result, Ok, slice_get, refl, sym, ap, subst, ◌∙◌, arith}
use Rattle.std.proofs.lemmas.Bool.{cases_order}
use Rattle.std.proofs.lemmas.Option.{same_Some, slice_get_within}
use Rattle.list_lemmas.proofs.ItemsByPlace.{item_there as item_at}
use Rattle.list_lemmas.proofs.ItemsOfLists.{Contains-at as contained}
use Rattle.jk_model.specs.declared.class_file.ClassFile.{ClassFile}
use Rattle.jk_model.specs.declared.output.Place.{Place}
use Rattle.jk_model.specs.declared.output.Place.TheVariants.{At}
use Rattle.jk_model.specs.declared.output.Rule.{Rule}
use Rattle.jk_model.specs.declared.output.Rule.TheVariants.{C1, C2, C3, C4, C5, C9, C13, C18, C19}
use Rattle.jk_model.specs.ClassFile.{IsClass}
use Rattle.jk_model.specs.ReadFaults.{BreaksReading}
use Rattle.jk_model_classes.specs.declared.sharing.ResolverLine.{ResolverLine}
use Rattle.jk_model_classes.specs.Items.{Spot, Member, Entry}
use Rattle.jk_model_classes.specs.OneClassRules.{one_class_rules}
use Rattle.jk_model_classes.specs.References.{FlagsOfNamed, FolderScope, HasBadHierarchy, HasBadInterface, HasBadParent, IsKnownName, MissesClass}
use Rattle.jk_model_classes.specs.Resolver.{resolver_of}
use Rattle.jk_model_classes.specs.ResolverRules.{BreaksL6}
use Rattle.jk_model_classes.specs.Worlds.{NamedClass, WorldRecord, class_named}
use Rattle.jk_model_folders.specs.declared.files.FolderFile.{FolderFile}
use Rattle.jk_model_folders.specs.declared.files.FolderFiles.{FolderFiles}
use Rattle.jk_model_folders.specs.FolderRules.{AreClassFiles, AreOuterNames, BreaksAlone, BreaksL7, BreaksNames, BreaksPlaced, HasGoodLines, IsClassFault, IsFilesFault, IsFirstBroken, IsPlaced, NoneBroken, PlacedFolder, ReadsBadly, alone, bad_line, class_file, class_paths, name_rules, named, not_offered, placed, placed_rules, reading, reading_rules}
use Rattle.jk_model_folders.specs.FolderTrees.{RESOLVER}
use Rattle.class_reader.proofs.OneFault.{bad_magic, bad_version, only as only_class, only_bad_pool, only_trailing, only_truncated}
use Rattle.one_verdict.specs.Verdicts.{Brings, Brought}
use Rattle.one_verdict.proofs.OneAttribute.{IsJudged}
use Rattle.one_verdict.proofs.OneFirstBroken.{SameFault, none_is_first, one_broken}
use Rattle.one_verdict.proofs.OneFolder.{TwoWays, one_meaning}
use Rattle.one_verdict.proofs.OneRecord.{along_is}
use Rattle.one_verdict.proofs.SamePlacedFaults.{faults_there}

-- ---- Class files.

one_class_file : (bytes : List ℕ) (c d : ClassFile) → IsClass bytes c → IsClass bytes d → c ≡ d
one_class_file bytes c d h k = only_class bytes (Ok c) d h k

class_reads_well : (bytes : List ℕ) (c : ClassFile) → IsClass bytes c → (rule : Rule) (n : ℕ) → BreaksReading bytes rule n → ⊥
class_reads_well bytes c is C1 n (bad, e) = let never = (bad_magic bytes (Ok c) is).1 bad in absurd cc
class_reads_well bytes c is C2 n (bad, e) = let never = (bad_version bytes (Ok c) is).1 bad in absurd cc
class_reads_well bytes c is C3 n (bad, e) = only_truncated bytes (Ok c) is bad
class_reads_well bytes c is C4 n bad = only_trailing bytes (Ok c) n is bad
class_reads_well bytes c is C5 n bad = only_bad_pool bytes (Ok c) n is bad
class_reads_well bytes c is _ n bad = absurd bad

module _ (f : FolderFiles) where
  one_list_of_files : (cs ds : List ClassFile) → AreClassFiles f cs → AreClassFiles f ds → cs ≡ ds
  one_list_of_files cs ds h k =
      along_is (λ (file : FolderFile) c. IsClass file.bytes c) (λ (file : FolderFile) c. IsClass file.bytes c) f.classes cs ds h k
      (λ i file c d at is also. one_class_file file.bytes c d is also)

  file_of : (cs : List ClassFile) → AreClassFiles f cs → (i : ℕ) (c : ClassFile) → slice_get cs i ≡ Some c
      → (file : FolderFile) × (slice_get f.classes i ≡ Some file)
  file_of cs are i c at =
      let within = slice_get_within cs i c at in
      item_at f.classes i (omega (arith, within, are.as_many))

  -- files that are class files break no rule in being read
  read_well : (cs : List ClassFile) → AreClassFiles f cs → (rule : Rule) (i m : ℕ) → IsFirstBroken reading_rules (ReadsBadly f) rule i m → ⊥
  read_well cs are rule i m first =
      let (file, n, at, spot, bad) = first.broken in
      let within = slice_get_within f.classes i file at in
      let (c, there) = item_at cs i (omega (arith, within, are.as_many)) in
      class_reads_well file.bytes c (are.each i file c at there) rule n bad

  judged : (cs : List ClassFile) → AreClassFiles f cs → NoneBroken one_class_rules (BreaksAlone f cs) → (i : ℕ) (c : ClassFile)
      → slice_get cs i ≡ Some c → IsJudged c
  judged cs are none i c at =
      let (file, there) = file_of cs are i c at in
      record {
        few = (are.each i file c there at).layout.pool.1;
        attributes = λ spot bad. none C9 i spot (contained one_class_rules 3 C9 refl) (file, c, there, at, bad);
        native = λ spot bad. none C13 i spot (contained one_class_rules 7 C13 refl) (file, c, there, at, bad);
      }

-- ---- The rules on names, by what names mean.

module _ (w : WorldRecord) (cs : List ClassFile) (names others : List NamedClass) (same : class_named names ≡ class_named others) where
  abbrev before : FolderScope
  before = record { files = cs; names = names; classes = w.classes }

  abbrev after : FolderScope
  after = record { files = cs; names = others; classes = w.classes }

  known_here : (name : List ℕ) → IsKnownName after name → IsKnownName before name
  known_here name (inl own) = inl own
  known_here name (inr (class, means)) = inr (class, (λ d. same d name) ∙ means)

  flags_there : (name : List ℕ) (flags : ℕ) → FlagsOfNamed before name flags → FlagsOfNamed after name flags
  flags_there name flags (inl own) = inl own
  flags_there name flags (inr (none, (c, r, means, is, e))) = inr (none, (c, r, (λ d. sym same d name) ∙ means, is, e))

  parent_there : (c : ClassFile) → HasBadParent before c → HasBadParent after c
  parent_there c (name, of, inl closed) = (name, of, inl closed)
  parent_there c (name, of, inr (inl (flags, are, bad))) = (name, of, inr (inl (flags, flags_there name flags are, bad)))
  parent_there c (name, of, inr (inr other)) = (name, of, inr (inr other))

  interface_there : (c : ClassFile) → HasBadInterface before c → HasBadInterface after c
  interface_there c (name, flags, lists, are, bad) = (name, flags, lists, flags_there name flags are, bad)

  hierarchy_there : (c : ClassFile) (spot : Spot) → HasBadHierarchy before c spot → HasBadHierarchy after c spot
  hierarchy_there c (Member n) (zero, inl around) = (zero, inl around)
  hierarchy_there c (Member n) (zero, inr (inl parent)) = (zero, inr (inl (parent_there c parent)))
  hierarchy_there c (Member n) (zero, inr (inr interface)) = (zero, inr (inr (interface_there c interface)))
  hierarchy_there c (Entry i) bad = absurd bad

  missing_there : (c : ClassFile) (spot : Spot) → MissesClass before c spot → MissesClass after c spot
  missing_there c (Member n) bad = absurd bad
  missing_there c (Entry i) (name, refers, unknown) = (name, refers, λ known. unknown (known_here name known))

  names_there : (rule : Rule) (i : ℕ) (spot : Spot) → BreaksNames w cs names rule i spot → BreaksNames w cs others rule i spot
  names_there C18 i spot (c, at, bad) = (c, at, missing_there c spot bad)
  names_there C19 i spot (c, at, bad) = (c, at, hierarchy_there c spot bad)
  names_there _ i spot (c, at, bad) = absurd bad

-- ---- What is chosen where the rules are read.

-- the lines and the class files, which break none of the rules on a file alone
pub record Chosen (f : FolderFiles) (w : WorldRecord) (into : List ℕ) : Type 0 where
  pub lines : List ResolverLine
  pub good_lines : HasGoodLines f w into lines
  pub files : List ClassFile
  pub are_classes : AreClassFiles f files
  pub none_alone : NoneBroken one_class_rules (BreaksAlone f files)

-- with what names mean outside of the folder
pub record ChosenNames (f : FolderFiles) (w : WorldRecord) (into : List ℕ) : Type 0 where
  pub chosen : Chosen f w into
  pub names : List NamedClass
  pub are_outer : AreOuterNames w into chosen.lines names

-- with the classes behind the others
pub record ChosenPlaces (f : FolderFiles) (w : WorldRecord) (into : List ℕ) : Type 0 where
  pub chosen : ChosenNames f w into
  pub none_of_names : NoneBroken name_rules (BreaksNames w chosen.chosen.files chosen.names)
  pub placed : PlacedFolder
  pub is_placed : IsPlaced w chosen.chosen.lines chosen.chosen.files chosen.names placed

abbrev said : List ResolverLine → Result (List ResolverLine) ℕ
said ls = Ok ls

one_list_of_lines : (bytes : List ℕ) (ls ms : List ResolverLine) → resolver_of bytes ≡ Ok ls → resolver_of bytes ≡ Ok ms → ls ≡ ms
one_list_of_lines bytes ls ms h k = let both : said ls ≡ said ms = sym h ∙ k in cc

module _ (f : FolderFiles) (w : WorldRecord) (into : List ℕ) where
  same_files : (a b : Chosen f w into) → a.files ≡ b.files
  same_files a b = one_list_of_files f a.files b.files a.are_classes b.are_classes

  same_lines : (a b : Chosen f w into) → a.lines ≡ b.lines
  same_lines a b = one_list_of_lines f.resolver a.lines b.lines a.good_lines.says b.good_lines.says

  pub same_meaning : (a b : ChosenNames f w into) → class_named a.names ≡ class_named b.names
  same_meaning a b =
      one_meaning w into b.chosen.lines a.names b.names
      (subst (λ (ls : List ResolverLine). AreOuterNames w into ls a.names) (same_lines a.chosen b.chosen) a.are_outer) b.are_outer

  alone_there : (a b : List ClassFile) → a ≡ b → (rule : Rule) (i : ℕ) (spot : Spot) → BreaksAlone f a rule i spot → BreaksAlone f b rule i spot
  alone_there a b same rule i spot bad = subst (λ (cs : List ClassFile). BreaksAlone f cs rule i spot) same bad

  of_names_there : (a b : ChosenNames f w into) (rule : Rule) (i : ℕ) (spot : Spot) → BreaksNames w a.chosen.files a.names rule i spot
      → BreaksNames w b.chosen.files b.names rule i spot
  of_names_there a b rule i spot bad =
      names_there w b.chosen.files a.names b.names (same_meaning a b) rule i spot
      (subst (λ (cs : List ClassFile). BreaksNames w cs a.names rule i spot) (same_files a.chosen b.chosen) bad)

  -- the classes of the one choice, put behind the others by the lines and the files of the other
  pub placed_by : (a b : ChosenPlaces f w into) → IsPlaced w b.chosen.chosen.lines b.chosen.chosen.files a.chosen.names a.placed
  placed_by a b =
      let c = b.chosen.chosen in
      subst (λ (ls : List ResolverLine). IsPlaced w ls c.files a.chosen.names a.placed) (same_lines a.chosen.chosen c)
      (subst (λ (cs : List ClassFile). IsPlaced w a.chosen.chosen.lines cs a.chosen.names a.placed) (same_files a.chosen.chosen c) a.is_placed)

  pub all_judged : (a : Chosen f w into) (i : ℕ) (c : ClassFile) → slice_get a.files i ≡ Some c → IsJudged c
  all_judged a i c at = judged f a.files a.are_classes a.none_alone i c at

  -- the classes of both choices, by the lines and the files of the other
  abbrev pub both_ways : ChosenPlaces f w into → ChosenPlaces f w into → TwoWays
  both_ways a b = record {
    world = w;
    lines = b.chosen.chosen.lines;
    files = b.chosen.chosen.files;
    names = a.chosen.names;
    others = b.chosen.names;
    same_names = same_meaning a.chosen b.chosen;
    judged = all_judged b.chosen.chosen;
    one = a.placed;
    other = b.placed;
    is_one = placed_by a b;
    is_other = b.is_placed;
  }

  placed_there : (a b : ChosenPlaces f w into) (rule : Rule) (i : ℕ) (spot : Spot) → BreaksPlaced w a.chosen.chosen.files a.placed rule i spot
      → BreaksPlaced w b.chosen.chosen.files b.placed rule i spot
  placed_there a b rule i spot bad =
      faults_there (both_ways a b) rule i spot
      (subst (λ (cs : List ClassFile). BreaksPlaced w cs a.placed rule i spot) (same_files a.chosen.chosen b.chosen.chosen) bad)

  -- ---- What holds of one choice is broken by no other.

  never_alone : (a : Chosen f w into) (cs : List ClassFile) → AreClassFiles f cs → (rule : Rule) (i m : ℕ)
      → IsFirstBroken one_class_rules (BreaksAlone f cs) rule i m → ⊥
  never_alone a cs are rule i m first =
      none_is_first one_class_rules (BreaksAlone f cs) (BreaksAlone f a.files) (alone_there cs a.files (one_list_of_files f cs a.files are a.are_classes))
      a.none_alone rule i m first

  never_by_names : (a : ChosenPlaces f w into) (b : ChosenNames f w into) (rule : Rule) (i m : ℕ)
      → IsFirstBroken name_rules (BreaksNames w b.chosen.files b.names) rule i m → ⊥
  never_by_names a b rule i m first =
      none_is_first name_rules (BreaksNames w b.chosen.files b.names) (BreaksNames w a.chosen.chosen.files a.chosen.names) (of_names_there b a.chosen)
      a.none_of_names rule i m first

  -- A fault of the class files, with what is chosen for it.
  data ChosenFault (rule : Rule) (i m : ℕ) : Type 0 where
    in_reading : IsFirstBroken reading_rules (ReadsBadly f) rule i m → ChosenFault rule i m
    in_a_file : (cs : List ClassFile) → AreClassFiles f cs → IsFirstBroken one_class_rules (BreaksAlone f cs) rule i m → ChosenFault rule i m
    in_names : (a : ChosenNames f w into) → IsFirstBroken name_rules (BreaksNames w a.chosen.files a.names) rule i m → ChosenFault rule i m
    in_places : (a : ChosenPlaces f w into) → IsFirstBroken placed_rules (BreaksPlaced w a.chosen.chosen.files a.placed) rule i m → ChosenFault rule i m

  chosen_fault : (rule : Rule) (i m : ℕ) → IsClassFault f w into rule i m → ChosenFault rule i m
  chosen_fault rule i m (reading first) = in_reading first
  chosen_fault rule i m (alone cs are first) = in_a_file cs are first
  chosen_fault rule i m (named lines cs names good are quiet outer first) =
      let given : Chosen f w into = record { lines = lines; good_lines = good; files = cs; are_classes = are; none_alone = quiet } in
      in_names (record { chosen = given; names = names; are_outer = outer }) first
  chosen_fault rule i m (placed lines cs names p good are quiet outer sound is first) =
      let given : Chosen f w into = record { lines = lines; good_lines = good; files = cs; are_classes = are; none_alone = quiet } in
      let known : ChosenNames f w into = record { chosen = given; names = names; are_outer = outer } in
      in_places (record { chosen = known; none_of_names = sound; placed = p; is_placed = is }) first

  -- ---- What is loaded has no fault.

  no_chosen_fault : (a : ChosenPlaces f w into) → NoneBroken placed_rules (BreaksPlaced w a.chosen.chosen.files a.placed) → (rule : Rule) (i m : ℕ)
      → ChosenFault rule i m → ⊥
  no_chosen_fault a none rule i m (in_reading first) = read_well f a.chosen.chosen.files a.chosen.chosen.are_classes rule i m first
  no_chosen_fault a none rule i m (in_a_file cs are first) = never_alone a.chosen.chosen cs are rule i m first
  no_chosen_fault a none rule i m (in_names b first) = never_by_names a b rule i m first
  no_chosen_fault a none rule i m (in_places b first) =
      none_is_first placed_rules (BreaksPlaced w b.chosen.chosen.files b.placed) (BreaksPlaced w a.chosen.chosen.files a.placed) (placed_there b a) none
      rule i m first

  -- what was chosen where a folder loaded
  abbrev pub places_of : (b : Brought) → Brings f w into b → ChosenPlaces f w into
  places_of b l =
      let given : Chosen f w into =
      record { lines = l.lines; good_lines = l.good_lines; files = l.files; are_classes = l.are_classes; none_alone = l.none_alone } in
      let known : ChosenNames f w into = record { chosen = given; names = l.names; are_outer = l.are_outer } in
      record { chosen = known; none_of_names = l.none_of_names; placed = l.placed; is_placed = l.is_placed }

  pub loaded_has_no_fault : (b : Brought) (rule : Rule) (place : Place) → Brings f w into b → IsFilesFault f w into rule place → ⊥
  loaded_has_no_fault b _ _ l (bad_line n bad least) = l.good_lines.shares n bad
  loaded_has_no_fault b _ _ l (not_offered lines at line says shares there bad least) =
      let same : lines ≡ l.lines = one_list_of_lines f.resolver lines l.lines says l.good_lines.says in
      l.good_lines.imports at (subst (λ (ls : List ResolverLine). BreaksL7 f w into ls at) same bad)
  loaded_has_no_fault b _ _ l (class_file lines broken i number file good there fault) =
      no_chosen_fault (places_of b l) l.none_placed broken i number (chosen_fault broken i number fault)

  -- ---- There is one fault.

  one_chosen_fault : (rule other : Rule) (i j m n : ℕ) → ChosenFault rule i m → ChosenFault other j n → SameFault rule other i j m n
  one_chosen_fault rule other i j m n (in_reading first) (in_reading second) =
      one_broken reading_rules (ReadsBadly f) (ReadsBadly f) (λ r k spot bad. bad) (λ r k spot bad. bad) rule other i j m n first second
  one_chosen_fault rule other i j m n (in_reading first) (in_a_file ds are second) = absurd (read_well f ds are rule i m first)
  one_chosen_fault rule other i j m n (in_reading first) (in_names b second) = absurd (read_well f b.chosen.files b.chosen.are_classes rule i m first)
  one_chosen_fault rule other i j m n (in_reading first) (in_places b second) =
      absurd (read_well f b.chosen.chosen.files b.chosen.chosen.are_classes rule i m first)
  one_chosen_fault rule other i j m n (in_a_file cs are first) (in_reading second) = absurd (read_well f cs are other j n second)
  one_chosen_fault rule other i j m n (in_a_file cs are first) (in_a_file ds were second) =
      let same = one_list_of_files f cs ds are were in
      one_broken one_class_rules (BreaksAlone f cs) (BreaksAlone f ds) (alone_there cs ds same) (alone_there ds cs (sym same)) rule other i j m n first second
  one_chosen_fault rule other i j m n (in_a_file cs are first) (in_names b second) = absurd (never_alone b.chosen cs are rule i m first)
  one_chosen_fault rule other i j m n (in_a_file cs are first) (in_places b second) = absurd (never_alone b.chosen.chosen cs are rule i m first)
  one_chosen_fault rule other i j m n (in_names a first) (in_reading second) = absurd (read_well f a.chosen.files a.chosen.are_classes other j n second)
  one_chosen_fault rule other i j m n (in_names a first) (in_a_file ds are second) = absurd (never_alone a.chosen ds are other j n second)
  one_chosen_fault rule other i j m n (in_names a first) (in_names b second) =
      one_broken name_rules (BreaksNames w a.chosen.files a.names) (BreaksNames w b.chosen.files b.names) (of_names_there a b) (of_names_there b a)
      rule other i j m n first second
  one_chosen_fault rule other i j m n (in_names a first) (in_places b second) = absurd (never_by_names b a rule i m first)
  one_chosen_fault rule other i j m n (in_places a first) (in_reading second) =
      absurd (read_well f a.chosen.chosen.files a.chosen.chosen.are_classes other j n second)
  one_chosen_fault rule other i j m n (in_places a first) (in_a_file ds are second) = absurd (never_alone a.chosen.chosen ds are other j n second)
  one_chosen_fault rule other i j m n (in_places a first) (in_names b second) = absurd (never_by_names a b other j n second)
  one_chosen_fault rule other i j m n (in_places a first) (in_places b second) =
      one_broken placed_rules (BreaksPlaced w a.chosen.chosen.files a.placed) (BreaksPlaced w b.chosen.chosen.files b.placed) (placed_there a b)
      (placed_there b a) rule other i j m n first second

  abbrev IsSame : Rule → Rule → Place → Place → Type 0
  IsSame rule other place spot = (rule ≡ other) × (place ≡ spot)

  one_bad_line : (m n : ℕ) → BreaksL6 (class_paths f) f.resolver m → ((k : ℕ) → k < m → BreaksL6 (class_paths f) f.resolver k → ⊥)
      → BreaksL6 (class_paths f) f.resolver n → ((k : ℕ) → k < n → BreaksL6 (class_paths f) f.resolver k → ⊥) → m ≡ n
  one_bad_line m n bad least worse first = elim (cases_order m n) [
    | inl same ↦ same
    | inr apart ↦ elim apart [
      | inl below ↦ absurd (first m below bad)
      | inr above ↦ absurd (least n above worse)
    ]
  ]

  -- the line that imports what it may not
  record IsFirstRefused (lines : List ResolverLine) (place : ℕ) (line : ResolverLine) : Type 0 where
    there : slice_get lines place ≡ Some line
    refused : BreaksL7 f w into lines place
    least : (lower : ℕ) → lower < place → BreaksL7 f w into lines lower → ⊥

  one_refused : (lines : List ResolverLine) (m n : ℕ) (a b : ResolverLine) → IsFirstRefused lines m a → IsFirstRefused lines n b → a ≡ b
  one_refused lines m n a b h k = elim (cases_order m n) [
    | inl same ↦ same_Some a b (sym h.there ∙ ap (λ (i : ℕ). slice_get lines i) same ∙ k.there)
    | inr apart ↦ elim apart [
      | inl below ↦ absurd (k.least m below h.refused)
      | inr above ↦ absurd (h.least n above k.refused)
    ]
  ]

  pub one_fault : (rule other : Rule) (place spot : Place) → IsFilesFault f w into rule place → IsFilesFault f w into other spot
      → IsSame rule other place spot
  one_fault _ _ _ _ (bad_line m bad least) (bad_line n worse first) =
      (refl, ap (λ (k : ℕ). At RESOLVER k) (one_bad_line m n bad least worse first))
  one_fault _ _ _ _ (bad_line m bad least) (not_offered lines at line says shares there refused first) = absurd (shares m bad)
  one_fault _ _ _ _ (bad_line m bad least) (class_file lines rule i number file good there fault) = absurd (good.shares m bad)
  one_fault _ _ _ _ (not_offered lines at line says shares there refused least) (bad_line n worse first) = absurd (shares n worse)
  one_fault _ _ _ _ (not_offered lines m a says shares at refused least) (not_offered others n b tells offers there bad first) =
      let same : others ≡ lines = one_list_of_lines f.resolver others lines tells says in
      let here : IsFirstRefused lines m a = record { there = at; refused = refused; least = least } in
      let also : IsFirstRefused others n b = record { there = there; refused = bad; least = first } in
      let own : IsFirstRefused lines n b = subst (λ (ls : List ResolverLine). IsFirstRefused ls n b) same also in
      (refl, ap (λ (x : ResolverLine). At RESOLVER x.line) (one_refused lines m n a b here own))
  one_fault _ _ _ _ (not_offered lines m a says shares at refused least) (class_file others rule i number file good there fault) =
      let same : lines ≡ others = one_list_of_lines f.resolver lines others says good.says in
      absurd (good.imports m (subst (λ (ls : List ResolverLine). BreaksL7 f w into ls m) same refused))
  one_fault _ _ _ _ (class_file lines rule i number file good there fault) (bad_line n worse first) = absurd (good.shares n worse)
  one_fault _ _ _ _ (class_file lines rule i number file good there fault) (not_offered others m a says shares at refused least) =
      let same : others ≡ lines = one_list_of_lines f.resolver others lines says good.says in
      absurd (good.imports m (subst (λ (ls : List ResolverLine). BreaksL7 f w into ls m) same refused))
  one_fault _ _ _ _ (class_file lines rule i m file good at fault) (class_file others other j n second fine there bad) =
      let same = one_chosen_fault rule other i j m n (chosen_fault rule i m fault) (chosen_fault other j n bad) in
      let files : file ≡ second = same_Some file second (sym at ∙ ap (λ (k : ℕ). slice_get f.classes k) same.file_is ∙ there) in
      let number : m ≡ n = same.number_is in
      (same.rule_is, λ d. At (files d).path (number d))
