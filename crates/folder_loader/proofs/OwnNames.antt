-- The names of a folder's classes differ, as the paths of their files do, and mean nothing outside of the folder.
use Rattle.std.proofs.Common.{◌≡◌, ◌↔◌, ◌++◌, ℕ, zero, suc, ◌<◌, ◌||◌, Bool, true, false, List, [], ◌∷◌, length, take, drop, codes, Option, Some, None, bytes_eq, get_or, slice_get, ◌⊎◌, inl, inr, refl, sym, ap, ◌∙◌, arith}
use Rattle.std.specs.Prelude.{Contains, IsUtf8, option_map}
use Rattle.std.specs.List.{list_all}
use Rattle.std.proofs.lemmas.Bool.{and_parts, cases_order, false≢true, or_cases}
use Rattle.std.proofs.lemmas.List.{length-take, take-append-drop}
use Rattle.std.proofs.lemmas.List.Elements.{All-contains, All-from_recursion}
use Rattle.std.proofs.lemmas.List.Quantifiers.{position-Some}
use Rattle.std.proofs.lemmas.Option.{none-some, slice_get-get_or, slice_get-map, slice_get_within, get_or_from_slice_get}
use Rattle.std.proofs.lemmas.Slice.Eq.{bytes_eq-Decides}
use Rattle.list_lemmas.proofs.ItemsOfLists.{passed_at}
use Rattle.jk_model.specs.declared.class_file.ClassFile.{ClassFile}
use Rattle.jk_model.specs.declared.identifiers.ClassId.{ClassId}
use Rattle.jk_model.specs.declared.output.Rule.TheVariants.{C17}
use Rattle.jk_model.specs.Outside.{IsPrefix}
use Rattle.jk_model.specs.SystemTable.{SystemClass, number_named, system_classes}
use Rattle.jk_model.specs.Text.{utf16_of}
use Rattle.jk_model_classes.specs.declared.records.ClassRecord.{ClassRecord}
use Rattle.jk_model_classes.specs.declared.sharing.ResolverLine.{ResolverLine}
use Rattle.jk_model_classes.specs.ClassNames.{IsReserved, StandsUnder}
use Rattle.jk_model_classes.specs.Classes.{HasClass}
use Rattle.jk_model_classes.specs.Items.{Member}
use Rattle.jk_model_classes.specs.OneClassRules.{one_class_rules}
use Rattle.jk_model_classes.specs.References.{IsCalledClass}
use Rattle.jk_model_classes.specs.ResolverRules.{BringsIn}
use Rattle.jk_model_classes.specs.SharedRules.{IsBeforeInOrder, path_ranks}
use Rattle.jk_model_classes.specs.SystemRecords.{system_meaning}
use Rattle.jk_model_classes.specs.Worlds.{NamedClass, WorldRecord, class_named}
use Rattle.jk_model_folders.specs.declared.files.FolderFile.{FolderFile}
use Rattle.jk_model_folders.specs.declared.files.FolderFiles.{FolderFiles}
use Rattle.jk_model_folders.specs.FolderRules.{AreClassFiles, AreOuterNames, BreaksAlone, HasGoodLines, NoneBroken, class_paths}
use Rattle.jk_model_folders.specs.FolderTrees.{AreFiles, IsClassPath}
use Rattle.jk_model_folders.specs.Loads.{MayLoad}
use Rattle.class_lemmas.proofs.OneText.{one_class}
use Rattle.resolver_rules.proofs.ClassesOfNames.{meaning_number as number_of}
use Rattle.shared_interfaces.proofs.PathsInOrder.{before_itself}
use Rattle.folder_loader.specs.LinkedFolders.{AreLinkable, ArePathsInOrder}

-- ---- Names of the system.

abbrev is_kept : List ℕ → Bool
is_kept name = bytes_eq (take 5 name) (codes "java/") || bytes_eq (take 3 name) (codes "jk/")

begins : (n : ℕ) (front name : List ℕ) → bytes_eq (take n name) front ≡ true → IsPrefix front name
begins n front name h =
    let same : take n name ≡ front = (bytes_eq-Decides (take n name) front).0 h in
    (drop n name, sym (take-append-drop n name) ∙ ap (λ (x : List ℕ). x ++ drop n name) same)

kept_prefix : (name : List ℕ) → is_kept name ≡ true → IsPrefix (codes "java/") name ⊎ IsPrefix (codes "jk/") name
kept_prefix name h =
    elim (or_cases (bytes_eq (take 5 name) (codes "java/")) (bytes_eq (take 3 name) (codes "jk/")) h) [
      | inl java ↦ inl (begins 5 (codes "java/") name java)
      | inr jk ↦ inr (begins 3 (codes "jk/") name jk)
    ]

all_kept : list_all (λ (c : SystemClass). is_kept c.name) system_classes ≡ true
all_kept = refl

place_of : (name : List ℕ) (o : Option ℕ) (class : ClassId) → number_named name ≡ o → option_map (λ n. record { 0 = n }) o ≡ Some class
    → (number_named name ≡ Some class.0)
place_of name None class is e = absurd (none-some class e)
place_of name (Some n) class is e = is ∙ ap (option_map (λ (c : ClassId). c.0)) e

-- a class of the system stands in its table, under its name
system_entry : (name : List ℕ) (n : ℕ) → number_named name ≡ Some n → (e : SystemClass) × (slice_get system_classes n ≡ Some e) × (e.name ≡ name)
system_entry name n is =
    let d : SystemClass = record { name = []; parent = None; flags = 0; interfaces = []; closed = false; copiable = false; fields = []; methods = [] } in
    let found = position-Some (λ (c : SystemClass). bytes_eq c.name name) system_classes n d is in
    (get_or system_classes n d, slice_get-get_or system_classes n d found.0, (bytes_eq-Decides (get_or system_classes n d).name name).0 found.1)

system_is_kept : (name : List ℕ) (class : ClassId) → system_meaning name ≡ Some class → is_kept name ≡ true
system_is_kept name class is =
    let entry = system_entry name class.0 (number_of name class is) in
    ap is_kept (sym entry.2) ∙ passed_at (λ (c : SystemClass). is_kept c.name) system_classes class.0 entry.0 all_kept entry.1

-- ---- Own names.

-- what C17 says of a class file of the folder: nothing contradicts that its path is its class's name, which isn't kept
module _ (f : FolderFiles) (cs : List ClassFile) (none : NoneBroken one_class_rules (BreaksAlone f cs)) where
  is_under : (i : ℕ) (file : FolderFile) (c : ClassFile) → slice_get f.classes i ≡ Some file → slice_get cs i ≡ Some c
      → (StandsUnder c file.path → ⊥) → ⊥
  is_under i file c at of_c contrary = none C17 i (Member 0) (11, omega arith, refl) (file, c, at, of_c, (refl, inl contrary))

  not_kept : (i : ℕ) (file : FolderFile) (c : ClassFile) → slice_get f.classes i ≡ Some file → slice_get cs i ≡ Some c → IsReserved c → ⊥
  not_kept i file c at of_c kept = none C17 i (Member 0) (11, omega arith, refl) (file, c, at, of_c, (refl, inr kept))

  -- its path is that of the name
  path_of_name : (i : ℕ) (file : FolderFile) (c : ClassFile) (name : List ℕ) → slice_get f.classes i ≡ Some file → slice_get cs i ≡ Some c
      → IsCalledClass c name → (utf16_of file.path ≡ name ++ codes ".class" → ⊥) → ⊥
  path_of_name i file c name at of_c called contrary = is_under i file c at of_c (λ under.
      let same : under.0 ≡ name = one_class c.pool c.this_class under.0 name under.1 called in
      contrary (under.2 ∙ ap (λ (x : List ℕ). x ++ codes ".class") same))

file_of : (f : FolderFiles) (cs : List ClassFile) (i : ℕ) (c : ClassFile) → AreClassFiles f cs → slice_get cs i ≡ Some c
    → (file : FolderFile) × (slice_get f.classes i ≡ Some file)
file_of f cs i c are of_c =
    let within : i < length f.classes = omega (arith, slice_get_within cs i c of_c, are.as_many) in
    let d : FolderFile = record { path = []; bytes = [] } in
    (get_or f.classes i d, slice_get-get_or f.classes i d within)

abbrev pub IsOrderOfBytes : Type 0
IsOrderOfBytes =
    (p q a b : List ℕ) → IsUtf8 p → IsUtf8 q → utf16_of p ≡ a ++ codes ".class" → utf16_of q ≡ b ++ codes ".class"
    → IsBeforeInOrder p q ↔ IsBeforeInOrder (path_ranks a) (path_ranks b)

utf8_path : (f : FolderFiles) (i : ℕ) (file : FolderFile) → AreFiles f → slice_get f.classes i ≡ Some file → IsUtf8 file.path
utf8_path f i file h at =
    let there : Contains f.classes file = (i, slice_get_within f.classes i file at, get_or_from_slice_get f.classes i file file at) in
    (All-contains (λ (c : FolderFile). IsClassPath c.path × IsUtf8 c.path) f.classes file
    (All-from_recursion (λ (c : FolderFile). IsClassPath c.path × IsUtf8 c.path) f.classes h.paths) there).1

-- no two files are of classes of one name
no_second : (f : FolderFiles) (cs : List ClassFile) (i j : ℕ) (a b : ClassFile) (name : List ℕ) → IsOrderOfBytes → AreFiles f → AreClassFiles f cs
    → NoneBroken one_class_rules (BreaksAlone f cs) → slice_get cs i ≡ Some a → slice_get cs j ≡ Some b → IsCalledClass a name
    → IsCalledClass b name → i < j → ⊥
no_second f cs i j a b name order files are none of_a of_b called_a called_b less =
    let file_a = file_of f cs i a are of_a in
    let file_b = file_of f cs j b are of_b in
    path_of_name f cs none i file_a.0 a name file_a.1 of_a called_a (λ path_a.
    path_of_name f cs none j file_b.0 b name file_b.1 of_b called_b (λ path_b.
    before_itself (path_ranks name)
    ((order file_a.0.path file_b.0.path name name (utf8_path f i file_a.0 files file_a.1) (utf8_path f j file_b.0 files file_b.1) path_a path_b).0
    (files.rising i j file_a.0 file_b.0 less file_a.1 file_b.1))))

-- texts that can't but be equal are
stable : (xs ys : List ℕ) → ((xs ≡ ys → ⊥) → ⊥) → xs ≡ ys
stable xs ys h = by_test (bytes_eq xs ys) refl
  where
    by_test : (b : Bool) → b ≡ bytes_eq xs ys → xs ≡ ys
    by_test true e = (bytes_eq-Decides xs ys).0 (sym e)
    by_test false e = absurd (h (λ same. false≢true (e ∙ (bytes_eq-Decides xs ys).1 same)))

-- the names are in the order of the paths
paths_in_order : (f : FolderFiles) (cs : List ClassFile) → IsOrderOfBytes → AreFiles f → AreClassFiles f cs
    → NoneBroken one_class_rules (BreaksAlone f cs) → ArePathsInOrder cs
paths_in_order f cs order files are none i j a b name_a name_b less of_a of_b called_a called_b =
    let file_a = file_of f cs i a are of_a in
    let file_b = file_of f cs j b are of_b in
    let path_a = stable (utf16_of file_a.0.path) (name_a ++ codes ".class") (path_of_name f cs none i file_a.0 a name_a file_a.1 of_a called_a) in
    let path_b = stable (utf16_of file_b.0.path) (name_b ++ codes ".class") (path_of_name f cs none j file_b.0 b name_b file_b.1 of_b called_b) in
    (order file_a.0.path file_b.0.path name_a name_b (utf8_path f i file_a.0 files file_a.1) (utf8_path f j file_b.0 files file_b.1) path_a path_b).0
    (files.rising i j file_a.0 file_b.0 less file_a.1 file_b.1)

-- ---- Names outside of the folder.

line_at : (lines : List ResolverLine) (line : ResolverLine) → Contains lines line → (place : ℕ) × (slice_get lines place ≡ Some line)
line_at lines line h = (h.0, slice_get-get_or lines h.0 line h.1 ∙ ap Some h.2)

import_of : (w : WorldRecord) (into : List ℕ) (line : ResolverLine) (name : List ℕ) (class : ClassId) → BringsIn w into line name class
    → HasClass w.classes class
import_of w into line name class h = slice_get_within w.classes class.0 h.3.0 h.3.1

is_loaded : (w : WorldRecord) (into name : List ℕ) (lines : List ResolverLine) (names : List NamedClass) (class : ClassId) → MayLoad w
    → AreOuterNames w into lines names → class_named names name ≡ Some class → HasClass w.classes class
is_loaded w into name lines names class may outer is =
    elim ((outer name class).0 is) [
      | inl system ↦
          let entry = system_entry name class.0 (number_of name class system) in
          let within : class.0 < length system_classes = slice_get_within system_classes class.0 entry.0 entry.1 in
          let front : length (take (length system_classes) w.classes) ≡ length system_classes = may.system.as_many in
          below_front w.classes (length system_classes) class.0 front within
      | inr brought ↦ import_of w into brought.0 name class brought.2
    ]
  where
    below_front : (classes : List ClassRecord) (n m : ℕ) → length (take n classes) ≡ n → m < n → m < length classes
    below_front classes n m long less = omega (arith, long, less, length-take n classes)

-- a class of the folder has no name that means something outside of it
not_outside : (f : FolderFiles) (cs : List ClassFile) (w : WorldRecord) (into : List ℕ) (lines : List ResolverLine) (names : List NamedClass)
    (i : ℕ) (c : ClassFile) (name : List ℕ) (class : ClassId) → AreClassFiles f cs → NoneBroken one_class_rules (BreaksAlone f cs)
    → HasGoodLines f w into lines → AreOuterNames w into lines names → slice_get cs i ≡ Some c → IsCalledClass c name
    → class_named names name ≡ Some class → ⊥
not_outside f cs w into lines names i c name class are none good outer of_c called is =
    let file = file_of f cs i c are of_c in
    elim ((outer name class).0 is) [
      | inl system ↦ not_kept f cs none i file.0 c file.1 of_c (name, called, kept_prefix name (system_is_kept name class system))
      | inr brought ↦
          let line = line_at lines brought.0 brought.1 in
          let path_there : slice_get (class_paths f) i ≡ Some file.0.path =
          slice_get-map (λ (x : FolderFile). x.path) f.classes i ∙ ap (option_map (λ (x : FolderFile). x.path)) file.1 in
          let imports = brought.2.1 in
          path_of_name f cs none i file.0 c name file.1 of_c called (λ path.
          good.imports line.0 (inl (
            brought.0,
            line.1,
            (imports.0, imports.1, imports.2, inr (name, class, brought.2, inl (i, file.0.path, path_there, path))),
          )))
    ]

pub are_linkable : (f : FolderFiles) (cs : List ClassFile) (w : WorldRecord) (into : List ℕ) (lines : List ResolverLine) (names : List NamedClass)
    → IsOrderOfBytes → MayLoad w → AreFiles f → AreClassFiles f cs → NoneBroken one_class_rules (BreaksAlone f cs)
    → HasGoodLines f w into lines → AreOuterNames w into lines names → AreLinkable w cs lines names
are_linkable f cs w into lines names order may files are none good outer = record {
  names_differ = λ i j a b name of_a of_b called_a called_b.
      elim (cases_order i j) [
        | inl same ↦ same
        | inr apart ↦ elim apart [
          | inl less ↦ absurd (no_second f cs i j a b name order files are none of_a of_b called_a called_b less)
          | inr more ↦ absurd (no_second f cs j i b a name order files are none of_b of_a called_b called_a more)
        ]
      ];
  in_order = paths_in_order f cs order files are none;
  own_names = λ i c name class of_c called is. not_outside f cs w into lines names i c name class are none good outer of_c called is;
  named = λ name class is. is_loaded w into name lines names class may outer is;
}
