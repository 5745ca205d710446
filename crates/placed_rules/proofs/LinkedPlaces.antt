-- The class at a place of the order is linked, and its file was read.
use Rattle.std.proofs.Common.{◌≡◌, ℕ, ◌+◌, ◌<◌, List, length, Option, Some, None, slice_get, slice_index_or, sym, subst, ◌∙◌, arith}
use Rattle.std.proofs.lemmas.List.{length-map}
use Rattle.std.proofs.lemmas.List.Elements.{All-contains, All-from_recursion}
use Rattle.std.proofs.lemmas.Option.{same_Some, slice_get_within, slice_get-get_or}
use Rattle.list_lemmas.proofs.ItemsByPlace.{item_there}
use Rattle.list_lemmas.proofs.ItemsOfLists.{Contains-at}
use Rattle.jk_model.specs.declared.class_file.ClassFile.{ClassFile}
use Rattle.jk_model.specs.declared.identifiers.ClassId.{ClassId}
use Rattle.jk_model_classes.specs.declared.records.ClassRecord.{ClassRecord}
use Rattle.jk_model_classes.specs.declared.records.Link.{Link}
use Rattle.jk_model_classes.specs.Items.{Spot}
use Rattle.jk_model_classes.specs.Worlds.{NamedClass}
use Rattle.jk_model_folders.specs.ClassOrder.{IsClassOrder}
use Rattle.class_files.proofs.JudgedFiles.{class_at as file_at}
use Rattle.class_files.specs.declared.folder_class.FolderClass.{FolderClass}
use Rattle.class_files.specs.FolderClasses.{AreReadClasses, IsReadClass, files_of}
use Rattle.class_texts.specs.PoolTexts.{AreTextsOf}
use Rattle.link_rules.specs.LinkFaults.{IsLeastNumber, IsLinked}
use Rattle.placed_rules.specs.FirstFiles.{BreaksInFile}
use Rattle.placed_rules.specs.PlacedFaults.{AreLinkedIn, class_at, scope_at}

-- ---- Files and their classes.

pub read_at : (fs : List FolderClass) → AreReadClasses fs → (i : ℕ) (f : FolderClass) → slice_get fs i ≡ Some f → IsReadClass f
read_at fs read i f at = All-contains IsReadClass fs f (All-from_recursion IsReadClass fs read) (Contains-at fs i f at)

pub file_within : (fs : List FolderClass) (order : List ℕ) → IsClassOrder (files_of fs) order → (k i : ℕ) → slice_get order k ≡ Some i → i < length fs
file_within fs order ordered k i at =
    let inside = ordered.places k i at in
    omega (arith, inside, length-map fs (λ (x : FolderClass). x.file))

-- ---- The rule's answer of one class.

pub least_in_file : (order : List ℕ) (files : List ClassFile) (Breaks : ℕ → ClassFile → Spot → Type 0) (k i : ℕ) (c : ClassFile) (found : Option ℕ)
    → slice_get order k ≡ Some i → slice_get files i ≡ Some c → IsLeastNumber (Breaks k c) found
    → IsLeastNumber (BreaksInFile order files Breaks k) found
least_in_file order files Breaks k i c None at there h = λ spot broken.
    let same : broken.0 ≡ i = same_Some broken.0 i (sym broken.2 ∙ at) in
    let one : broken.1 ≡ c = same_Some broken.1 c (sym broken.3 ∙ subst (λ (n : ℕ). slice_get files n ≡ Some c) (sym same) there) in
    h spot (subst (λ (x : ClassFile). Breaks k x spot) one broken.4)
least_in_file order files Breaks k i c (Some n) at there h = (
  h.0,
  (i, c, at, there, h.1),
  (λ other before broken.
      let same : broken.0 ≡ i = same_Some broken.0 i (sym broken.2 ∙ at) in
      let one : broken.1 ≡ c = same_Some broken.1 c (sym broken.3 ∙ subst (λ (n : ℕ). slice_get files n ≡ Some c) (sym same) there) in
      h.2 other before (subst (λ (x : ClassFile). Breaks k x other) one broken.4)),
  h.3,
)

-- ---- The classes of the folder are linked.

module _ (fs : List FolderClass) (order : List ℕ) (t : List ClassRecord) (table : List NamedClass) (first : ClassId) (links : List (List Link))
    (read : AreReadClasses fs) (linked : AreLinkedIn t table first order (files_of fs) links) where
  pub links_within : (k i : ℕ) → slice_get order k ≡ Some i → k < length links
  links_within k i at = let inside = slice_get_within order k i at in omega (arith, inside, linked.as_many)

  pub class_is_linked : (k i : ℕ) (f : FolderClass) (own : List Link) → slice_get order k ≡ Some i → slice_get fs i ≡ Some f
      → slice_get links k ≡ Some own → IsLinked (scope_at t table (class_at first k)) f.file own
  class_is_linked k i f own at there of_k =
      let known = read_at fs read i f there in
      let is = linked.each k i f.file own at (file_at fs i f there) of_k in
      record {
        writable = known.writable;
        path = known.path;
        alone = known.alone;
        home = is.0;
        class = is.1;
        class_is = is.2;
        record_is = is.3;
        links_are = is.4;
      }

  -- the class has a number among all
  pub class_within : IsClassOrder (files_of fs) order → (k i : ℕ) → slice_get order k ≡ Some i → first.0 + k < length t
  class_within ordered k i at =
      let f = item_there fs i (file_within fs order ordered k i at) in
      let own = item_there links k (links_within k i at) in
      let is = linked.each k i f.0.file own.0 at (file_at fs i f.0 f.1) own.1 in
      slice_get_within t (first.0 + k) is.1 is.2

  -- what was read at the places is linked
  pub its_class : IsClassOrder (files_of fs) order → (k i : ℕ) → slice_get order k ≡ Some i → (f : FolderClass) (own : List Link)
      → IsLinked (scope_at t table (class_at first k)) (slice_index_or fs i f).file (slice_index_or links k own)
  its_class ordered k i at f own =
      class_is_linked k i (slice_index_or fs i f) (slice_index_or links k own) at (slice_get-get_or fs i f (file_within fs order ordered k i at))
      (slice_get-get_or links k own (links_within k i at))

module _ (fs : List FolderClass) (order : List ℕ) where
  pub its_texts : AreReadClasses fs → IsClassOrder (files_of fs) order → (k i : ℕ) → slice_get order k ≡ Some i → (f : FolderClass)
      → AreTextsOf (slice_index_or fs i f).file.pool (slice_index_or fs i f).texts
  its_texts read ordered k i at f =
      let known = read_at fs read i (slice_index_or fs i f) (slice_get-get_or fs i f (file_within fs order ordered k i at)) in
      known.texts

  pub answered : IsClassOrder (files_of fs) order → (Breaks : ℕ → ClassFile → Spot → Type 0) (k i : ℕ) → slice_get order k ≡ Some i → (f : FolderClass)
      (found : Option ℕ) → IsLeastNumber (Breaks k (slice_index_or fs i f).file) found → IsLeastNumber (BreaksInFile order (files_of fs) Breaks k) found
  answered ordered Breaks k i at f found h =
      least_in_file order (files_of fs) Breaks k i (slice_index_or fs i f).file found at
      (file_at fs i (slice_index_or fs i f) (slice_get-get_or fs i f (file_within fs order ordered k i at))) h
