-- A class file of a folder stands at a place, and was read.
use Rattle.std.proofs.Common.{◌≡◌, ℕ, zero, suc, ◌<◌, List, [], ◌∷◌, length, get_or, Some, slice_get, refl, sym, ap, subst, ◌∙◌, arith}
use Rattle.std.specs.Prelude.{option_map}
use Rattle.std.proofs.lemmas.List.{length-map}
use Rattle.std.proofs.lemmas.Option.{slice_get-get_or, slice_get-map, slice_get_read}
use Rattle.jk_model.specs.declared.class_file.ClassFile.{ClassFile}
use Rattle.jk_model_folders.specs.ClassOrder.{IsClassOrder}
use Rattle.name_rules.proofs.FolderGraph.{as_many_files}
use Rattle.class_files.proofs.JudgedFiles.{class_at as file_at}
use Rattle.class_files.specs.declared.folder_class.FolderClass.{FolderClass}
use Rattle.class_files.specs.FolderClasses.{AreReadClasses, IsReadClass, files_of}

-- the class that was read at a place
pub class_at : (classes : List FolderClass) (i : ℕ) (c : ClassFile) → AreReadClasses classes → slice_get (files_of classes) i ≡ Some c
    → (f : FolderClass) × (slice_get classes i ≡ Some f) × (f.file ≡ c) × IsReadClass f
class_at [] i c read at = absurd cc
class_at (f ∷ more) zero c read at =
    let here : Some f.file ≡ Some c = at in
    let same : f.file ≡ c = cc in
    (f, refl, same, read.0)
class_at (f ∷ more) (suc i) c read at = class_at more i c read.1 at

same_read : (a b : FolderClass) → Some a ≡ Some b → IsReadClass a → IsReadClass b
same_read a b e h =
    let same : a ≡ b = cc in
    subst IsReadClass same h

-- the file at the place that stands here in the order
pub ordered_file : (classes : List FolderClass) (order : List ℕ) (k : ℕ) (f : FolderClass) → AreReadClasses classes
    → ((k i : ℕ) → slice_get order k ≡ Some i → i < length classes) → k < length order → f ≡ get_or classes (get_or order k 0) f
    → (slice_get order k ≡ Some (get_or order k 0)) × (slice_get (files_of classes) (get_or order k 0) ≡ Some f.file) × IsReadClass f
ordered_file classes order k f read places below this =
    let i = get_or order k 0 in
    let here = slice_get-get_or order k 0 below in
    let at : slice_get classes i ≡ Some f = slice_get_read classes (length classes) i f refl (places k i here) this in
    let of_file = file_at classes i f at in
    let its = class_at classes i f.file read of_file in
    (here, of_file, same_read its.0 f (sym its.1 ∙ at) its.3)

-- the places of the order are those of files
pub in_range : (classes : List FolderClass) (xs ys : List ℕ) → xs ≡ ys → IsClassOrder (files_of classes) ys → (k i : ℕ) → slice_get xs k ≡ Some i
    → i < length classes
in_range classes xs ys same is k i at =
    omega (arith, is.places k i (subst (λ (zs : List ℕ). slice_get zs k ≡ Some i) same at), as_many_files classes)
