-- The order in which the classes of a folder are put behind those that are loaded: each stands after its parent and its
-- interfaces. Those with fewer classes of the folder in a row above them come first, and those with equally many stand in
-- the order of their files.
use Rattle.std.specs.Prelude.{◌≡◌, ℕ, zero, suc, ◌<◌, ◌⊎◌, List, length, Some, slice_get}
use Rattle.jk_model.specs.declared.class_file.ClassFile.{ClassFile}
use Rattle.jk_model_classes.specs.Items.{HasItem}
use Rattle.jk_model_classes.specs.References.{IsCalledClass, StepsUp}

-- one of the files is of the class of this name
abbrev pub IsOfFiles : List ClassFile → List ℕ → Type 0
IsOfFiles files name = HasItem (λ (c : ClassFile). IsCalledClass c name) files

-- from class a so many steps up, over classes of the files, to class b of the files
abbrev pub ClimbsTo : List ClassFile → ℕ → List ℕ → List ℕ → Type 0
ClimbsTo files zero a b = (b ≡ a) × IsOfFiles files a
ClimbsTo files (suc n) a b = (next : List ℕ) × IsOfFiles files a × StepsUp files a next × ClimbsTo files n next b

-- so many steps up from the class, and no more, there is a class of the files
abbrev pub HasHeight : List ClassFile → List ℕ → ℕ → Type 0
HasHeight files a n = ((b : List ℕ) × ClimbsTo files n a b) × ((b : List ℕ) → ClimbsTo files (suc n) a b → ⊥)

-- the class of the file at one place comes before that of the file at another
abbrev pub ComesBefore : List ClassFile → ℕ → ℕ → Type 0
ComesBefore files i j =
    (of_i : ClassFile) × (of_j : ClassFile) × (slice_get files i ≡ Some of_i) × (slice_get files j ≡ Some of_j)
    × ((a : List ℕ) × (b : List ℕ) × (m : ℕ) × (n : ℕ) × IsCalledClass of_i a × IsCalledClass of_j b × HasHeight files a m
    × HasHeight files b n × ((m < n) ⊎ ((m ≡ n) × (i < j))))

-- The places of the files in the order of their classes: each place once.
pub record IsClassOrder (files : List ClassFile) (order : List ℕ) : Type 0 where
  pub as_many : length order ≡ length files
  pub places : (k i : ℕ) → slice_get order k ≡ Some i → i < length files
  pub rising : (k l i j : ℕ) → k < l → slice_get order k ≡ Some i → slice_get order l ≡ Some j → ComesBefore files i j
