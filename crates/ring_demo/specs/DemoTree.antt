-- The folders of the demo of a seed: `base` with the classes of the rings, which it shares with all, and a folder for each domain of the ring with
-- its three classes. The class files are fixed bytes.
use Rattle.std.specs.Prelude.{◌≡◌, ℕ, List, [], ◌∷◌, ◌++◌, None, true, codes}
use Rattle.std.specs.List.{flat_map, range_with_len}
use Rattle.jk_model.specs.Outside.{Tree, ◌/-◌}
use Rattle.jk_outside.specs.MemoryTrees.{is_addable, place_of, tree_of}
use Rattle.jk_outside.specs.declared.memory_files.MemoryFile.{MemoryFile}
use Rattle.ring_demo.specs.Measures.{domains_of}
use Rattle.ring_demo.specs.DemoEvents.{domain_name}
use Rattle.ring_demo.specs.declared.class_files.TheConstants.{GO_CLASS, HOP_CLASS, IMPL_CLASS, MAIN_CLASS, NODE_CLASS}
use Rattle.ring_demo.specs.declared.tree.TheConstants.{IMPORTS, ROOT, SHARES}

-- a file of a folder below the root
abbrev pub file_in : List ℕ → List ℕ → List ℕ → MemoryFile
file_in folder name bytes = record { path = ROOT.now /- folder /- name; bytes = bytes }

abbrev pub base_files : List MemoryFile
base_files =
    file_in (codes "base") (codes "Hop.class") HOP_CLASS.now
    ∷ file_in (codes "base") (codes "Node.class") NODE_CLASS.now
    ∷ file_in (codes "base") (codes "resolver.txt") SHARES.now
    ∷ []

abbrev pub domain_files : ℕ → List MemoryFile
domain_files i =
    file_in (domain_name i) (codes "Main.class") MAIN_CLASS.now
    ∷ file_in (domain_name i) (codes "Impl.class") IMPL_CLASS.now
    ∷ file_in (domain_name i) (codes "Go.class") GO_CLASS.now
    ∷ file_in (domain_name i) (codes "resolver.txt") IMPORTS.now
    ∷ []

-- with a ring of so many domains
abbrev pub tree_files : ℕ → List MemoryFile
tree_files domains = base_files ++ flat_map domain_files (range_with_len 0 domains)

abbrev pub demo_files : ℕ → List MemoryFile
demo_files seed = tree_files (domains_of seed)

abbrev pub demo_tree : ℕ → Tree
demo_tree seed = tree_of (demo_files seed)

-- ---- What the tree's code asks of a file.

-- a file may be put at this path among these files, and none stands there
pub record IsNewPath (files : List MemoryFile) (path : List ℕ) : Type 0 where
  pub addable : is_addable files path ≡ true
  pub absent : place_of files path ≡ None
