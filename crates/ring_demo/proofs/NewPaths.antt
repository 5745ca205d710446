-- Each file of the demo has a path of its own, and stands below no other and above none.
use Rattle.std.proofs.Common.{◌≡◌, ℕ, zero, suc, ◌+◌, ◌<◌, ◌&&◌, Bool, true, List, [], ◌∷◌, ◌++◌, None, Some, Option, is_none, refl, sym, ap, ◌∙◌, append_assoc, arith, codes}
use Rattle.std.specs.Fmt.{digits}
use Rattle.std.specs.List.{flat_map, range_with_len}
use Rattle.std.proofs.lemmas.Bool.{and_parts}
use Rattle.jk_outside.specs.MemoryTrees.{FilesState, all_apart, is_addable, is_below, place_of, placed, stand_apart, with_file}
use Rattle.jk_outside.specs.declared.memory_files.MemoryFile.{MemoryFile}
use Rattle.ring_demo.specs.DemoTree.{IsNewPath, base_files, domain_files, file_in, tree_files}
use Rattle.ring_demo.specs.DemoEvents.{domain_name}
use Rattle.ring_demo.specs.declared.class_files.TheConstants.{GO_CLASS, HOP_CLASS, IMPL_CLASS, MAIN_CLASS, NODE_CLASS}
use Rattle.ring_demo.specs.declared.tree.TheConstants.{IMPORTS, SHARES}

-- the file is put behind the others
pub put_behind : (files : List MemoryFile) (path bytes : List ℕ) → IsNewPath files path
    → with_file files path bytes ≡ files ++ record { path = path; bytes = bytes } ∷ []
unfolding placed
put_behind files path bytes new = rw new.absent refl

-- whether each of some more files has a new path, when it comes
abbrev pub are_new : List MemoryFile → List MemoryFile → Bool
are_new files [] = true
are_new files (f ∷ more) = (is_addable files f.path && is_none (place_of files f.path)) && are_new (files ++ f ∷ []) more

none_is : {X : Type 0} (o : Option X) → is_none o ≡ true → o ≡ None
none_is None h = refl
none_is (Some x) h = absurd cc

-- the first of them has
pub first_is_new : (files : List MemoryFile) (f : MemoryFile) (more : List MemoryFile) → are_new files (f ∷ more) ≡ true → IsNewPath files f.path
first_is_new files f more h =
    let both = (and_parts (is_addable files f.path && is_none (place_of files f.path)) (are_new (files ++ f ∷ []) more) h).0 in
    let parts = and_parts (is_addable files f.path) (is_none (place_of files f.path)) both in
    record { addable = parts.0; absent = none_is (place_of files f.path) parts.1 }

-- and the others have
pub others_are_new : (files : List MemoryFile) (f : MemoryFile) (more : List MemoryFile) → are_new files (f ∷ more) ≡ true
    → are_new (files ++ f ∷ []) more ≡ true
others_are_new files f more h =
    (and_parts (is_addable files f.path && is_none (place_of files f.path)) (are_new (files ++ f ∷ []) more) h).1

pub base_is_new : are_new [] base_files ≡ true
unfolding is_addable all_apart stand_apart is_below place_of
base_is_new = refl

pub domain_is_new : (i : ℕ) → i < 8 → are_new (tree_files i) (domain_files i) ≡ true
unfolding digits is_addable all_apart stand_apart is_below place_of
domain_is_new zero h = refl
domain_is_new (suc zero) h = refl
domain_is_new (suc (suc zero)) h = refl
domain_is_new (suc (suc (suc zero))) h = refl
domain_is_new (suc (suc (suc (suc zero)))) h = refl
domain_is_new (suc (suc (suc (suc (suc zero))))) h = refl
domain_is_new (suc (suc (suc (suc (suc (suc zero)))))) h = refl
domain_is_new (suc (suc (suc (suc (suc (suc (suc zero))))))) h = refl
domain_is_new (suc (suc (suc (suc (suc (suc (suc (suc i)))))))) h = absurd (omega arith)

-- ---- The files one by one, as they are put.

abbrev hop_file : MemoryFile
hop_file = file_in (codes "base") (codes "Hop.class") HOP_CLASS.now

abbrev node_file : MemoryFile
node_file = file_in (codes "base") (codes "Node.class") NODE_CLASS.now

abbrev shares_file : MemoryFile
shares_file = file_in (codes "base") (codes "resolver.txt") SHARES.now

after_hop : are_new (hop_file ∷ []) (node_file ∷ shares_file ∷ []) ≡ true
after_hop = others_are_new [] hop_file (node_file ∷ shares_file ∷ []) base_is_new

pub new_hop : IsNewPath [] hop_file.path
new_hop = first_is_new [] hop_file (node_file ∷ shares_file ∷ []) base_is_new

pub new_node : IsNewPath (hop_file ∷ []) node_file.path
new_node = first_is_new (hop_file ∷ []) node_file (shares_file ∷ []) after_hop

pub new_shares : IsNewPath (hop_file ∷ node_file ∷ []) shares_file.path
new_shares =
    first_is_new (hop_file ∷ node_file ∷ []) shares_file [] (others_are_new (hop_file ∷ []) node_file (shares_file ∷ []) after_hop)

abbrev main_in : List ℕ → MemoryFile
main_in name = file_in name (codes "Main.class") MAIN_CLASS.now

abbrev impl_in : List ℕ → MemoryFile
impl_in name = file_in name (codes "Impl.class") IMPL_CLASS.now

abbrev go_in : List ℕ → MemoryFile
go_in name = file_in name (codes "Go.class") GO_CLASS.now

abbrev imports_in : List ℕ → MemoryFile
imports_in name = file_in name (codes "resolver.txt") IMPORTS.now

module _ (i : ℕ) (few : i < 8) where
  abbrev name : List ℕ
  name = domain_name i

  after_main : are_new (tree_files i ++ main_in name ∷ []) (impl_in name ∷ go_in name ∷ imports_in name ∷ []) ≡ true
  after_main = others_are_new (tree_files i) (main_in name) (impl_in name ∷ go_in name ∷ imports_in name ∷ []) (domain_is_new i few)

  after_impl : are_new ((tree_files i ++ main_in name ∷ []) ++ impl_in name ∷ []) (go_in name ∷ imports_in name ∷ []) ≡ true
  after_impl = others_are_new (tree_files i ++ main_in name ∷ []) (impl_in name) (go_in name ∷ imports_in name ∷ []) after_main

  after_go : are_new (((tree_files i ++ main_in name ∷ []) ++ impl_in name ∷ []) ++ go_in name ∷ []) (imports_in name ∷ []) ≡ true
  after_go = others_are_new ((tree_files i ++ main_in name ∷ []) ++ impl_in name ∷ []) (go_in name) (imports_in name ∷ []) after_impl

  pub new_main : IsNewPath (tree_files i) (main_in name).path
  new_main = first_is_new (tree_files i) (main_in name) (impl_in name ∷ go_in name ∷ imports_in name ∷ []) (domain_is_new i few)

  pub new_impl : IsNewPath (tree_files i ++ main_in name ∷ []) (impl_in name).path
  new_impl = first_is_new (tree_files i ++ main_in name ∷ []) (impl_in name) (go_in name ∷ imports_in name ∷ []) after_main

  pub new_go : IsNewPath ((tree_files i ++ main_in name ∷ []) ++ impl_in name ∷ []) (go_in name).path
  new_go = first_is_new ((tree_files i ++ main_in name ∷ []) ++ impl_in name ∷ []) (go_in name) (imports_in name ∷ []) after_impl

  pub new_imports : IsNewPath (((tree_files i ++ main_in name ∷ []) ++ impl_in name ∷ []) ++ go_in name ∷ []) (imports_in name).path
  new_imports = first_is_new (((tree_files i ++ main_in name ∷ []) ++ impl_in name ∷ []) ++ go_in name ∷ []) (imports_in name) [] after_go

-- one more domain's files
more_from : (a i j : ℕ) → a + i ≡ j → flat_map domain_files (range_with_len a (i + 1)) ≡ flat_map domain_files (range_with_len a i) ++ domain_files j
more_from a zero j is = let same : a ≡ j = omega (arith, is) in rw same refl
more_from a (suc i) j is =
    let next : (a + 1) + i ≡ j = omega (arith, is) in
    let longer : suc i + 1 ≡ suc (i + 1) = omega arith in
    rw longer (ap (λ (more : List MemoryFile). domain_files a ++ more) (more_from (a + 1) i j next))

pub domain_more : (i : ℕ) → tree_files i ++ domain_files i ≡ tree_files (i + 1)
domain_more i =
    append_assoc base_files (flat_map domain_files (range_with_len 0 i)) (domain_files i)
    ∙ ap (λ (more : List MemoryFile). base_files ++ more) (sym (more_from 0 i i (omega arith)))

four_behind : (files : List MemoryFile) (a b c d : MemoryFile)
    → (((files ++ a ∷ []) ++ b ∷ []) ++ c ∷ []) ++ d ∷ [] ≡ files ++ a ∷ b ∷ c ∷ d ∷ []
four_behind files a b c d = simp append_assoc refl

all_put : (files : List MemoryFile) (i : ℕ) (name : List ℕ) → files ≡ tree_files i → name ≡ domain_name i
    → (((files ++ main_in name ∷ []) ++ impl_in name ∷ []) ++ go_in name ∷ []) ++ imports_in name ∷ [] ≡ tree_files (i + 1)
all_put files i name so_far is =
    rw (so_far, is)
    (four_behind (tree_files i) (main_in (domain_name i)) (impl_in (domain_name i)) (go_in (domain_name i)) (imports_in (domain_name i)) ∙ domain_more i)

-- the files after the fourth, from those before the first
pub four_put : (s one two three : FilesState) (i : ℕ) (name : List ℕ) → s.files ≡ tree_files i → name ≡ domain_name i
    → one ≡ record s { files = s.files ++ main_in name ∷ [] }
    → two ≡ record one { files = one.files ++ impl_in name ∷ [] }
    → three ≡ record two { files = two.files ++ go_in name ∷ [] }
    → record three { files = three.files ++ imports_in name ∷ [] } ≡ record s { files = tree_files (i + 1) }
four_put s one two three i name so_far is first second third =
    rw (third, second, first) (ap (λ (files : List MemoryFile). record s { files = files }) (all_put s.files i name so_far is))
