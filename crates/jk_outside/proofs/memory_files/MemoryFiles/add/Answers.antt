use Rattle.std.proofs.Common.{◌≡◌, ℕ, List, true, sym, ap, ◌∙◌, subst}
use Rattle.std.specs.Str.{IsUtf8}
use Rattle.std.proofs.lemmas.Bool.{and_parts}
use Rattle.std.proofs.lemmas.Str.{is_utf8-from_IsUtf8}
use Rattle.jk_outside.specs.declared.memory_files.MemoryFile.{MemoryFile}
use Rattle.jk_outside.specs.declared.memory_files.NameSoFar.TheVariants.{Empty}
use Rattle.jk_outside.specs.MemoryTrees.{is_addable, all_apart, has_full_names}
use Rattle.jk_outside.proofs.memory_files.MemoryFiles.add.Goals as goal

addable_is_full : (files : List MemoryFile) (path : List ℕ) → is_addable files path ≡ true → has_full_names Empty path ≡ true
unfolding is_addable
addable_is_full files path h = (and_parts (has_full_names Empty path) (all_apart files path) h).0

pub invariant_of-self : goal.invariant_of-self
invariant_of-self c =
    c.put_file.ensures.paths c.self.invariant
    (is_utf8-from_IsUtf8 _ (subst IsUtf8 (sym c.in_ok-from_slice.ensures) c.as_bytes.ensures.utf8))
    (ap (λ (path : List ℕ). has_full_names Empty path) (c.in_ok-from_slice.ensures ∙ c.as_bytes.ensures.value)
    ∙ addable_is_full c.args.self.now.files c.args.path.now c.requires)
