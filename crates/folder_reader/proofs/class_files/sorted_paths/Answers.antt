-- After a sort and a `dedup` the paths rise, and are those of before.
use Rattle.std.proofs.Common.{ℕ, List, sym, subst}
use Rattle.std.specs.Prelude.{Contains}
use Rattle.std.specs.String.{string_eq}
use Rattle.std.proofs.lemmas.List.Filters.{dedup_is}
use Rattle.folder_reader.proofs.PathsInOrder.{sorted_differ, sorted_keep, sorted_only, sorted_rise}
use Rattle.folder_reader.proofs.class_files.sorted_paths.Goals as goal

pub returns-clause-rising : goal.returns-clause-rising
returns-clause-rising c =
    sorted_rise c.sort.new.self.items _ c.in_ok-sort.ensures.sorted (dedup_is string_eq _ _ c.dedup.ensures.filtered)

pub returns-clause-apart : goal.returns-clause-apart
returns-clause-apart c =
    sorted_differ c.sort.new.self.items _ c.in_ok-sort.ensures.sorted (dedup_is string_eq _ _ c.dedup.ensures.filtered)

pub returns-clause-kept : goal.returns-clause-kept
returns-clause-kept c = λ path h.
    sorted_keep c.in_ok-paths.paths.items c.sort.new.self.items _ path c.in_ok-sort.ensures.permutation
    (dedup_is string_eq _ _ c.dedup.ensures.filtered) (subst (λ (ps : List (List ℕ)). Contains ps path) (sym c.in_ok-paths.ensures) h)

pub returns-clause-only : goal.returns-clause-only
returns-clause-only c = λ path h.
    subst (λ (ps : List (List ℕ)). Contains ps path) c.in_ok-paths.ensures
    (sorted_only c.in_ok-paths.paths.items c.sort.new.self.items _ path c.in_ok-sort.ensures.permutation
    (dedup_is string_eq _ _ c.dedup.ensures.filtered) h)
