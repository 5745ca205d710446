use Rattle.std.proofs.Common.{◌≡◌, ◌∙◌, ◌-◌, length, take, drop, sym, ap, rules}
use Rattle.std.proofs.Math.Seq.{take-length}
use Rattle.std.proofs.lemmas.List.{length-drop}
use Rattle.std.proofs.lemmas.List.Sorted.{IsPartitionPoint-from_clause}
use Rattle.std.specs.Ordering.{is_lt}
use Rattle.member_index.specs.Index.{entry_cmp, has_marks}
use Rattle.member_index.specs.declared.entries.Entry.{Entry}
use Rattle.member_index.proofs.RunOfEntries.{StartsAt, EndsAt, parted_by_first, parted_by_marks, run_between}
use Rattle.member_index.proofs.entries.run.Goals as goal

pub returns : goal.returns
returns c =
    let entries = c.args.entries.now in
    let marks = c.args.marks in
    let from = c.args.from in
    let start = c.partition_point-start.result in
    let size = c.partition_point-end.result in
    let first : Entry = record { marks = marks; place = from } in
    let rest : take (length entries - start) (drop start entries) ≡ drop start entries =
    ap (λ n. take n (drop start entries)) (sym (length-drop start entries)) ∙ take-length (drop start entries) in
    let starts : StartsAt entries marks from start =
    IsPartitionPoint-from_clause (λ e. is_lt (entry_cmp e first)) _ _ c.partition_point-start.ensures.partitioned
    (parted_by_first entries first c.requires) (λ a r q k. search rules) in
    let ends : EndsAt entries marks start size =
    IsPartitionPoint-from_clause (has_marks marks) _ _ (rw rest at c.partition_point-end.ensures.partitioned)
    (parted_by_marks entries marks from start c.requires starts) (λ a r q k. search rules) in
    let in_list = c.partition_point-start.ensures.bound in
    let in_rest = rw rest at c.partition_point-end.ensures.bound in
    rw rest (run_between entries marks from start size c.requires in_list starts in_rest ends)
