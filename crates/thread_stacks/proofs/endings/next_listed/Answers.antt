-- Numbers don't fall: those up to the one asked for are in front.
use Rattle.std.proofs.Common.{ℕ, nat_le, rules, sym, arith, ap, ◌∙◌}
use Rattle.std.proofs.lemmas.Bool.{leb-false, leb-true}
use Rattle.std.proofs.lemmas.List.Sorted.{IsPartitionPoint-from_clause, IsPartitionedBy-leb}
use Rattle.std.proofs.lemmas.Option.{get_or_from_slice_get, slice_get_within}
use Rattle.thread_stacks.proofs.EndingsListed.{next_of}
use Rattle.thread_stacks.proofs.endings.next_listed.Goals as goal

pub returns : goal.returns
returns c =
    let ns = c.args.listed.now in
    let start = c.partition_point-start.result in
    let point =
    IsPartitionPoint-from_clause (λ (n : ℕ). nat_le n c.args.above) ns start c.partition_point-start.ensures.partitioned
    (IsPartitionedBy-leb (λ (n : ℕ). n) ns c.args.above c.requires) (λ a r g h. search rules) in
    next_of ns c.args.above start c.number_at.result
    (λ k t at low.
    leb-true t c.args.above
    (ap (λ (n : ℕ). nat_le n c.args.above) (sym (get_or_from_slice_get ns k t t at)) ∙ point.0 k t (omega arith) low))
    (λ k t at after.
    leb-false t c.args.above
    (ap (λ (n : ℕ). nat_le n c.args.above) (sym (get_or_from_slice_get ns k t t at)) ∙ point.1 k t after (slice_get_within ns k t at)))
    c.requires (sym c.number_at.ensures)
