use Rattle.std.proofs.Common.{◌≡◌, ◌∙◌, length, map, arith}
use Rattle.std.proofs.Math.Seq.{take-append_seam}
use Rattle.member_index.proofs.EntriesOfMarks.{entries_are, index_from_sorted}
use Rattle.member_index.proofs.entries.sorted_entries.Goals as goal

pub returns : goal.returns
returns g c =
    let marks_of = g.M.Marked.marks_of in
    let members = c.args.members.now in
    let entries = c.loop-place.entries.items in
    let sorted = c.sort_unstable.new.self in
    let all : c.loop-place.place ≡ length members = omega arith in
    let are = entries_are marks_of members entries (c.loop-place.invariant.0 ∙ all)
    (λ k d m k_in. c.loop-place.invariant.1 k d m (omega arith)) in
    let perm = rw c.as_mut_slice.ensures.value at c.sort_unstable.ensures.permutation in
    let long : c.loop-place.entries.len ≡ length sorted = omega arith in
    rw (long, take-append_seam) (index_from_sorted (map marks_of members) entries sorted are perm c.sort_unstable.ensures.sorted)
