-- A line's label is put to the table, and the line is no longer left.
use Rattle.std.proofs.Common.{◌≡◌, ◌+◌, Some, refl, subst, drop, slice_get, add-one}
use Rattle.std.proofs.lemmas.Option.{slice_get_read}
use Rattle.jkasm.specs.Outline.{items_of, codes_to_end}
use Rattle.jkasm.proofs.CodesOfReadings.{with_reading, codes_to_end-at}
use Rattle.jkasm.proofs.LabelsInTurn.{IsToldBy, told_after_reading}
use Rattle.jkasm.proofs.labels.Labels.of.Goals as goal

pub loop-reading-preserved : goal.loop-reading-preserved
loop-reading-preserved c =
    let later = c.args.later.now in
    let i = c.loop-reading.reading-index in
    let reading = c.reading-item.result in
    let all = codes_to_end (items_of later) in
    let rest = codes_to_end (items_of (drop (i + 1) later)) in
    let here : slice_get later i ≡ Some reading = slice_get_read later _ i reading refl c.loop-reading-test.true c.reading-item.is in
    let left : codes_to_end (items_of (drop i later)) ≡ with_reading reading rest = rw add-one (codes_to_end-at later i reading here) in
    let told : IsToldBy all (with_reading reading rest) c.loop-reading.at c.loop-reading.labels =
    subst (λ codes. IsToldBy all codes c.loop-reading.at c.loop-reading.labels) left c.loop-reading.invariant.told in
    let after = told_after_reading all rest c.loop-reading.at reading c.loop-reading.labels c.read.new.self c.in_ok-next.field-0 c.in-Some.next
    c.loop-reading.invariant.near told c.in_ok-next.ensures c.in-Some.is in
    record { near = after.0; told = after.1 }
