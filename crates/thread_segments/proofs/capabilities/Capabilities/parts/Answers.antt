-- One number after the other.
use Rattle.std.proofs.Common.{◌≡◌, ◌∙◌, ℕ, List, ap, arith, subst}
use Rattle.std.specs.List.{flat_map}
use Rattle.jk_model_heaps.specs.Capabilities.{CapRange}
use Rattle.thread_segments.specs.ClassedRanges.{ranges_with}
use Rattle.thread_segments.specs.StateParts.{cap_parts, part_at}
use Rattle.thread_segments.proofs.PartsByNumber.{all_parts, numbers_from, part_more}
use Rattle.thread_segments.proofs.capabilities.Capabilities.parts.Goals as goal

pub loop-place-init : goal.loop-place-init
loop-place-init c = c.new-parts.ensures

pub loop-place-preserved : goal.loop-place-preserved
loop-place-preserved c =
    part_more c.args.self.now c.loop-place.place c.loop-place.parts c.push_part.new.parts c.loop-place.invariant c.in_ok-push_part.ensures

pub returns : goal.returns
returns c =
    let s = c.self.inside in
    let P : List CapRange → Type 0 = λ caps. flat_map (part_at caps) (numbers_from 1 c.loop-place.place) ≡ flat_map cap_parts caps in
    let all = all_parts s.classes.items s.table c.self.invariant in
    c.loop-place.invariant
    ∙ subst P c.self.view_is
    (ap (λ (n : ℕ). flat_map (part_at (ranges_with s.classes.items s.table)) (numbers_from 1 n))
    (omega (arith, c.loop-place.auto.place-end, c.loop-place-test.false, c.len-place-end.ensures, s.classes.ok.0)) ∙ all)
