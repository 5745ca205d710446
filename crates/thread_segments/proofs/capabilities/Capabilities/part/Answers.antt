-- What the table says, and the class at the number.
use Rattle.std.proofs.Common.{Some, ◌∙◌, ap, arith, sym}
use Rattle.std.proofs.lemmas.List.{get_or_read}
use Rattle.jk_model_heaps.specs.Capabilities.{capability_numbered}
use Rattle.thread_segments.specs.ClassedRanges.{no_class, ranges_with}
use Rattle.thread_segments.proofs.PartsByNumber.{part_is, part_none}
use Rattle.thread_segments.proofs.RangesWithClasses.{class_is, status_is}
use Rattle.thread_segments.proofs.capabilities.Capabilities.part.Goals as goal

pub overflow_sub-k : goal.overflow_sub-k
overflow_sub-k c =
    let s = c.self.inside in
    let h = class_is s.classes.items c.args.k s.table c.in-Some.status c.self.invariant (sym c.in-Some.ensures) in
    omega (arith, h.low)

pub index-requires : goal.index-requires
index-requires c =
    let s = c.self.inside in
    let h = class_is s.classes.items c.args.k s.table c.in-Some.status c.self.invariant (sym c.in-Some.ensures) in
    omega (arith, h.low, h.high, s.classes.ok.0)

pub returns-in-Some : goal.returns-in-Some
returns-in-Some c =
    let s = c.self.inside in
    let h = class_is s.classes.items c.args.k s.table c.in-Some.status c.self.invariant (sym c.in-Some.ensures) in
    rw (← c.self.view_is)
    (part_is (capability_numbered (ranges_with s.classes.items s.table) c.args.k) c.args.k c.in-Some.status c.index.result.now
    (c.in-Some.ensures ∙ status_is s.classes.items c.args.k s.table)
    (h.is ∙ ap Some (sym (get_or_read s.classes.items _ _ (omega (arith, h.low, h.high)) c.index.ensures no_class))))

pub returns-in-None : goal.returns-in-None
returns-in-None c =
    let s = c.self.inside in
    rw (← c.self.view_is)
    (part_none (capability_numbered (ranges_with s.classes.items s.table) c.args.k) c.args.k
    (c.in-None.ensures ∙ status_is s.classes.items c.args.k s.table))
