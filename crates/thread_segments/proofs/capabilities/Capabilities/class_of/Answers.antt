-- The class stands at the number.
use Rattle.std.proofs.Common.{Some, ◌∙◌, ap, arith, sym}
use Rattle.std.proofs.lemmas.List.{get_or_read}
use Rattle.thread_segments.specs.ClassedRanges.{no_class}
use Rattle.thread_segments.proofs.RangesWithClasses.{class_is, class_none}
use Rattle.thread_segments.proofs.capabilities.Capabilities.class_of.Goals as goal

pub overflow_sub-k : goal.overflow_sub-k
overflow_sub-k c =
    let s = c.self.inside in
    let h = class_is s.classes.items c.args.k s.table c.in-Some.field-0 c.self.invariant (sym c.in-Some.ensures) in
    omega (arith, h.low)

pub index-requires : goal.index-requires
index-requires c =
    let s = c.self.inside in
    let h = class_is s.classes.items c.args.k s.table c.in-Some.field-0 c.self.invariant (sym c.in-Some.ensures) in
    omega (arith, h.low, h.high, s.classes.ok.0)

pub returns-in-Some : goal.returns-in-Some
returns-in-Some c =
    let s = c.self.inside in
    let h = class_is s.classes.items c.args.k s.table c.in-Some.field-0 c.self.invariant (sym c.in-Some.ensures) in
    rw (← c.self.view_is)
    (ap Some (get_or_read s.classes.items _ _ (omega (arith, h.low, h.high)) c.index.ensures no_class) ∙ sym h.is)

pub returns-in-None : goal.returns-in-None
returns-in-None c =
    let s = c.self.inside in
    rw (← c.self.view_is) (sym (class_none s.classes.items c.args.k s.table (sym c.in-None.ensures)))
