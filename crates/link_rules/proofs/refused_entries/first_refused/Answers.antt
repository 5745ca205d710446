-- One more isn't refused, or is.
use Rattle.std.proofs.Common.{◌≡◌, List, Some, arith, subst, ap, length}
use Rattle.std.specs.Prelude.{slice_get}
use Rattle.list_lemmas.proofs.ItemsByPlace.{item_read}
use Rattle.jk_model_classes.specs.declared.records.Link.{Link}
use Rattle.link_rules.proofs.RefusedByLinks.{none_refused_more, nothing_refused, refused_found}
use Rattle.link_rules.proofs.refused_entries.first_refused.Goals as goal

pub loop-i-init : goal.loop-i-init
loop-i-init c = λ j link low at h. omega arith

pub loop-i-preserved : goal.loop-i-preserved
loop-i-preserved c =
    none_refused_more c.args.t.now c.args.class c.args.links.now c.loop-i.i c.index-links-i.result
    (subst (λ (w : List Link). slice_get w c.loop-i.i ≡ Some c.index-links-i.result) c.as_slice-links.ensures
    (item_read c.as_slice-links.result.now c.loop-i.i c.index-links-i.result (omega arith) c.index-links-i.is))
    (λ h. let t = c.is_refused.ensures.1 h in let f = c.if-is_refused.false in absurd cc) c.loop-i.invariant

pub returns-then-is_refused : goal.returns-then-is_refused
returns-then-is_refused c = λ s file same own h.
    refused_found c.args.t.now c.args.class c.args.links.now s file same own h c.loop-i.i c.index-links-i.result
    (subst (λ (w : List Link). slice_get w c.loop-i.i ≡ Some c.index-links-i.result) c.as_slice-links.ensures
    (item_read c.as_slice-links.result.now c.loop-i.i c.index-links-i.result (omega arith) c.index-links-i.is))
    (c.is_refused.ensures.0 c.if-is_refused.true) c.loop-i.invariant

pub returns : goal.returns
returns c = λ s file same own h.
    nothing_refused c.args.t.now c.args.class c.args.links.now s file same own h c.loop-i.i
    (omega (arith, ap length c.as_slice-links.ensures)) c.loop-i.invariant
