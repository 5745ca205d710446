-- One part after the other is restored.
use Rattle.std.proofs.Common.{◌∙◌, List, sym, ap, refl, take}
use Rattle.std.proofs.lemmas.List.{take_all, take_more}
use Rattle.std.specs.Prelude.{Contains}
use Rattle.jk_model_domains.specs.declared.states.OwnClass.{OwnClass}
use Rattle.jk_model_domains.specs.OwnStates.{with_part}
use Rattle.class_init.specs.Parts.{restored, restored_all}
use Rattle.class_init.proofs.PartChanged.{fits_kept, restored_more}
use Rattle.class_init.proofs.class_parts.ClassParts.restore_all.Goals as goal

pub loop-part-init : goal.loop-part-init
loop-part-init c = record { are = refl; fits = c.requires }

pub restore-requires : goal.restore-requires
restore-requires c =
    let o = c.part-item.result in
    let has : Contains c.args.list.now o = (c.loop-part.part-index, c.loop-part-test.true, sym c.part-item.is) in
    λ e found. c.loop-part.invariant.fits o has e found

pub loop-part-preserved : goal.loop-part-preserved
loop-part-preserved c =
    let list = c.args.list.now in
    let i = c.loop-part.part-index in
    let o = c.part-item.result in
    record {
      are =
          c.restore.ensures ∙ ap (with_part o.class (restored o)) c.loop-part.invariant.are
          ∙ sym (restored_more (take i list) o c.args.self.now)
          ∙ rw (take_more list i o c.loop-part-test.true, ← (c.part-item.is)) refl;
      fits = rw c.restore.ensures (fits_kept list o c.loop-part.self c.loop-part.invariant.fits);
    }

pub returns : goal.returns
returns c =
    c.loop-part.invariant.are
    ∙ ap (λ (list : List OwnClass). restored_all list c.args.self.now) (take_all c.loop-part.part-index c.args.list.now c.loop-part-test.false)
