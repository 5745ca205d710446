-- One class more has its links.
use Rattle.std.proofs.Common.{◌+◌, List, length, arith, ap, refl, ◌∙◌}
use Rattle.std.proofs.lemmas.List.{length-set}
use Rattle.jk_model_classes.specs.declared.records.ClassRecord.{ClassRecord}
use Rattle.jk_model_classes.specs.declared.records.Link.{Link}
use Rattle.folder_loader.proofs.LinksInTurn.{have_all, have_next, have_none}
use Rattle.folder_loader.proofs.all_links.set_links.Goals as goal

pub loop-place-init : goal.loop-place-init
loop-place-init c = (cc, cc, have_none c.args.first c.args.links c.args.world.now)

pub loop-place-preserved : goal.loop-place-preserved
loop-place-preserved c =
    let gets = c.set_links.ensures.classes in (
      ap (λ (xs : List (List Link)). length xs) c.replace-own.ensures.new ∙ length-set c.loop-place.links c.loop-place.place c.new.result
          ∙ c.loop-place.invariant.0,
      ap (λ (xs : List ClassRecord). length xs) gets.2 ∙ length-set c.loop-place.world.classes _ _ ∙ c.loop-place.invariant.1,
      have_next c.args.first (record { 0 = c.args.first.0 + c.loop-place.place }) c.args.links c.loop-place.links c.replace-own.new.self c.args.world.now
          c.loop-place.world c.set_links.new.self c.loop-place.place c.replace-own.result c.new.result c.loop-place.invariant.2 c.replace-own.ensures.old
          c.replace-own.ensures.new refl gets c.set_links.ensures.domains,
    )

pub returns : goal.returns
returns c =
    have_all c.args.first c.args.links c.loop-place.links c.args.world.now c.loop-place.world c.loop-place.place (omega arith) c.loop-place.invariant.2
