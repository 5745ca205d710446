-- One class more is asked, and of two faults that of the earlier file is kept.
use Rattle.std.proofs.Common.{◌≡◌, ℕ, Some, None, Option, slice_get, sym, subst, arith, ◌+◌, slice_index_or}
use Rattle.std.proofs.lemmas.Option.{slice_get-get_or}
use Rattle.jk_model_classes.specs.Items.{Spot}
use Rattle.class_files.specs.declared.faults.FileFault.{FileFault}
use Rattle.link_rules.specs.LinkFaults.{IsLeastNumber}
use Rattle.placed_rules.specs.FirstFiles.{IsFirstFault, IsFirstFile}
use Rattle.placed_rules.proofs.FirstOfPlaces.{clean_next, fault_next}
use Rattle.placed_rules.proofs.by_file.first_broken.Goals as goal
use Rattle.placed_rules.proofs.by_file.first_broken.Goals.{in-Some, in_default}

pub loop-place-preserved : goal.loop-place-preserved
loop-place-preserved g c =
    let order = c.args.order.now in
    let place : ℕ = c.loop-place.place in
    let file : ℕ = slice_index_or c.args.order.now c.loop-place.place 0 in
    let breaks : ℕ → Spot → Type 0 = g.R.ClassRule.breaks c.args.judged.now in
    let at : slice_get c.args.order.now c.loop-place.place ≡ Some file = slice_get-get_or c.args.order.now c.loop-place.place 0 (omega arith) in
    let Kept : Option FileFault → Type 0 = λ best. IsFirstFault c.args.rule (place + 1) order breaks best in
    elim c.match-least_number.branch [
      | in-Some w ↦
          let least : IsLeastNumber (breaks place) (Some w.in-Some.number) = rw w.in-Some.is at c.least_number.ensures in
          let next = fault_next c.args.rule order breaks place file w.in-Some.number c.loop-place.best at c.loop-place.invariant least in
          subst Kept (sym w.best-is) (subst (λ (f : FileFault). IsFirstFile c.args.rule (place + 1) order breaks f) (sym w.earlier.ensures) next)
      | in_default w ↦
          let least : IsLeastNumber (breaks place) None = rw w.in_default.is at c.least_number.ensures in
          let next = clean_next c.args.rule order breaks place c.loop-place.best c.loop-place.invariant least in
          subst Kept (sym w.best-is) next
    ]
