-- One class more is asked, and of two faults that of the earlier file is kept.
use Rattle.std.proofs.Common.{◌≡◌, ℕ, Some, None, Option, length, slice_get, sym, subst, arith, ◌+◌, slice_index_or}
use Rattle.std.specs.Prelude.{IfNone}
use Rattle.std.proofs.lemmas.Option.{slice_get-get_or}
use Rattle.jk_model.specs.declared.output.Rule.TheVariants.{C23}
use Rattle.jk_model_classes.specs.declared.records.ClassRecord.{ClassRecord}
use Rattle.jk_model_classes.specs.Classes.{record_of}
use Rattle.jk_model_classes.specs.Items.{Spot}
use Rattle.jk_model_typing.specs.Typing.{BreaksC23}
use Rattle.class_files.specs.declared.faults.FileFault.{FileFault}
use Rattle.link_rules.specs.LinkFaults.{IsLeastNumber}
use Rattle.placed_rules.specs.Codes.{AreTypedBefore, AtMember}
use Rattle.placed_rules.specs.FirstFiles.{IsFirstFault}
use Rattle.placed_rules.specs.PlacedFaults.{class_at}
use Rattle.placed_rules.proofs.FirstOfPlaces.{clean_next, fault_next}
use Rattle.placed_rules.proofs.MethodsOfClass.{AreTypedUpTo, all_typed, class_here, class_typed_next, where_none}
use Rattle.placed_rules.proofs.typings.first_untyped_file.Goals as goal
use Rattle.placed_rules.proofs.typings.first_untyped_file.Goals.{in-Some, in_default}

pub loop-place-preserved : goal.loop-place-preserved
loop-place-preserved c =
    let t = c.args.t.now in
    let first = c.args.first in
    let order = c.args.order.now in
    let place : ℕ = c.loop-place.place in
    let class = class_at c.args.first c.loop-place.place in
    let file : ℕ = slice_index_or c.args.order.now c.loop-place.place 0 in
    let breaks : ℕ → Spot → Type 0 = λ k. AtMember (BreaksC23 t (class_at first k)) in
    let at : slice_get c.args.order.now c.loop-place.place ≡ Some file = slice_get-get_or c.args.order.now c.loop-place.place 0 (omega arith) in
    let Kept : Option FileFault → Type 0 =
    λ best. IsFirstFault C23 (place + 1) order breaks best × IfNone best (AreTypedUpTo t first (first.0 + (place + 1))) in
    elim c.match-branch-2.branch [
      | in-Some w ↦
          let least : IsLeastNumber (breaks place) (Some w.in-Some.number) = rw w.in-Some.is at c.in_ok-number.ensures.number in
          let next = fault_next C23 order breaks place file w.in-Some.number c.loop-place.best at c.loop-place.invariant.0 least in
          subst Kept (sym w.best-is) (subst (λ (f : FileFault). Kept (Some f)) (sym w.earlier.ensures) (next, tt))
      | in_default w ↦
          let least : IsLeastNumber (breaks place) None = rw w.in_default.is at c.in_ok-number.ensures.number in
          let next = clean_next C23 order breaks place c.loop-place.best c.loop-place.invariant.0 least in
          let typed : (r : ClassRecord) → record_of t class ≡ Some r → AreTypedBefore t class (length r.methods) =
          rw w.in_default.is at c.in_ok-number.ensures.typed in
          let more = where_none c.loop-place.best (λ before.
          subst (λ (n : ℕ). AreTypedUpTo t first n) (omega arith) (class_typed_next t first (first.0 + place) before (class_here t class typed)))
          c.loop-place.invariant.1 in
          subst Kept (sym w.best-is) (next, more)
    ]

pub returns-clause-typed : goal.returns-clause-typed
returns-clause-typed c =
    where_none c.loop-place.best (λ before. all_typed c.args.t.now c.args.first (c.args.first.0 + c.loop-place.place) (omega (arith, c.requires.count)) before)
    c.loop-place.invariant.1
