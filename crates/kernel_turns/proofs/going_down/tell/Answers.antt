-- A thread that has ended is told of.
use Rattle.std.proofs.Common.{◌≡◌, ℕ, List, [], ◌∷◌, slice_get, Some, refl, sym, ap, subst, ◌∙◌}
use Rattle.std.specs.Slice.{IsItemAt}
use Rattle.list_lemmas.proofs.ItemsByPlace.{item_lent}
use Rattle.jk_model.specs.declared.output.Line.TheVariants as Says
use Rattle.jk_model_classes.specs.declared.records.ClassRecord.{ClassRecord}
use Rattle.domain_crossing.specs.PrintedOfThreads.{PrintedOf}
use Rattle.domain_crossing.specs.declared.answers.Left.{Left}
use Rattle.kernel_turns.proofs.going_down.tell.Goals as goal

pub returns-in-Ended : goal.returns-in-Ended
returns-in-Ended g c = (
  Says.Ended c.args.t ∷ [],
  λ from before h. c.print_next.ensures from.bytes from.pieces from.faults before h,
  subst (λ (left : Left). PrintedOf c.args.w.now.classes c.args.t left (Says.Ended c.args.t ∷ [])) (sym c.in-Ended.is) refl,
)

pub returns-in-Some : goal.returns-in-Some
returns-in-Some g c =
    let at : slice_get c.args.w.now.classes c.in-EndedBy.c.0 ≡ Some c.in-Some.class.now =
    ap (λ (classes : List ClassRecord). slice_get classes c.in-EndedBy.c.0) (sym c.classes.ensures)
    ∙ item_lent c.classes.result.now c.in-EndedBy.c.0 c.in-Some.class (subst (IsItemAt c.classes.result.now c.in-EndedBy.c.0) c.in-Some.is c.class.ensures) in (
      Says.EndedBy c.args.t c.as_slice-class.result.now ∷ [],
      λ from before h. c.print_next-in-EndedBy.ensures from.bytes from.pieces from.faults before h,
      subst
          (λ (left : Left). PrintedOf c.args.w.now.classes c.args.t left (Says.EndedBy c.args.t c.as_slice-class.result.now ∷ []))
          (sym c.in-EndedBy.is)
          (c.in-Some.class.now, at, ap (λ (n : List ℕ). Says.EndedBy c.args.t n ∷ []) c.as_slice-class.ensures),
    )
