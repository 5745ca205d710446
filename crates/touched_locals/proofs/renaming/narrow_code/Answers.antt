-- The list of kept locals is that of the narrowed code.
use Rattle.std.proofs.Common.{◌+◌, ◌*◌, ◌≤◌, ap, length, refl, sym, subst, arith}
use Rattle.jk_model_classes.specs.declared.records.MethodRecord.{MethodRecord}
use Rattle.touched_locals.proofs.KeptByList.{narrowed-is}
use Rattle.touched_locals.proofs.KeptMarks.{rising-many}
use Rattle.touched_locals.proofs.renaming.narrow_code.Goals as goal

pub kept_locals-requires : goal.kept_locals-requires
kept_locals-requires c = c.in-Some.ensures.0

pub renamed_instrs-requires : goal.renamed_instrs-requires
renamed_instrs-requires c =
    omega (
      arith,
      ap length c.as_slice-kept.ensures.value,
      rising-many 0 c.in_ok-locals.locals.items c.args.code.now.max_locals c.in_ok-locals.ensures.rising,
    )

pub overflow_cast-max_locals : goal.overflow_cast-max_locals
overflow_cast-max_locals c =
    omega (
      arith,
      ap length c.as_slice-kept.ensures.value,
      rising-many 0 c.in_ok-locals.locals.items c.args.code.now.max_locals c.in_ok-locals.ensures.rising,
    )

pub returns : goal.returns
returns c = λ s is method_is.
    let few = c.in-Some.ensures.1 in
    narrowed-is c.in-Some.first c.args.code.now.max_locals c.in_ok-locals.locals.items c.in_ok-locals.ensures s c.args.code.now _ is refl
    (subst (λ (m : MethodRecord). 2 * length m.params + 1 ≤ c.in-Some.first) (sym method_is) few)
    (ap length c.as_slice-kept.ensures.value) refl c.in_ok-handlers.ensures
    (rw (c.as_slice-kept.ensures.value, c.from-count.ensures, c.as_slice.ensures) at (rw c.in-Some-renamed.is at c.in_ok-renamed.ensures))
