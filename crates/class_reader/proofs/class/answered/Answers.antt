-- What is in front is all of the bytes, or bytes follow it.
use Rattle.std.proofs.Common.{refl, sym, arith}
use Rattle.std.proofs.lemmas.Bool.{eqb-true}
use Rattle.std.proofs.lemmas.List.{nil_from_length}
use Rattle.jk_model.proofs.EmptyByLength.{not_nil_from_test}
use Rattle.class_reader.proofs.FrontAndRest.{front_long, is_all, ends_within}
use Rattle.class_reader.proofs.class.answered.Goals as goal

pub overflow_sub-result : goal.overflow_sub-result
overflow_sub-result c = omega (arith, front_long c.in_ok-class.ensures)

pub returns-then-not-is_empty : goal.returns-then-not-is_empty
returns-then-not-is_empty c =
    let ends = ends_within c.in_ok-class.ensures (not_nil_from_test c.in_ok-class.rest.now _ c.if-not-is_empty.ensures refl) in
    (c.in_ok-class.class, ends.0, ends.1)

pub returns : goal.returns
returns c = is_all c.in_ok-class.ensures (nil_from_length c.in_ok-class.rest.now (eqb-true _ _ (sym c.if-not-is_empty.ensures)))
