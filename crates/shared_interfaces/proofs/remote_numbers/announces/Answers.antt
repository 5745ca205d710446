-- One of the three is the class, or none is.
use Rattle.std.proofs.Common.{inl, inr, ◌≡◌, false, true, sym, ◌∙◌}
use Rattle.shared_interfaces.proofs.NumbersOfClasses.{third_alone}
use Rattle.jk_model_classes.specs.SharedRules.{AnnouncesRemote}
use Rattle.shared_interfaces.proofs.remote_numbers.announces.Goals as goal
use Rattle.shared_interfaces.proofs.remote_numbers.announces.Goals.{then-is_number, else-is_number}

pub returns-then-is_number-2 : goal.returns-then-is_number-2
returns-then-is_number-2 c =
    let announces : AnnouncesRemote c.args.c = elim c.if-is_number.branch [
      | then-is_number w ↦ inl ((c.requires.remote_exception c.args.c).1 (c.is_number.ensures.0 w.if-is_number.true))
      | else-is_number w ↦ inr (inl ((c.requires.exception c.args.c).1 (w.is_number-else-is_number.ensures.0 (sym w.value-is ∙ c.if-is_number-2.true))))
    ] in
    (λ t. announces, λ h. c.if-is_number-2.true)

pub returns-else-is_number-2 : goal.returns-else-is_number-2
returns-else-is_number-2 c = elim c.if-is_number.branch [
  | then-is_number w ↦ let no : true ≡ false = sym w.if-is_number.true ∙ sym w.value-is ∙ c.if-is_number-2.false in absurd cc
  | else-is_number w ↦
      third_alone (c.requires.remote_exception c.args.c) (c.requires.exception c.args.c) (c.requires.throwable c.args.c) c.is_number.ensures
      w.is_number-else-is_number.ensures
      c.is_number-else-is_number-2.ensures w.if-is_number.false (sym w.value-is ∙ c.if-is_number-2.false)
]
