-- An array of floats is an array and is of floats.
use Rattle.class_rules.proofs.DescriptorForms.{float_array, no_array}
use Rattle.class_rules.proofs.texts.TextFacts.is_float_array.Goals as goal

pub returns-then-is_array : goal.returns-then-is_array
returns-then-is_array c =
    λ pool units known. float_array units _ _ c.if-is_array.true (c.is_array.ensures pool units known) (c.is_float_field.ensures pool units known)

pub returns-else-is_array : goal.returns-else-is_array
returns-else-is_array c = λ pool units known. no_array units _ c.if-is_array.false (c.is_array.ensures pool units known)
