-- The name is an array's or a class's.
use Rattle.std.proofs.Common.{ℕ, List}
use Rattle.std.proofs.lemmas.Bool.{iff_false}
use Rattle.list_lemmas.proofs.AnswersTold.{ok_map}
use Rattle.jk_model.specs.declared.descriptors.FieldType.{FieldType}
use Rattle.jk_model.specs.Descriptors.{IsFieldText}
use Rattle.jk_model_classes.specs.References.{IsOfClass}
use Rattle.class_lemmas.proofs.ArraysHaveNoNames.{no_array}
use Rattle.name_rules.specs.KnownNames.{IsNamedBy}
use Rattle.name_rules.proofs.NamesLacking.{Tells, array_tells, class_tells}
use Rattle.name_rules.proofs.mentions.name_lacks.Goals as goal

pub returns-then-begins_array : goal.returns-then-begins_array
returns-then-begins_array c =
    let x = c.args.names.now in
    let units = c.args.units.now in
    ok_map (Tells x (λ (name : List ℕ). (t : FieldType) × IsFieldText units t × IsOfClass name t)) (Tells x (IsNamedBy units)) c.array_lacks.result
    (λ r h. array_tells x units r (c.begins_array.ensures.0 c.if-begins_array.true) (no_array units) h) c.array_lacks.ensures

pub returns-else-begins_array : goal.returns-else-begins_array
returns-else-begins_array c =
    class_tells c.args.names.now c.args.units.now c.lack.result (iff_false c.begins_array.ensures c.if-begins_array.false) c.requires.form c.lack.ensures
