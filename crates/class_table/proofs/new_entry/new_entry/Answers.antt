-- Each part of the entry is right.
use Rattle.std.proofs.Common.{List, length, subst}
use Rattle.jk_model.specs.declared.identifiers.ClassId.{ClassId}
use Rattle.jk_model_classes.specs.declared.records.FieldRecord.{FieldRecord}
use Rattle.jk_model_classes.specs.declared.records.MethodRecord.{MethodRecord}
use Rattle.member_index.specs.Index.{IsFieldIndex, IsMethodIndex}
use Rattle.class_table.specs.Entries.{AreOwnPlaces}
use Rattle.class_table.proofs.new_entry.new_entry.Goals as goal

pub returns-clause-right : goal.returns-clause-right
returns-clause-right c =
    let number : ClassId = record { 0 = length c.args.entries.now } in
    record {
      few_fields = c.requires.fields;
      few_methods = c.requires.methods;
      walk = c.in_ok-walk.ensures;
      fields = subst (λ (fields : List FieldRecord). IsFieldIndex c.in_ok-fields.fields fields) c.as_slice.ensures c.in_ok-fields.ensures;
      methods = subst (λ (methods : List MethodRecord). IsMethodIndex c.in_ok-methods.methods methods) c.as_slice-2.ensures c.in_ok-methods.ensures;
      own = subst (λ (fields : List FieldRecord). AreOwnPlaces number fields c.in_ok-own.own) c.as_slice-3.ensures (c.in_ok-own.ensures number);
      standing = c.standing_of_new-standing.ensures;
    }
